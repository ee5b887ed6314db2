-- A row's canister in a season: its exponents stay in the short exponential's range, and what breaks through is that of the definition.
use mathlib.Core.List.{List}
use mathlib.Core.Path.{◌≡◌}
use Prim.Native.Nat.{ℕ, ◌+◌, ◌*◌, ◌-◌, ◌/◌, ◌^◌, ◌≤◌, ◌<◌, min}
use native.Mathlib.Omega.{arith}
use native.Mathlib.Decide.{dec_le}
use native.Mathlib.Nat.{mul-le-mul, mul-le-mul_left, mul-le-mul_right, le_dest}
use Rattle.bounds.specs.Weights.{apart}
use Rattle.bounds.specs.Ahead.{ahead}
use Rattle.bounds.specs.Short.{binary, line_of, line_exponent, reach_of, reach}
use Rattle.bounds.proofs.Laws.{short-size}
use Rattle.bounds.proofs.ShortLine.{binary-size, binary-most, line-mono, line_exponent-is, line_exponent-mono, reach-is}
use Rattle.exact.specs.declared.Season.{Season}
use Rattle.exact.specs.declared.Row.{Row}
use Rattle.sheet.specs.Range.{mark_warmth, SeasonInRange, halves, RowInRange}
use Rattle.factors.specs.Escape.{tenth_grams, loss, risen_loss, break_units}
use Rattle.factors.specs.Units.{row_start, base_at, growth_at, start_at, gain, loss_error, through_units}
use Rattle.factors.proofs.Gain.{gain-most}
use Rattle.factors.proofs.Sizes.{saturation-size, full-exponent-most, driven-exponent-most}
use Rattle.factors.proofs.Starts.{start-below}
use Rattle.factors.proofs.Canister.{saturation-most, base-most, growth-most}
use Rattle.sheet.proofs.Temperature.{warmth-most, warmth-alike}
use Rattle.breakthrough.specs.declared.curve.Curve.{Curve}
use Rattle.breakthrough.specs.Through.{CurveReady, curve_at, through}
use Rattle.breakthrough.specs.Loads.{LoadReady}
use Rattle.breakthrough.specs.Lines.{FitReady, CurveFits, bases_of, growths_of, starts_of, CurveBy, CurvesOf}

-- what breaks through of at most 36 g for a rise of 1 and a rise of at most 72 is below 2¹⁴ g
pub through-most : (c : Curve) (rise : ℕ) → CurveReady c → rise ≤ 72 * 2 ^ 40 → through c rise ≤ 2 ^ 54
unfolding through
through-most c rise r h =
    let x : ℕ = min (c.exponent + c.reach * rise / 2 ^ 23) c.last in
    omega (arith, mul-le-mul r.gain-most h, short-size x (omega (arith, r.last-below)))

-- vapour above the room that is left brings the exponent up to that of the saturating load, but for the cuts: over bare numbers
past_room : (a k g r m D : ℕ) → r ≤ 72 * 2 ^ 40 → (D + 2) * 2 ^ 40 ≤ g * r
    → (a + k * (m + D) / 2 ^ 41) * 2 ^ 9 ≤ (a + k * m / 2 ^ 41) * 2 ^ 9 + k * g / 2 ^ 49 * r / 2 ^ 23 + 2 ^ 24
past_room a k g r m D l h =
    let q : ℕ = k * g / 2 ^ 49 in
    let most : k * g ≤ (q + 1) * 2 ^ 49 = omega arith in
    omega (arith, mul-le-mul_right r most, mul-le-mul_left k h)

-- so where the exponent stays below it by more than these, the vapour fits into the room
room-left : (a k σ m g r : ℕ) → m ≤ σ → r ≤ 72 * 2 ^ 40 → line_of a k m + reach_of k g * r / 2 ^ 23 + 2 ^ 24 < line_of a k σ
    → g * r / 2 ^ 40 ≤ σ + 1 - m
room-left a k σ m g r h l e =
    let (D, same) = le_dest h in
    elim (dec_le (g * r / 2 ^ 40) (σ + 1 - m)) [
      | yes fits ↦ fits
      | no over ↦
          let enough : (D + 2) * 2 ^ 40 ≤ g * r = omega arith in
          absurd (omega (arith, rw same at (past_room a k g r m D l enough)))
    ]

-- so a canister in range is ready
pub curve-ready : {a k load σ g e : ℕ} {c : Curve} → CurveFits a k load σ g → CurveBy a k load σ g e c → CurveReady c
curve-ready {a} {k} {load} {σ} {g} f by = record {
  exponent-below = rw by.exponent-is (omega (arith, line-mono a k f.load-most, f.exponent-most));
  last-below = rw by.last_is (omega (arith, f.exponent-most));
  reach-most = rw by.reach-is (omega (arith, mul-le-mul f.growth-most f.gain-most));
  gain-most = rw by.gain-is f.gain-most;
  room-left = λ rise small below.
      rw (by.gain-is, by.room-is)
      (room-left a k σ load g rise f.load-most small (rw (by.exponent-is, by.reach-is, by.last_is) at below));
}

-- equal values make equal canisters
pub curve-by : {A A' K K' m m' σ g g' e : ℕ} {c : Curve} → A ≡ A' → K ≡ K' → m ≡ m' → g ≡ g' → CurveBy A K m σ g e c → CurveBy A' K' m' σ g' e c
curve-by a k l v b = rw (← a, ← k, ← l, ← v) b

module _ {season : Season} {row : Row} (s : SeasonInRange season) (r : RowInRange season row) (p : 0 < halves row.canister) (d : ℕ) where
  -- a and 2·b·s, as they are held
  small-base : bases_of season row d ≤ 3 * 2 ^ 46
  small-base = binary-size _ (omega (arith, base-most s r (ahead d)))

  small-growth : growths_of season row d ≤ 2 ^ 43
  small-growth = binary-most _ (growth-most row.canister season.vp (mark_warmth season (ahead d)) (warmth-most (ahead d) s))

  -- the exponent at m_sat is at most 3
  full-exponent : line_of (bases_of season row d) (growths_of season row d) (tenth_grams row.saturation) ≤ 19 * 2 ^ 53
  full-exponent =
      rw (line_exponent-is (base_at season row (ahead d)) (growth_at season row (ahead d)) (tenth_grams row.saturation))
      at (full-exponent-most s r (ahead d))

  -- m_sat ≤ 368.5 g
  full-most : tenth_grams row.saturation ≤ 369 * 2 ^ 40
  unfolding tenth_grams
  full-most = omega (arith, saturation-most s r p)

  -- the starting load can be found
  load-ready : LoadReady row (bases_of season row d) (growths_of season row d)
  load-ready = record {
    saturation-most = saturation-most s r p;
    load-most = r.load-most;
    canister-there = p;
    balanced = λ km. record {
      base-below = omega (arith, small-base);
      growth-most = small-growth;
      saturation-below = saturation-size s r p;
      exponent-most = rw
          (line_exponent-is (base_at season row (ahead d)) (growth_at season row (ahead d))
          (tenth_grams row.saturation)) at (driven-exponent-most s r (ahead d) (omega arith));
    };
  }

  -- the values are in range
  pub curve-fits : CurveFits (bases_of season row d) (growths_of season row d) (starts_of season row d) (tenth_grams row.saturation) (gain season row)
  curve-fits = record {
    base-most = small-base;
    growth-most = small-growth;
    load-most = start-below row r.load-most _ _;
    saturation-most = full-most;
    exponent-most = full-exponent;
    gain-most = gain-most s r;
  }

  -- so a canister can be fitted from them
  pub fit-ready : {a k vapour : ℕ} → a ≡ bases_of season row d → k ≡ growths_of season row d → vapour ≡ gain season row → FitReady row a k vapour
  fit-ready ea ek ev = rw (ea, ek, ev) (record { load-ready = load-ready; curve-fits = curve-fits })

-- a canister by a season's a and 2·b·s is that of the season
pub curve-of : (season : Season) (row : Row) (d : ℕ) {a k vapour : ℕ} {c : Curve} → a ≡ bases_of season row d → k ≡ growths_of season row d
    → vapour ≡ gain season row → CurveBy a k (row_start row a k) (tenth_grams row.saturation) vapour (loss_error row) c
    → CurveBy (bases_of season row d) (growths_of season row d) (starts_of season row d) (tenth_grams row.saturation) (gain season row)
    (loss_error row) c
curve-of season row d ea ek ev by = rw (ea, ek, ev) at by

-- what overflows, by the room that is left: m1 + v − (σ + 1) = v − (σ + 1 − m1)
overflow-is : (m1 v σ : ℕ) → m1 ≤ σ → v - (σ + 1 - m1) ≡ m1 + v - (σ + 1)
overflow-is m1 v σ h = omega arith

-- what breaks through, from the canister's values at a distance: that of the mark so far before 14:00
pub through-is : {season : Season} {row : Row} {curves : List Curve} → row.load ≤ row.saturation → CurvesOf season row curves → (d rise : ℕ) → d < 25
    → through (curve_at curves d) rise ≡ through_units season row (ahead d) rise
unfolding through through_units break_units risen_loss loss
through-is {season} {row} l f d rise h =
    let σ : ℕ = tenth_grams row.saturation in
    let by = f.by d h in
    let over = overflow-is (starts_of season row d) (gain season row * rise / 2 ^ 40) σ (start-below row l _ _) in
    let A : ℕ = base_at season row (ahead d) in
    let K : ℕ = growth_at season row (ahead d) in
    rw (line_exponent-is A K (starts_of season row d), line_exponent-is A K σ, reach-is K (gain season row))
    (rw (by.exponent-is, by.last_is, by.reach-is, by.room-is, by.first-is, by.gain-is, over))

-- of no rise nothing breaks through
pub through-none : (season : Season) (row : Row) (i : ℕ) → row.load ≤ row.saturation → through_units season row i 0 ≡ 0
unfolding through_units break_units risen_loss loss
through-none season row i l =
    let A : ℕ = base_at season row i in
    let K : ℕ = growth_at season row i in
    let m : ℕ = start_at season row i in
    let below = start-below row l (binary A) (binary K) in
    let same : min (line_exponent A K m + reach K (gain season row) * 0 / 2 ^ 23)
    (line_exponent A K (tenth_grams row.saturation)) ≡ line_exponent A K m
    = omega (arith, line_exponent-mono A K below) in
    rw same (omega (arith, below))

-- and so that of each mark that is as far from it
pub through-alike : (season : Season) (row : Row) (i rise : ℕ) → i < 48
    → through_units season row (ahead (apart i)) rise ≡ through_units season row i rise
unfolding through_units
through-alike season row i rise h = rw (warmth-alike season i h)
