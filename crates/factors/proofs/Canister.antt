-- A row's canister in a season: a, b·s and the loads as they are held, what check 20 says of them, and the breakthrough that is computed from them.
-- Assumes nothing.
use Rattle.std.proofs.Common.{Option, Some, None}
use mathlib.Core.Bool.{Bool, true, false}
use mathlib.Core.Path.{◌≡◌, refl}
use Prim.Native.Nat.{ℕ, ◌+◌, ◌*◌, ◌-◌, ◌^◌, ◌≤◌, ◌<◌}
use native.Mathlib.Omega.{arith}
use native.Mathlib.Decide.{dec_le}
use lib.Dec.{leb}
use borrow.Author.Tests.{leb-true, leb-false}
use native.Mathlib.Nat.{mul-le-mul_right, mul-le-mul_left, mul-le-mul}
use Rattle.numbers.specs.Fraction.{Fraction, ◌≤ᶠ◌, ◌≈ᶠ◌, ◌+ᶠ◌, negᶠ, ◌-ᶠ◌, ◌*ᶠ◌, whole, ◌/10^◌, ten-pos}
use Rattle.bounds.specs.Enclosure.{Within}
use Rattle.bounds.specs.Exponential.{exponent}
use Rattle.bounds.specs.Power.{degrees}
use Rattle.bounds.specs.Short.{binary}
use Rattle.numbers.proofs.Order.{NonNegative, NonNegative-up, ≈-refl, ≈-trans, ≈→≥, +-cong, *-cong, ratio, ratio-NonNegative}
use Rattle.bounds.proofs.Within.{decimal-cut}
use Rattle.bounds.proofs.Line.{double-unit-pos, rising, along, along-≤}
use Rattle.exact.specs.declared.Canister.{Canister}
use Rattle.exact.specs.declared.Canister.TheVariants.{Small, Medium, Large}
use Rattle.exact.specs.declared.Season.{Season}
use Rattle.exact.specs.declared.Row.{Row}
use Rattle.exact.specs.Canister.{a, b, size, breakthrough}
use Rattle.exact.specs.Factors.{row_load}
use Rattle.exact.proofs.Loads.{load-written, load-driven}
use Rattle.thresholds.specs.Thresholds.{first_kilometres}
use Rattle.starting_loads.specs.Net.{start_units}
use Rattle.starting_loads.proofs.Start.{start_error, halves-pos, mileage-within}
use Rattle.starting_loads.proofs.Empty.{empty-within}
use Rattle.sheet.specs.Limits.{vp_limit}
use Rattle.sheet.specs.Range.{warmth, mark_warmth, halves, SeasonInRange, RowInRange}
use Rattle.sheet.proofs.Temperature.{warmth-below-highest, warmth-most}
use Rattle.factors.specs.Escape.{tenth_grams, base, growth, written_error, driven_error, break_units}
use Rattle.factors.specs.Units.{loss_error, base_at, growth_at, start_at, gain}
use Rattle.factors.proofs.Slope.{short_to0, short_to3}
use Rattle.factors.proofs.Breakthrough.{break_width, break-within}
use Rattle.factors.proofs.Starts.{start-driven, start-written, error-driven, error-written, start-below}
use Rattle.factors.proofs.Gain.{exact_gain, gain-within, gain-most}

-- s in halves
pub size_is : (c : Option Canister) → size c ≈ᶠ ratio (halves c) 2 halves-pos
unfolding halves whole ◌/10^◌ ratio
size_is None = omega arith
size_is (Some Small) = omega arith
size_is (Some Medium) = omega arith
size_is (Some Large) = omega arith

-- s ≤ 2
halves-most : (c : Option Canister) → halves c ≤ 4
unfolding halves
halves-most None = omega arith
halves-most (Some Small) = omega arith
halves-most (Some Medium) = omega arith
halves-most (Some Large) = omega arith

-- a canister has a size
pub has-size : (c : Canister) → 0 < halves (Some c)
unfolding halves
has-size Small = omega arith
has-size Medium = omega arith
has-size Large = omega arith

-- a at a held temperature
base-at : (vp θ : ℕ) → vp ≤ vp_limit → a (vp /10^ 1) (degrees θ) ≈ᶠ exponent (base vp θ)
unfolding a base whole ◌/10^◌ negᶠ ◌-ᶠ◌ ◌+ᶠ◌ ◌*ᶠ◌
base-at vp θ v = omega arith

-- b at a held temperature
slope-at : (vp θ : ℕ) → vp ≤ vp_limit → b (vp /10^ 1) (degrees θ) ≈ᶠ ratio (112 * 10 ^ 11 + θ - 15 * 10 ^ 8 * vp) (10 ^ 14) (ten-pos 14)
unfolding b ratio ◌/10^◌ negᶠ ◌-ᶠ◌ ◌+ᶠ◌ ◌*ᶠ◌
slope-at vp θ v = omega arith

-- (k/10¹⁴)·(h/2)
halved : (k h : ℕ) → ratio k (10 ^ 14) (ten-pos 14) *ᶠ ratio h 2 halves-pos ≈ᶠ rising (k * h)
unfolding ratio ◌*ᶠ◌
halved k h = omega arith

module _ (vp θ : ℕ) (v : vp ≤ vp_limit) {T : Fraction} (t : T ≈ᶠ degrees θ) where
  -- a = −11 − 0.015·vp + 0.065·T as it is held
  pub base-is : a (vp /10^ 1) T ≈ᶠ exponent (base vp θ)
  unfolding a
  base-is = ≈-trans (+-cong (≈-refl _) (*-cong (≈-refl _) t)) (base-at vp θ v)

  -- b·s = (0.115 − 0.00015·vp + 0.0001·T)·s as it is held
  growth-is : (c : Option Canister) {z : Fraction} → z ≈ᶠ ratio (halves c) 2 halves-pos
      → b (vp /10^ 1) T *ᶠ z ≈ᶠ rising (growth c vp θ)
  unfolding b growth
  growth-is c e =
      ≈-trans (*-cong (≈-trans (+-cong (≈-refl _) (*-cong (≈-refl _) t)) (slope-at vp θ v)) e) (halved _ (halves c))

-- b·s ≤ 0.242
pub growth-most : (c : Option Canister) (vp θ : ℕ) → θ ≤ 80 * 10 ^ 10 → growth c vp θ ≤ 22 * 2 ^ 41
unfolding growth
growth-most c vp θ h =
    let g : 112 * 10 ^ 11 + θ - 15 * 10 ^ 8 * vp ≤ 12 * 10 ^ 12 = omega arith in
    omega (arith, mul-le-mul g (halves-most c))

-- a load in tenths of a gram
pub tenth_grams-within : (m : ℕ) → Within (2 ^ 40) (tenth_grams m) 1 (m /10^ 1)
unfolding tenth_grams
tenth_grams-within m = decimal-cut (2 ^ 40) m 1

-- checks 20 and 25 at the highest temperature, carried to a lower one
lower-exponent : (limit : ℕ) (c : Option Canister) (vp θ h m : ℕ) → vp ≤ vp_limit → θ ≤ h * 10 ^ 9
    → (112000 + 10 * h - 15 * vp) * halves c * m + 130000 * h ≤ 259000000 + 20000000 * limit + 30000 * vp
    → 20 * base vp θ + growth c vp θ * m ≤ (320 + 20 * limit) * 10 ^ 14
unfolding base growth
lower-exponent limit c vp θ h m v t e =
    let g : 112 * 10 ^ 11 + θ - 15 * 10 ^ 8 * vp ≤ 10 ^ 8 * (112000 + 10 * h - 15 * vp) = omega arith in
    omega (arith, mul-le-mul_right (halves c * m) g)

-- b·s·m_sat ≤ 14 as it bounds m_sat where there is a canister: 368.5 g
saturation-≤ : (k vp h m : ℕ) → vp ≤ vp_limit → 0 < k → (112000 + 10 * h - 15 * vp) * k * m + 130000 * h ≤ 319000000 + 30000 * vp → m ≤ 3685
saturation-≤ k vp h m v p e =
    elim (dec_le m 3685) [
      | yes l ↦ l
      | no l ↦
          let g : 3686 ≤ k * m = omega (arith, mul-le-mul_right m p) in
          absurd (omega (arith, mul-le-mul_left (112000 + 10 * h - 15 * vp) g))
    ]

-- how far what breaks through can be above the computed one, by whether the load is found from the mileage, for a rise of at most R
-- that is known within w
abbrev pub through_width : Bool → ℕ → ℕ → ℕ
through_width true R w = break_width short_to0 driven_error start_error R w
through_width false R w = break_width short_to3 written_error 1 R w

module _ {season : Season} {row : Row} (s : SeasonInRange season) (r : RowInRange season row) where
  -- a + b·s·m_sat at every mark is at most what it is at the season's highest temperature,
  carried : (limit i : ℕ)
      → (112000 + 10 * warmth season.highest - 15 * season.vp) * halves row.canister * row.saturation + 130000 * warmth season.highest
      ≤ 259000000 + 20000000 * limit + 30000 * season.vp
      → along (base_at season row i) (growth_at season row i) (row.saturation /10^ 1) ≤ᶠ whole limit
  unfolding mark_warmth
  carried limit i h =
      along-≤ limit _ _ row.saturation
      (lower-exponent limit row.canister season.vp (mark_warmth season i) (warmth season.highest) row.saturation s.vp-most
      (warmth-below-highest i s) h)

  -- by check 20 at most 3,
  pub saturated : (i : ℕ) → along (base_at season row i) (growth_at season row i) (row.saturation /10^ 1) ≤ᶠ whole 3
  saturated i = carried 3 i (omega (arith, r.exponent-most))

  -- and with a mileage, by check 25, at most 0
  pub unsaturated : (i : ℕ) → 1 ≤ row.mileage → along (base_at season row i) (growth_at season row i) (row.saturation /10^ 1) ≤ᶠ whole 0
  unsaturated i km = carried 0 i (omega (arith, (r.driven km).exponent-low))

  -- m_sat ≤ 368.5 g
  pub saturation-most : 0 < halves row.canister → row.saturation ≤ 3685
  saturation-most p = saturation-≤ (halves row.canister) season.vp _ row.saturation s.vp-most p r.exponent-most

  -- a ≤ −7.75
  pub base-most : (i : ℕ) → base_at season row i ≤ 825 * 10 ^ 12
  unfolding base
  base-most i = omega (arith, warmth-most i s)

  -- What is known at mark i, at its temperature T.
  module _ (n i : ℕ) {T : Fraction} (n40 : 40 ≤ n) (here : T ≈ᶠ degrees (mark_warmth season i)) where
    a-is : a (season.vp /10^ 1) T ≈ᶠ exponent (base_at season row i)
    a-is = base-is season.vp (mark_warmth season i) s.vp-most here

    b-is : {z : Fraction} → z ≈ᶠ ratio (halves row.canister) 2 halves-pos → b (season.vp /10^ 1) T *ᶠ z ≈ᶠ rising (growth_at season row i)
    b-is e = growth-is season.vp (mark_warmth season i) s.vp-most here row.canister e

    -- b·s is 0 or more
    pub b-NonNegative : {z : Fraction} → z ≈ᶠ ratio (halves row.canister) 2 halves-pos → NonNegative (b (season.vp /10^ 1) T *ᶠ z)
    b-NonNegative e = NonNegative-up (≈→≥ (b-is e)) (ratio-NonNegative _ double-unit-pos)

    gentle : growth_at season row i ≤ 22 * 2 ^ 41
    gentle = growth-most row.canister season.vp (mark_warmth season i) (warmth-most i s)

    -- m_sat where there is a canister
    full-most : 0 < halves row.canister → tenth_grams row.saturation ≤ 369 * 2 ^ 40
    unfolding tenth_grams
    full-most h = omega (arith, saturation-most h)

    -- from 17 km on the load follows from the mileage
    driven-load : first_kilometres ≤ row.mileage
        → Within (2 ^ 40)
        (start_units (binary (base_at season row i)) (binary (growth_at season row i)) (halves row.canister)
        (tenth_grams row.saturation) row.mileage) start_error
        (row_load n season row T)
    driven-load km =
        rw (load-driven n season row T (λ e. omega arith))
        ((mileage-within _ _ (halves row.canister) _ row.mileage (season.vp /10^ 1) (size row.canister) (row.saturation /10^ 1) T
        a-is (b-is (size_is row.canister)) (size_is row.canister) (r.driven (omega arith)).canister-there gentle
        (full-most (r.driven (omega arith)).canister-there) (unsaturated i (omega arith))
        (tenth_grams-within row.saturation) km r.mileage-most).at n n40)

    -- up to 16 km it is 0, and so is the written one; without mileage it is the written one
    written-load : row.mileage < first_kilometres → Within (2 ^ 40) (tenth_grams row.load) 1 (row_load n season row T)
    unfolding tenth_grams
    written-load few =
        elim (dec_le 1 row.mileage) [
          | yes km ↦
              rw (load-driven n season row T (λ e. omega arith), (r.driven km).no-load)
              (empty-within n _ (halves row.canister) row.mileage (season.vp /10^ 1) (size row.canister) (row.saturation /10^ 1) T n40
              a-is (base-most i) (size_is row.canister) (halves-most row.canister) (omega arith))
          | no none ↦ rw (load-written n season row T (omega arith)) (tenth_grams-within row.load)
        ]

    -- what breaks through a canister of size z of the vapour g·r, for a rise r of at most R that is known within w
    module _ {z : Fraction} (sized : z ≈ᶠ ratio (halves row.canister) 2 halves-pos)
        (there : 0 < halves row.canister) {rise w : ℕ} (R : ℕ) {ρ : Fraction}
        (small : rise ≤ R * 2 ^ 40) (known : Within (2 ^ 40) rise w ρ)
      where
        through-by : (by_mileage : Bool) → leb first_kilometres row.mileage ≡ by_mileage
            → Within (2 ^ 40)
            (break_units (base_at season row i) (growth_at season row i) (tenth_grams row.saturation) (loss_error row)
            (start_at season row i) (gain season row) rise)
            (through_width by_mileage R w)
            (breakthrough n (season.vp /10^ 1) z (row.saturation /10^ 1) T (row_load n season row T)
            (exact_gain season row n *ᶠ ρ))
        through-by true e =
            let km : first_kilometres ≤ row.mileage = leb-true first_kilometres row.mileage e in
            let below = rw (start-driven row (binary (base_at season row i)) (binary (growth_at season row i)) km) at
            (start-below row r.load-most (binary (base_at season row i)) (binary (growth_at season row i))) in
            rw (error-driven row km, start-driven row (binary (base_at season row i)) (binary (growth_at season row i)) km)
            (break-within short_to0 n _ _ (season.vp /10^ 1) z (row.saturation /10^ 1) T n40 a-is (b-is sized) gentle
            (full-most there) (unsaturated i (omega arith))
            (tenth_grams-within row.saturation) R (omega arith) (omega arith) below (gain-most s r) small
            (driven-load km) ((gain-within s r).at n n40) known
            driven_error (omega arith))
        through-by false e =
            let few : row.mileage < first_kilometres = leb-false first_kilometres row.mileage e in
            let below = rw (start-written row (binary (base_at season row i)) (binary (growth_at season row i)) few) at
            (start-below row r.load-most (binary (base_at season row i)) (binary (growth_at season row i))) in
            rw (error-written row few, start-written row (binary (base_at season row i)) (binary (growth_at season row i)) few)
            (break-within short_to3 n _ _ (season.vp /10^ 1) z (row.saturation /10^ 1) T n40 a-is (b-is sized) gentle (full-most there) (saturated i)
            (tenth_grams-within row.saturation) R (omega arith) (omega arith) below (gain-most s r) small
            (written-load few) ((gain-within s r).at n n40) known
            written_error (omega arith))

        pub through-within : Within (2 ^ 40)
            (break_units (base_at season row i) (growth_at season row i) (tenth_grams row.saturation) (loss_error row)
            (start_at season row i) (gain season row) rise)
            (through_width (leb first_kilometres row.mileage) R w)
            (breakthrough n (season.vp /10^ 1) z (row.saturation /10^ 1) T (row_load n season row T) (exact_gain season row n *ᶠ ρ))
        through-within = through-by (leb first_kilometres row.mileage) refl
