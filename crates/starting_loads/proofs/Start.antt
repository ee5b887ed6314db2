-- The starting load of a mileage from 17 to 1,000,000 km lies at most `start_error` above the computed one, for every n from 40 upward.
-- Assumes nothing.
use mathlib.Core.Path.{◌≡◌}
use Prim.Native.Nat.{ℕ, ◌+◌, ◌*◌, ◌-◌, ◌^◌, ◌/◌, ◌≤◌, ◌<◌}
use native.Mathlib.Omega.{arith}
use native.Mathlib.Nat.{mul-le-mul_right, le_of_mul-le-mul_right, div-mul-le_self, lt-div-mul-add}
use lib.Dec.{lit≤}
use Rattle.numbers.specs.Fraction.{Fraction, ◌≤ᶠ◌, ◌≈ᶠ◌, ◌+ᶠ◌, ◌*ᶠ◌, whole, ◌/10^◌, inverse}
use Rattle.numbers.proofs.Order.{either, ≤_trans, ≈-refl, ≈→≤, ≈→≥, +-cong, *-cong, ratio}
use Rattle.bounds.specs.Enclosure.{Within, WithinAll}
use Rattle.bounds.specs.Exponential.{exponent}
use Rattle.bounds.specs.Short.{binary}
use Rattle.bounds.proofs.Laws.{E-mono}
use Rattle.bounds.proofs.Within.{widen}
use Rattle.bounds.proofs.Units.{units}
use Rattle.bounds.proofs.Line.{rising, along}
use Rattle.exact.specs.Canister.{a, b}
use Rattle.exact.specs.Mileage.{g, driven, starting_load, Reaches}
use Rattle.thresholds.specs.Thresholds.{first_kilometres, margin, enough, log_lower}
use Rattle.thresholds.proofs.Threshold.{exponents}
use Rattle.thresholds.proofs.Found.{enough-reaches, enough-least, lower-enough, lower-fails}
use Rattle.starting_loads.specs.Net.{net, start_units}
use Rattle.starting_loads.proofs.Bracket.{starting_load-balanced}
use Rattle.starting_loads.proofs.Loaded.{loaded_width, loaded-within}
pub use Rattle.starting_loads.proofs.Loaded.{halves-pos}

-- "(s·g + 22.92)/8.13", the exponent of the kilometres driven
abbrev pub driven_exponent : Fraction → Fraction → Fraction
driven_exponent s x = (s *ᶠ x +ᶠ 2292 /10^ 2) *ᶠ inverse (813 /10^ 2)

-- equal sizes have equal exponents
pub driven_exponent-cong : {s s' : Fraction} (x : Fraction) → s ≈ᶠ s' → driven_exponent s x ≈ᶠ driven_exponent s' x
driven_exponent-cong x e = *-cong (+-cong (*-cong e (≈-refl x)) (≈-refl _)) (≈-refl _)

-- y ≤ (s·x + 22.92)/8.13 gives G ≤ x, for G ≤ (8.13·y − 22.92)/s
net-low : (h y G : ℕ) (x : Fraction) → 0 < h → G * h * 10 ^ 16 + 4584 * 10 ^ 14 * 2 ^ 40 ≤ 1626 * y * 2 ^ 40
    → exponents y ≤ᶠ driven_exponent (ratio h 2 halves-pos) x → units G ≤ᶠ x
unfolding ratio ◌+ᶠ◌ ◌*ᶠ◌ ◌/10^◌ inverse
net-low h y G x h0 k l =
    record { cross = le_of_mul-le-mul_right {k = h} (omega (arith, mul-le-mul_right x.den k, l.cross)) h0 }

-- (s·x + 22.92)/8.13 ≤ y gives x ≤ G, for (8.13·y − 22.92)/s ≤ G
net-high : (h y G : ℕ) (x : Fraction) → 0 < h → 1626 * y * 2 ^ 40 ≤ G * h * 10 ^ 16 + 4584 * 10 ^ 14 * 2 ^ 40
    → driven_exponent (ratio h 2 halves-pos) x ≤ᶠ exponents y → x ≤ᶠ units G
unfolding ratio ◌+ᶠ◌ ◌*ᶠ◌ ◌/10^◌ inverse
net-high h y G x h0 k l =
    record { cross = le_of_mul-le-mul_right {k = h} (omega (arith, mul-le-mul_right x.den k, l.cross)) h0 }

-- how far the net load can be above the computed one, at s = 0.5
abbrev net_error : ℕ
net_error = 71514

-- how far the starting load can be above the computed one
abbrev pub start_error : ℕ
start_error = 140633

-- rounding `net` down, over bare numbers: v = 8.13·y − 22.92, t = 2·v/h
round-low : (h t v y G : ℕ) → v + 2292 * 10 ^ 14 ≡ 813 * y → t * h ≤ 2 * v → G * 5 ^ 16 ≤ t * 2 ^ 24
    → G * h * 10 ^ 16 + 4584 * 10 ^ 14 * 2 ^ 40 ≤ 1626 * y * 2 ^ 40
round-low h t v y G e k c = omega (arith, e, k, mul-le-mul_right h c)

-- a margin further, from above
round-high : (h t v y G : ℕ) → 0 < h → v + 2292 * 10 ^ 14 ≡ 813 * y → 2 * v < t * h + h → t * 2 ^ 24 ≤ (G + 1) * 5 ^ 16
    → 1626 * (y + margin) * 2 ^ 40 ≤ (G + net_error) * h * 10 ^ 16 + 4584 * 10 ^ 14 * 2 ^ 40
round-high h t v y G h0 e k c = omega (arith, e, k, h0, mul-le-mul_right h c)

module _ (h y : ℕ) (h0 : 0 < h) (y0 : 282 * 10 ^ 12 ≤ y) where
  -- net h y ≤ (8.13·y − 22.92)/s
  net-above : net h y * h * 10 ^ 16 + 4584 * 10 ^ 14 * 2 ^ 40 ≤ 1626 * y * 2 ^ 40
  unfolding net
  net-above =
      let v : ℕ = 813 * y - 2292 * 10 ^ 14 in
      round-low h (2 * v / h) v y (2 * v / h * 2 ^ 24 / 5 ^ 16) (omega arith) (div-mul-le_self (2 * v) h)
      (div-mul-le_self (2 * v / h * 2 ^ 24) (5 ^ 16))

  -- and a margin further it is at most `net_error` more
  net-below : 1626 * (y + margin) * 2 ^ 40 ≤ (net h y + net_error) * h * 10 ^ 16 + 4584 * 10 ^ 14 * 2 ^ 40
  unfolding net
  net-below =
      let v : ℕ = 813 * y - 2292 * 10 ^ 14 in
      round-high h (2 * v / h) v y (2 * v / h * 2 ^ 24 / 5 ^ 16) h0 (omega arith) (lt-div-mul-add {a = 2 * v} h0) (next (2 * v / h))
    where
      next : (t : ℕ) → t * 2 ^ 24 ≤ (t * 2 ^ 24 / 5 ^ 16 + 1) * 5 ^ 16
      next t = omega arith

start-width : loaded_width net_error ≤ start_error
start-width = lit≤ tt

-- for a = A, 2·b·s = K and s = h/2, number 25 at m_sat, and m_sat as the program has it
module _ (A K h σ M : ℕ) (vp s saturation T : Fraction) (ea : a vp T ≈ᶠ exponent A) (eb : b vp T *ᶠ s ≈ᶠ rising K) (es : s ≈ᶠ ratio h 2 halves-pos)
    (h0 : 0 < h) (hK : K ≤ 22 * 2 ^ 41) (hσ : σ ≤ 369 * 2 ^ 40) (top : along A K saturation ≤ᶠ whole 0)
    (full : Within (2 ^ 40) σ 1 saturation) (least : first_kilometres ≤ M)
    (most : M ≤ 10 ^ 6)
  where
    -- the computed net load
    abbrev G : ℕ
    G = net h (log_lower M)

    lower-least : 282 * 10 ^ 12 ≤ log_lower M
    lower-least = omega (arith, enough-least M least most, lower-enough M least most)

    -- a load that reaches M has a g of at least G
    low : (n : ℕ) → 40 ≤ n → (m : Fraction) → Reaches n vp s T M saturation m → units G ≤ᶠ g n vp s T m
    unfolding driven
    low n n40 m r =
        let x : Fraction = g n vp s T m in
        either (exponents (log_lower M)) (driven_exponent s x)
        (λ l. net-low h (log_lower M) G x h0 (net-above h (log_lower M) h0 lower-least) (≤_trans l (≈→≤ (driven_exponent-cong x es))))
        (λ l. absurd (lower-fails M least most n n40 (≤_trans r.far (E-mono n l))))

    -- one that does not has a g of at most G and `net_error`
    high : (n : ℕ) → 40 ≤ n → (m : Fraction) → ¬ Reaches n vp s T M saturation m → g n vp s T m ≤ᶠ units (G + net_error)
    unfolding driven
    high n n40 m r =
        let x : Fraction = g n vp s T m in
        either (driven_exponent s x) (exponents (enough M))
        (λ l.
        net-high h (enough M) (G + net_error) x h0 (rw (← (lower-enough M least most)) (net-below h (log_lower M) h0 lower-least))
        (≤_trans (≈→≥ (driven_exponent-cong x es)) l))
        (λ l. absurd (r (record { far = ≤_trans (enough-reaches M least most n n40) (E-mono n l) })))

    -- the starting load, within 0.13 µg
    pub mileage-within : WithinAll (2 ^ 40) (start_units (binary A) (binary K) h σ M) start_error (λ n. starting_load n vp s T M saturation)
    mileage-within = record {
      at = λ n n40.
          widen
          (loaded-within n A K G net_error n40 hK hσ top full
          (starting_load-balanced n A K vp s saturation T n40 ea eb full M G net_error (low n n40) (high n n40)))
          start-width;
    }
