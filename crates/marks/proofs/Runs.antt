-- The rise of a parking, run by run: over steps that rise one after another the errors of the marks between cancel, so that a run is as
-- wide as its two ends. For any mark temperatures; the number of runs is the parameter.
-- Assumes nothing.
use mathlib.Core.Bool.{Bool, true, false}
use mathlib.Core.Path.{◌≡◌, refl, ap}
use Prim.Native.Nat.{ℕ, suc, zero, ◌+◌, ◌*◌, ◌-◌, ◌^◌, ◌%◌, ◌≤◌, ◌<◌}
use native.Mathlib.Omega.{arith}
use native.Mathlib.Nat.{suc-mul, mul-le-mul_right, mul-le-mul_left, le_of_mul-le-mul_right}
use lib.Dec.{leb}
use borrow.Author.Tests.{leb-true, leb-false}
use Rattle.numbers.specs.Fraction.{Fraction, ◌≈ᶠ◌, ◌+ᶠ◌, ◌-ᶠ◌, ◌*ᶠ◌, whole, ◌/10^◌}
use Rattle.bounds.specs.Series.{E}
use Rattle.bounds.specs.Enclosure.{Within, WithinAll}
use Rattle.bounds.specs.Power.{degrees}
use Rattle.bounds.proofs.Within.{weaken}
use Rattle.numbers.proofs.Order.{NonNegative, whole-NonNegative, sub-mul, ≈-refl, ≈-sym, ≈-trans, +-cong, +_assoc, +-zero, +-NonNegative, sub-add}
use Rattle.sheet.proofs.Temperature.{degrees-mono}
use Rattle.exact.specs.Day.{start_mark}
use Rattle.exact.specs.Rise.{rises}
use Rattle.marks.specs.Marks.{heat, heat_error, step_at, passed}
use Rattle.marks.proofs.Heat.{heat-within, heat-most, heat-grows}
use Rattle.marks.proofs.Rise.{step-rises, step_falls, step-NonNegative, next-mark}

-- whether the temperature does not fall from mark i to the next
abbrev pub rising : (ℕ → ℕ) → ℕ → Bool
rising θ i = leb (θ i) (θ ((i + 1) % 48))

-- From the end of a parking back: how many runs of rising steps there are (`false`), and how many of them have ended (`true`).
unfoldable pub runs : Bool → (ℕ → Bool) → ℕ → ℕ → ℕ
runs ended up hour zero = 0
runs true up hour (suc d) = elim (up (start_mark hour (suc d))) [ true ↦ runs true up hour d | false ↦ runs false up hour d ]
runs false up hour (suc d) = elim (up (start_mark hour (suc d))) [ true ↦ suc (runs true up hour d) | false ↦ runs false up hour d ]

-- x is at most a below c and at most b above it, in units of 1/s
record Around (s c a b : ℕ) (x : Fraction) : Type 0 where
  above : c * x.den + x.down * s ≤ x.up * s + a * x.den
  below : x.up * s ≤ (c + b) * x.den + x.down * s

-- an equal value
around-≈ : {s c a b : ℕ} {x y : Fraction} → x ≈ᶠ y → Around s c a b x → Around s c a b y
around-≈ {s} {x = x} {y = y} e r = record {
  above = le_of_mul-le-mul_right {k = x.den} (omega (arith, mul-le-mul_right y.den r.above, ap (λ (t : ℕ). t * s) e.cross)) x.pos;
  below = le_of_mul-le-mul_right {k = x.den} (omega (arith, mul-le-mul_right y.den r.below, ap (λ (t : ℕ). t * s) e.cross)) x.pos;
}

-- 0 at 0
around-zero : (s : ℕ) → Around s 0 0 0 (whole 0)
unfolding whole
around-zero s = omega arith

-- with an enclosed value added
around-+ : {s c a b h e : ℕ} {x y : Fraction} → Around s c a b x → Within s h e y → Around s (c + h) a (b + e) (x +ᶠ y)
unfolding ◌+ᶠ◌
around-+ {x = x} {y = y} r k =
    omega (
      arith,
      mul-le-mul_right y.den r.above,
      mul-le-mul_right x.den k.above,
      mul-le-mul_right y.den r.below,
      mul-le-mul_right x.den k.below,
    )

-- and taken away again
around-less : {s c a b h e : ℕ} {x y : Fraction} → Around s (c + h) a b (x +ᶠ y) → Within s h e y → Around s c (a + e) b x
unfolding ◌+ᶠ◌
around-less {x = x} {y = y} r k = record {
  above = le_of_mul-le-mul_right {k = y.den} (omega (arith, r.above, mul-le-mul_right x.den k.below)) y.pos;
  below = le_of_mul-le-mul_right {k = y.den} (omega (arith, r.below, mul-le-mul_right x.den k.above)) y.pos;
}

-- as an enclosure from below
around-within : {s c a b : ℕ} {x : Fraction} → NonNegative x → Around s c a b x → Within s (c - a) (a + b) x
around-within {s} {c} {a} {b} {x} p r =
    let g : c + b ≤ c - a + (a + b) = omega arith in
    record {
      above = simp sub-mul (omega (arith, r.above, mul-le-mul_left s p.nonneg));
      below = omega (arith, r.below, mul-le-mul_right x.den g);
    }

-- `up` says of each mark whether the temperature rises from it to the next; where it stays, either may be said
pub record Shape (θ : ℕ → ℕ) (up : ℕ → Bool) : Type 0 where
  pub rising : (i : ℕ) → up i ≡ true → θ i ≤ θ ((i + 1) % 48)
  pub falling : (i : ℕ) → up i ≡ false → θ ((i + 1) % 48) ≤ θ i

-- any mark temperatures have such a shape
pub shape : (θ : ℕ → ℕ) → Shape θ (rising θ)
shape θ = record { rising = λ i e. leb-true _ _ e; falling = λ i e. omega (arith, leb-false (θ i) (θ ((i + 1) % 48)) e) }

-- a step that rises goes on with a run or begins one,
pub runs_up : (up : ℕ → Bool) (hour d : ℕ) → up (start_mark hour (suc d)) ≡ true
    → (runs true up hour (suc d) ≡ runs true up hour d) × (runs false up hour (suc d) ≡ suc (runs true up hour d))
unfolding runs
runs_up up hour d e = rw (e, runs) (refl, refl)

-- one that falls ends it
pub runs-down : (up : ℕ → Bool) (hour d : ℕ) → up (start_mark hour (suc d)) ≡ false
    → (runs true up hour (suc d) ≡ runs false up hour d) × (runs false up hour (suc d) ≡ runs false up hour d)
unfolding runs
runs-down up hour d e = rw (e, runs) (refl, refl)

-- A step further back, over bare numbers and values: c and x so far, h and y at the mark there, k and z half an hour before, g the step.

-- one that rises leaves the sum with the value at the start as it is,
further-up : {s a b : ℕ} (c h k : ℕ) (x y z : Fraction) {g : Fraction} → k ≤ h → g ≈ᶠ y -ᶠ z → Around s (c + h) a b (x +ᶠ y)
    → Around s (c + (h - k) + k) a b (x +ᶠ g +ᶠ z)
further-up c h k x y z l e r =
    let same : c + (h - k) + k ≡ c + h = omega arith in
    rw same (around-≈ (≈-sym (≈-trans (+_assoc x _ z) (+-cong (≈-refl x) (≈-trans (+-cong e (≈-refl z)) (sub-add y z))))) r)

-- one that falls the sum alone
further-down : {s a b : ℕ} (c h k : ℕ) {x g : Fraction} → h ≤ k → g ≈ᶠ whole 0 → Around s c a b x → Around s (c + (h - k)) a b (x +ᶠ g)
further-down c h k {x} l e r =
    let same : c + (h - k) ≡ c = omega arith in
    rw same (around-≈ (≈-sym (≈-trans (+-cong (≈-refl x) e) (+-zero x))) r)

-- Any mark temperatures up to 50 °C.
module _ {θ : ℕ → ℕ} {up : ℕ → Bool} (warm : (i : ℕ) → θ i ≤ 80 * 10 ^ 10) (s : Shape θ up) where
  -- the value at the mark d half-hours before the end of a parking, computed and exact, and the rise since then
  abbrev value_units : ℕ → ℕ → ℕ
  value_units hour d = heat (θ (start_mark hour d))

  abbrev value : ℕ → ℕ → ℕ → Fraction
  value n hour d = E n (716 /10^ 4 *ᶠ degrees (θ (start_mark hour d)))

  abbrev rise_units : ℕ → ℕ → ℕ
  rise_units = passed (step_at θ)

  abbrev rise : ℕ → ℕ → ℕ → Fraction
  rise n = rises n (λ i. degrees (θ i))

  value-within : (n hour d : ℕ) → 40 ≤ n → Within (2 ^ 40) (value_units hour d) heat_error (value n hour d)
  value-within n hour d n40 = (heat-within (θ (start_mark hour d)) (warm (start_mark hour d))).at n n40

  -- the step before it
  step_is : (hour d : ℕ) → d < 48 → rise_units hour (suc d) ≡ rise_units hour d + (value_units hour d - value_units hour (suc d))
  unfolding passed step_at
  step_is hour d l = rw (next-mark hour d l) refl

  -- What is known of the rise: the error of one mark for each run, either way; and with the value at the start added, over which a run
  -- that has not ended goes on.
  record Known (n hour d : ℕ) : Type 0 where
    alone : Around (2 ^ 40) (rise_units hour d) (runs false up hour d * heat_error) (runs false up hour d * heat_error) (rise n hour d)
    started :
        Around (2 ^ 40) (rise_units hour d + value_units hour d) (runs true up hour d * heat_error) (suc (runs true up hour d) * heat_error)
        (rise n hour d +ᶠ value n hour d)

  -- a step that rises, and one that falls
  known_up : (n hour d : ℕ) → 40 ≤ n → d < 48 → up (start_mark hour (suc d)) ≡ true → Known n hour d → Known n hour (suc d)
  unfolding rises
  known_up n hour d n40 l e k =
      let below : θ (start_mark hour (suc d)) ≤ θ (start_mark hour d) = rw (next-mark hour d l) at (s.rising (start_mark hour (suc d)) e) in
      let with-start =
      further-up (rise_units hour d) (value_units hour d) (value_units hour (suc d)) (rise n hour d) (value n hour d) (value n hour (suc d))
      (heat-grows below (warm _)) (step-rises n (degrees-mono below)) k.started in
      record {
        alone =
            rw (step_is hour d l, (runs_up up hour d e).1, suc-mul (runs true up hour d) heat_error)
            (around-less (rw (suc-mul (runs true up hour d) heat_error) at with-start) (value-within n hour (suc d) n40));
        started = rw (step_is hour d l, (runs_up up hour d e).0) with-start;
      }

  known-down : (n hour d : ℕ) → 40 ≤ n → d < 48 → up (start_mark hour (suc d)) ≡ false → Known n hour d → Known n hour (suc d)
  unfolding rises
  known-down n hour d n40 l e k =
      let above : θ (start_mark hour d) ≤ θ (start_mark hour (suc d)) = rw (next-mark hour d l) at (s.falling (start_mark hour (suc d)) e) in
      let same =
      further-down (rise_units hour d) (value_units hour d) (value_units hour (suc d))
      (heat-grows above (warm _)) (step_falls n (degrees-mono above)) k.alone in
      record {
        alone = rw (step_is hour d l, (runs-down up hour d e).1) same;
        started =
            rw (step_is hour d l, (runs-down up hour d e).0, suc-mul (runs false up hour d) heat_error)
            (around-+ same (value-within n hour (suc d) n40));
      }

  known : (n hour d : ℕ) → 40 ≤ n → d ≤ 48 → Known n hour d
  unfolding passed rises runs
  known n hour zero n40 l = record {
    alone = around-zero (2 ^ 40);
    started = around-+ (around-zero (2 ^ 40)) (value-within n hour 0 n40);
  }
  known n hour (suc d) n40 l =
      case (up (start_mark hour (suc d))) refl (known n hour d n40 (omega arith))
    where
      case : (c : Bool) → up (start_mark hour (suc d)) ≡ c → Known n hour d → Known n hour (suc d)
      case true e k = known_up n hour d n40 l e k
      case false e k = known-down n hour d n40 l e k

  -- the exact rise is 0 or more
  rise-NonNegative : (n hour d : ℕ) → d ≤ 48 → NonNegative (rise n hour d)
  unfolding rises
  rise-NonNegative n hour zero l = whole-NonNegative 0
  rise-NonNegative n hour (suc d) l = +-NonNegative (rise-NonNegative n hour d (omega arith)) (step-NonNegative n _ _)

  -- the rise of a parking of at most a day with at most r runs
  pub rise-within : (hour d r : ℕ) → d ≤ 48 → runs false up hour d ≤ r
      → WithinAll (2 ^ 40) (rise_units hour d - r * heat_error) (2 * (r * heat_error)) (λ n. rise n hour d)
  rise-within hour d r l m = record {
    at = λ n n40.
        weaken (around-within (rise-NonNegative n hour d l) (known n hour d n40 l).alone) (omega (arith, mul-le-mul_right heat_error m))
        (omega (arith, mul-le-mul_right heat_error m));
  }

  -- A run rises by at most E(0.0716·50).
  record Most (hour d : ℕ) : Type 0 where
    alone : rise_units hour d ≤ runs false up hour d * (36 * 2 ^ 40)
    started : rise_units hour d + value_units hour d ≤ suc (runs true up hour d) * (36 * 2 ^ 40)

  value-most : (hour d : ℕ) → value_units hour d ≤ 36 * 2 ^ 40
  value-most hour d = heat-most (θ (start_mark hour d)) (warm (start_mark hour d))

  most : (hour d : ℕ) → d ≤ 48 → Most hour d
  unfolding passed runs
  most hour zero l = record { alone = omega arith; started = omega (arith, value-most hour 0) }
  most hour (suc d) l =
      case (up (start_mark hour (suc d))) refl (most hour d (omega arith))
    where
      case : (c : Bool) → up (start_mark hour (suc d)) ≡ c → Most hour d → Most hour (suc d)
      case true e m =
          let below : θ (start_mark hour (suc d)) ≤ θ (start_mark hour d) = rw (next-mark hour d l) at (s.rising (start_mark hour (suc d)) e) in
          let grows : value_units hour (suc d) ≤ value_units hour d = heat-grows below (warm _) in
          record {
            alone = rw (step_is hour d l, (runs_up up hour d e).1) (omega (arith, m.started, grows));
            started = rw (step_is hour d l, (runs_up up hour d e).0) (omega (arith, m.started, grows));
          }
      case false e m =
          let above : θ (start_mark hour d) ≤ θ (start_mark hour (suc d)) = rw (next-mark hour d l) at (s.falling (start_mark hour (suc d)) e) in
          let grows : value_units hour d ≤ value_units hour (suc d) = heat-grows above (warm _) in
          record {
            alone = rw (step_is hour d l, (runs-down up hour d e).1) (omega (arith, m.alone, grows));
            started = rw (step_is hour d l, (runs-down up hour d e).0) (omega (arith, m.alone, grows, value-most hour (suc d)));
          }

  pub rise-most : (hour d r : ℕ) → d ≤ 48 → runs false up hour d ≤ r → rise_units hour d ≤ r * (36 * 2 ^ 40)
  rise-most hour d r l m = omega (arith, (most hour d l).alone, mul-le-mul_right (36 * 2 ^ 40) m)
