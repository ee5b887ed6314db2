-- The law of the starting load: it is the smallest multiple of 2⁻ⁿ gram from 0 to m_sat that reaches M, and m_sat where none does.
-- Assumes nothing.
use mathlib.Core.Bool.{Bool, true, false}
use mathlib.Core.Path.{◌≡◌, subst}
use Prim.Native.Nat.{ℕ, suc, zero, ◌+◌, ◌*◌, ◌-◌, ◌^◌, ◌/◌, ◌≤◌, ◌<◌}
use native.Mathlib.Omega.{arith}
use native.Mathlib.Decide.{dec_le}
use native.Mathlib.Nat.{mul-le-mul_right, mul-le-mul_left, div-mul-le_self, lt-div-mul-add, mul-sub}
use Rattle.numbers.specs.Fraction.{Fraction, ◌≤ᶠ◌, whole, ratio}
use Rattle.numbers.proofs.Order.{NonNegative, non_negative, test-cases}
use Rattle.exact.specs.Mileage.{multiples, driven, reaches, first_of, starting_load, Reaches, IsStart, smallest, none-reaches, StartTheorem}
use Rattle.bounds.specs.Series.{multiple}

-- The multiples from 0 to x are those of k up to `multiples n x`.

-- k/t ≤ (u − d)/e over bare numbers, for a k up to q, the whole part of t·(u − d)/e
low : (t u d e k q : ℕ) → k ≤ q → q * e ≤ t * (u - d) → d ≤ u → k * e + d * t ≤ u * t + 0 * e
low t u d e k q l m p = omega (arith, mul-le-mul_right e l, m, mul-sub t u d, mul-le-mul_left t p)

-- and (u − d)/e ≤ (q + 1)/t
high : (t u d e q : ℕ) → t * (u - d) < q * e + e → d ≤ u → u * t + 0 * e ≤ suc q * e + d * t
high t u d e q m p = omega (arith, m, mul-sub t u d, mul-le-mul_left t p)

-- in fact it is less
beyond : (t u d e j q : ℕ) → t * (u - d) < q * e + e → d ≤ u → suc q ≤ j → j * e + d * t ≤ u * t + 0 * e → ⊥
beyond t u d e j q m p g c = omega (arith, m, mul-sub t u d, mul-le-mul_left t p, c, mul-le-mul_right e g)

module _ (n : ℕ) {x : Fraction} (p : NonNegative x) where
  pub multiple-≤ : (k : ℕ) → k ≤ multiples n x → multiple n k ≤ᶠ x
  unfolding ratio multiples
  multiple-≤ k l = record { cross = low (2 ^ n) x.up x.down x.den k _ l (div-mul-le_self (2 ^ n * (x.up - x.down)) x.den) p.nonneg }

  pub multiple-next : x ≤ᶠ multiple n (suc (multiples n x))
  unfolding ratio multiples
  multiple-next = record { cross = high (2 ^ n) x.up x.down x.den _ (lt-div-mul-add {a = 2 ^ n * (x.up - x.down)} x.pos) p.nonneg }

  multiple-most : (j : ℕ) → multiple n j ≤ᶠ x → j < suc (multiples n x)
  unfolding ratio multiples
  multiple-most j l =
      elim (dec_le (suc (2 ^ n * (x.up - x.down) / x.den)) j) [
        | yes g ↦ absurd (beyond (2 ^ n) x.up x.down x.den j _
            (lt-div-mul-add {a = 2 ^ n * (x.up - x.down)} x.pos) p.nonneg g l.cross)
        | no g ↦ omega arith
      ]

module _ (n : ℕ) (vp s T : Fraction) (M : ℕ) (saturation : Fraction) where
  -- none before k reaches, nor does k: none before its successor
  later : (k : ℕ) → ((j : ℕ) → j < k → ¬ Reaches n vp s T M saturation (multiple n j))
      → ¬ Reaches n vp s T M saturation (multiple n k) → (j : ℕ) → j < suc k
      → ¬ Reaches n vp s T M saturation (multiple n j)
  later k before here j l =
      elim (dec_le (suc j) k) [
        | yes h ↦ before j h
        | no h ↦ let e : k ≡ j = omega arith in subst (λ (i : ℕ). ¬ Reaches n vp s T M saturation (multiple n i)) e here
      ]

  -- the search from k on, where none before k reaches and the multiples up to m_sat are those before k + count
  from-k : (count k : ℕ) → ((j : ℕ) → j < k + count → multiple n j ≤ᶠ saturation) → ((j : ℕ) → multiple n j ≤ᶠ saturation → j < k + count)
      → ((j : ℕ) → j < k → ¬ Reaches n vp s T M saturation (multiple n j)) → IsStart n vp s T M saturation (first_of n vp s T M saturation count k)
  unfolding first_of reaches
  from-k zero k up_to_lem only before = none-reaches (λ j l. before j (omega (arith, only j l)))
  from-k (suc count) k up_to_lem only before =
      test-cases
      (λ (c : Bool). IsStart n vp s T M saturation (elim c [ true ↦ multiple n k | false ↦ first_of n vp s T M saturation count (suc k) ]))
      (whole M) (driven n vp s T (multiple n k))
      (λ h. smallest k (up_to_lem k (omega arith)) (record { far = h }) before)
      (λ h.
      from-k count (suc k) (λ j l. up_to_lem j (omega arith)) (λ j l. let i = only j l in omega arith)
      (later k before (λ r. h r.far)))

pub starting_load-is : StartTheorem
unfolding starting_load
starting_load-is n vp s T M saturation h =
    let p = non_negative h in
    from-k n vp s T M saturation (suc (multiples n saturation)) 0 (λ j l. multiple-≤ n p j (omega arith))
    (λ j l. let i = multiple-most n p j l in omega arith)
    (λ j l. absurd (omega arith))
