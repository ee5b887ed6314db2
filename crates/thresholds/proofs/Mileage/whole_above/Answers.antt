-- `thresholds::Mileage::whole_above` meets its contract: the exponent that is found is the first after 2, and where none is it is 14.
use mathlib.Core.Bool.{true, false}
use mathlib.Core.Path.{◌≡◌, refl, sym}
use Prim.Native.Nat.{ℕ, suc, zero, ◌+◌, ◌<◌, ◌≤◌}
use native.Mathlib.Decide.{dec_le}
use native.Mathlib.Omega.{arith}
use Rattle.std.proofs.Common.{Option, Some, None, rules}
use Rattle.std.specs.Option.{MatchOption, unwrap_or}
use Rattle.std.proofs.lemmas.Iterator.{first_from_Range}
use Rattle.thresholds.specs.Thresholds.{within, first_after, whole_above}
use Rattle.thresholds.proofs.Mileage.whole_above.Goals as goal

-- the first that passes, or the next after all that are tried
first-is : (M tries c i : ℕ) → c < i → i ≤ suc (c + tries) → ((k : ℕ) → c < k → k < i → within M k 0 ≡ false)
    → (i ≤ c + tries → within M i 0 ≡ true) → first_after M tries c ≡ i
unfolding first_after
first-is M zero c i h l fails passes = omega arith
first-is M (suc tries) c i h l fails passes =
    elim (dec_le i (suc c)) [
      | yes a ↦
          let e : suc c ≡ i = omega arith in
          rw (e, passes (omega arith)) refl
      | no a ↦
          rw (fails (suc c) (omega arith) (omega arith))
          (first-is M tries (suc c) i (omega arith) (omega arith) (λ k b d. fails k (omega arith) d) (λ b. passes (omega arith)))
    ]

-- as the search gives it
found : (M : ℕ) (o : Option ℕ)
    → MatchOption o ((k : ℕ) → 3 ≤ k → k < 14 → within M k 0 ≡ false)
    (λ i. (3 ≤ i) × (i < 14) × (within M i 0 ≡ true) × ((k : ℕ) → 3 ≤ k → k < i → within M k 0 ≡ false))
    → (unwrap_or o 14 ≡ whole_above M) × (3 ≤ unwrap_or o 14) × (unwrap_or o 14 ≤ 14)
unfolding whole_above
found M None fails =
    let is = first-is M 11 2 14 (omega arith) (omega arith) (λ k a b. fails k (omega arith) b) (λ a. absurd (omega arith)) in
    (sym is, omega arith, omega arith)
found M (Some i) (l, h, passes, fails) =
    (sym (first-is M 11 2 i (omega arith) (omega arith) (λ k a b. fails k (omega arith) b) (λ a. passes)), omega arith, omega arith)

pub returns : goal.returns
returns c =
    let M = c.args.self.kilometres in
    rw c.unwrap_or.ensures
    (found M c.find.result
    (first_from_Range _ _ _ _ (λ i. within M i 0 ≡ true) (λ i. within M i 0 ≡ false) c.find.ensures.ran
    (λ i q h. search rules) (λ i q h. search rules)))
