-- `checks::exponent::Allowance::is_exceeded` meets its contract: what is more than any room is too much at every growth but 0.
use Rattle.std.proofs.Common.{◌≡◌, ℕ, zero, suc, ◌*◌, ◌≤◌, min, sym, ap, ◌∙◌, arith}
use Rattle.std.proofs.lemmas.Bool.{lt-ltb}
use native.Mathlib.Decide.{dec_le}
use native.Mathlib.Nat.{mul-le-mul}
use lib.Dec.{ltb}
use Rattle.checks.proofs.exponent.Allowance.is_exceeded.Goals as goal

capped : (growth room m : ℕ) → room ≤ 352000000 → ltb room (growth * min m 352000001) ≡ ltb room (growth * m)
capped zero room m h = ap (ltb room) (omega arith)
capped (suc g) room m h =
    elim (dec_le m 352000001) [
      | yes l ↦ ap (λ (x : ℕ). ltb room (suc g * x)) {x = min m 352000001} {y = m} (omega (arith, l))
      | no l ↦
          let beyond : min m 352000001 ≡ 352000001 = omega (arith, l) in
          lt-ltb room (suc g * min m 352000001) (rw beyond (omega (arith, h))) ∙ sym (lt-ltb room (suc g * m) (omega (arith, h, l)))
    ]

pub overflow_mul-result : goal.overflow_mul-result
overflow_mul-result c =
    let small : c.min.result ≤ 352000001 = omega (arith, c.min.ensures) in omega (arith, mul-le-mul c.args.self.growth_fits small)

pub returns : goal.returns
returns c = rw c.min.ensures (capped c.args.self.growth c.args.self.room c.args.m c.args.self.room_fits)
