-- The proof of `number`, which calls itself: n / 10, then the last digit. The measure is the number.
-- Assumes nothing.
use mathlib.Core.List.{[], ◌∷◌}
use mathlib.Core.Path.{sym, ap, ◌∙◌}
use Prim.Native.Nat.{ℕ, ◌%◌}
use native.Mathlib.Omega.{arith}
use Rattle.text.specs.Decimal.{digit}
use Rattle.text.proofs.Digits.{digits-small, digits-large}
use Rattle.text.proofs.Putting.{◌and◌, put_same}
use Rattle.text.proofs.writer.Writer.+number.Goals.{then-n-ge10, else-n-ge10}
use Rattle.text.proofs.writer.Writer.+number.Goals as goal

pub returns : goal.returns
returns t c =
    let n = c.args.n in
    elim c.if-n-ge10.branch [
      | then-n-ge10 w ↦ put_same (w.number.ensures and (rw w.self-is at c.byte.ensures)) (sym (digits-large n w.if-n-ge10.true))
      | else-n-ge10 w ↦
          let only = w.if-n-ge10.false in
          put_same (rw w.self-is at c.byte.ensures)
          (ap (λ (d : ℕ). digit d ∷ []) {x = n % 10} {y = n} (omega (arith, only)) ∙ sym (digits-small n only))
    ]
