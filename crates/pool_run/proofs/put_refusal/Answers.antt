-- `pool_run::put_refusal` meets its contract: the line has at most 67 bytes.
use Rattle.std.proofs.Common.{ℕ, take, ap, ◌∙◌, rules, arith}
use Rattle.text.specs.Ascii.{bytes}
use Rattle.text.specs.Lines.{pair_line}
use Rattle.pool_run.proofs.Refusing.{line-most, stands}
use Rattle.pool_run.proofs.put_refusal.Goals as goal

pub returns : goal.returns
returns c =
    let start = c.new-writer.ensures in
    let line = stands start.out start.at c.pair.ensures
    (ap (λ (k : ℕ). pair_line c.args.named.now k (bytes " at ") c.args.refusal.place) c.number-number.ensures)
    (line-most _ _ _ (omega arith) (omega arith) (omega arith)) c.requires.0
    in
    (ap (take c.place.result) {y = c.pair.new.self.out.now} (search rules) ∙ rw c.place.ensures line.0, rw c.place.ensures line.1)
