-- `bounds::exp::exponential` meets its contract: the entry and the rest of the exponential fit a product, and the
-- computed exponential encloses the exact one.
use Rattle.std.proofs.Common.{◌≡◌}
use Rattle.bounds.specs.Exponential.{exponential}
use Rattle.bounds.proofs.ExponentialBound.{exponential-size, exponential-within}
use Rattle.bounds.proofs.exp.exponential.Goals as goal

pub returns : goal.returns
unfolding exponential
returns c =
    let l = c.requires in
    let e : c.mul_above.result ≡ exponential c.args.x = cc in
    (e, rw e (exponential-size _ l), rw e (exponential-within _ l))
