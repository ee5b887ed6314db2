-- `bounds::exp::fine` meets its contract: the entry and the quadratic fit a product.
use Rattle.std.proofs.Common.{◌≡◌}
use Rattle.bounds.specs.Exponential.{fine}
use Rattle.bounds.proofs.ExponentialBound.{fine-least, fine-size}
use Rattle.bounds.proofs.exp.fine.Goals as goal

pub returns : goal.returns
unfolding fine
returns c =
    let l = c.requires in
    let e : c.mul_above.result ≡ fine c.args.d = cc in
    (e, rw e (fine-least _ l), rw e (fine-size _ l))
