-- `bounds::short::short` meets its contract: the products fit, and the short exponential encloses the exact one.
use Rattle.std.proofs.Common.{◌/◌, ◌%◌, ◌^◌, refl, arith}
use Rattle.bounds.specs.Short.{short_fine, short}
use Rattle.bounds.proofs.ShortBound.{finest-product, short-product, short-size, short-within}
use Rattle.bounds.proofs.short.short.Goals as goal

pub overflow_mul-result : goal.overflow_mul-result
overflow_mul-result c =
    rw c.finest.ensures
    (omega (arith, finest-product (c.args.x / 2 ^ 39 % 2 ^ 10) (c.args.x / 2 ^ 21 % 2 ^ 18) (omega arith) (omega arith)))

pub overflow_mul-result-2 : goal.overflow_mul-result-2
unfolding short_fine
overflow_mul-result-2 c =
    rw (c.high.ensures, c.finest.ensures)
    (omega (
      arith,
      short-product (c.args.x / 2 ^ 49)
          (c.args.x / 2 ^ 39 % 2 ^ 10) (c.args.x / 2 ^ 21 % 2 ^ 18) (omega arith)
          (omega arith) (omega arith),
    ))

pub returns : goal.returns
unfolding short short_fine
returns c =
    let l = c.requires in
    rw (c.high.ensures, c.finest.ensures) (refl, short-size _ l, short-within _ l)
