-- `parking::cells::products` meets its contract: the first cells hold the products.
use mathlib.Core.Path.{refl, ◌∙◌}
use Prim.Native.Nat.{◌*◌, ◌/◌, ◌%◌, ◌≤◌}
use native.Mathlib.Omega.{arith}
use native.Mathlib.Nat.{mul-le-mul}
use lib.ListN.{replicate}
use Rattle.numbers.specs.Lists.{at}
use Rattle.numbers.proofs.Lists.{filled_none, filled_more, filled-all}
use Rattle.parking.proofs.Sums.{at-le-total}
use Rattle.parking.proofs.Products.{products-tab}
use Rattle.parking.proofs.cells.products.Goals as goal

pub overflow_mul-product : goal.overflow_mul-product
overflow_mul-product c =
    let fits : at c.args.durations (c.loop-cell.cell % 24) * at c.args.hours (c.loop-cell.cell / 24) ≤ 1000 * 1000
    = mul-le-mul {n₂ = 1000} {m₂ = 1000} (omega (arith, at-le-total c.args.durations (c.loop-cell.cell % 24)))
    (omega (arith, at-le-total c.args.hours (c.loop-cell.cell / 24))) in
    omega arith

pub loop-cell-init : goal.loop-cell-init
loop-cell-init c = filled_none _ (replicate 576 0) refl

pub loop-cell-preserved : goal.loop-cell-preserved
loop-cell-preserved c = filled_more c.loop-cell.invariant (omega arith) refl

pub returns : goal.returns
returns c =
    filled-all c.loop-cell.invariant (omega arith) ∙ products-tab _ _ (omega arith) (omega arith)
