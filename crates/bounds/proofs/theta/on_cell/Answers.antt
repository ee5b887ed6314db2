-- `bounds::theta::on_cell` meets its contract: the coefficients of a cell add up to little.
use Rattle.std.proofs.Common.{arith}
use Rattle.bounds.specs.Theta.{on_cell}
use Rattle.bounds.proofs.ThetaTable.{coefficients-most}
use Rattle.bounds.proofs.theta.on_cell.Goals as goal

pub part-requires : goal.part-requires
part-requires c = let most = coefficients-most c.args.cell c.requires.0 in (omega arith, c.requires.1)

pub overflow_add-slope : goal.overflow_add-slope
overflow_add-slope c = omega (arith, coefficients-most c.args.cell c.requires.0)

pub part-requires-2 : goal.part-requires-2
part-requires-2 c = let most = coefficients-most c.args.cell c.requires.0 in (omega arith, c.requires.1)

pub overflow_add-result : goal.overflow_add-result
overflow_add-result c = omega (arith, coefficients-most c.args.cell c.requires.0)

pub returns : goal.returns
unfolding on_cell
returns c = (cc, omega (arith, coefficients-most c.args.cell c.requires.0))
