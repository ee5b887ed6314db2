-- `parking::cells::products` meets its contract: the first cells hold the products.
use Prim.Native.Nat.{ℕ, ◌*◌, ◌/◌, ◌%◌}
use Rattle.numbers.specs.Lists.{at}
use Rattle.numbers.proofs.Lists.{Filled}
use Rattle.parking.proofs.cells.products.Given as goal

abbrev pub invariant-loop-cell : goal.invariant-loop-cell
invariant-loop-cell l = Filled (λ (k : ℕ). at l.durations (k % 24) * at l.hours (k / 24)) 576 l.cell l.product-items
