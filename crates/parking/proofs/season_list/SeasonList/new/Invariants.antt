-- `parking::season_list::SeasonList::new` meets its contract: the first cells are counted.
use Rattle.std.proofs.Common.{◌≡◌, length}
use Rattle.numbers.specs.Bounded.{AllAtMost}
use Rattle.parking.proofs.Listed.{Listed}
use Rattle.parking.proofs.season_list.SeasonList.new.Given as goal

abbrev pub invariant-loop-cell : goal.invariant-loop-cell
invariant-loop-cell l = Listed l.grid.cells.counts l.rises l.cell l.entries l.length × AllAtMost 575 l.last × (length l.last ≡ 48)
