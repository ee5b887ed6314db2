-- The closure of `sheet_factors::sheet_rows::SheetRows::each_row` meets its contract: it hands `fill` the row, its factors and its part.
use Rattle.std.proofs.Common.{refl, ◌∙◌}
use Rattle.sheet.proofs.Accepted.{accepted}
use Rattle.sheet_factors.proofs.SeasonWork.{use-in-range, alike}
use Rattle.sheet_factors.proofs.sheet_rows.fn.SheetRows.each_row.fill_row.Goals as goal

pub invariant_of-fill : goal.invariant_of-fill
invariant_of-fill g c =
    let sheet = c.captures.self.now.sheet.sheet in
    record { in_range = rw c.row-loaded.ensures (use-in-range (accepted sheet.bytes.now sheet.passed) c.requires.0) }

pub returns : goal.returns
returns g c = record {
  used = _;
  used-is = c.row-loaded.ensures;
  seven = _;
  seven-are = c.units-units.ensures ∙ alike refl c.row-loaded.ensures refl;
  argument = _;
  argument_is = refl;
  after_call = _;
  call = c.fill.ensures;
  left = refl;
}
