-- `row_factors::season::prepare` meets its contract: the marks, the rises, the day and the means are those of its season.
use Rattle.std.proofs.Common.{refl}
use Rattle.row_factors.proofs.Prepared.{steps-most, rises-are}
use Rattle.row_factors.proofs.season.prepare.Goals as goal

pub returns : goal.returns
returns c =
    let m = c.at_marks-values.ensures in (
      refl,
      record { marks-of = m.marks-of; day-ready = c.day_of-day.ensures; means-are = c.means_of-means.ensures },
      rises-are m c.rises-rises.ensures,
    )

pub rises-rises-requires : goal.rises-rises-requires
rises-rises-requires c = steps-most c.args.checked.in_range c.at_marks-values.ensures

pub means_of-means-requires : goal.means_of-means-requires
means_of-means-requires c = (c.at_marks-values.ensures, rises-are c.at_marks-values.ensures c.rises-rises.ensures)
