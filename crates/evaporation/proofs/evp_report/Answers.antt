-- `evaporation::evp_report` meets its contract: what holds of the answer holds of its numbers.
use mathlib.Core.Path.{◌∙◌, ap}
use Rattle.boundary.specs.Export.{check_numbers}
use Rattle.boundary.proofs.Numbers.{check-is}
use Rattle.evaporation.proofs.evp_report.Goals as goal

pub returns : goal.returns
returns c =
    let a = c.report.ensures in
    let e = c.from.ensures in
    let n = e ∙ check-is _ in
    record {
      answer-is = e ∙ ap check_numbers a.answer-is;
      words_are = rw a.answer-is at a.words_are;
      says = rw n a.says;
      promise = rw n a.promise;
    }
