-- `evaporation::evp_factor` meets its contract: what holds of the answer holds of its numbers.
use mathlib.Core.Path.{◌∙◌, ap}
use Rattle.boundary.specs.Export.{factor_numbers}
use Rattle.boundary.proofs.Numbers.{factor-is}
use Rattle.evaporation.proofs.evp_factor.Goals as goal

pub returns : goal.returns
returns c =
    let a = c.factor.ensures in
    let e = c.from.ensures in
    let n = e ∙ factor-is _ in
    record { answer-is = e ∙ ap factor_numbers a.answer-is; says = rw n a.says; band = rw n a.band }
