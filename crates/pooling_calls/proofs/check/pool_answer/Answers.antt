-- `pooling_calls::check::pool_answer` meets its contract: the first sheet, the second, and the two together; the first that refuses is the answer.
-- Each answer names the checks that came before it, of its own context: a lemma would take the same facts.
-- Assumes nothing.
use mathlib.Core.Path.{refl, sym, ap, ◌∙◌}
use Rattle.refusals.proofs.Chain.{handed}
use Rattle.pooling.specs.declared.PoolRefusal.TheVariants.{First, Second, Pooled}
use Rattle.pooling.proofs.PoolAnswers.{named, named-is, in-turn, answer-in-turn, named-passes}
use Rattle.pooling_calls.proofs.check.pool_answer.Goals as goal

pub returns-in_err-map_err : goal.returns-in_err-map_err
unfolding in-turn
returns-in_err-map_err c =
    let refused = handed c.from_residual.result _ c.from_residual.ensures in
    let first = named-is First _ _ c.map_err.ensures.cases ∙ ap (named First) c.region_check.ensures in
    refused ∙ answer-in-turn _ _ _ (sym c.in_err-map_err.was ∙ first) refl refl

pub returns-in_err-map_err-2 : goal.returns-in_err-map_err-2
unfolding in-turn
returns-in_err-map_err-2 c =
    let refused = handed c.from_residual-in_err-map_err-2.result _ c.from_residual-in_err-map_err-2.ensures in
    let first = named-is First _ _ c.map_err.ensures.cases ∙ ap (named First) c.region_check.ensures in
    let second = named-is Second _ _ c.map_err-2.ensures.cases ∙ ap (named Second) c.region_check-2.ensures in
    refused ∙ answer-in-turn _ _ _ (sym c.in_ok-map_err.was ∙ first) (sym c.in_err-map_err-2.was ∙ second) refl

pub of-requires : goal.of-requires
of-requires c =
    let first = named-is First _ _ c.map_err.ensures.cases ∙ ap (named First) c.region_check.ensures in
    let second = named-is Second _ _ c.map_err-2.ensures.cases ∙ ap (named Second) c.region_check-2.ensures in
    record { first = named-passes First _ first c.in_ok-map_err.was; second = named-passes Second _ second c.in_ok-map_err-2.was }

pub returns : goal.returns
unfolding in-turn
returns c =
    let first = named-is First _ _ c.map_err.ensures.cases ∙ ap (named First) c.region_check.ensures in
    let second = named-is Second _ _ c.map_err-2.ensures.cases ∙ ap (named Second) c.region_check-2.ensures in
    let check = rw (c.of.ensures.0, c.of.ensures.1) at c.check.ensures in
    let together = named-is Pooled _ _ c.map_err-3.ensures.cases ∙ ap (named Pooled) check in
    answer-in-turn _ _ _ (sym c.in_ok-map_err.was ∙ first) (sym c.in_ok-map_err-2.was ∙ second) together
