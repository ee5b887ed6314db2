-- `pooling_calls::pool` meets its contract: a refusal leaves the buffer, and where all passes the pooled sheet is written.
-- Assumes nothing.
use mathlib.Core.Path.{refl, sym, ◌∙◌}
use Rattle.refusals.proofs.Chain.{handed}
use Rattle.inventory.specs.ReportCall.{written}
use Rattle.pooling.specs.PoolCall.{check_of}
use Rattle.pooling.proofs.PoolWritten.{pool-reply, answer-passes}
use Rattle.pooling_calls.proofs.pool.Goals as goal

pub returns-in_err-pool_answer : goal.returns-in_err-pool_answer
unfolding check_of written
returns-in_err-pool_answer c =
    let refused = handed c.from_residual.result _ c.from_residual.ensures in
    pool-reply (refused ∙ sym c.in_err-pool_answer.was ∙ c.pool_answer.ensures) (rw refused refl)

pub returns : goal.returns
unfolding check_of
returns c =
    pool-reply (sym c.in_ok-pool_answer.was ∙ c.pool_answer.ensures) (rw (c.of.ensures.0, c.of.ensures.1) at c.write.ensures)

pub of-requires : goal.of-requires
unfolding check_of
of-requires c = (answer-passes (sym c.in_ok-pool_answer.was ∙ c.pool_answer.ensures) refl).0

pub write-requires : goal.write-requires
unfolding check_of
write-requires c =
    rw (c.of.ensures.0, c.of.ensures.1) (answer-passes (sym c.in_ok-pool_answer.was ∙ c.pool_answer.ensures) refl).1
