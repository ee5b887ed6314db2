-- `pool_run::answer` meets its contract: it hands on the pooled sheet of the two that were read, or their refusal.
use Rattle.std.proofs.Common.{sym, ◌∙◌}
use Rattle.pooling.proofs.PoolWritten.{pools}
use Rattle.pool_run.proofs.Printing.{pool-answered, refusal-answered}
use Rattle.pool_run.proofs.Refusing.{pool-ran, refusal-ran}
use Rattle.pool_run.proofs.answer.Goals as goal

pub pool_length-end-requires : goal.pool_length-end-requires
pool_length-end-requires g c = (pools c.pool.ensures c.in-Ok.is).regions

pub returns-in-Ok-clause-ran : goal.returns-in-Ok-clause-ran
returns-in-Ok-clause-ran g c =
    pool-ran _ _ c.requires c.args.first.now.is_taken c.args.second.now.is_taken (sym c.pool.ensures.answer-is ∙ c.in-Ok.is)
    (rw (c.pool_length-end.ensures, (pools c.pool.ensures c.in-Ok.is).first) at c.write_answer.ensures.written)

pub returns-in-Ok-clause-printed : goal.returns-in-Ok-clause-printed
returns-in-Ok-clause-printed g c =
    pool-answered (sym c.pool.ensures.answer-is ∙ c.in-Ok.is)
    (rw (c.pool_length-end.ensures, (pools c.pool.ensures c.in-Ok.is).first) at c.write_answer.ensures.printed) c.write_answer.ensures.silent

pub returns-in-Err-clause-ran : goal.returns-in-Err-clause-ran
returns-in-Err-clause-ran g c =
    refusal-ran _ _ c.requires c.args.first.now.is_taken c.args.second.now.is_taken (sym c.pool.ensures.answer-is ∙ c.in-Err.is)
    c.write_refusal.ensures.written

pub returns-in-Err-clause-printed : goal.returns-in-Err-clause-printed
returns-in-Err-clause-printed g c = refusal-answered (sym c.pool.ensures.answer-is ∙ c.in-Err.is) _ c.write_refusal.ensures.printed
