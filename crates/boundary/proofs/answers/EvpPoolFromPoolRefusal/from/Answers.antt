-- `EvpPool::from` of a refusal meets its contract.
use Rattle.boundary.specs.PoolExport.{pool_numbers}
use Rattle.boundary.proofs.answers.EvpPoolFromPoolRefusal.from.Goals as goal
use Rattle.boundary.proofs.answers.EvpPoolFromPoolRefusal.from.Goals.{in-First, in-Second, in-Pooled}

pub returns : goal.returns
unfolding pool_numbers
returns c =
    elim c.match-why.branch [
      | in-First w ↦ rw (c.number.ensures, w.sheet-is, w.in-First.is)
      | in-Second w ↦ rw (c.number.ensures, w.sheet-is, w.in-Second.is)
      | in-Pooled w ↦ rw (c.number.ensures, w.sheet-is, w.in-Pooled.is)
    ]
