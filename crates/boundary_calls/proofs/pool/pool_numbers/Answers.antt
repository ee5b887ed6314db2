-- `boundary_calls::pool::pool_numbers` meets its contract: where the pool is accepted both sheets have passed, and its length can be told.
-- Assumes nothing.
use mathlib.Core.Path.{refl}
use Rattle.boundary.specs.PoolExport.{pool_numbers}
use Rattle.boundary.proofs.PoolNumbers.{both-pass, refused-alike}
use Rattle.boundary_calls.proofs.pool.pool_numbers.Goals as goal

pub pool_length-requires : goal.pool_length-requires
pool_length-requires c = both-pass _ _ _ c.requires c.in-Ok.is

pub returns-in-Ok : goal.returns-in-Ok
unfolding pool_numbers
returns-in-Ok c = rw (c.in-Ok.is, c.pool_length.ensures) refl

pub returns-in-Err : goal.returns-in-Err
returns-in-Err c = rw (c.in-Err.is, c.from.ensures) (refused-alike _ 0 _)
