-- `bounds::short::high` meets its contract: the table is the list of `high` at each place.
use Rattle.numbers.proofs.Lists.{get_d-tab}
use Rattle.numbers.specs.Lists.{tab}
use Rattle.bounds.specs.Exponential.{coarse, high}
use Rattle.bounds.proofs.short.high.Goals as goal

pub returns : goal.returns
unfolding tab high coarse
returns c = get_d-tab high 305 _ c.requires
