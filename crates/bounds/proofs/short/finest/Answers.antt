-- `bounds::short::finest` meets its contract: the table is the list of `finest` at each place.
use Rattle.numbers.proofs.Lists.{get_d-tab}
use Rattle.numbers.specs.Lists.{tab}
use Rattle.bounds.specs.Exponential.{middle, rest, quadratic, fine, finest}
use Rattle.bounds.proofs.short.finest.Goals as goal

pub returns : goal.returns
unfolding tab finest fine quadratic rest middle
returns c = get_d-tab finest 1024 _ c.requires
