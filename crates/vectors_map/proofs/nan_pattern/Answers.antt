-- `vectors_map::nan_pattern` meets its contract.
-- The word stays: the attribute of the function takes no definition of `lib.Ieee` to unfold.
use lib.Ieee.{nan_bits}
use Rattle.vectors_map.proofs.nan_pattern.Goals as goal

pub returns : goal.returns
unfolding nan_bits
returns c = cc
