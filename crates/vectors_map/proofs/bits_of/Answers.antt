-- `vectors_map::bits_of` is safe: no NaN has its bits taken.
use Rattle.vectors_map.proofs.NotNan.{not-nan}
use Rattle.vectors_map.proofs.bits_of.Goals as goal

pub float_to_bits-result : goal.float_to_bits-result
float_to_bits-result c = not-nan _ c.if-x.true
