-- Need not be believed: a share of a mass, cut down or cut up.
use Rattle.std.specs.Prelude.{ℕ}
use Rattle.map_shares.specs.declared.Part.{Part}
use Rattle.map_shares.specs.Shares.{share_down, share_up}
use Rattle.map_rows.specs.declared.split.Rounding.{Rounding}
use Rattle.map_rows.specs.declared.split.Rounding.TheVariants.{Down, Up}

abbrev pub share : Rounding → ℕ → Part → ℕ
share Down = share_down
share Up = share_up
