-- Need not be believed: the ranges in which the fractions and the shares lie, so that nothing passes 64 bits. For proofs alone.
use Rattle.std.specs.Prelude.{ℕ, ◌≤◌, ◌<◌}
use Rattle.map_cells.specs.Doubles.{mass_limit}
use Rattle.map_shares.specs.declared.Part.{Part}
use Rattle.map_shares.specs.Kinds.{Road, RowShares}
use Rattle.map_shares.specs.declared.RoadShares.{RoadShares}
use Rattle.map_shares.specs.Shares.{total}

-- twelve times two times of 10¹² at most
abbrev pub parts_limit : ℕ
parts_limit = 24000000000000

pub record PartIn (p : Part) : Type 0 where
  pub some : 0 < p.all
  pub within : p.part ≤ p.all
  pub small : p.all ≤ parts_limit

pub record RoadIn (k : Road) : Type 0 where
  pub diurnal-in : PartIn k.diurnal
  pub soak-in : PartIn k.soak
  pub running-in : PartIn k.running

-- each share of a high is at most 2⁵³, and the lows are together at most the highs
pub record SharesIn (s : RoadShares) : Type 0 where
  pub order : total s.low ≤ total s.high
  pub diurnal-limit : s.high.diurnal ≤ mass_limit
  pub soak-limit : s.high.soak ≤ mass_limit
  pub running-limit : s.high.running ≤ mass_limit

pub record RowIn (s : RowShares) : Type 0 where
  pub urban-in : SharesIn s.urban
  pub rural-in : SharesIn s.rural
  pub highway-in : SharesIn s.highway
