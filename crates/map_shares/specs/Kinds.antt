-- The types of a road kind and of a row that are made of one for each mechanism or for each road kind. Definitions only.
use Rattle.std.specs.Prelude.{ℕ}
use Rattle.map_shares.specs.declared.Part.{Part}
use Rattle.map_shares.specs.declared.Mechanisms.{Mechanisms}
use Rattle.map_shares.specs.declared.Roads.{Roads}
use Rattle.map_shares.specs.declared.RoadShares.{RoadShares}

-- what part of each mechanism's mass falls on one road kind
abbrev pub Road : Type 0
Road = Mechanisms Part

-- a road kind's shares of the three mechanisms, in milligrams
abbrev pub Shares : Type 0
Shares = Mechanisms ℕ

-- the shares of the three road kinds of one row
abbrev pub RowShares : Type 0
RowShares = Roads RoadShares
