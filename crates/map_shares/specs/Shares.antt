-- A row's shares in whole milligrams. Definitions only.
use Rattle.std.specs.Prelude.{ℕ, ◌+◌, ◌*◌, ◌-◌, ◌/◌}
use Rattle.map_shares.specs.declared.Travel.{Travel}
use Rattle.map_shares.specs.declared.Part.{Part}
use Rattle.map_shares.specs.declared.Words.{Words}
use Rattle.map_shares.specs.Kinds.{Road, Shares, RowShares}
use Rattle.map_shares.specs.declared.RoadShares.{RoadShares}
use Rattle.map_shares.specs.Roads.{urban_road, rural_road, highway_road}

-- "Each share's low is rounded down and its high up to whole milligrams, before the cell is summed."
abbrev pub share_down : ℕ → Part → ℕ
share_down mass p = mass * p.part / p.all

abbrev pub share_up : ℕ → Part → ℕ
share_up mass p = (mass * p.part + (p.all - 1)) / p.all

unfoldable pub low_shares : Words → Road → Shares
low_shares w k = record {
  diurnal = share_down w.diurnal.low k.diurnal;
  soak = share_down w.soak.low k.soak;
  running = share_down w.running.low k.running;
}

unfoldable pub high_shares : Words → Road → Shares
high_shares w k = record {
  diurnal = share_up w.diurnal.high k.diurnal;
  soak = share_up w.soak.high k.soak;
  running = share_up w.running.high k.running;
}

unfoldable pub road_shares : Words → Road → RoadShares
road_shares w k = record { low = low_shares w k; high = high_shares w k }

unfoldable pub row_shares : Words → Travel → RowShares
row_shares w t = record {
  urban = road_shares w (urban_road t);
  rural = road_shares w (rural_road t);
  highway = road_shares w (highway_road t);
}

-- "A cell sums the shares of the three mechanisms."
abbrev pub total : Shares → ℕ
total s = s.diurnal + s.soak + s.running
