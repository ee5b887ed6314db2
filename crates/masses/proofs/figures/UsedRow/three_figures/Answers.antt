-- `masses::figures::UsedRow::three_figures` meets its contract: each factor is within its limit.
-- Assumes nothing.
use Rattle.masses.proofs.figures.UsedRow.three_figures.Goals as goal

pub trip_figure-requires : goal.trip_figure-requires
trip_figure-requires c = let p = c.requires in (p.trip-most _, p.trip-most _, p.trip-most _)

pub trip_figure-requires-2 : goal.trip_figure-requires-2
trip_figure-requires-2 c = let p = c.requires in (p.trip-most _, p.trip-most _, p.trip-most _)
