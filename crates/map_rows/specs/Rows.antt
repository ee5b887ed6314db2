-- The cells of a row. Definitions only.
use Rattle.std.specs.Prelude.{Bool, Ok, Err, cond, ◌||◌, ℕ, ltb}
use Rattle.refusals.specs.declared.Refusal.{Refusal}
use Rattle.refusals.specs.declared.Rule.TheVariants as rule
use Rattle.refusals.specs.Check.{Answer}
use Rattle.map_cells.specs.declared.Cell.{Cell}
use Rattle.map_cells.specs.Doubles.{mass_limit}
use Rattle.map_cells.specs.Cells.{cell_of}
use Rattle.map_cells.specs.Sums.{cell_refusal}
use Rattle.map_shares.specs.declared.Travel.{Travel}
use Rattle.map_shares.specs.declared.Span.{Span}
use Rattle.map_shares.specs.declared.Words.{Words}
use Rattle.map_shares.specs.declared.RoadShares.{RoadShares}
use Rattle.map_shares.specs.Kinds.{RowShares}
use Rattle.map_shares.specs.Demands.{travel_limit}
use Rattle.map_shares.specs.Shares.{total, row_shares}
use Rattle.map_rows.specs.Kinds.{RowCells}

-- what the call answers: three cells, or a refusal, which has no cell
abbrev pub RowCellsAnswer : Type 0
RowCellsAnswer = Answer RowCells

-- "28 .. place 0"
abbrev pub travel_refusal : Refusal
travel_refusal = record { rule = rule.Travel; place = 0 }

-- "not from 1 to 1,000,000"
unfoldable pub amiss : ℕ → Bool
amiss x = ltb x 1 || ltb travel_limit x

-- "28, a mileage or speed not from 1 to 1,000,000"
unfoldable pub travel_wrong : Travel → Bool
travel_wrong t = amiss t.mileage.urban || amiss t.mileage.rural || amiss t.mileage.highway || amiss
    t.speed.rural || amiss t.speed.highway

-- "27, a low above its high .. or a word .. above 2⁵³"
unfoldable pub span_wrong : Span → Bool
span_wrong s = ltb s.high s.low || ltb mass_limit s.high

unfoldable pub words_wrong : Words → Bool
words_wrong w = span_wrong w.diurnal || span_wrong w.soak || span_wrong w.running

-- "a .. cell .. above 2⁵³"
unfoldable pub over : RoadShares → Bool
over s = ltb mass_limit (total s.high)

-- "A cell sums the shares of the three mechanisms."
unfoldable pub road_cell : RoadShares → Cell
road_cell s = cell_of (total s.low) (total s.high)

-- the three cells of a row's shares, or a refusal
unfoldable pub shared_out : RowShares → RowCellsAnswer
shared_out s =
    cond (over s.urban || over s.rural || over s.highway) (Err cell_refusal)
    (Ok (record { urban = road_cell s.urban; rural = road_cell s.rural; highway = road_cell s.highway }))

-- "28 .. checked first"; "place 0"
unfoldable pub row_cells_answer : Words → Travel → RowCellsAnswer
row_cells_answer w t =
    cond (travel_wrong t) (Err travel_refusal)
    (cond (words_wrong w) (Err cell_refusal)
    (shared_out (row_shares w t)))
