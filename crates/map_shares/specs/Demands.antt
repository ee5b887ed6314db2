-- What is demanded of a row's words and of where its vehicles drive. Definitions only.
use Rattle.std.specs.Prelude.{ℕ, ◌≤◌}
use Rattle.map_cells.specs.Doubles.{mass_limit}
use Rattle.map_shares.specs.declared.Travel.{Travel}
use Rattle.map_shares.specs.declared.Span.{Span}
use Rattle.map_shares.specs.declared.Words.{Words}

abbrev pub travel_limit : ℕ
travel_limit = 1000000

-- "from 1 to 1,000,000"
pub record Driven (x : ℕ) : Type 0 where
  pub least : 1 ≤ x
  pub most : x ≤ travel_limit

-- "28, a mileage or speed not from 1 to 1,000,000"
pub record TravelIn (t : Travel) : Type 0 where
  pub urban-mileage : Driven t.mileage.urban
  pub rural-mileage : Driven t.mileage.rural
  pub highway-mileage : Driven t.mileage.highway
  pub rural-speed : Driven t.speed.rural
  pub highway-speed : Driven t.speed.highway

-- "27, a low above its high .. or a word .. above 2⁵³"
pub record SpanIn (s : Span) : Type 0 where
  pub order : s.low ≤ s.high
  pub limit : s.high ≤ mass_limit

pub record WordsIn (w : Words) : Type 0 where
  pub diurnal-in : SpanIn w.diurnal
  pub soak-in : SpanIn w.soak
  pub running-in : SpanIn w.running
