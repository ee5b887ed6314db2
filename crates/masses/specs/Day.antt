-- Need not be believed: the figures of one vehicle on one day, as the program computes them from the seven factors.
use Rattle.std.specs.Prelude.{Bool, true, false, List, [], ◌∷◌, ℕ, suc, ◌*◌, ◌^◌, ◌≤◌}
use Rattle.numbers.specs.Lists.{tab, at}
use Rattle.exact.specs.declared.Season.{Season}
use Rattle.exact.specs.declared.Row.{Row}
use Rattle.exact.specs.Masses.{diurnal, soak, running}
use Rattle.factors.specs.Units.{low_micrograms, high_micrograms}
use Rattle.row_factors.specs.Units.{diurnal_limit, trip_limit}
use Rattle.masses.specs.declared.figures.Mechanisms.{Mechanisms}
use Rattle.masses.specs.Figures.{blended, day_figure}

-- in micrograms, cut up or cut down
unfoldable pub rounded : Bool → ℕ → ℕ
rounded true = high_micrograms
rounded false = low_micrograms

abbrev pub rounded_all : Bool → List ℕ → List ℕ
rounded_all up units = tab (λ (k : ℕ). rounded up (at units k)) 7

-- seven factors in micrograms, none larger than that
pub record MicrogramsInRange (factors : List ℕ) : Type 0 where
  pub diurnal-most : at factors 0 ≤ diurnal_limit
  pub trip-most : (k : ℕ) → at factors (suc k) ≤ trip_limit

-- diurnal, soak and running of one vehicle on one day, in units of 10⁻¹² g, from the seven factors in micrograms
abbrev pub three_figures : Row → List ℕ → Mechanisms
three_figures row factors = record {
  diurnal = 10 ^ 6 * at factors 0;
  soak = row.trips * blended row (at factors 3) (at factors 2) (at factors 1);
  running = row.trips * blended row (at factors 6) (at factors 5) (at factors 4);
}

-- each low then high
abbrev pub six_figures : Row → List ℕ → List ℕ
six_figures row units =
    let low = three_figures row (rounded_all false units) in
    let high = three_figures row (rounded_all true units) in
    low.diurnal ∷ high.diurnal ∷ low.soak ∷ high.soak ∷ low.running ∷ high.running ∷ []

-- "diurnal, soak, running, each low then high", of one vehicle on one day
unfoldable pub day_figures : List ℕ → Season → Row → List ℕ
day_figures counts season row =
    day_figure low_micrograms counts season row diurnal ∷
    day_figure high_micrograms counts season row diurnal ∷
    day_figure low_micrograms counts season row soak ∷
    day_figure high_micrograms counts season row soak ∷
    day_figure low_micrograms counts season row running ∷
    day_figure high_micrograms counts season row running ∷ []
