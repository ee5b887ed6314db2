-- One more season, and one more row, with the sums that are carried along.
-- Assumes nothing.
use Rattle.std.proofs.Common.{List, ◌≡◌, refl, ℕ, ◌+◌, ◌≤◌, add-one}
use Rattle.refusals.specs.Check.{Pass}
use Rattle.sheet.specs.Bytes.{season_at}
use Rattle.sheet.specs.Sheet.{season_check}
use Rattle.sheet.specs.RunningSums.{days_before}
use Rattle.sheet.proofs.Conditions.{season-judged}
use Rattle.refusals.proofs.Chain.{each_none, each_more}
use Rattle.sheet.proofs.Fleet.{vehicles-none, vehicles-more}

-- the days of no season, and of one season more
pub days-none : (s : List ℕ) → 0 ≡ days_before s 0
unfolding days_before
days-none s = refl

pub days-more : (s : List ℕ) (i : ℕ) {before days : ℕ} → before ≡ days_before s i → days ≡ (season_at s i).days
    → before + days ≡ days_before s (i + 1)
unfolding days_before
days-more s i e f = rw (add-one, e, f)

-- a season that passed has days that fit
pub days_fit : (s : List ℕ) (i : ℕ) → season_check s i ≡ Pass → days_before s i + (season_at s i).days ≤ 366
days_fit s i h = ((season-judged s i).passes h).0.1

-- for `using` on the checks of seasons and of rows
pub ruleset seasons_on = (each_none, each_more, days-none, days-more, days_fit)

pub ruleset rows_on = (each_none, each_more, vehicles-none, vehicles-more)
