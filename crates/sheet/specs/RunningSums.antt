-- The sums that checks 10 and 26 compare with a limit, record by record. Definitions only.
use Rattle.std.specs.Prelude.{List, ℕ, suc, zero, ◌+◌}
use Rattle.sheet.specs.Bytes.{season_at, row_at}

-- the days of the first i seasons
unfoldable pub days_before : List ℕ → ℕ → ℕ
days_before s zero = 0
days_before s (suc i) = days_before s i + (season_at s i).days

-- the vehicles of the first i rows
unfoldable pub vehicles_before : List ℕ → ℕ → ℕ
vehicles_before s zero = 0
vehicles_before s (suc i) = vehicles_before s i + (row_at s i).vehicles
