-- Need not be believed: the computed values of a season at its day marks, that is which whole numbers they are.
-- A temperature is held as θ, in units of 10⁻¹⁰ °C above −30 °C; exponentials and grams are in units of 2⁻⁴⁰.
use Rattle.std.specs.Prelude.{ℕ, suc, zero, ◌+◌, ◌*◌, ◌-◌, ◌/◌, ◌%◌, ◌^◌}
use Rattle.bounds.specs.Exponential.{exponential}
use Rattle.bounds.specs.Power.{power}
use Rattle.exact.specs.Day.{start_mark}

-- E(0.0716·T), from below
unfoldable pub heat : ℕ → ℕ
heat θ = exponential (716 * θ + 13852 * 10 ^ 11)

-- how far E(0.0716·T) can be above `heat`: up to 50 °C, and up to 56 °C
abbrev pub heat_error : ℕ
heat_error = 291

abbrev pub raised_error : ℕ
raised_error = 475

-- how much `heat` rises from mark i to the next; 0 where it falls
unfoldable pub step_at : (ℕ → ℕ) → ℕ → ℕ
step_at θ i = heat (θ ((i + 1) % 48)) - heat (θ i)

-- runs of rising steps that a parking can have in a season's day
abbrev pub runs_most : ℕ
runs_most = 2

-- how far these steps, summed over a parking, can be above the exact rise, or below it: within a run the errors of the marks cancel
abbrev pub rise_error : ℕ
rise_error = runs_most * heat_error

-- how much E(0.0716·T) rises when T is raised by r, from below
unfoldable pub raise : ℕ → ℕ → ℕ
raise r θ = heat (θ + r) - (heat θ + raised_error)

-- a raise of so many tenths of °C
abbrev pub tenths : ℕ → ℕ
tenths k = k * 10 ^ 9

-- E(0.004·vp), from below, vp in tenths of kPa
unfoldable pub pressure_factor : ℕ → ℕ
pressure_factor vp = exponential (4 * vp * 10 ^ 10 + 16 * 10 ^ 14)

-- 6.1656·10⁻⁶·T^2.5 + 0.0206, from below: 444278301800 = ⌊6.1656·10⁻⁶·2⁵⁶⌋ and 22649939532 = ⌊0.0206·2⁴⁰⌋
unfoldable pub bracket_units : ℕ → ℕ
bracket_units θ = power θ * 444278301800 / 2 ^ 40 + 22649939532

-- permeation per hour, from below
unfoldable pub rate : ℕ → ℕ → ℕ
rate vp θ = pressure_factor vp * bracket_units θ / 2 ^ 40

-- summed over the marks of a parking, start included, end left out: end hour, half-hours
unfoldable pub passed : (ℕ → ℕ) → ℕ → ℕ → ℕ
passed f hour zero = 0
passed f hour (suc d) = passed f hour d + f (start_mark hour (suc d))
