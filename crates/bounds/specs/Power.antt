-- Need not be believed: the computed T^2.5, that is which whole number the program's root is.
-- A temperature T is held as the whole number θ = (T + 30 °C)·10¹⁰, and the result is in units of 2⁻²⁴.
use Rattle.std.specs.Prelude.{ℕ, ◌*◌, ◌-◌, ◌/◌, ◌^◌}
use Rattle.numbers.specs.Fraction.{Fraction, ten-pos}
use Rattle.bounds.specs.Series.{root}

-- T = θ·10⁻¹⁰ − 30, in °C
abbrev pub degrees : ℕ → Fraction
degrees θ = record { up = θ; down = 30 * 10 ^ 10; den = 10 ^ 10; pos = ten-pos 10 }

-- N^2.5·2⁻⁶⁸, from N² and the root of N
unfoldable pub half_power : ℕ → ℕ
half_power N = N * N / 2 ^ 40 * root (N * 2 ^ 24) / 2 ^ 40

-- 2²⁴·T^2.5 for T = N·10⁻¹⁰: N^2.5·10⁻²⁵, with 8307674973 = ⌊2¹¹⁶/10²⁵⌋
unfoldable pub power_from : ℕ → ℕ
power_from N = half_power N * 8307674973 / 2 ^ 24

-- 0 below 0 °C, where the difference is cut off
unfoldable pub power : ℕ → ℕ
power θ = power_from (θ - 30 * 10 ^ 10)

-- the temperatures that are served: up to 65 °C
abbrev pub degrees_limit : ℕ
degrees_limit = 95 * 10 ^ 10

-- how far 2²⁴·T^2.5 can be above the result
abbrev pub power_error : ℕ
power_error = 716
