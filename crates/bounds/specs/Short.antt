-- Need not be believed: the short exponential, that is which whole number it is for an exponent in binary.
-- An exponent z is held as the whole number x = (z + 16)·2⁵³, and the result is in units of 2⁻³⁶. With
-- z = (h − 256)/16 + j/16384 + ρ and ρ below 2⁻¹⁴, E(z) is close to high(h)·finest(j)·(1 + ρ); every step cuts downwards.
use Rattle.std.specs.Prelude.{ℕ, ◌+◌, ◌*◌, ◌/◌, ◌%◌, ◌^◌}
use Rattle.numbers.specs.Fraction.{Fraction}
use Rattle.bounds.specs.Series.{two_pos}
use Rattle.bounds.specs.Exponential.{high, finest}

-- z = x·2⁻⁵³ − 16
abbrev pub short_exponent : ℕ → Fraction
short_exponent x = record { up = x; down = 16 * 2 ^ 53; den = 2 ^ 53; pos = two_pos 53 }

-- E(j/16384 + ρ) in 2⁻³¹, with ρ cut to p in 2⁻³²
unfoldable pub short_fine : ℕ → ℕ → ℕ
short_fine j p = finest j * (2 ^ 32 + p) / 2 ^ 31

-- E(z)
unfoldable pub short : ℕ → ℕ
short x = high (x / 2 ^ 49) * short_fine (x / 2 ^ 39 % 2 ^ 10) (x / 2 ^ 21 % 2 ^ 18) / 2 ^ 22

-- the exponents that are served: z below 3 and a sixteenth
abbrev pub short_limit : ℕ
short_limit = 305 * 2 ^ 49

-- how far 2³⁶·E(z) can be above the result: 250 for each unit of high's E, rounded up, and 547
unfoldable pub short_error : ℕ → ℕ
short_error x = 250 * (high (x / 2 ^ 49) / 2 ^ 27 + 1) + 547

-- units of 10⁻¹⁴ in units of 2⁻⁴⁴, cut: 2⁴⁴/10¹⁴ is 2³⁰/5¹⁴
unfoldable pub binary : ℕ → ℕ
binary x = x * 2 ^ 30 / 6103515625

-- a + b·m, for a + 16 and 2·b in units of 2⁻⁴⁴ and m in units of 2⁻⁴⁰
abbrev pub line_of : ℕ → ℕ → ℕ → ℕ
line_of a k m = (a + k * m / 2 ^ 41) * 2 ^ 9

-- the same, for a = A and 2·b = K in units of 10⁻¹⁴
unfoldable pub line_exponent : ℕ → ℕ → ℕ → ℕ
line_exponent A K m = line_of (binary A) (binary K) m

-- b·g in units of 2⁻³⁶, for 2·b in units of 2⁻⁴⁴ and g in units of 2⁻⁴⁰
abbrev pub reach_of : ℕ → ℕ → ℕ
reach_of k g = k * g / 2 ^ 49

-- the same, for 2·b = K in units of 10⁻¹⁴
unfoldable pub reach : ℕ → ℕ → ℕ
reach K g = reach_of (binary K) g
