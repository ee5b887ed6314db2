-- Need not be believed: the computed breakthrough of a canister, that is which whole numbers it is made of.
-- Loads and vapour are in units of 2⁻⁴⁰ g, a and 2·b·s in units of 10⁻¹⁴, a above −16; the exponents made of them as bounds holds them.
use Rattle.std.specs.Prelude.{Option, ℕ, ◌+◌, ◌*◌, ◌-◌, ◌/◌, ◌^◌, min}
use Rattle.bounds.specs.Short.{short, line_exponent, reach}
use Rattle.exact.specs.declared.Canister.{Canister}
use Rattle.sheet.specs.Range.{halves}

-- tenths of a gram, cut
unfoldable pub tenth_grams : ℕ → ℕ
tenth_grams m = m * 2 ^ 40 / 10

-- a, held as (a + 16)·10¹⁴, for vp in tenths of kPa and a held temperature
unfoldable pub base : ℕ → ℕ → ℕ
base vp θ = 305 * 10 ^ 12 + 650 * θ - 15 * 10 ^ 10 * vp

-- 2·b·s·10¹⁴
unfoldable pub growth : Option Canister → ℕ → ℕ → ℕ
growth c vp θ = (112 * 10 ^ 11 + θ - 15 * 10 ^ 8 * vp) * halves c

-- B(m1), from below, for a = A, 2·b·s = K and a load of at most m_sat: E(a + b·s·m1) by the short exponential, which is in units of 2⁻³⁶
unfoldable pub loss : ℕ → ℕ → ℕ → ℕ
loss A K m1 = short (line_exponent A K m1) * 2 ^ 4

-- B(m1 + v), from below, where v is g times a rise: b·s·v is b·s·g times the rise, and the exponent ends at that of m_sat; and what overflows.
-- (One unit is taken off the overflow for what is cut.)
unfoldable pub risen_loss : ℕ → ℕ → ℕ → ℕ → ℕ → ℕ → ℕ
risen_loss A K saturation m1 g rise =
    short (min (line_exponent A K m1 + reach K g * rise / 2 ^ 23) (line_exponent A K saturation)) * 2 ^ 4 +
    (m1 + g * rise / 2 ^ 40 - (saturation + 1))

-- how far B(m1) can be above `loss`: for a written load, and for one that is found from the mileage
abbrev pub written_error : ℕ
written_error = 93010

abbrev pub driven_error : ℕ
driven_error = 192570

-- B(m1 + v) − B(m1), from below, where B(m1) can be that far above
unfoldable pub break_units : ℕ → ℕ → ℕ → ℕ → ℕ → ℕ → ℕ → ℕ
break_units A K saturation error m1 g rise = risen_loss A K saturation m1 g rise - (loss A K m1 + error)
