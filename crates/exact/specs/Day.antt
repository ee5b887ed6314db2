-- The temperatures of a day and the marks of a parking. Definitions only.
use Rattle.std.specs.Prelude.{ℕ, ◌+◌, ◌*◌, ◌-◌, ◌/◌, ◌%◌}
use Rattle.numbers.specs.Fraction.{Fraction, ◌+ᶠ◌, ◌-ᶠ◌, ◌*ᶠ◌, ◌/10^◌, ten-pos}
use Rattle.bounds.specs.Weights.{w}
use Rattle.exact.specs.declared.Season.{Season}

-- "i16 is two's complement", in tenths: 65535 is −0.1
unfoldable pub signed_tenths : ℕ → Fraction
signed_tenths k = record { up = k; down = 65536 * (k / 32768); den = 10; pos = ten-pos 1 }

-- "T(i) = lowest + (highest − lowest)·w(i)/10⁹, in °C. This T counts as exact."
unfoldable pub temperature : Season → ℕ → Fraction
temperature season i =
    let lowest = signed_tenths season.lowest in
    let highest = signed_tenths season.highest in
    lowest +ᶠ (highest -ᶠ lowest) *ᶠ w i /10^ 9

-- "Day marks 0 to 47 are half-hours; mark 48 is mark 0 of the next day."
-- "End hour t is mark 2t; a parking of d half-hours starts d marks earlier, round midnight." At d = 0 this is the end's mark.
unfoldable pub start_mark : ℕ → ℕ → ℕ
start_mark hour d = (2 * hour + 48 - d) % 48
