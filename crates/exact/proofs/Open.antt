-- Opens every definition of document 01, so that antt computes with them: `unfolding definitions`.
-- Assumes nothing.
use Prim.Native.Nat.{ℕ}
use Rattle.numbers.specs.Fraction.{◌≤?◌, ◌+ᶠ◌, negᶠ, ◌-ᶠ◌, ◌*ᶠ◌, whole, ◌^ᶠ◌, ◌/10^◌, ◌over◌, inverse, ◌times◌, ratio}
use Rattle.bounds.specs.Series.{factorial, term, S, E, root_from, root, cut_root, power2_5}
use Rattle.exact.specs.Classes.{small_first, medium_first, without, always_small, classes, at_technology, at_class, equipment}
use Rattle.bounds.specs.Weights.{weights, weight_exponent}
use Rattle.exact.specs.Day.{signed_tenths, temperature, start_mark}
use Rattle.exact.specs.Vapour.{vapour, step_vapour, parking_vapour}
use Rattle.exact.specs.Permeation.{bracket, permeation, mark_rates, parking_permeation}
use Rattle.exact.specs.Canister.{a, b, curve, B, breakthrough, escape}
use Rattle.exact.specs.Mileage.{multiples, g, driven, reaches, first_of, starting_load}
use Rattle.exact.specs.Factors.{vp, row_vapour, row_load, row_escape, escape_over, open_vapour, hours, T1, T2}
use Rattle.exact.specs.Factors.{diurnal_factor, soak_permeation, running_permeation, car_factor, two_wheeler_factor}
use Rattle.exact.specs.Factors.{parking_factor, end_hour, duration, total, weighted_sum, mean, products, factor}
use Rattle.exact.specs.Masses.{blend, day_mass, mass}

unfoldable pub definitions : ℕ
unfolding ◌≤?◌ ◌+ᶠ◌ negᶠ ◌-ᶠ◌ ◌*ᶠ◌ whole ◌^ᶠ◌ ◌/10^◌ ◌over◌ inverse ◌times◌ factorial term S E root_from root cut_root
    power2_5 small_first medium_first without always_small classes at_technology at_class equipment signed_tenths weights
    weight_exponent temperature start_mark vapour step_vapour parking_vapour bracket permeation mark_rates parking_permeation
    a b curve B breakthrough escape ratio multiples g driven reaches first_of starting_load vp row_vapour row_load
    row_escape escape_over open_vapour hours T1 T2 diurnal_factor soak_permeation running_permeation car_factor
    two_wheeler_factor parking_factor end_hour duration total weighted_sum mean products factor blend day_mass mass
definitions = 0
