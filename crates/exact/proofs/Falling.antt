-- "Rows with a canister are left out, since pressure lowers a and b": so it does, and the order does not hold for them. A motorcycle's
-- soak, computed for n = 3, falls from 60 to 90 kPa.
-- Assumes nothing.
use mathlib.Core.Bool.{not}
use Rattle.std.proofs.Common.{Some}
use mathlib.Core.List.{List, [], ◌∷◌}
use Prim.Native.Nat.{ℕ}
use lib.Dec.{T}
use Rattle.numbers.specs.Fraction.{Fraction, ◌≤ᶠ◌, ◌≤?◌}
use Rattle.numbers.proofs.Order.{≤-refl, fails, decimal-NonNegative, +-mono, sub-mono, *-mono-right}
use Rattle.exact.specs.declared.Canister.TheVariants.{Small}
use Rattle.exact.specs.declared.Season.{Season}
use Rattle.exact.specs.declared.Row.{Row}
use Rattle.exact.specs.Canister.{a, b}
use Rattle.exact.specs.Factors.{F2, factor}
use Rattle.exact.proofs.Volatile.{at_pressure}
use Rattle.exact.proofs.Open.{definitions}

pub a-falls : {p q : Fraction} (T : Fraction) → p ≤ᶠ q → a q T ≤ᶠ a p T
unfolding a
a-falls T l = +-mono (sub-mono (≤-refl _) (*-mono-right (decimal-NonNegative 15 3) l)) (≤-refl _)

pub b-falls : {p q : Fraction} (T : Fraction) → p ≤ᶠ q → b q T ≤ᶠ b p T
unfolding b
b-falls T l = +-mono (sub-mono (≤-refl _) (*-mono-right (decimal-NonNegative 15 5) l)) (≤-refl _)

-- half an hour at 20 °C, 60 kPa
abbrev season : Season
season = record { days = 1; lowest = 200; highest = 200; vp = 600 }

abbrev counts : List ℕ
counts = 1 ∷ []

-- 60 g in a small canister that holds 62 g
abbrev motorcycle : Row
motorcycle = record {
  class = 9;
  canister = Some Small;
  carburettor = 0;
  hot = 0;
  fill = 40;
  tank = 200;
  vehicles = 1;
  trips = 100;
  minutes = 0;
  load = 600;
  saturation = 620;
  mileage = 0;
}

falls : T (not (factor 3 counts season motorcycle F2 ≤? factor 3 counts (at_pressure season 900) motorcycle F2))
unfolding definitions
falls = tt

pub not-with-a-canister : ¬ (factor 3 counts season motorcycle F2 ≤ᶠ factor 3 counts (at_pressure season 900) motorcycle F2)
not-with-a-canister = fails falls
