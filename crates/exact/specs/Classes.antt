-- The class and technology table of document 01, after Table 3-11. Definitions only.
use Rattle.std.specs.Prelude.{List, [], ◌∷◌, Option, Some, None, ℕ, suc, zero, ◌*◌}
use Rattle.exact.specs.declared.Canister.{Canister}
use Rattle.exact.specs.declared.Canister.TheVariants.{Small, Medium, Large}
use Rattle.exact.specs.declared.Fitted.{Fitted}

-- a class's tank in litres, and its canister for each technology from 0 on; a technology beyond the list is absent
pub record Class : Type 0 where
  pub litres : ℕ
  pub canisters : List (Option Canister)

-- "classes 1, 2, 4 none at 0, small at 1 and 2, medium at 3 to 5"
unfoldable pub small_first : ℕ → Class
small_first l = record {
  litres = l;
  canisters = None ∷ Some Small ∷ Some Small ∷ Some Medium ∷ Some Medium ∷ Some Medium ∷ [];
}

-- "class 3 none, medium, large likewise"
unfoldable pub medium_first : ℕ → Class
medium_first l = record {
  litres = l;
  canisters = None ∷ Some Medium ∷ Some Medium ∷ Some Large ∷ Some Large ∷ Some Large ∷ [];
}

-- "classes 5 to 8 none at 0 to 3"
unfoldable pub without : ℕ → Class
without l = record { litres = l; canisters = None ∷ None ∷ None ∷ None ∷ [] }

-- "class 9 small at 0 to 2 .. class 9 Euro 3 is absent"
unfoldable pub always_small : ℕ → Class
always_small l = record { litres = l; canisters = Some Small ∷ Some Small ∷ Some Small ∷ [] }

-- "tank in litres: 1 car below 1.4 l, 50; 2 car 1.4 to 2.0 l, 60; 3 car above 2.0 l, 75; 4 light-duty, 60;
-- 5 moped, 5; 6 two-stroke, 8; 7 four-stroke below 250 cm³, 10; 8 up to 750, 18; 9 above, 20."
unfoldable pub classes : List Class
classes =
    small_first 50 ∷ small_first 60 ∷ medium_first 75 ∷ small_first 60 ∷
    without 5 ∷ without 8 ∷ without 10 ∷ without 18 ∷ always_small 20 ∷ []

-- a class and technology that are not in the table, and those that are, with their canister and their tank in tenths of a litre
abbrev pub absent : Option Fitted
absent = None

abbrev pub fitted_with : Option Canister → ℕ → Option Fitted
fitted_with c tank = Some (record { canister = c; tank = tank })

unfoldable pub at_technology : ℕ → List (Option Canister) → ℕ → Option Fitted
at_technology litres [] technology = absent
at_technology litres (c ∷ cs) zero = fitted_with c (10 * litres)
at_technology litres (c ∷ cs) (suc technology) = at_technology litres cs technology

unfoldable pub at_class : List Class → ℕ → ℕ → Option Fitted
at_class [] place technology = absent
at_class (k ∷ ks) zero technology = at_technology k.litres k.canisters technology
at_class (k ∷ ks) (suc place) technology = at_class ks place technology

-- the canister and the tank of a class, 1 to 9, and a technology, 0 to 5; "No other pair is in the table"
unfoldable pub equipment : ℕ → ℕ → Option Fitted
equipment zero technology = absent
equipment (suc place) technology = at_class classes place technology
