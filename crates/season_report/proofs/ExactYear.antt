-- The exact mass of the year is the sum of the exact masses of its seasons.
use mathlib.Core.List.{List}
use mathlib.Core.Path.{◌≡◌}
use Prim.Native.Nat.{ℕ, suc, zero, ◌+◌}
use native.Mathlib.Omega.{arith}
use Rattle.numbers.specs.Fraction.{◌≈ᶠ◌, ◌+ᶠ◌}
use Rattle.numbers.proofs.Order.{≈-refl, ≈-sym, ≈-trans, +-cong, +_comm, +_assoc, +-zero}
use Rattle.exact.specs.Masses.{Mechanism, mass}
use Rattle.sheet.specs.Bytes.{seasons_of, cells_of, seasons_from, season_list, row_at}
use Rattle.season_report.specs.Year.{seasons_mass, YearTheorem}

-- the first j seasons and k more
mass-from : (n : ℕ) (s : List ℕ) (i : ℕ) (mechanism : Mechanism) (j k t : ℕ) → j + k ≡ t
    → seasons_mass n s i mechanism j +ᶠ mass n (cells_of s) (seasons_from s j k) (row_at s i) mechanism ≈ᶠ seasons_mass n s i mechanism t
unfolding seasons_from mass seasons_mass
mass-from n s i mechanism j zero t e = let here : j ≡ t = omega arith in rw here (+-zero _)
mass-from n s i mechanism j (suc k) t e =
    ≈-trans (≈-sym (+_assoc _ _ _))
    (≈-trans (+-cong (+-cong (≈-refl _) (≈-sym (+-zero _))) (≈-refl _)) (mass-from n s i mechanism (suc j) k t (omega arith)))

pub year-is-seasons : YearTheorem
unfolding season_list seasons_mass
year-is-seasons n s i mechanism =
    ≈-trans (≈-sym (≈-trans (+_comm _ _) (+-zero _))) (mass-from n s i mechanism 0 (seasons_of s) (seasons_of s) (omega arith))
