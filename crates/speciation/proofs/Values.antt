-- Masses of the species, computed. Those of 1,000 mg are held against tools/reckoning/species.py.
-- Assumes nothing.
use mathlib.Core.List.{[], ◌∷◌}
use mathlib.Core.Path.{◌≡◌, refl}
use Rattle.numbers.specs.Lists.{tab, sum}
use Rattle.speciation.specs.Table.{alkanes, alkenes, alkines, aromatics, table, shares}
use Rattle.speciation.specs.Split.{species_mass, species_masses}

-- of 10,001 each has as many as its share is hundredths of a percent: the printed column
pub of-all-shares : species_masses 10001
    ≡ 30 ∷ 515 ∷ 438 ∷ 586 ∷ 1069 ∷ 772 ∷ 1402 ∷ 2514 ∷ 202 ∷ 165 ∷
    5 ∷ 28 ∷ 72 ∷ 119 ∷ 12 ∷ 105 ∷ 0 ∷ 160 ∷ 75 ∷ 0 ∷
    7 ∷ 1 ∷
    97 ∷ 394 ∷ 352 ∷ 579 ∷ 252 ∷ 50 ∷ 0 ∷ []
unfolding species_masses species_mass tab sum shares table alkanes alkenes alkines aromatics
of-all-shares = refl

-- each cut by itself would lack 14 of these
pub of-a-gram : species_masses 1000
    ≡ 2 ∷ 52 ∷ 44 ∷ 58 ∷ 107 ∷ 77 ∷ 141 ∷ 251 ∷ 20 ∷ 17 ∷
    0 ∷ 3 ∷ 7 ∷ 12 ∷ 1 ∷ 11 ∷ 0 ∷ 16 ∷ 7 ∷ 0 ∷
    1 ∷ 0 ∷
    10 ∷ 39 ∷ 35 ∷ 58 ∷ 26 ∷ 5 ∷ 0 ∷ []
unfolding species_masses species_mass tab sum shares table alkanes alkenes alkines aromatics
of-a-gram = refl
