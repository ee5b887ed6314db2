-- Table 3-14 of the guidebook, "Composition of NMVOC in evaporative emissions". Definitions only.
use Rattle.std.specs.Prelude.{List, [], ◌∷◌, ◌++◌, map, ℕ}
use Prim.Native.String.{String}

-- a species: its name as the table has it, with `-` for a space, and its share in hundredths of a percent
pub record Species : Type 0 where
  pub name : String
  pub share : ℕ

infix 6 ◌has◌
abbrev ◌has◌ : String → ℕ → Species
name has share = record { name = name; share = share }

-- "the species in printed order", by group
unfoldable pub alkanes : List Species
alkanes =
    ("ethane" has 30) ∷
    ("propane" has 515) ∷
    ("i-butane" has 438) ∷
    ("n-butane" has 586) ∷
    ("i-pentane" has 1069) ∷
    ("n-pentane" has 772) ∷
    ("2-methylpentane" has 1402) ∷
    ("3-methylpentane" has 2514) ∷
    ("n-hexane" has 202) ∷
    ("n-heptane" has 165) ∷
    []

unfoldable pub alkenes : List Species
alkenes =
    ("ethene" has 5) ∷
    ("propene" has 28) ∷
    ("1-butene" has 72) ∷
    ("trans-2-butene" has 119) ∷
    ("isobutene" has 12) ∷
    ("cis-2-butene" has 105) ∷
    ("1,3-butadiene" has 0) ∷
    ("trans-2-pentene" has 160) ∷
    ("cis-2-pentene" has 75) ∷
    ("isoprene" has 0) ∷
    []

unfoldable pub alkines : List Species
alkines =
    ("propyne" has 7) ∷
    ("acetylene" has 1) ∷
    []

unfoldable pub aromatics : List Species
aromatics =
    ("benzene" has 97) ∷
    ("toluene" has 394) ∷
    ("ethylbenzene" has 352) ∷
    ("m-xylene" has 579) ∷
    ("o-xylene" has 252) ∷
    ("1,2,4-trimethylbenzene" has 50) ∷
    ("1,3,5-trimethylbenzene" has 0) ∷
    []

unfoldable pub table : List Species
table = alkanes ++ alkenes ++ alkines ++ aromatics

-- its two columns
unfoldable pub names : List String
names = map (λ (s : Species). s.name) table

unfoldable pub shares : List ℕ
shares = map (λ (s : Species). s.share) table
