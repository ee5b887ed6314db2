-- How a mass is split among the species of Table 3-14. Definitions only.
use Rattle.std.specs.Prelude.{List, ◌≡◌, ℕ, ◌+◌, ◌*◌, ◌-◌, ◌/◌, ◌≤◌, ◌<◌}
use Rattle.numbers.specs.Lists.{tab, sum, at}
use Rattle.speciation.specs.Table.{shares}

-- "Its printed shares sum to 10,001 hundredths of a percent, so a share is out of 10,001."
abbrev pub all_shares : ℕ
all_shares = 10001

-- the share of a species, counted from 0
abbrev pub share_at : ℕ → ℕ
share_at i = at shares i

-- "C(i) the sum of the first i shares"
abbrev pub cumulated : ℕ → ℕ
cumulated i = sum share_at i

-- "the whole part of T·C(i)/10,001"
abbrev pub part_of : ℕ → ℕ → ℕ
part_of T c = T * c / all_shares

-- "species i gets the whole part of T·C(i)/10,001 less that of T·C(i−1)/10,001", i counted from 1 there and from 0 here
unfoldable pub species_mass : ℕ → ℕ → ℕ
species_mass T i = part_of T (cumulated (i + 1)) - part_of T (cumulated i)

-- of all 29 species
unfoldable pub species_masses : ℕ → List ℕ
species_masses T = tab (species_mass T) 29

-- "The species add up to T exactly, none is further than one milligram from its exact share, and a species with share 0 gets nothing."
-- The exact share is T·share/10,001; it is compared crosswise, both sides times 10,001.
pub record SpeciesPromise (T : ℕ) (masses : List ℕ) : Type 0 where
  pub adds-up : sum (at masses) 29 ≡ T
  pub not-above : (i : ℕ) → i < 29 → all_shares * at masses i ≤ T * share_at i + all_shares
  pub not-below : (i : ℕ) → i < 29 → T * share_at i ≤ all_shares * at masses i + all_shares
  pub nothing : (i : ℕ) → i < 29 → share_at i ≡ 0 → at masses i ≡ 0
