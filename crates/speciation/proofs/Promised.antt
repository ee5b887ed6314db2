-- The masses of the species keep what is promised of them, for every total.
-- Assumes nothing.
use mathlib.Core.List.{List}
use mathlib.Core.Path.{◌≡◌, refl, sym, ◌∙◌}
use Prim.Native.Nat.{ℕ, ◌+◌, ◌*◌, ◌-◌, ◌≤◌, ◌<◌}
use native.Mathlib.Numerals.{add-one}
use native.Mathlib.Nat.{mul-add, mul-le-mul_left, mul-div_cancel}
use native.Mathlib.Omega.{arith}
use Rattle.numbers.specs.Lists.{sum, at}
use Rattle.numbers.proofs.Lists.{get_d-tab, sum-ext}
use Rattle.speciation.specs.Table.{alkanes, alkenes, alkines, aromatics, table, shares}
use Rattle.speciation.specs.Split.{all_shares, share_at, cumulated, part_of, species_mass, species_masses, SpeciesPromise}
use Rattle.speciation.proofs.Telescope.{telescope}
use Rattle.speciation.proofs.Computed.{alike}

-- "Its printed shares sum to 10,001 hundredths of a percent": computed
pub all-shares : cumulated 29 ≡ all_shares
unfolding sum shares table alkanes alkenes alkines aromatics
all-shares = refl

pub cumulated-more : (i : ℕ) → cumulated (i + 1) ≡ cumulated i + share_at i
unfolding sum
cumulated-more i = rw add-one refl

computed : (i : ℕ) → i < 30 → cumulated i + (all_shares - cumulated i) ≡ all_shares
unfolding sum shares table alkanes alkenes alkines aromatics
computed = alike (λ i. cumulated i + (all_shares - cumulated i)) (λ i. all_shares) 30 refl

cumulated-most : (i : ℕ) → i ≤ 29 → cumulated i ≤ all_shares
cumulated-most i h = omega (arith, computed i (omega arith))

-- a larger part is no smaller
part-mono : (T c d : ℕ) → c ≤ d → part_of T c ≤ part_of T d
part-mono T c d h = let l = mul-le-mul_left T h in omega arith

-- no share is no part
part_none : (T : ℕ) → part_of T (cumulated 0) ≡ 0
unfolding sum
part_none T = omega arith

module _ (T : ℕ) where
  -- T·C(i + 1) = T·C(i) + T·share
  step : (i : ℕ) → T * cumulated (i + 1) ≡ T * cumulated i + T * share_at i
  step i = rw (cumulated-more i) (mul-add T (cumulated i) (share_at i))

  -- "The species add up to T exactly"
  adds-up : sum (species_mass T) 29 ≡ T
  unfolding species_mass
  adds-up =
      let t = telescope (λ (i : ℕ). part_of T (cumulated i)) 29 (λ i l. part-mono T _ _ (omega (arith, cumulated-more i))) in
      let all : part_of T (cumulated 29) ≡ T = rw all-shares (mul-div_cancel T (omega arith)) in
      omega (arith, t, all, part_none T)

  -- so none gets more than T
  pub mass-most : (i : ℕ) → i < 29 → species_mass T i ≤ T
  unfolding species_mass
  mass-most i h =
      let l = part-mono T (cumulated (i + 1)) all_shares (cumulated-most (i + 1) (omega arith)) in
      let all : part_of T all_shares ≡ T = mul-div_cancel T (omega arith) in
      omega (arith, l, all)

  -- "none is further than one milligram from its exact share"
  not-above : (i : ℕ) → all_shares * species_mass T i ≤ T * share_at i + all_shares
  unfolding species_mass
  not-above i = omega (arith, step i)

  not-below : (i : ℕ) → T * share_at i ≤ all_shares * species_mass T i + all_shares
  unfolding species_mass
  not-below i = omega (arith, step i)

  -- "a species with share 0 gets nothing"
  nothing : (i : ℕ) → share_at i ≡ 0 → species_mass T i ≡ 0
  unfolding species_mass
  nothing i e = let same : cumulated (i + 1) ≡ cumulated i = omega (arith, cumulated-more i) in rw same (omega arith)

  in_place : (i : ℕ) → i < 29 → at (species_masses T) i ≡ species_mass T i
  unfolding species_masses
  in_place i h = get_d-tab (species_mass T) 29 i h

  pub promised : SpeciesPromise T (species_masses T)
  promised = record {
    adds-up = sum-ext 29 in_place ∙ adds-up;
    not-above = λ i h. rw (in_place i h) (not-above i);
    not-below = λ i h. rw (in_place i h) (not-below i);
    nothing = λ i h e. in_place i h ∙ nothing i e;
  }

-- What the loop keeps: `before` is the sum of the first i shares, which it reads from the table's column.
pub record Reached (i before : ℕ) (column : List ℕ) : Type 0 where
  pub sum_is : before ≡ cumulated i
  pub column-is : column ≡ shares

-- One species more.
module _ {i before : ℕ} {column : List ℕ} (a : Reached i before column) where
  next-sum : before + at column i ≡ cumulated (i + 1)
  next-sum = rw (a.sum_is, a.column-is) (sym (cumulated-more i))

  pub next_fits : i < 29 → before + at column i ≤ all_shares
  next_fits h = rw next-sum (cumulated-most (i + 1) (omega arith))

  pub next-mass : (T : ℕ) {mass : ℕ} → mass ≡ part_of T (before + at column i) - part_of T before → mass ≡ species_mass T i
  unfolding species_mass
  next-mass T g = g ∙ rw (next-sum, a.sum_is)

  pub next-reached : Reached (i + 1) (before + at column i) column
  next-reached = record { sum_is = next-sum; column-is = a.column-is }
