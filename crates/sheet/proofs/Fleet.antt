-- The vehicles of the first rows, and how many they are at most in each version.
-- Assumes nothing.
use mathlib.Core.List.{List}
use mathlib.Core.Path.{◌≡◌, refl}
use Prim.Native.Nat.{ℕ, suc, zero, ◌+◌, ◌*◌, ◌≤◌}
use native.Mathlib.Decide.{dec_le}
use native.Mathlib.Nat.{mul-le-mul_right}
use native.Mathlib.Numerals.{add-one}
use native.Mathlib.Omega.{arith}
use borrow.Author.Tests.{lt-leb}
use Rattle.sheet.specs.Limits.{rows_limit, vehicles_limit}
use Rattle.sheet.specs.Versions.{version_of}
use Rattle.sheet.specs.Bytes.{rows_of, row_at}
use Rattle.sheet.specs.RunningSums.{vehicles_before}
use Rattle.sheet.proofs.Versions.{most-few}
use Rattle.sheet.proofs.Accepted.{Accepted}

-- none before the first row,
pub vehicles-none : (s : List ℕ) → 0 ≡ vehicles_before s 0
unfolding vehicles_before
vehicles-none s = refl

-- and those of a row more
pub vehicles-more : (s : List ℕ) (i : ℕ) {before vehicles : ℕ} → before ≡ vehicles_before s i → vehicles ≡ (row_at s i).vehicles
    → before + vehicles ≡ vehicles_before s (i + 1)
unfolding vehicles_before
vehicles-more s i e f = rw (add-one, e, f)

-- more rows have no fewer. What std has of sums is of lists, and this one is by the row's number.
pub vehicles-rise : (s : List ℕ) (m n : ℕ) → m ≤ n → vehicles_before s m ≤ vehicles_before s n
unfolding vehicles_before
vehicles-rise s m zero h = let none : m ≡ 0 = omega arith in rw none (omega arith)
vehicles-rise s m (suc n) h =
    elim (dec_le m n) [
      | yes l ↦ omega (arith, vehicles-rise s m n l)
      | no l ↦ let all : m ≡ suc n = omega arith in rw all (omega arith)
    ]

module _ {s : List ℕ} (a : Accepted s) where
  -- each row has its limit,
  vehicles-each : (n : ℕ) → n ≤ rows_of s → vehicles_before s n ≤ n * vehicles_limit
  unfolding vehicles_before
  vehicles-each zero h = omega arith
  vehicles-each (suc n) h = omega (arith, vehicles-each n (omega arith), (a.row n h).vehicles-most)

  -- and from version 4 on so have all together: no fleet is larger than 32 rows may have
  pub vehicles-most : (n : ℕ) → n ≤ rows_of s → vehicles_before s n ≤ rows_limit * vehicles_limit
  vehicles-most n h =
      elim (dec_le 4 (version_of s)) [
        | yes many ↦ together n h many
        | no few ↦
            let rows : n ≤ rows_limit = omega (arith, a.rows-most, most-few s (lt-leb 4 (version_of s) (omega arith))) in
            omega (arith, vehicles-each n h, mul-le-mul_right vehicles_limit rows)
      ]
    where
      together : (n : ℕ) → n ≤ rows_of s → 4 ≤ version_of s → vehicles_before s n ≤ rows_limit * vehicles_limit
      together zero h many = omega (arith, vehicles-none s)
      together (suc n) h many = omega (arith, (a.row n h).fleet-most many)
