-- What each participant holds, row by row: no one holds more than the limit, and all rows together are the eight holdings.
-- Assumes nothing.
use mathlib.Core.Bool.{Bool, true, false}
use mathlib.Core.List.{List}
use mathlib.Core.Path.{◌≡◌, refl}
use Prim.Native.Nat.{ℕ, suc, zero, ◌+◌, ◌*◌, ◌≤◌, ◌<◌}
use native.Mathlib.Decide.{dec_le}
use native.Mathlib.Numerals.{add-one}
use native.Mathlib.Omega.{arith}
use borrow.Author.Tests.{lt-ltb, le-ltb, eqb-true}
use lib.Dec.{eqb}
use Rattle.numbers.specs.Lists.{at, sum}
use Rattle.refusals.specs.Check.{Pass}
use Rattle.sheet.specs.Bytes.{rows_of, row_at}
use Rattle.sheet.specs.RunningSums.{vehicles_before}
use Rattle.report_words.specs.Categories.{counted}
use Rattle.shared_ledger.specs.Opening.{vehicles_each, participants, vehicles_held, shared_check}
use Rattle.shared_ledger.specs.Calls.{owner_of}
use Rattle.shared_ledger.proofs.Conditions.{shared-share}

-- the owner of a row that is there, and of one that is not
pub owner-there : (s owners : List ℕ) (i : ℕ) → i < rows_of s → owner_of s owners i ≡ at owners i
unfolding owner_of
owner-there s owners i h = rw (owner_of, lt-ltb i (rows_of s) h) refl

pub owner-absent : (s owners : List ℕ) (i : ℕ) → rows_of s ≤ i → owner_of s owners i ≡ 0
unfolding owner_of
owner-absent s owners i h = rw (owner_of, le-ltb i (rows_of s) h) refl

-- a row that someone owns is there
pub owned-there : (s owners : List ℕ) (who i : ℕ) → 0 < who → eqb (owner_of s owners i) who ≡ true → i < rows_of s
owned-there s owners who i some h =
    elim (dec_le (suc i) (rows_of s)) [
      | yes l ↦ l
      | no g ↦ absurd (omega (arith, eqb-true (owner_of s owners i) who h, owner-absent s owners i (omega arith)))
    ]

-- one row more
held_none : (s owners : List ℕ) (who : ℕ) → vehicles_held s owners who 0 ≡ 0
unfolding vehicles_held sum
held_none s owners who = refl

held_more : (s owners : List ℕ) (who n : ℕ)
    → vehicles_held s owners who (suc n) ≡ vehicles_held s owners who n + counted (eqb (at owners n) who) (row_at s n).vehicles
unfolding vehicles_held sum
held_more s owners who n = refl

-- more rows have no fewer
pub held-upto : (s owners : List ℕ) (who n m : ℕ) → n ≤ m → vehicles_held s owners who n ≤ vehicles_held s owners who m
held-upto s owners who n zero h = let none : n ≡ 0 = omega arith in rw none (omega arith)
held-upto s owners who n (suc m) h =
    elim (dec_le n m) [
      | yes l ↦ omega (arith, held-upto s owners who n m l, held_more s owners who m)
      | no l ↦ let all : n ≡ suc m = omega arith in rw all (omega arith)
    ]

-- a row's count is its owner's
one-of-eight : (o v : ℕ) → 1 ≤ o → o ≤ participants
    → v ≤ counted (eqb o 1) v + counted (eqb o 2) v + counted (eqb o 3) v + counted (eqb o 4) v + counted (eqb o 5) v +
    counted (eqb o 6) v + counted (eqb o 7) v + counted (eqb o 8) v
unfolding counted
one-of-eight zero v h l = absurd (omega arith)
one-of-eight (suc zero) v h l = omega arith
one-of-eight (suc (suc zero)) v h l = omega arith
one-of-eight (suc (suc (suc zero))) v h l = omega arith
one-of-eight (suc (suc (suc (suc zero)))) v h l = omega arith
one-of-eight (suc (suc (suc (suc (suc zero))))) v h l = omega arith
one-of-eight (suc (suc (suc (suc (suc (suc zero)))))) v h l = omega arith
one-of-eight (suc (suc (suc (suc (suc (suc (suc zero))))))) v h l = omega arith
one-of-eight (suc (suc (suc (suc (suc (suc (suc (suc zero)))))))) v h l = omega arith
one-of-eight (suc (suc (suc (suc (suc (suc (suc (suc (suc o))))))))) v h l = absurd (omega arith)

-- A ledger that opens.
module _ (s owners : List ℕ) (room : ℕ) (h : shared_check s owners room ≡ Pass) where
  -- "Every participant has at most .. 10,000,000 vehicles", over any number of rows
  pub held-most : (who n : ℕ) → n ≤ rows_of s → vehicles_held s owners who n ≤ vehicles_each
  unfolding counted
  held-most who zero l = rw (held_none s owners who) (omega arith)
  held-most who (suc n) l = go (eqb (at owners n) who) refl (held-most who n (omega arith))
    where
      own : vehicles_held s owners (at owners n) (suc n) ≤ vehicles_each
      own = rw add-one at (shared-share s owners room h n l).vehicles-most

      go : (b : Bool) → eqb (at owners n) who ≡ b → vehicles_held s owners who n ≤ vehicles_each → vehicles_held s owners who (suc n) ≤ vehicles_each
      go true e rest = let q : at owners n ≡ who = eqb-true (at owners n) who e in rw (← q) own
      go false e rest = rw (held_more s owners who n, e) (omega (arith, rest))

  abbrev of : ℕ → ℕ → ℕ
  of who n = vehicles_held s owners who n

  together : (n : ℕ) → n ≤ rows_of s → vehicles_before s n ≤ of 1 n + of 2 n + of 3 n + of 4 n + of 5 n + of 6 n + of 7 n + of 8 n
  unfolding vehicles_before
  together zero l = omega arith
  together (suc n) l =
      let share = shared-share s owners room h n l in
      let more = held_more s owners in
      omega (
        arith,
        together n (omega arith),
        one-of-eight (at owners n) (row_at s n).vehicles share.owner-least share.owner-most,
        more 1 n,
        more 2 n,
        more 3 n,
        more 4 n,
        more 5 n,
        more 6 n,
        more 7 n,
        more 8 n,
      )

  -- so all rows have at most 80,000,000
  pub fleet-held : vehicles_before s (rows_of s) ≤ 8 * vehicles_each
  fleet-held =
      let all : rows_of s ≤ rows_of s = omega arith in
      omega (
        arith,
        together (rows_of s) all,
        held-most 1 (rows_of s) all,
        held-most 2 (rows_of s) all,
        held-most 3 (rows_of s) all,
        held-most 4 (rows_of s) all,
        held-most 5 (rows_of s) all,
        held-most 6 (rows_of s) all,
        held-most 7 (rows_of s) all,
        held-most 8 (rows_of s) all,
      )
