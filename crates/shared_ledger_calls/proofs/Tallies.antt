-- What each of nine has of the first n rows, as a list of holdings, and the tests of a row's share from it.
-- Assumes nothing.
use Rattle.std.proofs.Common.{Option, None, Some, MatchOption, Err, replicate}
use Rattle.std.specs.Option.{ok_or}
use Rattle.std.proofs.lemmas.Bool.{or_parts}
use mathlib.Core.Bool.{Bool, true, false, ◌||◌}
use mathlib.Core.List.{List}
use mathlib.Core.Path.{◌≡◌, refl, sym, ap, ◌∙◌}
use Prim.Native.Nat.{ℕ, suc, zero, ◌+◌, ◌*◌, ◌≤◌, ◌<◌}
use native.Mathlib.Decide.{ℕ_discrete}
use native.Mathlib.Omega.{arith}
use borrow.Author.Tests.{ltb-false, eq-eqb, ne_eqb}
use lib.Dec.{ltb, eqb}
use lib.ListN.{length, get_or, set, length-set}
use lib.Seq.{get_or-set_same, get_or-set_other}
use Rattle.numbers.specs.Lists.{at, sum}
use Rattle.numbers.proofs.Lists.{sum-le, sum_more}
use Rattle.refusals.specs.declared.Refusal.{Refusal}
use Rattle.refusals.specs.declared.Rule.TheVariants as rule
use Rattle.refusals.specs.Check.{Pass, Refused, refuse}
use Rattle.sheet.specs.Bytes.{row_place, row_at}
use Rattle.sheet.specs.Sheet.{outside}
use Rattle.report_words.specs.Categories.{counted}
use Rattle.shared_ledger_calls.specs.declared.opening.Holding.{Holding}
use Rattle.shared_ledger.specs.Opening.{participants, rows_each, vehicles_each, rows_held, vehicles_held, share_wrong, share_check}

-- a row's share, by what its test says
pub share-refused : (s owners : List ℕ) (i : ℕ) {place : ℕ} → share_wrong s owners i ≡ true → place ≡ row_place s i
    → share_check s owners i ≡ Refused rule.Share place
unfolding share_check refuse
share-refused s owners i h e = rw (h, e) refl

pub share-passed : (s owners : List ℕ) (i : ℕ) → share_wrong s owners i ≡ false → share_check s owners i ≡ Pass
unfolding share_check refuse
share-passed s owners i h = rw h refl

-- the tests of a row's share, one after the other
pub share-unowned : (s owners : List ℕ) (i : ℕ) → outside 1 participants (at owners i) ≡ true → share_wrong s owners i ≡ true
unfolding share_wrong
share-unowned s owners i h = rw h refl

share-owned : (s owners : List ℕ) (i : ℕ) {who rows vehicles : ℕ} → who ≡ at owners i → outside 1 participants who ≡ false
    → rows ≡ rows_held owners who (i + 1) → vehicles ≡ vehicles_held s owners who (i + 1)
    → (ltb rows_each rows || ltb vehicles_each vehicles) ≡ share_wrong s owners i
unfolding share_wrong
share-owned s owners i e h f g = let q : outside 1 participants (at owners i) ≡ false = rw (← e) h in rw (f, g, e, q) refl

-- an owner is one of the eight
pub owned-range : (who : ℕ) → outside 1 participants who ≡ false → who < 9
unfolding outside
owned-range who h = omega (arith, ltb-false participants who (or_parts (ltb who 1) (ltb participants who) h).1)

-- the refusal that is given for a row of no owner
pub owner-none : (o : Option ℕ) (refusal : Refusal) {e : Refusal} → ok_or o refusal ≡ Err e → (o ≡ None) × (e ≡ refusal)
owner-none None refusal h = (refl, cc)
owner-none (Some who) refusal h = let z : ◌≡◌ {A = ℕ} 0 1 = cc in absurd (omega arith)

-- where no one is named, no participant is
pub no-owner : (who : ℕ) → who ≡ 0 → outside 1 participants who ≡ true
unfolding outside
no-owner who e = rw e refl

-- an owner's number, which is 0 where there is none, is a participant's or not
pub is-theirs : (owner : Option ℕ) (mine : Bool) (x who : ℕ) → MatchOption owner (x ≡ 0) (λ n. n ≡ x)
    → MatchOption owner (mine ≡ false) (λ n. mine ≡ eqb n who) → 0 < who → mine ≡ eqb x who
is-theirs None mine x who none other some = other ∙ sym (ne_eqb x who (λ e. omega arith))
is-theirs (Some n) mine x who same is some = is ∙ ap (λ (k : ℕ). eqb k who) same

-- one row more is its owner's,
pub held-theirs : (s owners : List ℕ) (who n : ℕ) {held v : ℕ} → eqb (at owners n) who ≡ true → held ≡ vehicles_held s owners who n
    → v ≡ (row_at s n).vehicles → held + v ≡ vehicles_held s owners who (n + 1)
unfolding vehicles_held counted
held-theirs s owners who n mine e f = sum_more _ n e (rw mine f)

-- and no one else's
pub held-others : (s owners : List ℕ) (who n : ℕ) {held : ℕ} → eqb (at owners n) who ≡ false → held ≡ vehicles_held s owners who n
    → held ≡ vehicles_held s owners who (n + 1)
unfolding vehicles_held counted
held-others s owners who n {held} other e =
    let more : held + 0 ≡ vehicles_held s owners who (n + 1) = sum_more _ n e (rw other refl) in
    omega arith

-- the same of the rows
rows-theirs : (owners : List ℕ) (who n : ℕ) {held : ℕ} → eqb (at owners n) who ≡ true → held ≡ rows_held owners who n
    → held + 1 ≡ rows_held owners who (n + 1)
unfolding rows_held counted
rows-theirs owners who n mine e = sum_more _ n e (rw mine refl)

rows-others : (owners : List ℕ) (who n : ℕ) {held : ℕ} → eqb (at owners n) who ≡ false → held ≡ rows_held owners who n
    → held ≡ rows_held owners who (n + 1)
unfolding rows_held counted
rows-others owners who n {held} other e =
    let more : held + 0 ≡ rows_held owners who (n + 1) = sum_more _ n e (rw other refl) in
    omega arith

-- a holding of nothing, and the holding of one of nine in a list of them
abbrev pub nothing : Holding
nothing = record { rows = 0; vehicles = 0 }

abbrev pub holding_at : List Holding → ℕ → Holding
holding_at holdings who = get_or holdings who nothing

-- What each of nine has of the first n rows.
pub record Holdings (s owners : List ℕ) (n : ℕ) (holdings : List Holding) : Type 0 where
  pub nine : length holdings ≡ 9
  pub rows : (who : ℕ) → who < 9 → (holding_at holdings who).rows ≡ rows_held owners who n
  pub vehicles : (who : ℕ) → who < 9 → (holding_at holdings who).vehicles ≡ vehicles_held s owners who n

-- of no row
nothing-at : (n k : ℕ) {h : Holding} → (h.rows ≡ 0) × (h.vehicles ≡ 0)
    → ((holding_at (replicate n h) k).rows ≡ 0) × ((holding_at (replicate n h) k).vehicles ≡ 0)
nothing-at zero k e = (refl, refl)
nothing-at (suc n) zero e = e
nothing-at (suc n) (suc k) e = nothing-at n k e

pub holdings_none : (s owners : List ℕ) {h : Holding} → (h.rows ≡ 0) × (h.vehicles ≡ 0) → Holdings s owners 0 (replicate 9 h)
unfolding rows_held vehicles_held sum
holdings_none s owners e = record {
  nine = refl;
  rows = λ who l. (nothing-at 9 who e).0;
  vehicles = λ who l. (nothing-at 9 who e).1;
}

-- Row n is its owner's, who then has one row more.
module _ (s owners : List ℕ) (n : ℕ) {holdings : List Holding} {who : ℕ} (before : Holdings s owners n holdings) (own : who ≡ at owners n)
    (range : who < 9) where
  mine : eqb (at owners n) who ≡ true
  mine = eq-eqb (at owners n) who (sym own)

  -- they have so many,
  rows-with : {more : ℕ} → more ≡ (holding_at holdings who).rows + 1 → more ≡ rows_held owners who (n + 1)
  rows-with e = e ∙ rows-theirs owners who n mine (before.rows who range)

  vehicles-with : {more v : ℕ} → more ≡ (holding_at holdings who).vehicles + v → v ≡ (row_at s n).vehicles
      → more ≡ vehicles_held s owners who (n + 1)
  vehicles-with e row = e ∙ held-theirs s owners who n mine (before.vehicles who range) row

  -- and all others have what they had
  not-mine : (j : ℕ) → ¬ (j ≡ who) → eqb (at owners n) j ≡ false
  not-mine j q = ne_eqb (at owners n) j (λ e. q (sym e ∙ sym own))

  pub holdings_more : {next : Holding} → next.rows ≡ rows_held owners who (n + 1) → next.vehicles ≡ vehicles_held s owners who (n + 1)
      → Holdings s owners (n + 1) (set holdings who next)
  holdings_more {next} e f = record {
    nine = length-set holdings who next ∙ before.nine;
    rows = λ j l.
        elim (ℕ_discrete j who) [
          | yes q ↦ rw (q, get_or-set_same holdings who next nothing (omega (arith, before.nine))) e
          | no q ↦ rw (get_or-set_other holdings who j next nothing q) (rows-others owners j n (not-mine j q) (before.rows j l))
        ];
    vehicles = λ j l.
        elim (ℕ_discrete j who) [
          | yes q ↦ rw (q, get_or-set_same holdings who next nothing (omega (arith, before.nine))) f
          | no q ↦ rw (get_or-set_other holdings who j next nothing q) (held-others s owners j n (not-mine j q) (before.vehicles j l))
        ];
  }

-- An owner with one row more: what they have, and whether it is too much.
pub record WithRow (s owners : List ℕ) (n who : ℕ) (next : Holding) : Type 0 where
  pub rows : next.rows ≡ rows_held owners who (n + 1)
  pub vehicles : next.vehicles ≡ vehicles_held s owners who (n + 1)
  pub wrong : {past : Bool} → past ≡ (ltb rows_each next.rows || ltb vehicles_each next.vehicles) → past ≡ share_wrong s owners n

pub with-row : (s owners : List ℕ) (n : ℕ) {holdings : List Holding} {who v : ℕ} {next : Holding} → Holdings s owners n holdings
    → (who ≡ at owners n) × (outside 1 participants who ≡ false)
    → (next.rows ≡ (holding_at holdings who).rows + 1) × (next.vehicles ≡ (holding_at holdings who).vehicles + v)
    → v ≡ (row_at s n).vehicles → WithRow s owners n who next
with-row s owners n {next = next} before (own, owned) (rows, vehicles) row =
    let range = owned-range _ owned in
    let so_many : next.rows ≡ rows_held owners _ (n + 1) = rows-with s owners n before own range rows in
    let of_these : next.vehicles ≡ vehicles_held s owners _ (n + 1) = vehicles-with s owners n before own range vehicles row in
    record { rows = so_many; vehicles = of_these; wrong = λ e. e ∙ share-owned s owners n own owned so_many of_these }

-- No one has more than all rows.
counted-most : (b : Bool) (v : ℕ) → counted b v ≤ v
unfolding counted
counted-most true v = omega arith
counted-most false v = omega arith

pub rows-size : (owners : List ℕ) (who n : ℕ) → rows_held owners who n ≤ n * 1
unfolding rows_held
rows-size owners who n = sum-le _ 1 n (λ k l. counted-most (eqb (at owners k) who) 1)

pub held-size : (s owners : List ℕ) (who n B : ℕ) → ((i : ℕ) → i < n → (row_at s i).vehicles ≤ B) → vehicles_held s owners who n ≤ n * B
unfolding vehicles_held
held-size s owners who n B h =
    sum-le _ B n (λ k l. omega (arith, counted-most (eqb (at owners k) who) (row_at s k).vehicles, h k l))
