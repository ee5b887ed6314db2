-- What a participant is told by the calls on bytes and words depends on the seasons and parking, their own rows and their own calls alone.
-- Assumes nothing.
use Rattle.std.proofs.Common.{Ok, Err}
use mathlib.Core.Bool.{Bool, true, false, not, ◌&&◌}
use mathlib.Core.List.{List, [], ◌∷◌}
use mathlib.Core.Path.{◌≡◌, refl, sym, ap, ◌∙◌}
use Prim.Native.Nat.{ℕ, suc, zero, ◌+◌, ◌≤◌, ◌<◌}
use native.Mathlib.Decide.{ℕ_discrete}
use native.Mathlib.Omega.{arith}
use borrow.Author.Tests.{lt-ltb, eqb-true, eqb-false, eq-eqb, ne_eqb}
use lib.Dec.{ltb, eqb}
use lib.ListN.{length}
use Rattle.numbers.specs.Lists.{at, sum}
use Rattle.numbers.proofs.Lists.{sum-ext}
use Rattle.refusals.specs.declared.Rule.TheVariants as rule
use Rattle.refusals.specs.Check.{Check, Pass, Refused, refuse, ◌then◌}
use Rattle.sheet.specs.Bytes.{rows_of, row_at}
use Rattle.sheet.proofs.RowDemands.{with_vehicles}
use Rattle.report_words.specs.Report.{words_of}
use Rattle.report_words.specs.Categories.{counted}
use Rattle.ledger.specs.declared.Call.{Call}
use Rattle.ledger.specs.Machine.{row_of}
use Rattle.ledger.specs.Ledger.{Ledger, after, opened}
use Rattle.shared_ledger.specs.Opening.{vehicles_held}
use Rattle.shared_ledger.specs.Calls.{owner_of, may_change, may_read, may_total, past_share, shared_change_check}
use Rattle.shared_ledger.specs.Calls.{shared_row_check, shared_totals_check, row_told, shared_row_answer}
use Rattle.shared_ledger.specs.Calls.{totals_told, shared_totals_answer}
use Rattle.shared_ledger.specs.Told.{Ask, change, read_row, read_totals, asker_of, of_change, of_row, of_totals, reply, leaves, after_ask, told}
use Rattle.shared_ledger.specs.Told.{made_by, SameTo, IsolationTheorem}
use Rattle.shared_ledger.proofs.Holdings.{owner-there, owner-absent, owned-there}
use Rattle.shared_ledger.proofs.Quiet.{wrong-is, past_row}
use Rattle.shared_ledger.proofs.Changed.{OneMoved, one-moved, change-passed}
use Rattle.shared_ledger.proofs.Kept.{SharedInv, fresh-shared, ask-kept, pass_on, row-shown}

-- nothing is added beyond the last row that counts
sum-beyond : (f : ℕ → ℕ) (n k : ℕ) → ((i : ℕ) → n ≤ i → f i ≡ 0) → sum f (n + k) ≡ sum f n
unfolding sum
sum-beyond f n zero h = ap (sum f) {x = n + 0} {y = n} (omega arith)
sum-beyond f n (suc k) h =
    let e : n + suc k ≡ suc (n + k) = omega arith in
    rw e (omega (arith, sum-beyond f n k h, h (n + k) (omega arith)))

-- A sheet with a count changed has the same owners.
moved-owner : {s t : List ℕ} {i v : ℕ} → OneMoved s t i v → (owners : List ℕ) (j : ℕ) → owner_of t owners j ≡ owner_of s owners j
unfolding owner_of
moved-owner m owners j = ap (λ (n : ℕ). elim (ltb j n) [ true ↦ at owners j | false ↦ 0 ]) m.rows_same

module _ (who : ℕ) (some : 0 < who) where
  -- what they hold, over the rows that are theirs
  abbrev theirs : List ℕ → List ℕ → ℕ → ℕ
  theirs s owners i = counted (eqb (owner_of s owners i) who) (row_at s i).vehicles

  held-theirs : (s owners : List ℕ) → vehicles_held s owners who (rows_of s) ≡ sum (theirs s owners) (rows_of s)
  unfolding vehicles_held
  held-theirs s owners = sum-ext (rows_of s) (λ k l. rw (owner-there s owners k l) refl)

  none-beyond : (s owners : List ℕ) (i : ℕ) → rows_of s ≤ i → theirs s owners i ≡ 0
  unfolding counted
  none-beyond s owners i h = rw (owner-absent s owners i h, ne_eqb 0 who (λ e. omega arith)) refl

  -- Two sheets that are the same to them.
  module _ {s owners t others : List ℕ} (same : SameTo who s owners t others) where
    theirs-same : (b : Bool) (i : ℕ) → eqb (owner_of s owners i) who ≡ b → theirs s owners i ≡ theirs t others i
    unfolding counted
    theirs-same true i h = rw (← same.owns-same i, h, same.rows_same i h) refl
    theirs-same false i h = rw (← same.owns-same i, h) refl

    held_same : vehicles_held s owners who (rows_of s) ≡ vehicles_held t others who (rows_of t)
    held_same =
        let turn : rows_of s + rows_of t ≡ rows_of t + rows_of s = omega arith in
        held-theirs s owners ∙
        sym (sum-beyond (theirs s owners) (rows_of s) (rows_of t) (none-beyond s owners)) ∙
        sum-ext {f = theirs s owners} {g = theirs t others} (rows_of s + rows_of t) (λ k l. theirs-same (eqb (owner_of s owners k) who) k refl) ∙
        ap (sum (theirs t others)) turn ∙
        sum-beyond (theirs t others) (rows_of t) (rows_of s) (none-beyond t others) ∙
        sym (held-theirs t others)

    -- a count moved alike in a row of theirs,
    moved_same : {s' t' : List ℕ} {i v : ℕ} → OneMoved s s' i v → OneMoved t t' i v
        → eqb (owner_of s owners i) who ≡ true → SameTo who s' owners t' others
    moved_same {s'} {t'} {i} {v} m n mine = record {
      parking-same = m.cells_same ∙ same.parking-same ∙ sym n.cells_same;
      seasons-same = m.seasons-same ∙ same.seasons-same ∙ sym n.seasons-same;
      owns-same = λ j. rw (moved-owner m owners j, moved-owner n others j) (same.owns-same j);
      rows_same = λ j h.
          elim (ℕ_discrete j i) [
            | yes e ↦ rw e (m.here ∙ ap (λ r. with_vehicles r v) (same.rows_same i mine) ∙ sym n.here)
            | no e ↦ m.elsewhere j e ∙ same.rows_same j (rw (moved-owner m owners j) at h) ∙ sym (n.elsewhere j e)
          ];
    }

    -- and one moved in a row that is not
    moved_apart : {s' : List ℕ} {i v : ℕ} → OneMoved s s' i v → ¬ (owner_of s owners i ≡ who) → SameTo who s' owners t others
    moved_apart {s'} {i} {v} m not-theirs = record {
      parking-same = m.cells_same ∙ same.parking-same;
      seasons-same = m.seasons-same ∙ same.seasons-same;
      owns-same = λ j. rw (moved-owner m owners j) (same.owns-same j);
      rows_same = λ j h.
          let mine : eqb (owner_of s owners j) who ≡ true = rw (moved-owner m owners j) at h in
          m.elsewhere j (λ e. not-theirs (rw e at (eqb-true (owner_of s owners j) who mine))) ∙ same.rows_same j mine;
    }

-- A call by one of them, on a ledger that opens.
module _ {s owners w : List ℕ} (x : Ledger) (good : SharedInv s owners w x) (who : ℕ) (some : 0 < who) where
  abbrev t : List ℕ
  t = x.sheet

  change-barred : (call : Call) → eqb (owner_of x.sheet owners (row_of call)) who ≡ false
      → shared_change_check x.sheet owners (length x.words) who call ≡ Refused rule.Right 0
  unfolding shared_change_check may_change refuse ◌then◌
  change-barred call h = pass_on s owners w x good _ ∙ go (ltb 0 who) (eqb (owner_of t owners (row_of call)) who) _ h
    where
      go : (a b : Bool) (d : Check) → b ≡ false → (refuse (not (a && b)) rule.Right 0 then d) ≡ Refused rule.Right 0
      go true b d e = rw e refl
      go false b d e = refl

  change-own : (call : Call) → eqb (owner_of x.sheet owners (row_of call)) who ≡ true
      → shared_change_check x.sheet owners (length x.words) who call ≡
      (refuse (past_row (row_at x.sheet (row_of call)).vehicles call) rule.Count 0 then
      refuse (past_share (vehicles_held x.sheet owners who (rows_of x.sheet)) call) rule.Share 0)
  unfolding shared_change_check may_change refuse ◌then◌
  change-own call h =
      let there = owned-there t owners who (row_of call) some h in
      pass_on s owners w x good _ ∙ rw (h, lt-ltb 0 who some, wrong-is t owners (length x.words) good.shared call there) refl

  row-barred : (i : ℕ) → eqb (owner_of x.sheet owners i) who ≡ false
      → shared_row_answer x.sheet owners x.words who i ≡ row_told (Refused rule.Right 0) 0 []
  unfolding shared_row_answer shared_row_check may_read refuse ◌then◌ row_told
  row-barred i h =
      let refuses : shared_row_check t owners (length x.words) who i ≡ Refused rule.Right 0 =
      pass_on s owners w x good _ ∙ rw (h, ne_eqb who 0 (λ e. omega arith)) refl in
      rw refuses refl

  row-own : (i : ℕ) → eqb (owner_of x.sheet owners i) who ≡ true
      → shared_row_answer x.sheet owners x.words who i ≡ row_told Pass (row_at x.sheet i).vehicles
      (words_of x.sheet i)
  unfolding may_read
  row-own i h = row-shown s owners w x good who i (owned-there t owners who i some h) (rw (h, ne_eqb who 0 (λ e. omega arith)) refl)

  totals-barred : shared_totals_answer x.sheet owners x.words who ≡ totals_told (Refused rule.Right 0) []
  unfolding shared_totals_answer shared_totals_check may_total refuse totals_told
  totals-barred =
      let refuses : shared_totals_check t owners (length x.words) who ≡ Refused rule.Right 0 =
      pass_on s owners w x good _ ∙ rw (ne_eqb who 0 (λ e. omega arith)) refl in
      rw refuses refl

-- Two ledgers that are the same to one participant.
module _ {s owners w s' others w' : List ℕ} (who : ℕ) (some : 0 < who) (x y : Ledger) (good : SharedInv s owners w x)
    (good' : SharedInv s' others w' y)
    (same : SameTo who x.sheet owners y.sheet others) where
  -- their change is answered alike,
  change-same : (call : Call) → shared_change_check x.sheet owners (length x.words) who call ≡ shared_change_check
      y.sheet others (length y.words) who call
  change-same call = go (eqb (owner_of x.sheet owners (row_of call)) who) refl
    where
      go : (b : Bool) → eqb (owner_of x.sheet owners (row_of call)) who ≡ b
          → shared_change_check x.sheet owners (length x.words) who call ≡ shared_change_check y.sheet others
          (length y.words) who call
      go true h =
          change-own x good who some call h ∙
          rw (same.rows_same (row_of call) h, held_same who some same) refl ∙
          sym (change-own y good' who some call (sym (same.owns-same (row_of call)) ∙ h))
      go false h = change-barred x good who some call h ∙ sym (change-barred y good' who some call (sym (same.owns-same (row_of call)) ∙ h))

  -- and so is a read of a row,
  words_same : (i : ℕ) → eqb (owner_of x.sheet owners i) who ≡ true → words_of x.sheet i ≡ words_of y.sheet i
  unfolding words_of
  words_same i h = rw (same.parking-same, same.seasons-same, same.rows_same i h) refl

  row_same : (i : ℕ) → shared_row_answer x.sheet owners x.words who i ≡ shared_row_answer y.sheet others y.words who i
  row_same i = go (eqb (owner_of x.sheet owners i) who) refl
    where
      go : (b : Bool) → eqb (owner_of x.sheet owners i) who ≡ b
          → shared_row_answer x.sheet owners x.words who i ≡ shared_row_answer y.sheet others y.words who i
      go true h =
          row-own x good who some i h ∙
          rw (words_same i h, same.rows_same i h) refl ∙
          sym (row-own y good' who some i (sym (same.owns-same i) ∙ h))
      go false h = row-barred x good who some i h ∙ sym (row-barred y good' who some i (sym (same.owns-same i) ∙ h))

  -- and any call of theirs
  reply-same : (ask : Ask) → asker_of ask ≡ who → reply owners x ask ≡ reply others y ask
  unfolding reply asker_of
  reply-same (change o call) e = rw e (ap of_change (change-same call))
  reply-same (read_row o i) e = rw e (ap of_row (row_same i))
  reply-same (read_totals o) e = rw e (ap of_totals (totals-barred x good who some ∙ sym (totals-barred y good' who some)))

  -- It leaves the ledgers the same to them,
  own_same : (ask : Ask) → asker_of ask ≡ who → SameTo who (after_ask owners x ask).sheet owners (after_ask others y ask).sheet others
  unfolding after_ask asker_of leaves
  own_same (change o call) e =
      rw e (go (shared_change_check x.sheet owners (length x.words) who call) refl
      (shared_change_check y.sheet others (length y.words) who call) refl)
    where
      both : shared_change_check x.sheet owners (length x.words) who call ≡ Pass
          → shared_change_check y.sheet others (length y.words) who call ≡ Pass
          → SameTo who (after x call).sheet owners (after y call).sheet others
      both h g =
          let owner = (change-passed x.sheet owners (length x.words) who call h).owner in
          let mine : eqb (owner_of x.sheet owners (row_of call)) who ≡ true = eq-eqb (owner_of x.sheet owners (row_of call)) who owner in
          moved_same who some same (one-moved x owners who call h) (rw (same.rows_same (row_of call) mine) (one-moved y others who call g)) mine

      go : (c : Check) → shared_change_check x.sheet owners (length x.words) who call ≡ c → (d : Check)
          → shared_change_check y.sheet others (length y.words) who call ≡ d
          → SameTo who (leaves c x call).sheet owners (leaves d y call).sheet others
      go (Ok _) h d g = let passes : d ≡ Pass = sym g ∙ sym (change-same call) ∙ h in rw passes (both h (g ∙ passes))
      go (Err refusal) h d g = let refuses : d ≡ Err refusal = sym g ∙ sym (change-same call) ∙ h in rw refuses same
  own_same (read_row o i) e = same
  own_same (read_totals o) e = same

  -- and so does another's call on one of them
  other-same : (ask : Ask) → ¬ (asker_of ask ≡ who) → SameTo who (after_ask owners x ask).sheet owners y.sheet others
  unfolding after_ask asker_of leaves
  other-same (change o call) n = go (shared_change_check x.sheet owners (length x.words) o call) refl
    where
      go : (c : Check) → shared_change_check x.sheet owners (length x.words) o call ≡ c
          → SameTo who (leaves c x call).sheet owners y.sheet others
      go (Ok _) h =
          let owner = (change-passed x.sheet owners (length x.words) o call h).owner in
          moved_apart who some same (one-moved x owners o call h) (λ mine. n (sym owner ∙ mine))
      go (Err refusal) h = same
  other-same (read_row o i) n = same
  other-same (read_totals o) n = same

-- One call more, theirs or another's.
module _ (owners : List ℕ) (who : ℕ) (ask : Ask) (asks : List Ask) (x : Ledger) where
  told-mine : eqb (asker_of ask) who ≡ true → told owners who (ask ∷ asks) x ≡ reply owners x ask ∷ told owners who asks (after_ask owners x ask)
  unfolding told
  told-mine h = rw (told, h) refl

  told-other : eqb (asker_of ask) who ≡ false → told owners who (ask ∷ asks) x ≡ told owners who asks (after_ask owners x ask)
  unfolding told
  told-other h = rw (told, h) refl

made-mine : (who : ℕ) (ask : Ask) (asks : List Ask) → eqb (asker_of ask) who ≡ true → made_by who (ask ∷ asks) ≡ ask ∷ made_by who asks
unfolding made_by
made-mine who ask asks h = rw (made_by, h) refl

made_other : (who : ℕ) (ask : Ask) (asks : List Ask) → eqb (asker_of ask) who ≡ false → made_by who (ask ∷ asks) ≡ made_by who asks
unfolding made_by
made_other who ask asks h = rw (made_by, h) refl

-- They are told what they would be told alone.
module _ (who : ℕ) (some : 0 < who) {s owners w s' others w' : List ℕ} where
  alone : (asks : List Ask) (x y : Ledger) → SharedInv s owners w x → SharedInv s' others w' y → SameTo who x.sheet owners y.sheet others
      → told owners who asks x ≡ told others who (made_by who asks) y
  unfolding told made_by
  alone [] x y good good' same = refl
  alone (ask ∷ asks) x y good good' same = go (alone asks) (eqb (asker_of ask) who) refl
    where
      go : ((x' y' : Ledger) → SharedInv s owners w x' → SharedInv s' others w' y'
          → SameTo who x'.sheet owners y'.sheet others
          → told owners who asks x' ≡ told others who (made_by who asks) y')
          → (b : Bool) → eqb (asker_of ask) who ≡ b → told owners who (ask ∷ asks) x ≡ told others who (made_by who (ask ∷ asks)) y
      go rest true h =
          let e = eqb-true (asker_of ask) who h in
          told-mine owners who ask asks x h ∙
          cc (
            reply-same who some x y good good' same ask e,
            rest (after_ask owners x ask) (after_ask others y ask) (ask-kept s owners w x good ask)
                (ask-kept s' others w' y good' ask) (own_same who some x y good good' same ask e),
          ) ∙
          sym (ap (λ (made : List Ask). told others who made y) (made-mine who ask asks h) ∙ told-mine others who ask (made_by who asks) y h)
      go rest false h =
          told-other owners who ask asks x h ∙
          rest (after_ask owners x ask) y (ask-kept s owners w x good ask) good'
          (other-same who some x y good good' same ask (eqb-false (asker_of ask) who h)) ∙
          sym (ap (λ (made : List Ask). told others who made y) (made_other who ask asks h))

-- a sheet is the same to them as itself
same_self : (who : ℕ) (s owners : List ℕ) → SameTo who s owners s owners
same_self who s owners = record { parking-same = refl; seasons-same = refl; owns-same = λ i. refl; rows_same = λ i h. refl }

opened-same : {who : ℕ} {s owners t others : List ℕ} (w v : List ℕ) → SameTo who s owners t others
    → SameTo who (opened s w).sheet owners (opened t v).sheet others
unfolding opened
opened-same w v same = same

-- "what a participant is told depends on .., nothing else"
pub isolation : IsolationTheorem
isolation who some s owners w t others v bytes bytes' opens opens' same asks instead made =
    let first = fresh-shared s owners w bytes opens in
    let second = fresh-shared t others v bytes' opens' in
    alone who some asks (opened s w) (opened t v) first second (opened-same w v same) ∙
    ap (λ (l : List Ask). told others who l (opened t v)) made ∙
    sym (alone who some instead (opened t v) (opened t v) second second (opened-same v v (same_self who t others)))
