-- For every list of calls from a freshly opened ledger the counts are the plain machine's, and the words are the report of the sheet with
-- those counts, computed afresh.
-- Assumes nothing.
use Rattle.std.proofs.Common.{Err}
use mathlib.Core.Bool.{Bool, true, false}
use mathlib.Core.List.{List, [], ◌∷◌, ◌++◌, map}
use mathlib.Core.Logic.{⊎_elim}
use mathlib.Core.Path.{◌≡◌, refl, sym, ap, ◌∙◌}
use Prim.Native.Nat.{ℕ, ◌+◌, ◌*◌, ◌/◌, ◌%◌, ◌^◌, ◌≤◌, ◌<◌}
use native.Mathlib.Omega.{arith}
use lib.Dec.{ltb}
use lib.ListN.{length, drop}
use lib.Seq.{drop_at}
use Rattle.numbers.specs.Lists.{at}
use Rattle.refusals.specs.declared.Rule.TheVariants as rule
use Rattle.refusals.specs.declared.Refusal.{Refusal}
use Rattle.refusals.specs.Check.{Pass, Refused, refuse, ◌then◌}
use Rattle.sheet.specs.Versions.{has_many_rows}
use Rattle.sheet.specs.Bytes.{rows_of, row_place}
use Rattle.sheet.specs.Counts.{counts_of, with_count}
use Rattle.sheet.proofs.Accepted.{Bytes}
use Rattle.sheet.proofs.Checks.{then-pass}
use Rattle.sheet.proofs.BeforeRows.{BeforeRows, version, start, seasons, rows, season-list, cells}
use Rattle.sheet.proofs.Count.{before, beyond, bytes-kept, before-rows, row_kept, still-accepted}
use Rattle.report_words.specs.Report.{words_of, report}
use Rattle.report_words.specs.Categories.{report_length}
use Rattle.report_words.specs.Years.{report_word}
use Rattle.sheet.proofs.Places.{row-there}
use Rattle.report_words.proofs.Promised.{promise}
use Rattle.report_words.proofs.ReportPlaces.{report-length, row-word-at}
use Rattle.report_sums.proofs.OneRow.{RestHolds}
use Rattle.report_sums.proofs.OneRow.{renewed-is}
use Rattle.inventory.specs.ReportCall.{written}
use Rattle.inventory.specs.ReportAnswers.{report_check}
use Rattle.inventory.proofs.CallConditions.{report-accepted, report-sheet}
use Rattle.inventory.proofs.ReportPromise.{report-written}
use Rattle.inventory.proofs.Written.{written-first, written-length}
use Rattle.ledger.specs.declared.Call.{Call}
use Rattle.ledger.specs.Machine.{row_of, wrong, new_count, step, machine}
use Rattle.ledger.specs.Ledger.{change_check, sheet_after, words_after, Ledger, answer, after, opened, run, answers}
use Rattle.ledger.specs.Kept.{SameButCounts, machine_answers, LedgerTheorem, RefusedTheorem}
use Rattle.ledger.proofs.Counts.{counts-changed, Allowed, allowed}

-- a report over a report of the same length
written_twice : (new old w : List ℕ) → length new ≡ length old → written Pass new (written Pass old w) ≡ written Pass new w
unfolding written
written_twice new old w e = ap (λ (r : List ℕ). new ++ r) (rw e (drop_at old (drop (length old) w) (length old) refl))

report-long : (t : List ℕ) → length (report t) ≡ 6 * rows_of t + 26
unfolding report_length
report-long t = report-length t

-- One count is changed.
module _ (t : List ℕ) (i v : ℕ) (bits : v < 2 ^ 32) (inside : row_place t i + 24 ≤ length t) where
  same : BeforeRows t (with_count t i v)
  same = before-rows t i v bits inside

  words-kept : (j : ℕ) → ¬ (j ≡ i) → words_of (with_count t i v) j ≡ words_of t j
  unfolding words_of
  words-kept j n = cc (cells same, season-list same, row_kept t i v bits inside j n)

  -- the words of all other rows are still the report's
  others-hold : (w : List ℕ) → i < rows_of t → RestHolds (with_count t i v) i (written Pass (report t) w)
  others-hold w there = record {
    before = λ k h. word k (k / 6) (k % 6) (omega arith) (omega arith) (omega arith) (λ e. omega arith);
    beyond = λ k h l. word k (k / 6) (k % 6) (omega (arith, rows same)) (omega arith) (omega arith) (λ e. omega arith);
  }
    where
      word : (k j m : ℕ) → j < rows_of t → m < 6 → k ≡ 6 * j + m → ¬ (j ≡ i) → at (written Pass (report t) w) k ≡ report_word (with_count t i v) k
      word k j m l h e n =
          rw e
          (written-first (report t) w (6 * j + m) (omega (arith, report-long t)) ∙ row-word-at t j m l h ∙
          sym (row-word-at (with_count t i v) j m (rw (rows same) l) h ∙ ap (λ (ws : List ℕ). at ws m) (words-kept j n)))

-- The answer to a call, where the ledger's own checks pass.
pub answer-open : (s : List ℕ) (room : ℕ) (call : Call) → report_check s room ≡ Pass
    → change_check s room call ≡ refuse (wrong (has_many_rows s) (counts_of s) call) rule.Count 0
unfolding change_check ◌then◌
answer-open s room call h = rw h refl

-- number 22 alone
room-passes : (t : List ℕ) (room : ℕ) → report_check t room ≡ Pass → refuse (ltb room (report_length t)) rule.Room 0 ≡ Pass
unfolding report_check
room-passes t room h = (then-pass _ _ h).1

-- After an allowed call the sheet is one that opens.
module _ (t : List ℕ) (room : ℕ) (call : Call) (opens : report_check t room ≡ Pass) (right : wrong (has_many_rows t) (counts_of t) call ≡ false) where
  pub change-allowed : Allowed t call
  change-allowed = allowed t call (report-accepted t room opens).0 right

  pub count_bits : new_count (counts_of t) call < 2 ^ 32
  count_bits = omega (arith, change-allowed.most)

  pub row_inside : row_place t (row_of call) + 24 ≤ length t
  row_inside = row-there t (report-sheet t room opens) change-allowed.there

  pub rows-kept : rows_of (with_count t (row_of call) (new_count (counts_of t) call)) ≡ rows_of t
  rows-kept = rows (same t (row_of call) (new_count (counts_of t) call) count_bits row_inside)

  pub still-opens : report_check (with_count t (row_of call) (new_count (counts_of t) call)) room ≡ Pass
  unfolding report_check report_length ◌then◌
  still-opens =
      let a = change-allowed in
      let sheet = still-accepted t (row_of call) (new_count (counts_of t) call) count_bits row_inside a.there a.most
      a.together (report-sheet t room opens) in
      rw (sheet, rows-kept) (room-passes t room opens)

-- What holds of a ledger after any list of calls.
pub record Inv (s w : List ℕ) (x : Ledger) : Type 0 where
  pub bytes : Bytes x.sheet
  pub alike : BeforeRows s x.sheet
  pub same : SameButCounts s x.sheet
  pub opens : report_check x.sheet (length w) ≡ Pass
  pub words : x.words ≡ written Pass (report x.sheet) w

module _ (s w : List ℕ) (x : Ledger) (inv : Inv s w x) where
  abbrev t : List ℕ
  t = x.sheet

  pub room : length x.words ≡ length w
  unfolding report_length
  room = rw inv.words (written-length Pass (report t) w (omega (arith, report-long t, (report-accepted t (length w) inv.opens).1)))

  many : has_many_rows t ≡ has_many_rows s
  many = rw (version inv.alike)

  answer-is : (call : Call) → answer x call ≡ refuse (wrong (has_many_rows s) (counts_of t) call) rule.Count 0
  unfolding answer
  answer-is call = rw (room, ← many) (answer-open t (length w) call inv.opens)

  -- a refused call does nothing
  refused : (call : Call) → wrong (has_many_rows s) (counts_of t) call ≡ true → Inv s w (after x call)
      × (counts_of (after x call).sheet ≡ step (has_many_rows s) (counts_of t) call)
  unfolding after step sheet_after words_after refuse
  refused call h =
      let c : answer x call ≡ Refused rule.Count 0 = answer-is call ∙ rw h refl in (
        record {
          bytes = rw c inv.bytes;
          alike = rw c inv.alike;
          same = rw c inv.same;
          opens = rw c inv.opens;
          words = rw c inv.words;
        },
        rw (c, step, h) refl,
      )

  -- an allowed one changes one count, and makes one row's words and the sums anew
  done : (call : Call) → wrong (has_many_rows s) (counts_of t) call ≡ false → Inv s w (after x call)
      × (counts_of (after x call).sheet ≡ step (has_many_rows s) (counts_of t) call)
  unfolding after step sheet_after words_after refuse report_length
  done call h =
      let right : wrong (has_many_rows t) (counts_of t) call ≡ false = rw many h in
      let i = row_of call in
      let v = new_count (counts_of t) call in
      let bits = count_bits t (length w) call inv.opens right in
      let inside = row_inside t (length w) call inv.opens right in
      let there = (change-allowed t (length w) call inv.opens right).there in
      let opens = still-opens t (length w) call inv.opens right in
      let kept = rows-kept t (length w) call inv.opens right in
      let c : answer x call ≡ Pass = answer-is call ∙ rw h refl in
      let early = same t i v bits inside in
      let enough = (report-accepted t (length w) inv.opens).1 in
      let long : length (written Pass (report t) w) ≡ length w = written-length Pass (report t) w (omega (arith, report-long t)) in
      let new-long : length (report (with_count t i v)) ≡ length (report t) = report-long (with_count t i v) ∙ rw kept (sym (report-long t)) in
      let place : row_place t i ≡ row_place s i = rw (start inv.alike, seasons inv.alike) refl in (
        record {
          bytes = rw c (bytes-kept t i v bits inside inv.bytes);
          alike = rw c (record {
            same_length = early.same_length ∙ inv.alike.same_length;
            early = λ k l. early.early k (rw (start inv.alike, seasons inv.alike) l) ∙ inv.alike.early k l;
          });
          same = rw c (record {
            length-same = early.same_length ∙ inv.same.length-same;
            elsewhere = λ k away.
                ⊎_elim (λ l. before t i v bits inside k (omega (arith, place)))
                (λ l. beyond t i v bits inside k (omega (arith, place))) (away i (omega (arith, rows inv.alike)))
                ∙
                inv.same.elsewhere k away;
          });
          opens = rw c opens;
          words = rw c (rw inv.words
              (renewed-is (bytes-kept t i v bits inside inv.bytes)
              (report-accepted (with_count t i v) (length w) opens).0 (written Pass (report t) w) i (rw kept there)
              (omega (arith, kept)) (others-hold t i v bits inside w there) ∙
              report-written (with_count t i v) (written Pass (report t) w) ∙ written_twice _ _ w new-long));
        },
        rw (c, step, h) (counts-changed t i v bits inside there),
      )

  -- either way
  pub stepped : (call : Call) → Inv s w (after x call) × (counts_of (after x call).sheet ≡ step (has_many_rows s) (counts_of t) call)
  stepped call = go (wrong (has_many_rows s) (counts_of t) call) refl
    where
      go : (b : Bool) → wrong (has_many_rows s) (counts_of t) call ≡ b → Inv s w (after x call)
          × (counts_of (after x call).sheet ≡ step (has_many_rows s) (counts_of t) call)
      go true h = refused call h
      go false h = done call h

-- any list of calls
runs : (s w : List ℕ) (calls : List Call) (x : Ledger) → Inv s w x
    → Inv s w (run calls x) × (counts_of (run calls x).sheet ≡ machine (has_many_rows s) calls (counts_of x.sheet))
unfolding run machine
runs s w [] x inv = (inv, refl)
runs s w (call ∷ calls) x inv =
    let (next, counts) = stepped s w x inv call in
    let (last, all) = runs s w calls (after x call) next in
    (last, all ∙ ap (machine (has_many_rows s) calls) counts)

-- and its answers
answered : (s w : List ℕ) (calls : List Call) (x : Ledger) → Inv s w x → answers calls x ≡ machine_answers (has_many_rows s) calls (counts_of x.sheet)
unfolding answers machine_answers
answered s w [] x inv = refl
answered s w (call ∷ calls) x inv =
    let (next, counts) = stepped s w x inv call in
    cc (answer-is s w x inv call, answered s w calls (after x call) next)

-- a ledger that has just been opened
pub fresh : (s w : List ℕ) → Bytes s → report_check s (length w) ≡ Pass → Inv s w (opened s w)
unfolding opened
fresh s w bytes h = record {
  bytes = bytes;
  alike = record { same_length = refl; early = λ k l. refl };
  same = record { length-same = refl; elsewhere = λ k away. refl };
  opens = h;
  words = rw h refl;
}

opened-counts : (s w : List ℕ) → counts_of (opened s w).sheet ≡ counts_of s
unfolding opened
opened-counts s w = refl

-- "For every list of these calls from a freshly opened ledger .."
pub ledger-kept : LedgerTheorem
unfolding report_length
ledger-kept s w bytes h calls =
    let start = fresh s w (record { byte = bytes }) h in
    let (inv, counts) = runs s w calls (opened s w) start in
    let sheet = (run calls (opened s w)).sheet in
    record {
      counts-are = counts ∙ ap (machine (has_many_rows s) calls) (opened-counts s w);
      sheet-is = inv.same;
      opens = inv.opens;
      words_are = inv.words;
      promise =
          promise inv.bytes (report-accepted sheet (length w) inv.opens).0
          (record { word = λ k l. rw inv.words (written-first (report sheet) w k (omega (arith, report-long sheet))) });
      answers-are = answered s w calls (opened s w) start ∙ ap (machine_answers (has_many_rows s) calls) (opened-counts s w);
    }

-- What opening would refuse stays as it is.
module _ (x : Ledger) {refusal : Refusal} (h : report_check x.sheet (length x.words) ≡ Err refusal) where
  not-open : (call : Call) → answer x call ≡ Err refusal
  unfolding answer change_check ◌then◌
  not-open call = rw h refl

  stays : (call : Call) → after x call ≡ x
  unfolding after sheet_after words_after
  stays call = rw (not-open call) refl

  all-stays : (calls : List Call) → (run calls x ≡ x) × (answers calls x ≡ map (λ (call : Call). Err refusal) calls)
  unfolding run answers
  all-stays [] = (refl, refl)
  all-stays (call ∷ calls) =
      let (sheet, told) = all-stays calls in
      (ap (run calls) (stays call) ∙ sheet, rw (not-open call, stays call) (cc))

pub refused-kept : RefusedTheorem
refused-kept x r place h = all-stays x h
