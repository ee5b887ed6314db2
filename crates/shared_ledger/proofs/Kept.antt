-- After any list of calls a shared ledger is request Seven's ledger after the changes that passed, and what is read is the ledger's.
-- Assumes nothing.
use Rattle.std.proofs.Common.{Ok, Err}
use mathlib.Core.Bool.{true, false}
use mathlib.Core.List.{List, [], ◌∷◌}
use mathlib.Core.Path.{◌≡◌, refl, sym, ap, ◌∙◌}
use Prim.Native.Nat.{ℕ, ◌+◌, ◌*◌, ◌<◌}
use native.Mathlib.Omega.{arith}
use borrow.Author.Tests.{lt-leb}
use lib.Dec.{ltb}
use lib.ListN.{length}
use lib.Seq.{ext_get_or}
use Rattle.numbers.specs.Lists.{at}
use Rattle.numbers.proofs.Lists.{tab-length, get_d-tab, tab-ext}
use Rattle.refusals.specs.Check.{Check, Pass, refuse, ◌then◌}
use Rattle.sheet.specs.Bytes.{rows_of, row_at}
use Rattle.sheet.specs.Counts.{counts_of}
use Rattle.sheet.proofs.BeforeRows.{rows}
use Rattle.masses.specs.Figures.{row_figures}
use Rattle.report_words.specs.Report.{words_of, report}
use Rattle.report_words.specs.Categories.{report_length}
use Rattle.report_words.proofs.ReportPlaces.{report-length, row-word-at}
use Rattle.inventory.proofs.Written.{written-first}
use Rattle.ledger.specs.declared.Call.{Call}
use Rattle.ledger.specs.Ledger.{Ledger, after, opened, run}
use Rattle.ledger.proofs.Counts.{count_at}
use Rattle.ledger.proofs.Kept.{Inv, room, stepped, fresh, ledger-kept}
use Rattle.shared_ledger.specs.Opening.{shared_check}
use Rattle.shared_ledger.specs.Calls.{owner_of, may_read, may_total, shared_change_check, shared_row_check}
use Rattle.shared_ledger.specs.Calls.{shared_totals_check, words_from, row_told, shared_row_answer, totals_told}
use Rattle.shared_ledger.specs.Calls.{shared_totals_answer}
use Rattle.shared_ledger.specs.Told.{Ask, change, read_row, read_totals, of_row, of_totals, reply, leaves, after_ask, run_asks, if_passed, passed}
use Rattle.shared_ledger.specs.Told.{SharedTheorem}
use Rattle.shared_ledger.proofs.Conditions.{shared-report}
use Rattle.shared_ledger.proofs.Changed.{shared-still}
use Rattle.shared_ledger.proofs.Holdings.{held-most}
use Rattle.shared_ledger.proofs.Quiet.{fleet-quiet}

-- What holds of a shared ledger after any list of calls.
pub record SharedInv (s owners w : List ℕ) (x : Ledger) : Type 0 where
  pub inv : Inv s w x
  pub shared : shared_check x.sheet owners (length x.words) ≡ Pass

pub fresh-shared : (s owners w : List ℕ) → ((k : ℕ) → at s k < 256) → shared_check s owners (length w) ≡ Pass → SharedInv s owners w (opened s w)
unfolding opened
fresh-shared s owners w bytes h =
    let inv = fresh s w (record { byte = bytes }) (shared-report s owners (length w) h) in
    record { inv = inv; shared = rw (room s w (opened s w) inv) h }

-- a change that passes
change-kept : (s owners w : List ℕ) (x : Ledger) → SharedInv s owners w x → (who : ℕ) (call : Call)
    → shared_change_check x.sheet owners (length x.words) who call ≡ Pass
    → SharedInv s owners w (after x call)
change-kept s owners w x good who call passes =
    let inv = (stepped s w x good.inv call).0 in
    let long = room s w (after x call) inv in
    record { inv = inv; shared = shared-still x owners who call passes (length (after x call).words) (rw long inv.opens) }

-- any call
pub ask-kept : (s owners w : List ℕ) (x : Ledger) → SharedInv s owners w x → (ask : Ask) → SharedInv s owners w (after_ask owners x ask)
unfolding after_ask leaves
ask-kept s owners w x good (change who call) = go (shared_change_check x.sheet owners (length x.words) who call) refl
  where
    go : (c : Check) → shared_change_check x.sheet owners (length x.words) who call ≡ c → SharedInv s owners w (leaves c x call)
    go (Ok _) h = change-kept s owners w x good who call h
    go (Err refusal) h = good
ask-kept s owners w x good (read_row who i) = good
ask-kept s owners w x good (read_totals who) = good

-- any list of calls: it is the ledger after those that passed
runs : (s owners w : List ℕ) (asks : List Ask) (x : Ledger) → SharedInv s owners w x → SharedInv s owners w (run_asks owners asks x)
unfolding run_asks
runs s owners w [] x good = good
runs s owners w (ask ∷ asks) x good = runs s owners w asks (after_ask owners x ask) (ask-kept s owners w x good ask)

run-passed : (owners : List ℕ) (asks : List Ask) (x : Ledger) → run_asks owners asks x ≡ run (passed owners asks x) x
unfolding run_asks passed run after_ask leaves if_passed
run-passed owners [] x = refl
run-passed owners (change who call ∷ asks) x = go (shared_change_check x.sheet owners (length x.words) who call) (run-passed owners asks)
  where
    go : (c : Check) → ((y : Ledger) → run_asks owners asks y ≡ run (passed owners asks y) y)
        → run_asks owners asks (leaves c x call) ≡ run (if_passed c call (passed owners asks (leaves c x call))) x
    go (Ok _) rest = rest (after x call)
    go (Err refusal) rest = rest x
run-passed owners (read_row who i ∷ asks) x = run-passed owners asks x
run-passed owners (read_totals who ∷ asks) x = run-passed owners asks x

-- What is read of a ledger that opens.
module _ (s owners w : List ℕ) (x : Ledger) (good : SharedInv s owners w x) where
  pub rows_are : rows_of x.sheet ≡ rows_of s
  rows_are = rows good.inv.alike

  -- the first check of every call passes
  pub pass_on : (d : Check) → (shared_check x.sheet owners (length x.words) then d) ≡ d
  unfolding ◌then◌
  pass_on d = rw good.shared refl

  word_in : (k : ℕ) → k < 6 * rows_of x.sheet + 26 → at x.words k ≡ at (report x.sheet) k
  unfolding report_length
  word_in k l = rw good.inv.words (written-first (report x.sheet) w k (omega (arith, report-length x.sheet)))

  six-long : (i : ℕ) → length (words_of x.sheet i) ≡ 6
  unfolding words_of row_figures
  six-long i = refl

  -- a row's words in the buffer are its own,
  row_words_lem : (i : ℕ) → i < rows_of x.sheet → words_from x.words (6 * i) 6 ≡ words_of x.sheet i
  unfolding words_from
  row_words_lem i l =
      ext_get_or 0 _ (words_of x.sheet i) (tab-length _ 6 ∙ sym (six-long i))
      (λ m k.
      let inside : m < 6 = rw (tab-length (λ (j : ℕ). at x.words (6 * i + j)) 6) at k in
      get_d-tab (λ (j : ℕ). at x.words (6 * i + j)) 6 m inside ∙ word_in (6 * i + m) (omega arith) ∙ row-word-at x.sheet i m l inside)

  -- and the 26 after the rows are the report's
  last-words : words_from x.words (6 * rows_of x.sheet) 26 ≡ words_from (report x.sheet) (6 * rows_of s) 26
  unfolding words_from
  last-words = tab-ext 26 (λ m l. word_in (6 * rows_of x.sheet + m) (omega arith) ∙ ap (λ (n : ℕ). at (report x.sheet) (6 * n + m)) rows_are)

  owner-is : (i : ℕ) → owner_of x.sheet owners i ≡ owner_of s owners i
  unfolding owner_of
  owner-is i = ap (λ (n : ℕ). elim (ltb i n) [ true ↦ at owners i | false ↦ 0 ]) rows_are

  may-read : (who i : ℕ) → may_read x.sheet owners who i ≡ may_read s owners who i
  unfolding may_read
  may-read who i = rw (owner-is i) refl

  -- a read by one who has the right
  row-passes : (who i : ℕ) → i < rows_of x.sheet → may_read x.sheet owners who i ≡ true
      → shared_row_check x.sheet owners (length x.words) who i ≡ Pass
  unfolding shared_row_check refuse ◌then◌
  row-passes who i l h = pass_on _ ∙ rw (h, lt-leb (rows_of x.sheet) i l) refl

  pub row-shown : (who i : ℕ) → i < rows_of x.sheet → may_read x.sheet owners who i ≡ true
      → shared_row_answer x.sheet owners x.words who i ≡ row_told Pass (row_at x.sheet i).vehicles (words_of x.sheet i)
  unfolding shared_row_answer
  row-shown who i l h = rw (row-passes who i l h, row_words_lem i l) refl

  row_read : (who i : ℕ) → i < rows_of s → may_read s owners who i ≡ true
      → reply owners x (read_row who i) ≡ of_row (row_told Pass (at (counts_of x.sheet) i) (words_of x.sheet i))
  unfolding reply
  row_read who i l h =
      let there : i < rows_of x.sheet = rw rows_are l in
      ap of_row (row-shown who i there (may-read who i ∙ h) ∙
      ap (λ (n : ℕ). row_told Pass n (words_of x.sheet i)) (sym (count_at x.sheet i there)))

  totals-read : reply owners x (read_totals 0) ≡ of_totals (totals_told Pass (words_from (report x.sheet) (6 * rows_of s) 26))
  unfolding reply shared_totals_answer shared_totals_check may_total refuse
  totals-read = let passes : shared_totals_check x.sheet owners (length x.words) 0 ≡ Pass =
      pass_on _ in ap of_totals (rw (passes, last-words) refl)

-- "For every list of calls from a fresh opening": what is read is the ledger's
pub shared_kept : SharedTheorem
shared_kept s owners w bytes h asks =
    let good = runs s owners w asks (opened s w) (fresh-shared s owners w bytes h) in
    let x = run_asks owners asks (opened s w) in
    record {
      ledger-is = run-passed owners asks (opened s w);
      kept = ledger-kept s w bytes (shared-report s owners (length w) h) (passed owners asks (opened s w));
      opens = good.shared;
      row_read = row_read s owners w x good;
      totals-read = totals-read s owners w x good;
      vehicles-most = λ who. held-most x.sheet owners (length x.words) good.shared who (rows_of x.sheet) (omega arith);
      fleet-free = λ row k l. fleet-quiet x.sheet owners (length x.words) good.shared row k l;
    }
