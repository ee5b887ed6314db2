-- Numbers 22 and 23 of document 01 as demands in plain arithmetic, after those of the sheet: each call answers where all are met, and
-- else returns the first that is not met, with its place.
-- Assumes nothing.
use Rattle.std.proofs.Common.{Err, get_or, Fits, w8}
use mathlib.Core.Bool.{true, false, ◌||◌}
use mathlib.Core.List.{List}
use mathlib.Core.Path.{◌≡◌, refl, sym, ◌∙◌}
use Prim.Native.Nat.{ℕ, ◌≤◌, ◌<◌}
use native.Mathlib.Omega.{arith}
use borrow.Author.Tests.{leb-true, leb-false, lt-leb}
use lib.Dec.{leb}
use lib.ListN.{length}
use Rattle.std.proofs.Math.Bool.{or-true}
use Rattle.refusals.specs.declared.Refusal.{Refusal}
use Rattle.refusals.specs.declared.Rule.TheVariants as rule
use Rattle.refusals.specs.Check.{Check, Pass, refuse, ◌then◌, number_of, place_of}
use Rattle.refusals.proofs.Chain.{applied, not_applied}
use Rattle.refusals.proofs.Numbers.{zero-passes}
use Rattle.sheet.specs.Bytes.{seasons_of, rows_of}
use Rattle.sheet.specs.Sheet.{outside, sheet_check}
use Rattle.sheet.proofs.Checks.{Tests, Judges, judges-refuse, judges-then, ltb-tests, ||-tests, then-pass, says}
use Rattle.sheet.proofs.Conditions.{sheet-judged}
use Rattle.sheet.specs.Demands.{demand, ◌next◌, Says, demands}
use Rattle.sheet.proofs.Accepted.{Bytes, Accepted, accepted}
use Rattle.inventory.specs.declared.asked.AskedRow.{AskedRow}
use Rattle.inventory.specs.FactorAnswers.{absent, factor_check}
use Rattle.inventory.specs.FactorBand.{factor_demands}
use Rattle.report_words.specs.Categories.{report_length}
use Rattle.inventory.specs.ReportCall.{report_demands, written}
use Rattle.inventory.specs.ReportAnswers.{room_check, report_check}

-- what a slice of bytes holds
pub bytes-of : {s : List ℕ} → ((k : ℕ) → Fits w8 (get_or s k 0)) → Bytes s
bytes-of fits = record { byte = λ k. (fits k).fits }

-- the test x ≤ y demands y < x
leb-tests : (x y : ℕ) → Tests (leb x y) (y < x)
leb-tests x y = record { holds = leb-false x y; fails = λ t l. omega (arith, leb-true x y t) }

-- Call | 22 report buffer short | 0, for a call that stores so many words
pub room-judged : (needed : List ℕ → ℕ) (s : List ℕ) (room : ℕ)
    → Judges (room_check needed s room) (demands s next demand rule.Room 0 (needed s ≤ room))
room-judged needed s room = judges-then (sheet-judged s) (judges-refuse (ltb-tests room (needed s)))

-- so the sheet is accepted, and the buffer has room
pub room-passed : (needed : List ℕ → ℕ) (s : List ℕ) (room : ℕ) → room_check needed s room ≡ Pass → (sheet_check s ≡ Pass) × (needed s ≤ room)
room-passed needed s room h = ((then-pass _ _ h).0, ((room-judged needed s room).passes h).1)

-- and so many words of it fit, where `sheet_with_room` gives the sheet of these bytes
pub has-room : (needed : List ℕ → ℕ) {s bytes : List ℕ} {room : ℕ} → (bytes ≡ s) × (room_check needed s room ≡ Pass) → needed bytes ≤ room
has-room needed {s} {bytes} {room} (same, passed) = rw same (room-passed needed s room passed).1

-- such a call says which demand is the first that is not met
pub room-says : (needed : List ℕ → ℕ) (s : List ℕ) (room : ℕ) {r : Check} → r ≡ room_check needed s room
    → Says (demands s next demand rule.Room 0 (needed s ≤ room)) (number_of r) (place_of r)
room-says needed s room e = rw e (says (room_check needed s room) (room-judged needed s room))

-- and where it is accepted, the sheet is, and the new words stand in the buffer
pub room-accepted : (needed : List ℕ → ℕ) (s new old : List ℕ) {r : Check} {words : List ℕ} → r ≡ room_check needed s (length old)
    → words ≡ written r new old → number_of r ≡ 0 → (sheet_check s ≡ Pass) × (words ≡ written Pass new old)
room-accepted needed s new old {r} e w zero =
    let passed = zero-passes r zero in
    ((room-passed needed s (length old) (sym e ∙ passed)).0, rw passed at w)

-- of the report call
pub report-judged : (s : List ℕ) (room : ℕ) → Judges (report_check s room) (report_demands s room)
unfolding report_check
report-judged = room-judged report_length

-- Call | 23 season, row or factor absent | 0: "one factor, 1 to 7, of a season and row (counted from 0)"
pub factor-judged : (s : List ℕ) (season row k : ℕ) → Judges (factor_check s season row k) (factor_demands s season row k)
unfolding factor_check outside
factor-judged s season row k =
    judges-then (sheet-judged s)
    (judges-refuse (||-tests (||-tests (leb-tests (seasons_of s) season) (leb-tests (rows_of s) row)) (||-tests (ltb-tests k 1) (ltb-tests 7 k))))

pub factor-says : (s : List ℕ) (season row k : ℕ)
    → Says (factor_demands s season row k) (number_of (factor_check s season row k)) (place_of (factor_check s season row k))
factor-says s season row k = says (factor_check s season row k) (factor-judged s season row k)

-- What a call that answers may rely on.

-- the sheet is accepted, and the buffer has room
pub report-accepted : (s : List ℕ) (room : ℕ) → report_check s room ≡ Pass → Accepted s × (report_length s ≤ room)
unfolding report_check
report-accepted s room h = let (passed, fits) = room-passed report_length s room h in (accepted s passed, fits)

-- the sheet is accepted, and it has the season and the row
pub factor-accepted : (s : List ℕ) (season row k : ℕ) → factor_check s season row k ≡ Pass
    → Accepted s × (season < seasons_of s) × (row < rows_of s) × (1 ≤ k) × (k ≤ 7)
unfolding factor_check
factor-accepted s season row k h =
    let ((season-there, row-there), (least, most)) = ((factor-judged s season row k).passes h).1 in
    (accepted s (then-pass _ _ h).0, season-there, row-there, least, most)

-- Where the factor call refuses, whichever of the factors is asked for.

-- the sheet is refused
pub sheet-refused : (s : List ℕ) (season row k : ℕ) (r : Refusal) → sheet_check s ≡ Err r → factor_check s season row k ≡ Err r
unfolding factor_check ◌then◌
sheet-refused s season row k r h = rw h refl

-- the season or the row is not there
pub row-absent : (s : List ℕ) (season row k : ℕ) (r : Refusal) → sheet_check s ≡ Pass
    → refuse (leb (seasons_of s) season || leb (rows_of s) row) rule.Absent 0 ≡ Err r → factor_check s season row k ≡ Err r
unfolding factor_check refuse ◌then◌
row-absent s season row k r h e =
    let (b, is) = applied (leb (seasons_of s) season || leb (rows_of s) row) rule.Absent 0 refl e in
    rw (h, b, is) refl

-- or both are there
pub row-there : (s : List ℕ) (season row : ℕ) → refuse (leb (seasons_of s) season || leb (rows_of s) row) rule.Absent 0 ≡ Pass
    → (season < seasons_of s) × (row < rows_of s)
row-there s season row e =
    let b = not_applied (leb (seasons_of s) season || leb (rows_of s) row) rule.Absent 0 refl e in
    (||-tests (leb-tests (seasons_of s) season) (leb-tests (rows_of s) row)).holds b

-- and where it does not
pub factor-there : (s : List ℕ) (season row k : ℕ) → sheet_check s ≡ Pass → season < seasons_of s → row < rows_of s → outside 1 7 k ≡ false
    → factor_check s season row k ≡ Pass
unfolding factor_check refuse ◌then◌
factor-there s season row k h there here b = rw (h, lt-leb (seasons_of s) season there, lt-leb (rows_of s) row here, b) refl

-- Of a row that is asked for, a factor is there or not.
module _ (asked : AskedRow) {s : List ℕ} {season row : ℕ} (same : (asked.sheet.bytes.now ≡ s) × (asked.season ≡ season) × (asked.row ≡ row))
    (k : ℕ) where
  pub asked-there : outside 1 7 k ≡ false → factor_check s season row k ≡ Pass
  asked-there b =
      factor-there s season row k (rw same.0 at asked.sheet.passed) (rw (same.0, same.1) at asked.season_there)
      (rw (same.0, same.2) at asked.row_there) b

  pub asked-absent : outside 1 7 k ≡ true → factor_check s season row k ≡ Err absent
  unfolding factor_check refuse ◌then◌
  asked-absent b = rw (rw same.0 at asked.sheet.passed, b, or-true) refl

-- every check of the sheet comes first
pub factor-sheet : (s : List ℕ) (season row k : ℕ) → factor_check s season row k ≡ Pass → sheet_check s ≡ Pass
unfolding factor_check
factor-sheet s season row k h = (then-pass _ _ h).0

pub report-sheet : (s : List ℕ) (room : ℕ) → report_check s room ≡ Pass → sheet_check s ≡ Pass
unfolding report_check
report-sheet s room h = (room-passed report_length s room h).0

-- for `using` on the function that asks for a row
pub ruleset asking = (sheet-refused, row-absent, row-there)
