-- More volatile fuel, more vapour: the exact masses, and through the bands around them the words.
-- Assumes nothing.
use mathlib.Core.List.{List}
use mathlib.Core.Path.{◌≡◌, refl}
use Prim.Native.Nat.{ℕ, ◌≤◌}
use native.Mathlib.Omega.{arith}
use lib.ListN.{length}
use Rattle.numbers.specs.Fraction.{◌≤ᶠ◌, whole}
use Rattle.numbers.specs.Lists.{at}
use Rattle.numbers.proofs.Order.{≤_trans, *-mono-left, whole-NonNegative}
use Rattle.exact.specs.Masses.{Mechanism, diurnal, soak, running}
use Rattle.exact.proofs.Volatile.{WithoutCanister, mass-rises}
use Rattle.refusals.specs.Check.{Pass}
use Rattle.sheet.specs.Bytes.{cells_of, season_list, row_at}
use Rattle.sheet.specs.Sheet.{sheet_check}
use Rattle.sheet.proofs.Accepted.{Bytes, accepted}
use Rattle.masses.specs.Bands.{MassBand}
use Rattle.report_words.specs.Report.{report}
use Rattle.report_words.specs.Promise.{RowPromise}
use Rattle.report_words.proofs.Promised.{promise}
use Rattle.inventory.specs.ReportAnswers.{report_check}
use Rattle.inventory.proofs.CallConditions.{report-sheet}
use Rattle.refusals.proofs.Numbers.{zero-passes}
use Rattle.volatility.specs.Pressure.{HigherPressure, OpenRow, low_place, high_place, MassTheorem, WordTheorem, Reported, CallTheorem}
use Rattle.volatility.proofs.Alike.{rows_same, cells_same, row-alike, all_more}

without-canister : {s : List ℕ} {i : ℕ} → sheet_check s ≡ Pass → OpenRow s i → WithoutCanister (row_at s i)
without-canister {s} {i} pass o =
    let row = (accepted s pass).row i o.row-of-s in
    record { no-canister = o.no-canister; carburettor-most = row.carburettor-most; hot-most = row.hot-most; fill-most = row.fill-most }

-- "exact masses at least as large"
pub masses-rise : MassTheorem
masses-rise s t j i n m h pass pass' o = rw (cells_same h, row-alike h i) (mass-rises n (cells_of s) (without-canister pass o) (all_more h) m)

-- the words of a mechanism
band : {s words : List ℕ} {i : ℕ} → RowPromise s words i → (m : Mechanism)
    → MassBand (cells_of s) (season_list s) (row_at s i) m (at words (low_place i m)) (at words (high_place i m))
band p diurnal = p.diurnal-band
band p soak = p.soak-band
band p running = p.running-band

whole-order : (j k : ℕ) → whole j ≤ᶠ whole k → j ≤ k
unfolding whole
whole-order j k h = omega (arith, h.cross)

-- "Its reported high is never below the other's low.": of any words that keep the promise, by both masses at n = 40
words-rise : {s t words others : List ℕ} {j i : ℕ} (m : Mechanism) → HigherPressure s t j → sheet_check s ≡ Pass → sheet_check t ≡ Pass → OpenRow s i
    → RowPromise s words i → RowPromise t others i → at words (low_place i m) ≤ at others (high_place i m)
words-rise {s} {t} {j} {i} m h pass pass' o p p' =
    whole-order _ _
    (≤_trans ((band p m).above 40 (omega arith))
    (≤_trans (*-mono-left (whole-NonNegative 1000) (masses-rise s t j i 40 m h pass pass' o)) ((band p' m).below 40 (omega arith))))

-- in the reports
kept : {s : List ℕ} {i : ℕ} → Bytes s → sheet_check s ≡ Pass → OpenRow s i → RowPromise s (report s) i
kept {s} {i} b pass o = (promise b (accepted s pass) (record { word = λ k l. refl })).each_row i o.row-of-s

pub reports-rise : WordTheorem
reports-rise s t j i m b b' h pass pass' o =
    let there : OpenRow t i = record { row-of-s = rw (rows_same h) o.row-of-s; no-canister = rw (row-alike h i) o.no-canister } in
    words-rise m h pass pass' o (kept (record { byte = b }) pass o) (kept (record { byte = b' }) pass' there)

-- in the words that the calls leave
passed : {s words : List ℕ} → Reported s words → sheet_check s ≡ Pass
passed {s} r =
    let room : ℕ = length r.old in
    report-sheet s room (zero-passes (report_check s room) (rw r.left.answer-is at r.accepted))

pub calls-rise : CallTheorem
calls-rise s t words others j i m h r r' o =
    words-rise m h (passed r) (passed r') o ((r.left.promise r.accepted).each_row i o.row-of-s)
    ((r'.left.promise r'.accepted).each_row i (rw (rows_same h) o.row-of-s))
