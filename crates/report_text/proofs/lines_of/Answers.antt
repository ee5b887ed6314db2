-- `report_text::lines_of` meets its contract: the words that are handed on are the report's.
-- Assumes nothing.
use mathlib.Core.Path.{sym}
use Prim.Native.Nat.{◌+◌, ◌*◌}
use native.Mathlib.Omega.{arith}
use Rattle.std.proofs.Common.{length-take-le}
use Rattle.refusals.proofs.Chain.{handed}
use Rattle.text.proofs.LineSizes.{Words}
use Rattle.report_text.proofs.SheetText.{lines-made, lines-most, head-there, words-there, refusal_is, refusal-short}
use Rattle.report_text.proofs.lines_of.Goals as goal

pub returns-in_err-check-clause-text : goal.returns-in_err-check-clause-text
returns-in_err-check-clause-text c =
    rw (handed c.from_residual.result _ c.from_residual.ensures, c.in_err-check.was) (refusal_is c.args.s.now c.in_err-check.field-0.0)

pub returns-in_err-check-clause-most : goal.returns-in_err-check-clause-most
returns-in_err-check-clause-most c =
    rw c.in_err-check.was (refusal-short c.args.s.now c.in_err-check.field-0.0 (omega arith))

pub rows_of-rows-requires : goal.rows_of-rows-requires
rows_of-rows-requires c = head-there (c.requires c.in_ok-check.was)

pub version_of-requires : goal.version_of-requires
version_of-requires c = head-there (c.requires c.in_ok-check.was)

pub slice_bounds-result-end : goal.slice_bounds-result-end
slice_bounds-result-end c =
    let there = words-there (c.requires c.in_ok-check.was) c.rows_of-rows.ensures.0 in
    sym (length-take-le (6 * c.rows_of-rows.result + 26) c.args.words.now there)

pub returns-clause-there : goal.returns-clause-there
returns-clause-there c =
    let there = words-there (c.requires c.in_ok-check.was) c.rows_of-rows.ensures.0 in
    omega (arith, length-take-le (6 * c.rows_of-rows.result + 26) c.args.words.now there)

pub returns-clause-text : goal.returns-clause-text
returns-clause-text c =
    rw c.in_ok-check.was (lines-made (c.requires c.in_ok-check.was) c.version_of.ensures c.rows_of-rows.ensures.0)

pub returns-clause-most : goal.returns-clause-most
returns-clause-most c =
    let made = c.requires c.in_ok-check.was in
    let each : Words c.args.words.now = record { word = λ k. (c.type_inv.words k).fits } in
    rw c.in_ok-check.was (lines-most made each)
