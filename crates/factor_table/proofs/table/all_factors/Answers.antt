-- `factor_table::table::all_factors` meets its contract: the part of each season has its words, and what lies beyond them is as it was.
use Rattle.std.proofs.Common.{rules, ◌≡◌, ◌∙◌, sym, ap, ℕ, ◌*◌, ◌<◌, length, arith}
use native.Mathlib.Nat.{mul_comm}
use Rattle.blocks.proofs.Parts.{part-length}
use Rattle.sheet.specs.Bytes.{seasons_of, rows_of}
use Rattle.factor_table.specs.Factors.{factors_length, season_factors}
use Rattle.factor_table.proofs.SheetTable.{all-filled}
use Rattle.factor_table.proofs.table.all_factors.Goals as goal

pub fill_blocks-requires-clause-room : goal.fill_blocks-requires-clause-room
unfolding factors_length
fill_blocks-requires-clause-room c = rw (c.seasons.ensures.0, c.rows-size.ensures.0)
    (rw (mul_comm (14 * rows_of c.args.sheet.bytes.now)) at c.requires)

pub fill_blocks-requires-clause-accepts : goal.fill_blocks-requires-clause-accepts
fill_blocks-requires-clause-accepts c i h p e =
    let sheet = c.new-loaded.result.sheet.sheet.bytes.now in
    let there : i < seasons_of sheet = rw c.new-loaded.ensures (omega (arith, h, c.seasons.ensures.0)) in
    let whole = part-length (14 * c.rows-size.result) c.args.words.now i c.seasons.result h (fill_blocks-requires-clause-room c) in
    let long : length p.now ≡ 14 * rows_of sheet = rw (e, c.new-loaded.ensures) (whole ∙ ap (λ (r : ℕ). 14 * r) c.rows-size.ensures.0) in
    search rules

pub returns : goal.returns
returns c =
    let s = c.args.sheet.bytes.now in
    all-filled s c.args.words.now _
    (λ j h.
    let m = c.fill_blocks.ensures.blocks j (omega (arith, c.seasons.ensures.0)) in
    let left : m.after_call.now ≡ season_factors s j = search rules in
    sym (rw c.rows-size.ensures.0 at m.left) ∙ left)
    (rw (c.seasons.ensures.0, c.rows-size.ensures.0) at c.fill_blocks.ensures.rest)
