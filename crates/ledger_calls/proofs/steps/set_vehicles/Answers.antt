-- `ledger_calls::steps::set_vehicles` meets its contract: four bytes stand in place of those of the count.
-- Assumes nothing.
use Rattle.std.proofs.Common.{◌≡◌, ℕ, ◌+◌, ◌-◌, ◌≤◌, List, length, ◌∙◌, arith, append_assoc}
use borrow.Rule.Slice.PartMut.{put_mid, Post-is}
use lib.Seq.{sets, sets-eq}
use Rattle.sheet.specs.Bytes.{row_place}
use Rattle.sheet.specs.Counts.{four_bytes, with_count}
use Rattle.ledger_calls.proofs.steps.set_vehicles.Goals as goal

-- four bytes in place of those from a place on
stored : (s : List ℕ) (place v : ℕ) → place + 4 ≤ length s → put_mid place (place + 4 - place) s (four_bytes v) ≡ sets s place (four_bytes v)
stored s place v room =
    let after = Post-is place (place + 4) s (omega arith) in
    rw (sets-eq (four_bytes v) s place room, after, append_assoc)

pub returns : goal.returns
unfolding with_count
returns c =
    let x = c.args in
    let four : c.copy_from_slice.new.self ≡ four_bytes x.v = c.copy_from_slice.ensures.after ∙ c.to_le_bytes.ensures in
    rw (four, c.row_place-place.ensures) (stored x.s.now (row_place x.s.now x.i + 8) x.v (omega (arith, c.requires)))
