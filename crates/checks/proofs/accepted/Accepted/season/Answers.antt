-- `checks::accepted::Accepted::season` meets its contract: the season of a sheet that passes is in range.
-- Assumes nothing.
use Rattle.sheet.proofs.Accepted.{Bytes, accepted}
use Rattle.checks.proofs.accepted.Accepted.season.Goals as goal

pub invariant_of-result : goal.invariant_of-result
invariant_of-result c =
    let sheet = c.args.self.now in
    let bytes : Bytes sheet.bytes.now = record { byte = sheet.are_bytes } in
    record { in_range = rw c.season_at.ensures.0 (((accepted sheet.bytes.now sheet.passed).season _ c.requires).in-range bytes) }
