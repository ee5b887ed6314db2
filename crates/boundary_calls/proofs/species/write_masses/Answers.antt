-- `boundary_calls::species::write_masses` meets its contract: the first 29 words are replaced.
-- Assumes nothing.
use Rattle.std.proofs.Common.{sym, ap, ◌∙◌, length, length-take-le}
use Rattle.inventory.specs.ReportCall.{written}
use Rattle.boundary.proofs.MassesWritten.{masses-length}
use Rattle.boundary_calls.proofs.species.write_masses.Goals as goal

pub copy_from_slice-requires : goal.copy_from_slice-requires
copy_from_slice-requires c =
    length-take-le 29 c.args.milligrams.now c.requires ∙ sym (ap length c.split.ensures.0 ∙ masses-length c.args.total)

pub returns : goal.returns
unfolding written
returns c =
    let copied = c.copy_from_slice.ensures.after ∙ c.split.ensures.0 in
    rw (copied, masses-length c.args.total)
