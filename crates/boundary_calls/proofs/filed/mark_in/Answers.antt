-- `boundary_calls::filed::mark_in` meets its contract.
use Rattle.std.proofs.Common.{◌∙◌, ap}
use Rattle.marking.specs.declared.Filed.{Filed}
use Rattle.marking.specs.Verdicts.{verdict}
use Rattle.boundary.specs.MarkExport.{handed_verdict}
use Rattle.boundary_calls.proofs.filed.mark_in.Goals as goal

pub returns-in-Ok : goal.returns-in-Ok
unfolding handed_verdict
returns-in-Ok c =
    let e = c.in-Ok.ensures in
    rw e.0 (c.mark.ensures.0 ∙ ap (λ (f : Filed). verdict f c.args.band.low c.args.band.high) e.1)

pub returns-in-Err : goal.returns-in-Err
unfolding handed_verdict
returns-in-Err c = rw c.in-Err.ensures
