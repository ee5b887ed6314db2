-- `Filed::try_from` of what is handed in meets its contract: by the unit's number, 0, 1, 2, 3, or any other.
use Rattle.std.proofs.Common.{arith, ne_eqb}
use Rattle.boundary.specs.MarkExport.{unit_handed}
use Rattle.boundary.proofs.filed.FiledTryFromEvpFiled.try_from.Goals as goal

pub returns-in_default : goal.returns-in_default
unfolding unit_handed
returns-in_default c =
    let unit = c.args.f.unit in
    rw (
      ne_eqb unit 0 (λ e. omega arith),
      ne_eqb unit 1 (λ e. omega arith),
      ne_eqb unit 2 (λ e. omega arith),
      ne_eqb unit 3 (λ e. omega arith),
    )
