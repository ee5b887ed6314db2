-- `sheet_factors::tests::longer` meets its contract: a ready list stays ready.
use Rattle.std.proofs.Common.{◌≡◌, length, rules}
use Rattle.parking.proofs.Longer.{ready-longer}
use Rattle.sheet_factors.proofs.tests.longer.Goals as goal

pub returns : goal.returns
returns c cells rises ready =
    let long : length c.args.list.entries ≡ 576 = search rules in
    ready-longer ready long c.requires
