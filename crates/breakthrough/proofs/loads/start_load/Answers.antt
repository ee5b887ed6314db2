-- `breakthrough::loads::start_load` meets its contract.
use Rattle.std.proofs.Common.{◌∙◌, sym}
use Rattle.factors.proofs.Starts.{start-driven, start-written}
use Rattle.breakthrough.proofs.loads.start_load.Goals as goal

pub returns-then-row-lt-FIRST_KILOMETRES : goal.returns-then-row-lt-FIRST_KILOMETRES
returns-then-row-lt-FIRST_KILOMETRES c = c.tenth_grams.ensures ∙ sym (start-written _ _ _ c.if-row-lt-FIRST_KILOMETRES.true)

pub returns : goal.returns
returns c =
    let km = c.if-row-lt-FIRST_KILOMETRES.false in
    rw (c.tenth_grams-saturation.ensures, c.args.loaded.kept_of.kept-is km c.requires.canister-there) at c.start.ensures ∙ sym (start-driven _ _ _ km)
