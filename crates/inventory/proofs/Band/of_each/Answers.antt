-- `inventory::Band::of_each` meets its contract: std's `from_fn` gives the band of each factor.
use borrow.Author.Rules.{rules}
use Rattle.inventory.proofs.Bands.{made}
use Rattle.inventory.proofs.Band.of_each.Goals as goal

pub returns : goal.returns
returns c = made _ _ _ (λ k y q w. search rules) c.from_fn.ensures.items c.args.units.now.in_range.seven
