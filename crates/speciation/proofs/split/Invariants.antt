-- `speciation::split` meets its contract: after i turns the first i masses are those of the definition, and `before` is the sum of the
-- first i shares.
-- Assumes nothing.
use Rattle.numbers.proofs.Lists.{Filled}
use Rattle.speciation.specs.Split.{species_mass}
use Rattle.speciation.proofs.Promised.{Reached}
use Rattle.speciation.proofs.split.Given as goal

abbrev pub invariant-loop-i : goal.invariant-loop-i
invariant-loop-i l = Filled (species_mass l.total) 29 l.i l.masses × Reached l.i l.before l.share-items
