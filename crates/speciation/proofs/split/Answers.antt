-- `speciation::split` meets its contract: after i turns the first i masses are those of the definition, and `before` is the sum of the
-- first i shares.
-- Assumes nothing.
use mathlib.Core.Path.{refl, sym, subst}
use native.Mathlib.Omega.{arith}
use Rattle.numbers.proofs.Lists.{filled_none, filled_more, filled-all, sum-none}
use Rattle.speciation.specs.Table.{alkanes, alkenes, alkines, aromatics, table, shares}
use Rattle.speciation.specs.Split.{share_at, species_masses, SpeciesPromise}
use Rattle.speciation.proofs.Promised.{next_fits, next-mass, next-reached, promised}
use Rattle.speciation.proofs.split.Goals as goal

pub loop-i-init : goal.loop-i-init
unfolding shares table alkanes alkenes alkines aromatics
loop-i-init c = (filled_none _ _ refl, record { sum_is = sum-none share_at; column-is = refl })

pub mass_of-requires : goal.mass_of-requires
mass_of-requires c = next_fits c.loop-i.invariant.1 (omega arith)

pub overflow_add-before : goal.overflow_add-before
overflow_add-before c = omega (arith, next_fits c.loop-i.invariant.1 (omega arith))

pub loop-i-preserved : goal.loop-i-preserved
loop-i-preserved c =
    let l = c.loop-i in (
      filled_more l.invariant.0 (omega arith) (next-mass l.invariant.1 _ c.mass_of.ensures),
      next-reached l.invariant.1,
    )

pub returns : goal.returns
unfolding species_masses
returns c =
    let e = filled-all c.loop-i.invariant.0 (omega arith) in
    (e, subst (SpeciesPromise _) (sym e) (promised _))
