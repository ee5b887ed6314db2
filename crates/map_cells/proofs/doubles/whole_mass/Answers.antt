-- `map_cells::doubles::whole_mass` meets its contract.
use Rattle.std.proofs.Common.{sym, ◌∙◌}
use Rattle.std.proofs.lemmas.Float.{T_from_true}
use lib.Ieee.{of_bits, neg}
use Rattle.map_cells.proofs.WholeDoubles.{none_below, none_above, none-large, none-small, none-unequal, mass-equal, above_no_nan}
use Rattle.map_cells.proofs.doubles.whole_mass.Goals as goal

pub returns-then-not-x : goal.returns-then-not-x
unfolding of_bits neg
returns-then-not-x c = none_below _ c.if-not-x.true

pub returns-then-not-x-2 : goal.returns-then-not-x-2
unfolding of_bits neg
returns-then-not-x-2 c = none_above _ c.if-not-x-2.true

pub truncating_f64_to_u64-n-requires : goal.truncating_f64_to_u64-n-requires
unfolding of_bits neg
truncating_f64_to_u64-n-requires c = record { lower_bound = T_from_true _ c.if-not-x.false; upper_bound = T_from_true _ c.if-not-x-2.false }

pub returns-then-n-gt-MASS_LIMIT : goal.returns-then-n-gt-MASS_LIMIT
returns-then-n-gt-MASS_LIMIT c =
    none-large _ _ c.truncating_f64_to_u64-n.ensures c.if-n-gt-MASS_LIMIT.true

pub zero_bits-requires : goal.zero_bits-requires
unfolding of_bits neg
zero_bits-requires c = above_no_nan _ (T_from_true _ c.if-not-x.false)

pub returns-then-not-zero_bits : goal.returns-then-not-zero_bits
returns-then-not-zero_bits c =
    none-small _ _ c.truncating_f64_to_u64-n.ensures c.if-n-eq0.true (sym c.zero_bits.ensures ∙ c.if-not-zero_bits.true)

pub returns-then-from-x : goal.returns-then-from-x
returns-then-from-x c = mass-equal _ _ c.if-n-gt-MASS_LIMIT.false (rw c.from.ensures at c.if-from-x.true)

pub returns-else-from-x : goal.returns-else-from-x
returns-else-from-x c =
    none-unequal _ _ c.truncating_f64_to_u64-n.ensures (rw c.from.ensures at c.if-from-x.false)
