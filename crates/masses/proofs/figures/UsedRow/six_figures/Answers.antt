-- `masses::figures::UsedRow::six_figures` meets its contract: the factors are those cut down, and those cut up.
-- Assumes nothing.
use mathlib.Core.Bool.{true, false}
use mathlib.Core.Path.{◌≡◌, refl}
use borrow.Author.Rules.{rules}
use Rattle.numbers.proofs.Made.{made-all}
use Rattle.masses.specs.Day.{rounded, rounded_all}
use Rattle.masses.proofs.FigureSizes.{micrograms-in-range}
use Rattle.masses.proofs.figures.UsedRow.six_figures.Goals as goal

low : (c : goal.After-from_fn) → c.from_fn.result ≡ rounded_all false c.args.units.now.factors
unfolding rounded
low c = made-all _ _ _ (λ i y q w. search rules) c.from_fn.ensures.items

high : (c : goal.After-from_fn-2) → c.from_fn-2.result ≡ rounded_all true c.args.units.now.factors
unfolding rounded
high c = made-all _ _ _ (λ i y q w. search rules) c.from_fn-2.ensures.items

pub three_figures-low-requires : goal.three_figures-low-requires
three_figures-low-requires c = rw (low c) (micrograms-in-range false c.args.units.now.in_range)

pub three_figures-high-requires : goal.three_figures-high-requires
three_figures-high-requires c = rw (high c) (micrograms-in-range true c.args.units.now.in_range)

pub returns : goal.returns
returns c =
    let l = low c.before.before.before in
    let h = high c.before in
    rw (c.three_figures-high.ensures, c.three_figures-low.ensures, h, l) refl
