-- `row_factors::season::permeation_mean` meets its contract.
use Rattle.std.proofs.Common.{◌≡◌, ◌∙◌, ap, ℕ, ◌/◌, ◌^◌, arith, rules}
use Rattle.numbers.specs.Lists.{tab, at}
use Rattle.numbers.proofs.Lists.{get_d-tab, tab-ext, tab-at-most}
use Rattle.numbers.proofs.Made.{made-all}
use Rattle.parking.specs.Grid.{passed_in}
use Rattle.parking.proofs.Passed.{passed_in-most}
use Rattle.parking.proofs.Weighted.{mean-tab}
use Rattle.parking.proofs.Walked.{walked-is}
use Rattle.row_factors.proofs.season.permeation_mean.Goals as goal

-- the halves are those of the definition
halved : (c : goal.After-halves-1) → c.from_fn-halves.result ≡ tab (λ (cell : ℕ). passed_in c.args.rates.now cell / 2) 576
halved c =
    let made : c.from_fn-halves.result ≡ tab (λ (cell : ℕ). at c.walk-all.result.passed cell / 2) 576
    = made-all _ _ _ (λ i y q w. search rules) c.from_fn-halves.ensures.items in
    made ∙
    tab-ext 576 (λ cell h. ap (λ (x : ℕ). x / 2)
    (rw (c.walk-all.ensures.0 ∙ walked-is _)
    (get_d-tab (passed_in c.args.rates.now) 576 cell h)))

pub mean_by_cell-requires : goal.mean_by_cell-requires
mean_by_cell-requires c = tab-at-most _ 576 (halved c) (λ cell _. omega (arith, passed_in-most c.args.rates.now (2 ^ 40) cell c.requires))

pub returns : goal.returns
returns c = c.mean_by_cell.ensures ∙ mean-tab _ _ c.args.grid.now.cells.in_range.length-is (halved c.before)
