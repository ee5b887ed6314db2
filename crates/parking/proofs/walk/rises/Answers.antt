-- `parking::walk::rises` meets its contract: the walk gives what passed in each parking.
use Rattle.std.proofs.Common.{◌≡◌, ◌∙◌, ap, ℕ, ◌-◌, rules}
use Rattle.numbers.specs.Lists.{tab, at}
use Rattle.numbers.proofs.Lists.{get_d-tab, tab-ext}
use Rattle.numbers.proofs.Made.{made-all}
use Rattle.marks.specs.Marks.{rise_error}
use Rattle.parking.specs.Grid.{passed_in}
use Rattle.parking.proofs.Walked.{walked-is}
use Rattle.parking.proofs.walk.rises.Goals as goal

pub returns : goal.returns
returns c =
    let made : c.from_fn.result ≡ tab (λ (cell : ℕ). at c.walk-all.result.passed cell - rise_error) 576
    = made-all _ _ _ (λ i y q w. search rules) c.from_fn.ensures.items in
    made ∙
    tab-ext 576 (λ cell h. ap (λ (x : ℕ). x - rise_error)
    (rw (c.walk-all.ensures.0 ∙ walked-is _) (get_d-tab (passed_in c.args.steps.now) 576 cell h)))
