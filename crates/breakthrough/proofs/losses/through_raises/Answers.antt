-- `breakthrough::losses::through_raises` meets its contract: what is lost at each distance, and its mean.
use Rattle.std.proofs.Common.{◌≡◌, ◌∙◌, ℕ, arith, rules}
use Rattle.numbers.specs.Lists.{tab, at}
use Rattle.numbers.proofs.Lists.{tab-at-most, get_d-tab}
use Rattle.numbers.proofs.Made.{made-all}
use Rattle.parking.specs.Grid.{is_end, apart_of}
use Rattle.parking.proofs.Tally.{apart_of-below}
use Rattle.parking.proofs.Weighted.{mean-ext}
use Rattle.breakthrough.specs.Through.{curve_at, through}
use Rattle.breakthrough.proofs.Fitted.{through-most}
use Rattle.breakthrough.proofs.losses.through_raises.Goals as goal

pub mean_by_distance-requires : goal.mean_by_distance-requires
mean_by_distance-requires c =
    let made : c.from_fn-losses.result ≡ tab (λ (d : ℕ). through (curve_at c.args.c.now.by_distance d) (at c.args.raises.now.by_distance d)) 25
    = made-all _ _ _ (λ i y q w. search rules) c.from_fn-losses.ensures.items in
    tab-at-most _ 25 made (λ d h. through-most _ _ (c.args.c.now.ready d h) (omega (arith, c.args.raises.now.moderate.at_most d)))

pub returns : goal.returns
returns c =
    let ends = is_end c.args.moment in
    let f : ℕ → ℕ = λ d. through (curve_at c.args.c.now.by_distance d) (at c.args.raises.now.by_distance d) in
    let made : c.from_fn-losses.result ≡ tab f 25 = made-all _ _ _ (λ i y q w. search rules) c.from_fn-losses.ensures.items in
    c.mean_by_distance.ensures ∙
    mean-ext _ (λ cell. rw made (get_d-tab f 25 (apart_of ends cell) (apart_of-below ends cell)))
