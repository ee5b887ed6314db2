-- `breakthrough::fitting::fit` meets its contract: at each distance stands its canister.
use Rattle.std.proofs.Common.{ℕ, ◌<◌, rules}
use Rattle.numbers.proofs.Made.{made_each}
use Rattle.factors.specs.Escape.{tenth_grams}
use Rattle.factors.specs.Units.{row_start, loss_error}
use Rattle.breakthrough.specs.declared.curve.Curve.{Curve}
use Rattle.breakthrough.specs.Lines.{line_at, CurveBy}
use Rattle.breakthrough.specs.Through.{curve_at, no_curve}
use Rattle.breakthrough.proofs.Fitted.{curve-ready}
use Rattle.breakthrough.proofs.fitting.fit.Goals as goal

-- the canister at a distance
abbrev Fitted : goal.After-from_fn → ℕ → Curve → Type 0
Fitted c d curve =
    let row = c.args.row.row in
    let line = line_at c.args.lines.now d in
    CurveBy line.base line.growth (row_start row line.base line.growth) (tenth_grams row.saturation) c.args.vapour (loss_error row) curve

made : (c : goal.After-from_fn) → (d : ℕ) → d < 25 → Fitted c d (curve_at c.from_fn.result d)
made c = made_each _ _ (Fitted c) (λ i y q w. search rules) c.from_fn.ensures.items no_curve

pub invariant_of-result : goal.invariant_of-result
invariant_of-result c = record { ready = λ d h. curve-ready (c.requires d h).curve-fits (made c d h) }

pub returns : goal.returns
returns c = made c.before
