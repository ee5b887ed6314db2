-- `report_words::year::clear` meets its contract: n zeros stand before the words that stay.
-- Assumes nothing.
use mathlib.Core.List.{List, ◌++◌}
use mathlib.Core.Path.{refl, ◌∙◌, ap}
use Prim.Native.Nat.{ℕ}
use lib.ListN.{drop, replicate}
use lib.Seq.{length-take-le}
use Rattle.numbers.proofs.Lists.{tab-constant}
use Rattle.report_words.proofs.year.clear.Goals as goal

pub returns : goal.returns
returns c =
    let x = c.args in
    let zeros = c.fill.ensures.after (λ y h. h) in
    ap (λ (r : List ℕ). r ++ drop x.n x.words.now)
    (zeros ∙ ap (λ (k : ℕ). replicate k 0) (length-take-le x.n x.words.now c.requires) ∙ tab-constant x.n 0 (λ k h. refl))
