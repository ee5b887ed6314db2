-- `largest_loads::largest_in` meets its contract: without a canister it is the largest that can be written.
-- Assumes nothing.
use Rattle.std.proofs.Common.{◌≡◌, ℕ, ◌+◌, ◌*◌, ◌-◌, ◌/◌, ◌<◌, Option, Some, None, refl, ◌∙◌}
use Rattle.std.specs.Option.{MatchOption, unwrap_or}
use Rattle.findings.specs.Canisters.{bits_most, largest_for, largest_in}
use Rattle.findings.proofs.Steps.{largest-for}
use Rattle.largest_loads.proofs.largest_in.Goals as goal

-- for a canister of k halves, and for none
is-largest : (limit vp h k : ℕ) (o : Option ℕ)
    → MatchOption o (k ≡ 0) (λ most. (0 < k)
    × (most ≡ (limit * 20000000 + 2000 * (129500 + 15 * vp) - 130000 * h) / ((112000 + 10 * h - 15 * vp) * k)))
    → unwrap_or o bits_most ≡ largest_for limit vp h k
unfolding largest_for
is-largest limit vp h k None e = rw e refl
is-largest limit vp h k (Some most) (l, e) = e ∙ largest-for limit vp h k l

pub returns : goal.returns
unfolding largest_in
returns c = c.unwrap_or.ensures ∙ is-largest _ _ _ _ _ c.largest_in.ensures
