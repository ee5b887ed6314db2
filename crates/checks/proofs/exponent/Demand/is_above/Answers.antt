-- `checks::exponent::Demand::is_above` meets its contract: it compares as document 01 does, with a's part on the other side.
-- Assumes nothing.
use Rattle.std.proofs.Common.{◌≡◌, ℕ, ◌+◌, ◌-◌, ◌≤◌, ltb, arith, ◌∙◌}
use Rattle.sheet.proofs.Checks.{ltb-tests, tests-as, tests_same}
use Rattle.sheet.proofs.Saturation.{saturation-is}
use Rattle.checks.proofs.exponent.Demand.is_above.Goals as goal

-- what is taken from one side is added on the other
moved : (most taken x : ℕ) → taken ≤ most → ltb (most - taken) x ≡ ltb most (x + taken)
moved most taken x h =
    tests_same (tests-as (λ l. omega arith) (λ l. omega arith) (ltb-tests (most - taken) x)) (ltb-tests most (x + taken))

pub returns : goal.returns
returns c =
    let x = c.args in
    rw (c.is_exceeded.ensures, c.in_season.ensures.0, c.in_season.ensures.1)
    (moved _ _ _ (omega (arith, x.checked.in_range.warm)) ∙ saturation-is x.self.limit x.self.canister x.m x.checked.in_range)
