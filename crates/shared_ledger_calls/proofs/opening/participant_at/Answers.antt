-- `shared_ledger_calls::opening::participant_at` meets its contract: the numbers of the participants are 1 to 8.
-- Assumes nothing.
use mathlib.Core.Path.{◌≡◌, sym, ◌∙◌}
use Prim.Native.Nat.{ℕ}
use Rattle.std.proofs.Common.{Option, None, rules}
use Rattle.numbers.specs.Lists.{at}
use Rattle.shared_ledger_calls.proofs.Tallies.{no-owner}
use Rattle.shared_ledger_calls.proofs.opening.participant_at.Goals as goal

pub returns-in_err-owner : goal.returns-in_err-owner
returns-in_err-owner c =
    let none : ◌≡◌ {A = Option ℕ} c.from_residual.result None = search rules in
    let zero : at c.args.owners.now c.args.i ≡ 0 = rw c.in_err-owner.was at c.owner_at.ensures in
    rw none (no-owner _ zero)

pub returns-then-outside : goal.returns-then-outside
returns-then-outside c =
    let same : c.in_ok-owner.owner ≡ at c.args.owners.now c.args.i = rw c.in_ok-owner.was at c.owner_at.ensures in
    rw (← same, ← c.from.ensures) (sym c.outside.ensures ∙ c.if-outside.true)

pub returns : goal.returns
returns c =
    let same : c.in_ok-owner.owner ≡ at c.args.owners.now c.args.i = rw c.in_ok-owner.was at c.owner_at.ensures in
    (c.from-2.ensures ∙ same, rw (c.from-2.ensures, ← c.from.ensures) (sym c.outside.ensures ∙ c.if-outside.false))
