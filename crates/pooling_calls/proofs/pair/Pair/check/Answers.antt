-- `pooling_calls::pair::Pair::check` meets its contract: the two sheets agree, what is left of their pool passes, and it has room.
-- Assumes nothing.
use mathlib.Core.Bool.{Bool}
use mathlib.Core.Path.{◌≡◌, sym, ap, ◌∙◌}
use Prim.Native.Nat.{ℕ, ◌+◌, ◌*◌}
use lib.Dec.{ltb}
use lib.ListN.{length}
use Rattle.refusals.specs.declared.Rule.TheVariants as rule
use Rattle.refusals.specs.Check.{refuse}
use Rattle.sheet.specs.Bytes.{rows_of}
use Rattle.refusals.proofs.Chain.{go}
use Rattle.pooling.proofs.PoolBytes.{pool-long}
use Rattle.pooling.proofs.PoolAnswers.{region, late}
use Rattle.pooling_calls.proofs.pair.Pair.check.Goals as goal

pub returns : goal.returns
returns c =
    let x = c.args.self.now in
    let long : c.length.result ≡ length x.first.bytes.now + 24 * rows_of x.second.bytes.now =
    c.length.ensures ∙ pool-long x.first.bytes.now (region _ c.args.self.now.regions.second) in
    go _ _ (c.refuse.ensures ∙ ap (λ (b : Bool). refuse b rule.Differ 0) c.differ.ensures) c.in_ok-refuse.was
    (go _ _ c.late_check.ensures c.in_ok-late_check.was
    (c.refuse-2.ensures ∙ ap (λ (n : ℕ). refuse (ltb c.args.room n) rule.Room 0) long)) ∙
    sym (late _ _ _ c.args.self.now.regions.first c.args.self.now.regions.second)
