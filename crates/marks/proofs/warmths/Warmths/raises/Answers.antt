-- `marks::warmths::Warmths::raises` meets its contract: at each distance stands its value.
use Rattle.std.proofs.Common.{◌≡◌, ℕ, ◌+◌, ◌-◌, arith, rules}
use Rattle.numbers.specs.Lists.{tab, at}
use Rattle.numbers.proofs.Lists.{tab-at-most}
use Rattle.numbers.proofs.Made.{made-all}
use Rattle.marks.specs.Marks.{heat, raised_error}
use Rattle.marks.proofs.Heat.{raised-most}
use Rattle.marks.proofs.warmths.Warmths.raises.Goals as goal

made : (c : goal.After-from_fn) → c.from_fn.result ≡
    tab (λ (d : ℕ). heat (at c.args.self.now.by_distance d + c.args.raise) - (at c.args.heats.now.by_distance d + raised_error)) 25
made c = made-all _ _ _ (λ i y q w. search rules) c.from_fn.ensures.items

pub invariant_of-result : goal.invariant_of-result
invariant_of-result c = record {
  moderate =
      tab-at-most _ 25 (made c)
      (λ d h. omega (
        arith,
        raised-most (at c.args.self.now.by_distance d + c.args.raise) (omega (arith, c.args.self.now.temperate.at_most d, c.requires)),
      ));
}

pub returns : goal.returns
returns c = made c.before
