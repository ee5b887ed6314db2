-- `row_factors::rows::SeasonRows::gain` meets its contract: the product of 150,000 and an exponential fits.
use mathlib.Core.Path.{◌≡◌, ◌∙◌, ap}
use Prim.Native.Nat.{ℕ, ◌+◌, ◌*◌, ◌-◌, ◌/◌, ◌^◌, ◌≤◌}
use native.Mathlib.Omega.{arith}
use native.Mathlib.Nat.{mul-le-mul, le_of_lt}
use Rattle.sheet.specs.Limits.{percent_limit, tank_limit}
use Rattle.bounds.specs.Exponential.{exponential}
use Rattle.factors.specs.Units.{gain}
use Rattle.factors.proofs.Gain.{gain-most}
use Rattle.row_factors.proofs.rows.SeasonRows.gain.Goals as goal
use Rattle.row_factors.proofs.rows.SeasonRows.gain.Goals.{After-exponential-vapour}

-- times E(0.0205·vp)
product : (c : After-exponential-vapour)
    → (100 - c.args.row.fill) * c.args.row.tank *
    c.exponential-vapour.result ≤ 150000 * 2 ^ 46
product c =
    let share : (100 - c.args.row.fill) * c.args.row.tank ≤ percent_limit * tank_limit =
    mul-le-mul {n₂ = percent_limit} {m₂ = tank_limit} (omega arith) c.requires.tank-most in
    mul-le-mul {n₂ = 150000} {m₂ = 2 ^ 46} share (le_of_lt c.exponential-vapour.ensures.1)

-- the result is the gain
same : (c : After-exponential-vapour)
    → (100 - c.args.row.fill) * c.args.row.tank *
    c.exponential-vapour.result / 40000 ≡ gain c.args.self.now.at.now.season c.args.row
unfolding gain
same c =
    let a = c.args in
    ap (λ (e : ℕ). (100 - a.row.fill) * a.row.tank * e / 40000)
    (c.exponential-vapour.ensures.0 ∙ ap exponential {y = 205 * a.self.now.at.now.season.vp * 10 ^ 9 + 16 * 10 ^ 14} (omega arith))

pub returns : goal.returns
returns c =
    (same c.before.before, rw (same c.before.before) (gain-most c.args.self.now.ready.day-ready.season-in c.requires))
