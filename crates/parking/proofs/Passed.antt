-- What passed in a parking: from cell to cell of an end hour, and of values that stand in a list.
use mathlib.Core.List.{List}
use mathlib.Core.Path.{◌≡◌, refl, ap}
use Prim.Native.Nat.{ℕ, zero, suc, ◌+◌, ◌*◌, ◌≤◌}
use native.Mathlib.Numerals.{add-one}
use native.Mathlib.Nat.{mul-le-mul_right}
use native.Mathlib.Omega.{arith}
use Rattle.numbers.specs.Lists.{tab, at}
use Rattle.numbers.specs.Bounded.{AllAtMost}
use Rattle.numbers.proofs.Lists.{get_d-tab}
use Rattle.exact.specs.Day.{start_mark}
use Rattle.exact.specs.Factors.{end_hour, duration}
use Rattle.marks.specs.Marks.{passed}
use Rattle.marks.proofs.Curve.{start_mark-below}
use Rattle.marks.proofs.Permeation.{passed-most}
use Rattle.factors.proofs.Losses.{duration-most}
use Rattle.parking.specs.Grid.{passed_in}

-- one half-hour further back
pub passed-more : (f : ℕ → ℕ) (hour d : ℕ) {s r : ℕ} → s ≡ passed f hour d → r ≡ f (start_mark hour (d + 1)) → s + r ≡ passed f hour (d + 1)
unfolding passed
passed-more f hour d e h = rw add-one (cc (add-one d))

-- at most 24 values of at most a bound
pub passed_in-most : (values : List ℕ) (bound cell : ℕ) → AllAtMost bound values → passed_in values cell ≤ 24 * bound
unfolding passed_in
passed_in-most values bound cell h =
    omega (arith, passed-most (at values) bound h.at_most (end_hour cell) (duration cell), mul-le-mul_right bound (duration-most cell))

-- of values that stand in a list
pub passed-tab : (g : ℕ → ℕ) (hour d : ℕ) {xs : List ℕ} → xs ≡ tab g 48 → passed (at xs) hour d ≡ passed g hour d
unfolding passed
passed-tab g hour zero e = refl
passed-tab g hour (suc d) e =
    rw (passed-tab g hour d e) (ap (◌+◌ _) (rw e (get_d-tab g 48 (start_mark hour (suc d)) (start_mark-below hour (suc d)))))

pub passed_in-tab : (g : ℕ → ℕ) {xs : List ℕ} → xs ≡ tab g 48 → (cell : ℕ) → passed_in xs cell ≡ passed g (end_hour cell) (duration cell)
unfolding passed_in
passed_in-tab g e cell = passed-tab g (end_hour cell) (duration cell) e
