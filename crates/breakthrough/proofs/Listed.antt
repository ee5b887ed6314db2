-- What breaks through in the parkings of a season's list: its sum fits.
use mathlib.Core.List.{List}
use Prim.Native.Nat.{ℕ, zero, suc, ◌*◌, ◌/◌, ◌^◌, ◌≤◌, ◌<◌, zero-le}
use native.Mathlib.Nat.{mul-le-mul_left}
use native.Mathlib.Omega.{arith}
use Rattle.numbers.specs.Lists.{sum}
use Rattle.parking.specs.declared.season_list.Entry.{Entry}
use Rattle.parking.specs.declared.season_list.SeasonList.{SeasonList}
use Rattle.parking.specs.SeasonList.{entry_at, part, ListFits}
use Rattle.breakthrough.specs.declared.curve.Curve.{Curve}
use Rattle.breakthrough.specs.Through.{CurveReady, curve_at, through}
use Rattle.breakthrough.proofs.Fitted.{through-most}

-- what breaks through in a parking of an entry, in units of 2⁻²⁸ g
abbrev pub each : List Curve → ℕ → ℕ → ℕ
each curves start rise = through (curve_at curves start) rise / 2 ^ 12

-- counts of values of at most B
times-most : (a b : ℕ → ℕ) (B n : ℕ) → ((k : ℕ) → k < n → b k ≤ B) → sum (λ (k : ℕ). a k * b k) n ≤ sum a n * B
unfolding sum
times-most a b B zero h = zero-le
times-most a b B (suc n) h =
    omega (arith, times-most a b B n (λ k l. h k (omega arith)), mul-le-mul_left (a n) (h n (omega arith)))

-- at most a million counts of values below 2⁴²
pub list-fits : (list : SeasonList) (curves : List Curve) → ((d : ℕ) → d < 25 → CurveReady (curve_at curves d)) → ListFits (72 * 2 ^ 40) list
    → sum (part (each curves) list.entries) list.length < 2 ^ 64
list-fits list curves r l =
    let entry : ℕ → Entry = entry_at list.entries in
    let below : (k : ℕ) → k < list.length → each curves (entry k).kind.start (entry k).kind.rise ≤ 2 ^ 42 = (λ k h.
    let inside : k < 576 = omega (arith, l.length-most) in
    let ready = r (entry k).kind.start (l.starts-below k inside) in
    omega (arith, through-most (curve_at curves (entry k).kind.start) (entry k).kind.rise ready (l.rises-most k inside))) in
    omega (
      arith,
      times-most (λ (k : ℕ). (entry k).count) (λ (k : ℕ). each curves (entry k).kind.start (entry k).kind.rise) (2 ^ 42) list.length below,
      l.counts-most,
    )
