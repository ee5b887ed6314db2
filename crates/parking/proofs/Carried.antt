-- What is carried along encloses document 01's sums: in every season, and over any mark temperatures.
-- Assumes nothing.
use mathlib.Core.Bool.{false}
use mathlib.Core.Path.{◌≡◌, refl, sym, ◌∙◌, ap₂}
use Prim.Native.Nat.{ℕ, zero, suc, ◌+◌, ◌*◌, ◌-◌, ◌/◌, ◌%◌, ◌^◌, ◌≤◌, ◌<◌}
use native.Mathlib.Omega.{arith}
use Rattle.numbers.specs.Fraction.{◌/10^◌}
use Rattle.numbers.specs.Lists.{tab, at}
use Rattle.numbers.proofs.Order.{≈-sym}
use Rattle.bounds.specs.Enclosure.{WithinAll}
use Rattle.bounds.specs.Power.{degrees}
use Rattle.bounds.proofs.Within.{within-≈, all_map}
use Rattle.exact.specs.declared.Season.{Season}
use Rattle.exact.specs.Day.{temperature}
use Rattle.exact.specs.Rise.{rises}
use Rattle.exact.specs.Permeation.{parking_permeation}
use Rattle.exact.specs.Factors.{end_hour, duration}
use Rattle.sheet.specs.Limits.{vp_limit}
use Rattle.sheet.specs.Range.{mark_warmth, SeasonInRange}
use Rattle.sheet.proofs.Temperature.{temperature-is, season-in-range}
use Rattle.marks.proofs.Runs.{rising, runs}
use Rattle.marks.specs.Marks.{step_at, heat_error, rate, passed}
use Rattle.marks.proofs.Rise.{rises-cong, vapour-rises}
use Rattle.marks.proofs.Runs.{shape, rise-within}
use Rattle.marks.proofs.Curve.{season-rise-within}
use Rattle.marks.proofs.Permeation.{rate_error, permeation-within}
use Rattle.parking.specs.Grid.{passed_in}
use Rattle.parking.specs.Walk.{walked}
use Rattle.parking.specs.Carried.{SeasonAllowed, carried_after, CarriedRise, CarriedTheorem}
use Rattle.parking.proofs.Passed.{passed-tab}
use Rattle.parking.proofs.Walked.{none_passed, steps-at, walked_at}

-- The parking of k + 1 half-hours that ends at hour h + 1, of any values by mark.
module _ (g : ℕ → ℕ) (h k : ℕ) (hour : h < 24) (back : k < 24) where
  -- what is carried there is what passed in it,
  there : carried_after (tab g 48) (suc h) (suc k) ≡ passed g (suc h) (suc k)
  there =
      let place : suc k - 1 ≡ k = omega arith in
      let half-hours : 0 + k ≡ k = omega arith in
      rw place ((rw half-hours at (steps-at (tab g 48) (suc h) 0 0 24 k (none_passed (tab g 48) (suc h)) back)) ∙ passed-tab g (suc h) (suc k) refl)

  -- and stands in its cell
  in-walk : at (walked (tab g 48) 24) (24 * h + k) ≡ passed g (suc h) (suc k)
  unfolding passed_in end_hour duration
  in-walk =
      let hours : (24 * h + k) / 24 + 1 ≡ suc h = omega arith in
      let half-hours : (24 * h + k) % 24 + 1 ≡ suc k = omega arith in
      walked_at (tab g 48) 24 (24 * h + k) (omega arith) ∙ ap₂ (passed (at (tab g 48))) hours half-hours ∙ passed-tab g (suc h) (suc k) refl

-- Any 48 mark temperatures from −30 to 50 °C, in any order.
module _ (θ : ℕ → ℕ) (warm : (i : ℕ) → θ i ≤ 80 * 10 ^ 10) (h k : ℕ) (hour : h < 24) (back : k < 24) where
  -- the carried rise encloses the exact sum over the parking's steps that rise, for every n from 40 upward: for r runs of rising steps
  -- it is within the errors of r marks, either way
  pub carried-rise : (r : ℕ) → runs false (rising θ) (suc h) (suc k) ≤ r
      → WithinAll (2 ^ 40) (carried_after (tab (step_at θ) 48) (suc h) (suc k) - r * heat_error) (2 * (r * heat_error))
      (λ n. rises n (λ i. degrees (θ i)) (suc h) (suc k))
  carried-rise r few = rw (there (step_at θ) h k hour back) (rise-within warm (shape θ) (suc h) (suc k) r (omega arith) few)

  -- and half of the carried permeation encloses that of the parking
  pub carried-permeation : (vp : ℕ) → vp ≤ vp_limit
      → WithinAll (2 ^ 40) (carried_after (tab (λ i. rate vp (θ i)) 48) (suc h) (suc k) / 2) (suc k * rate_error / 2 + 2)
      (λ n. parking_permeation n (vp /10^ 1) (λ i. degrees (θ i)) (suc h) (suc k))
  carried-permeation vp l = rw (there (λ i. rate vp (θ i)) h k hour back) (permeation-within vp θ l (λ i. omega (arith, warm i)) (suc h) (suc k))

-- a season's temperatures do not know its pressure: at a pressure of 0 it is in range
abbrev at_no_pressure : Season → Season
at_no_pressure season = record { days = season.days; lowest = season.lowest; highest = season.highest; vp = 0 }

allowed : {season : Season} → SeasonAllowed season → SeasonInRange (at_no_pressure season)
allowed a = season-in-range a.bits.0 a.bits.1 a.cold a.order a.warm (omega arith)

same-warmth : (season : Season) → mark_warmth (at_no_pressure season) ≡ mark_warmth season
unfolding mark_warmth
same-warmth season = refl

same-temperature : (season : Season) → temperature (at_no_pressure season) ≡ temperature season
unfolding temperature
same-temperature season = refl

at-cell : (season : Season) → SeasonInRange (at_no_pressure season) → (h k : ℕ) → h < 24 → k < 24 → CarriedRise season (suc h) (suc k)
at-cell season r h k hour back =
    let steps = step_at (mark_warmth season) in
    let hours : suc h - 1 ≡ h = omega arith in
    let half-hours : suc k - 1 ≡ k = omega arith in
    record {
      encloses =
          rw (there steps h k hour back, ← same-warmth season, ← same-temperature season)
          (all_map (λ n a. within-≈ (rises-cong n (suc h) (suc k) (λ i. ≈-sym (temperature-is i r))) a)
          (season-rise-within r (suc h) (suc k) (omega arith)));
      vapour = λ n vp fill tank. vapour-rises n vp fill tank (temperature season) (suc h) (suc k);
      in_cell = rw hours (rw half-hours (in-walk steps h k hour back ∙ sym (rw half-hours at (there steps h k hour back))));
    }

-- request Two
pub carried-encloses : CarriedTheorem
carried-encloses season a zero d h _ _ _ = absurd (omega arith)
carried-encloses season a (suc h) zero _ _ d _ = absurd (omega arith)
carried-encloses season a (suc h) (suc k) _ hour _ back = at-cell season (allowed a) h k (omega arith) (omega arith)
