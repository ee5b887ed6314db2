-- The shape of a season's day is that of the hourly weights, which rise once, and a parking has at most `runs_most` runs of rising steps in it:
-- one computed test, for all end hours and durations. Nothing else is known of the curve. So the rise of a parking is enclosed.
-- Assumes nothing.
use mathlib.Core.Bool.{Bool, true, false, ◌&&◌}
use mathlib.Core.Path.{◌≡◌, refl, sym, ◌∙◌, ap}
use Prim.Native.Nat.{ℕ, suc, zero, ◌+◌, ◌*◌, ◌-◌, ◌^◌, ◌%◌, ◌≤◌, ◌<◌}
use native.Mathlib.Omega.{arith}
use native.Mathlib.Decide.{dec_le}
use native.Mathlib.Nat.{mul-le-mul_left}
use lib.Dec.{T, leb, ltb, leb→le}
use borrow.Author.Tests.{leb-true, leb-false}
use Rattle.bounds.specs.Weights.{w}
use Rattle.bounds.proofs.Laws.{rises-where}
use Rattle.bounds.specs.Enclosure.{WithinAll}
use Rattle.bounds.specs.Power.{degrees}
use Rattle.bounds.proofs.Table.{both, both_left, both_right}
use Rattle.exact.specs.declared.Season.{Season}
use Rattle.exact.specs.Day.{start_mark}
use Rattle.exact.specs.Rise.{rises}
use Rattle.sheet.specs.Range.{warmth, mark_warmth, SeasonInRange}
use Rattle.sheet.proofs.Temperature.{warmth-most}
use Rattle.marks.specs.Marks.{runs_most, rise_error, step_at, passed}
use Rattle.marks.proofs.Runs.{rising, runs}
use Rattle.marks.proofs.Runs.{Shape, runs_up, runs-down, rise-within, rise-most}

-- the temperature rises where the weight does
season-shape : (season : Season) → Shape (mark_warmth season) (rising w)
unfolding mark_warmth
season-shape season =
    let span : ℕ = warmth season.highest - warmth season.lowest in
    record {
      rising = λ i e. omega (arith, mul-le-mul_left span (leb-true (w i) (w ((i + 1) % 48)) e));
      falling = λ i e.
          let l : w ((i + 1) % 48) ≤ w i = omega (arith, leb-false (w i) (w ((i + 1) % 48)) e) in
          omega (arith, mul-le-mul_left span l);
    }

-- a test passes at every number below n
abbrev all_below : (ℕ → Bool) → ℕ → Bool
all_below f zero = true
all_below f (suc n) = both (f n) (all_below f n)

below_at : (f : ℕ → Bool) (n : ℕ) → T (all_below f n) → (k : ℕ) → k < n → T (f k)
below_at f zero t k l = absurd (omega arith)
below_at f (suc n) t k l =
    elim (dec_le n k) [
      | yes h ↦ let same : k ≡ n = omega arith in rw same (both_left (f n) (all_below f n) t)
      | no h ↦ below_at f n (both_right (f n) (all_below f n) t) k (omega arith)
    ]

-- the weights rise from mark 4 to mark 28
day : ℕ → Bool
day i = leb 4 i && ltb i 28

-- few runs, for the 24 end hours and for up to 24 half-hours
few_runs : ℕ → ℕ → Bool
few_runs hour d = leb (runs false day hour d) runs_most

all_pass : T (all_below (λ (hour : ℕ). all_below (few_runs hour) 25) 24)
unfolding few_runs runs start_mark day
all_pass = tt

-- the hours of the day come again
same-mark : (hour d : ℕ) → d ≤ 48 → start_mark hour d ≡ start_mark (hour % 24) d
unfolding start_mark
same-mark hour d l = omega arith

-- a mark is below 48
pub start_mark-below : (hour d : ℕ) → start_mark hour d < 48
unfolding start_mark
start_mark-below hour d = omega arith

-- the runs of two parkings are the same where their marks are
same_runs : (up up' : ℕ → Bool) (hour hour' d : ℕ) → ((k : ℕ) → k ≤ d → up (start_mark hour k) ≡ up' (start_mark hour' k))
    → (runs true up hour d ≡ runs true up' hour' d) × (runs false up hour d ≡ runs false up' hour' d)
unfolding runs
same_runs up up' hour hour' zero e = (refl, refl)
same_runs up up' hour hour' (suc d) e = case (up (start_mark hour (suc d))) refl (same_runs up up' hour hour' d (λ k l. e k (omega arith)))
  where
    there : (c : Bool) → up (start_mark hour (suc d)) ≡ c → up' (start_mark hour' (suc d)) ≡ c
    there c h = sym (e (suc d) (omega arith)) ∙ h

    case : (c : Bool) → up (start_mark hour (suc d)) ≡ c
        → (runs true up hour d ≡ runs true up' hour' d) × (runs false up hour d ≡ runs false up' hour' d)
        → (runs true up hour (suc d) ≡ runs true up' hour' (suc d)) × (runs false up hour (suc d) ≡ runs false up' hour' (suc d))
    case true h (ended, all) = (
      rw ((runs_up up hour d h).0, (runs_up up' hour' d (there true h)).0) ended,
      rw ((runs_up up hour d h).1, (runs_up up' hour' d (there true h)).1) (ap suc ended),
    )
    case false h (ended, all) = (
      rw ((runs-down up hour d h).0, (runs-down up' hour' d (there false h)).0) all,
      rw ((runs-down up hour d h).1, (runs-down up' hour' d (there false h)).1) all,
    )

-- in a season's day, at any end hour
day-runs : (hour d : ℕ) → d ≤ 24 → runs false (rising w) hour d ≡ runs false day (hour % 24) d
unfolding day
day-runs hour d l =
    (same_runs (rising w) day hour (hour % 24) d
    (λ k m. ap (rising w) (same-mark hour k (omega arith)) ∙ rises-where (start_mark (hour % 24) k) (start_mark-below (hour % 24) k))).1

-- a parking of at most 12 hours has at most that many runs
runs-most : (hour d : ℕ) → d ≤ 24 → runs false (rising w) hour d ≤ runs_most
unfolding few_runs
runs-most hour d l =
    rw (day-runs hour d l)
    (leb→le _ _ (below_at (few_runs (hour % 24)) 25
    (below_at (λ (h : ℕ). all_below (few_runs h) 25) 24 all_pass (hour % 24) (omega arith)) d (omega arith)))

module _ {season : Season} (s : SeasonInRange season) (hour d : ℕ) (l : d ≤ 24) where
  -- the rise of a parking of at most 12 hours in a season's day
  pub season-rise-within :
      WithinAll (2 ^ 40) (passed (step_at (mark_warmth season)) hour d - rise_error) (2 * rise_error)
      (λ n. rises n (λ i. degrees (mark_warmth season i)) hour d)
  season-rise-within = rise-within (λ i. warmth-most i s) (season-shape season) hour d runs_most (omega arith) (runs-most hour d l)

  -- it is at most that of two runs, each up to E(0.0716·50)
  pub season-rise-most : passed (step_at (mark_warmth season)) hour d ≤ 72 * 2 ^ 40
  season-rise-most = rise-most (λ i. warmth-most i s) (season-shape season) hour d runs_most (omega arith) (runs-most hour d l)
