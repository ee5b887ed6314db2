-- The lists of values at the marks that are computed one from another are those of the definitions, each from the mark temperatures θ,
-- which marks as far from 14:00 share.
use mathlib.Core.List.{List}
use mathlib.Core.Path.{◌≡◌, ◌∙◌, ap}
use Prim.Native.Nat.{ℕ, ◌+◌, ◌*◌, ◌-◌, ◌/◌, ◌%◌, ◌^◌, ◌<◌}
use native.Mathlib.Nat.{mod-lt}
use native.Mathlib.Omega.{arith}
use Rattle.numbers.specs.Lists.{tab, at}
use Rattle.numbers.proofs.Lists.{tab-ext, get_d-tab}
use Rattle.bounds.specs.Weights.{apart}
use Rattle.bounds.specs.Ahead.{ahead}
use Rattle.bounds.proofs.Laws.{apart-most}
use Rattle.exact.specs.declared.Season.{Season}
use Rattle.sheet.specs.Range.{mark_warmth}
use Rattle.sheet.proofs.Temperature.{warmth-alike}
use Rattle.marks.specs.Marks.{heat, raised_error, step_at, raise, pressure_factor, bracket_units, rate}

-- values by distance, at the marks
pub at-marks-by : {values all : List ℕ} (f : ℕ → ℕ) → values ≡ tab f 25 → all ≡ tab (λ (i : ℕ). at values (apart i)) 48
    → all ≡ tab (λ (i : ℕ). f (apart i)) 48
at-marks-by f e h = h ∙ tab-ext 48 (λ i _. rw e (get_d-tab f 25 (apart i) (omega (arith, apart-most i))))

-- the temperature of mark k stands at its distance
pub few-at : (season : Season) {warmths few : List ℕ} → warmths ≡ tab (mark_warmth season) 48 → few ≡ tab (λ (d : ℕ). at warmths (ahead d)) 25
    → (k : ℕ) → k < 48 → at few (apart k) ≡ mark_warmth season k
few-at season {warmths} {few} e f k h =
    let first : at few (apart k) ≡ at warmths (ahead (apart k))
    = rw f (get_d-tab (λ (d : ℕ). at warmths (ahead d)) 25 (apart k) (omega (arith, apart-most k))) in
    let second : at warmths (ahead (apart k)) ≡ mark_warmth season (ahead (apart k))
    = rw e (get_d-tab (mark_warmth season) 48 (ahead (apart k)) (omega arith)) in
    first ∙ second ∙ warmth-alike season k h

-- by distance it is that of the mark so far before 14:00
pub few-are : (season : Season) {warmths few : List ℕ} → warmths ≡ tab (mark_warmth season) 48 → few ≡ tab (λ (d : ℕ). at warmths (ahead d)) 25
    → few ≡ tab (λ (d : ℕ). mark_warmth season (ahead d)) 25
few-are season e f = f ∙ tab-ext 25 (λ d _. rw e (get_d-tab (mark_warmth season) 48 (ahead d) (omega arith)))

-- and so are the values that are computed at it
module _ (θ : ℕ → ℕ) {few : List ℕ} (there : few ≡ tab (λ (d : ℕ). θ (ahead d)) 25) where
  few-at-distance : (d : ℕ) → d < 25 → at few d ≡ θ (ahead d)
  few-at-distance d h = rw there (get_d-tab (λ (d : ℕ). θ (ahead d)) 25 d h)

  -- permeation per hour, each temperature raised by r
  pub rates-by-distance : (m vp r : ℕ) → m ≡ pressure_factor vp
      → tab (λ (d : ℕ). m * bracket_units (at few d + r) / 2 ^ 40) 25 ≡ tab (λ (d : ℕ). rate vp (θ (ahead d) + r)) 25
  unfolding rate
  rates-by-distance m vp r f = tab-ext 25 (λ d h. rw (f, few-at-distance d h))

  -- the rises when each temperature is raised by r
  pub raises-by-distance : {heats : List ℕ} → heats ≡ tab (λ (d : ℕ). heat (at few d)) 25 → (r : ℕ)
      → tab (λ (d : ℕ). heat (at few d + r) - (at heats d + raised_error)) 25 ≡ tab (λ (d : ℕ). raise r (θ (ahead d))) 25
  unfolding raise
  raises-by-distance g r = tab-ext 25 (λ d h. rw (g, get_d-tab (λ (d : ℕ). heat (at few d)) 25 d h, few-at-distance d h))

module _ (θ : ℕ → ℕ) (few : List ℕ) (there : (k : ℕ) → k < 48 → at few (apart k) ≡ θ k) where
  -- permeation per hour, each temperature raised by r
  pub rates-are : (m vp r : ℕ) → m ≡ pressure_factor vp
      → tab (λ (i : ℕ). m * bracket_units (at few (apart i) + r) / 2 ^ 40) 48 ≡ tab (λ (i : ℕ). rate vp (θ i + r)) 48
  unfolding rate
  rates-are m vp r f = tab-ext 48 (λ k h. rw (f, there k h))

  module _ {heats : List ℕ} (g : heats ≡ tab (λ (d : ℕ). heat (at few d)) 25) where
    -- E(0.0716·T) of mark k
    heat-at : (k : ℕ) → k < 48 → at heats (apart k) ≡ heat (θ k)
    heat-at k h =
        let first : at heats (apart k) ≡ heat (at few (apart k))
        = rw g (get_d-tab (λ (d : ℕ). heat (at few d)) 25 (apart k) (omega (arith, apart-most k))) in
        first ∙ ap heat (there k h)

    -- E(0.0716·T) at the marks
    pub heats-are : {all : List ℕ} → all ≡ tab (λ (i : ℕ). at heats (apart i)) 48 → all ≡ tab (λ (i : ℕ). heat (θ i)) 48
    heats-are e = e ∙ tab-ext 48 heat-at

    -- the rises from each mark to the next
    pub steps-are : {all : List ℕ} → all ≡ tab (λ (i : ℕ). at heats (apart i)) 48
        → tab (λ (i : ℕ). at all ((i + 1) % 48) - at all i) 48 ≡ tab (step_at θ) 48
    unfolding step_at
    steps-are {all} e = tab-ext 48 (λ k h. rw (heat-of ((k + 1) % 48) (mod-lt (k + 1) (omega arith)), heat-of k h))
      where
        heat-of : (k : ℕ) → k < 48 → at all k ≡ heat (θ k)
        heat-of k h = rw (e, get_d-tab (λ (i : ℕ). at heats (apart i)) 48 k h) (heat-at k h)
