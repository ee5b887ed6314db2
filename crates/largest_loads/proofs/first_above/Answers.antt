-- `largest_loads::first_above` meets its contract: the first season in which m is above the largest is the first that does not pass.
-- Assumes nothing.
use Rattle.std.proofs.Common.{◌≡◌, ℕ, ◌<◌, ◌≤◌, List, length, get_or, Option, Some, None, Bool, true, false, refl, sym, arith, rules, tests, zero-add}
use Rattle.std.specs.List.{range_with_len, AllWithin, HoldsAt}
use Rattle.std.specs.Option.{MatchOption}
use Rattle.std.proofs.lemmas.List.FromFn.{length-range_with_len, get_or-range_with_len}
use Rattle.std.proofs.lemmas.Iterator.{IsFirst-from_position, YieldsList-from_range}
use Rattle.exact.specs.declared.Season.{Season}
use Rattle.sheet.specs.Bytes.{season_at}
use Rattle.sheet.specs.Sheet.{saturation_above}
use Rattle.findings.specs.Canisters.{passing}
use Rattle.findings.proofs.Seasons.{passing-all, passing-stays}
use Rattle.largest_loads.proofs.first_above.Goals as goal

module _ (wrong : Season → Bool) (s : List ℕ) (n : ℕ) where
  abbrev Above : ℕ → Type 0
  Above k = wrong (season_at s k) ≡ true

  abbrev Passes : ℕ → Type 0
  Passes k = wrong (season_at s k) ≡ false

  -- the season at a place of the range
  at-place : (P : ℕ → Type 0) (k : ℕ) → k < n → ((d : ℕ) → P (get_or (range_with_len 0 n) k d)) → P k
  at-place P k l h = rw zero-add at (rw (get_or-range_with_len 0 n k 0 l) at (h 0))

  passes : (i : ℕ) → i ≤ n → AllWithin Passes (range_with_len 0 n) 0 i → passing wrong s i ≡ i
  passes i l h = passing-all _ s i (λ j b. at-place Passes j (omega arith) (λ d. h j d (omega arith) b))

  first-is : (o : Option ℕ)
      → MatchOption o (AllWithin Passes (range_with_len 0 n) 0 (length (range_with_len 0 n)))
      (λ i. (i < length (range_with_len 0 n)) × HoldsAt Above (range_with_len 0 n) i × AllWithin Passes (range_with_len 0 n) 0 i)
      → MatchOption o (passing wrong s n ≡ n) (λ k. (k ≡ passing wrong s n) × (k < n))
  first-is None h = passes n (omega arith) (rw (length-range_with_len 0 n) at h)
  first-is (Some k) (l, above, before) =
      let there : k < n = rw (length-range_with_len 0 n) at l in
      (sym (passing-stays _ s k n (passes k (omega arith) before) there (at-place Above k there above)), there)

pub returns : goal.returns
returns c =
    let x = c.args in
    let s = x.seasons.sheet.now in
    let n = c.count.result in
    let wrong : Season → Bool = saturation_above x.demand.limit x.demand.canister x.m in
    let found = IsFirst-from_position _ _ c.position.result (λ k. wrong (season_at s k) ≡ true) (λ k. wrong (season_at s k) ≡ false)
    c.position.ensures.ran (YieldsList-from_range 0 n n refl (omega arith)) (λ x q k. search (rules, tests)) (λ x q k. search (rules, tests)) in
    rw c.count.ensures at (first-is wrong s n c.position.result found)
