-- `checks::exponent::Demand::is_above_in_some` meets its contract: the range goes through the seasons of the sheet.
-- Assumes nothing.
use Rattle.std.proofs.Common.{◌≡◌, ℕ, ◌<◌, List, length, Bool, true, false, refl, sym, ◌∙◌, arith, rules, tests, zero-add}
use Rattle.std.specs.Bool.{MatchBool}
use Rattle.std.specs.List.{range_with_len, AllWithin, HoldsAt}
use Rattle.std.proofs.lemmas.Bool.{true≢false}
use Rattle.std.proofs.lemmas.List.FromFn.{length-range_with_len, get_or-range_with_len}
use Rattle.std.proofs.lemmas.Iterator.{cases_from_any, YieldsList-from_range}
use Rattle.exact.specs.declared.Season.{Season}
use Rattle.sheet.specs.Bytes.{season_at}
use Rattle.sheet.specs.Sheet.{saturation_above, some_season}
use Rattle.sheet.proofs.Checks.{Tests, tests_same}
use Rattle.sheet.proofs.Conditions.{some_tests}
use Rattle.checks.proofs.exponent.Demand.is_above_in_some.Goals as goal

module _ (wrong : Season → Bool) (s : List ℕ) (n : ℕ) where
  abbrev Passes : ℕ → Type 0
  Passes k = wrong (season_at s k) ≡ false

  abbrev Wrong : ℕ → Type 0
  Wrong k = wrong (season_at s k) ≡ true

  -- the season at a place of the range
  at-place : (P : ℕ → Type 0) (k : ℕ) → k < n → HoldsAt P (range_with_len 0 n) k → P k
  at-place P k l h = rw zero-add at (rw (get_or-range_with_len 0 n k 0 l) at (h 0))

  -- one is wrong, or each passes
  any-tests : (r : Bool)
      → MatchBool r ((k : ℕ) × (k < length (range_with_len 0 n)) × HoldsAt Wrong (range_with_len 0 n) k)
      (AllWithin Passes (range_with_len 0 n) 0 (length (range_with_len 0 n)))
      → Tests r ((j : ℕ) → j < n → Passes j)
  any-tests true (k, l, h) =
      let there : k < n = rw (length-range_with_len 0 n) at l in
      record { holds = λ e. absurd (true≢false e); fails = λ _ f. true≢false (sym (at-place Wrong k there h) ∙ f k there) }
  any-tests false h =
      let all = rw (length-range_with_len 0 n) at h in
      record { holds = λ _ j l. at-place Passes j l (λ d. all j d (omega arith) l); fails = λ e. absurd (true≢false (sym e)) }

  some-is : (r : Bool)
      → MatchBool r ((k : ℕ) × (k < length (range_with_len 0 n)) × HoldsAt Wrong (range_with_len 0 n) k)
      (AllWithin Passes (range_with_len 0 n) 0 (length (range_with_len 0 n)))
      → r ≡ some_season wrong s n
  some-is r h =
      tests_same (any-tests r h) (some_tests wrong (λ season. record { holds = λ e. e; fails = λ e f. true≢false (sym e ∙ f) }) s n)

pub returns : goal.returns
returns c =
    let x = c.args in
    let s = x.seasons.sheet.now in
    let n = c.count.result in
    let wrong : Season → Bool = saturation_above x.self.limit x.self.canister x.m in
    let found = cases_from_any _ _ c.any.result (λ k. wrong (season_at s k) ≡ true) (λ k. wrong (season_at s k) ≡ false)
    c.any.ensures.ran (YieldsList-from_range 0 n n refl (omega arith)) (λ x q k. search (rules, tests)) (λ x q k. search (rules, tests)) in
    rw c.count.ensures at (some-is wrong s n c.any.result found)
