-- How large the entries of the two tables of the exponential are.
use mathlib.Core.Bool.{Bool}
use mathlib.Core.List.{List}
use Prim.Native.Nat.{ℕ, suc, ◌*◌, ◌^◌, ◌<◌, ◌≤◌}
use lib.Dec.{T, leb, leb→le}
use lib.ListN.{length, get_or}
use Rattle.bounds.specs.Exponential.{coarse, middle}
use Rattle.bounds.proofs.Table.{at, every, ascending-least}

-- the test that an entry is below a bound
abbrev is_below : ℕ → ℕ → ℕ → Bool
is_below bound k x = leb (suc x) bound

-- every entry is below a bound where the test passes at all of them
entries_below : (bound : ℕ) (xs : List ℕ) → T (every (is_below bound) 0 xs) → (k : ℕ) → k < length xs → get_or xs k 0 < bound
entries_below bound xs t k h = leb→le _ _ (at (is_below bound) xs t k h)

-- E up to 4.1 is below 64·10¹² / 2⁴⁰
pub coarse-below : (h : ℕ) → h < 322 → get_or coarse h 0 < 64 * 10 ^ 12
unfolding coarse
coarse-below = entries_below (64 * 10 ^ 12) coarse tt

-- E up to a sixteenth is below 118·10¹⁰ / 2⁴⁰
pub middle-below : (m : ℕ) → m < 256 → get_or middle m 0 < 118 * 10 ^ 10
unfolding middle
middle-below = entries_below (118 * 10 ^ 10) middle tt

-- and 1 or more
pub middle-least : (m : ℕ) → m < 256 → 2 ^ 40 ≤ get_or middle m 0
unfolding middle
middle-least = ascending-least (2 ^ 40) middle tt
