-- What pooling promises: "For accepted sheets whose pool is accepted, the pooled report has both sheets' row words and every subtotal is the
-- sum of theirs, so the marker's band for the pool is the sum of the bands. Pooling those in the other order changes only where rows stand."
-- Definitions only.
use Rattle.std.specs.Prelude.{List, ◌⊎◌, ◌≡◌, ℕ, suc, ◌+◌, ◌*◌, ◌≤◌, ◌<◌, length}
use Rattle.numbers.specs.Lists.{at}
use Rattle.exact.specs.Masses.{Mechanism, mass}
use Rattle.refusals.specs.declared.Rule.{Rule}
use Rattle.refusals.specs.declared.Rule.TheVariants as rule
use Rattle.refusals.specs.Rule.{number}
use Rattle.refusals.specs.Check.{Pass, Refused, number_of, place_of}
use Rattle.sheet.specs.Limits.{many_rows_limit, fleet_limit}
use Rattle.sheet.specs.Integers.{u8_at}
use Rattle.sheet.specs.Bytes.{rows_of, cells_of, row_place, season_list, row_at}
use Rattle.sheet.specs.RunningSums.{vehicles_before}
use Rattle.sheet.specs.Demands.{Demands, demand, ◌next◌, every, Says}
use Rattle.report_words.specs.Report.{report}
use Rattle.pooling.specs.Pool.{rows_together, pool, region_check, pool_check}
use Rattle.pooling.specs.PoolCall.{Agree}

-- row j of t is row i of s, byte by byte, with the same exact masses for every n and the same six words
pub record RowMoved (s t : List ℕ) (i j : ℕ) : Type 0 where
  pub bytes : (k : ℕ) → k < 24 → u8_at t (row_place t j + k) ≡ u8_at s (row_place s i + k)
  pub masses : (n : ℕ) (mechanism : Mechanism)
      → mass n (cells_of t) (season_list t) (row_at t j) mechanism ≡ mass n (cells_of s) (season_list s) (row_at s i) mechanism
  pub words : (k : ℕ) → k < 6 → at (report t) (6 * j + k) ≡ at (report s) (6 * i + k)

-- word k of the 26 that follow the rows' words: six for each of three categories, six for all rows, and the grand total's two
abbrev pub totals_word : List ℕ → ℕ → ℕ
totals_word s k = at (report s) (6 * rows_of s + k)

-- "both sheets' row words and every subtotal is the sum of theirs": low and high of each subtotal and of the total
pub record PooledReport (a b : List ℕ) : Type 0 where
  pub rows : rows_of (pool a b) ≡ rows_of a + rows_of b
  pub first : (i : ℕ) → i < rows_of a → RowMoved a (pool a b) i i
  pub second : (i : ℕ) → i < rows_of b → RowMoved b (pool a b) i (rows_of a + i)
  pub sums : (k : ℕ) → k < 26 → totals_word (pool a b) k ≡ totals_word a k + totals_word b k

abbrev pub PoolTheorem : Type 0
PoolTheorem = (a b : List ℕ) (room : ℕ) → pool_check a b room ≡ Pass → PooledReport a b

-- "Pooling those in the other order changes only where rows stand": it is accepted too, the bytes before the rows and the sums are the
-- same, and the rows exchange places
pub record OtherOrder (a b : List ℕ) (room : ℕ) : Type 0 where
  pub accepted : pool_check b a room ≡ Pass
  pub length-same : length (pool b a) ≡ length (pool a b)
  pub before-rows : (k : ℕ) → k < row_place (pool a b) 0 → u8_at (pool b a) k ≡ u8_at (pool a b) k
  pub first : (i : ℕ) → i < rows_of a → RowMoved (pool a b) (pool b a) i (rows_of b + i)
  pub second : (i : ℕ) → i < rows_of b → RowMoved (pool a b) (pool b a) (rows_of a + i) i
  pub sums : (k : ℕ) → k < 26 → totals_word (pool b a) k ≡ totals_word (pool a b) k

abbrev pub OrderTheorem : Type 0
OrderTheorem = (a b : List ℕ) (room : ℕ) → pool_check a b room ≡ Pass → OtherOrder a b room

-- what can still refuse a pooled sheet whose two sheets pass and agree: more than 1,000 rows; more than 100,000,000 vehicles, at the row of
-- the second where that happens, by its place in the pooled sheet
abbrev pub late_demands : List ℕ → List ℕ → Demands
late_demands a b =
    demand rule.Rows 6 (rows_together a b ≤ many_rows_limit) next
    every (rows_of b) (λ (i : ℕ).
    demand rule.Fleet (row_place a (rows_of a + i)) (vehicles_before a (rows_of a) + vehicles_before b (suc i) ≤ fleet_limit))

-- and the two together: they do not agree, or there is no room
abbrev pub left_demands : List ℕ → List ℕ → ℕ → Demands
left_demands a b room = demand rule.Differ 0 (Agree a b) next late_demands a b next demand rule.Room 0 (length a + 24 * rows_of b ≤ room)

-- so these and no others are the numbers with which it is refused
pub record RefusedOnly (a b : List ℕ) (room : ℕ) : Type 0 where
  pub says : Says (left_demands a b room) (number_of (pool_check a b room)) (place_of (pool_check a b room))
  pub numbers : (r : Rule) (p : ℕ) → pool_check a b room ≡ Refused r p → (number r ≡ 32) ⊎ ((number r ≡ 5) ⊎ ((number r ≡ 26) ⊎ (number r ≡ 22)))

abbrev pub OnlyTheorem : Type 0
OnlyTheorem = (a b : List ℕ) (room : ℕ) → region_check a ≡ Pass → region_check b ≡ Pass → RefusedOnly a b room
