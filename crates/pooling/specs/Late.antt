-- Need not be believed: what is left of a pooled sheet's checks where both sheets pass, for `requires` and proofs.
use Rattle.std.specs.Prelude.{List, ◌≡◌, ℕ, suc, ◌+◌, ltb}
use Rattle.refusals.specs.declared.Rule.TheVariants as rule
use Rattle.refusals.specs.Check.{Check, Pass, refuse, ◌then◌, each}
use Rattle.sheet.specs.Limits.{many_rows_limit, fleet_limit}
use Rattle.sheet.specs.Bytes.{rows_of, row_place}
use Rattle.sheet.specs.RunningSums.{vehicles_before}
use Rattle.pooling.specs.Pool.{rows_together, region_check}

-- both sheets pass
pub record Regions (a b : List ℕ) : Type 0 where
  pub first : region_check a ≡ Pass
  pub second : region_check b ≡ Pass

-- number 26 at row i of the second, by its place in the pooled sheet
unfoldable pub fleet_check : List ℕ → List ℕ → ℕ → Check
fleet_check a b i = refuse (ltb fleet_limit (vehicles_before a (rows_of a) + vehicles_before b (suc i))) rule.Fleet (row_place a (rows_of a + i))

-- number 5, and 26 at the rows of the second one after another
unfoldable pub late_check : List ℕ → List ℕ → Check
late_check a b = refuse (ltb many_rows_limit (rows_together a b)) rule.Rows 6 then each (fleet_check a b) (rows_of b)
