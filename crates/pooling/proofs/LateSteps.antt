-- How the code makes what is left of a pooled sheet's checks: the vehicles row by row.
-- Assumes nothing.
use mathlib.Core.List.{List}
use mathlib.Core.Path.{◌≡◌, ◌∙◌}
use Prim.Native.Nat.{ℕ, ◌+◌, ◌*◌}
use native.Mathlib.Numerals.{add-one}
use native.Mathlib.Omega.{arith}
use lib.Dec.{ltb}
use lib.ListN.{length}
use Rattle.refusals.specs.declared.Rule.TheVariants as rule
use Rattle.refusals.specs.Check.{Check, refuse}
use Rattle.sheet.specs.Limits.{fleet_limit}
use Rattle.sheet.specs.Bytes.{rows_of, row_place}
use Rattle.sheet.specs.RunningSums.{vehicles_before}
use Rattle.pooling.specs.Late.{fleet_check}
use Rattle.pooling.proofs.PoolBytes.{Region, start, length-is}

-- the check of row i of the second sheet, whose record stands behind the first
pub fleet-is : (a b : List ℕ) (i : ℕ) {together place : ℕ} {r : Check} → Region a
    → together ≡ vehicles_before a (rows_of a) + vehicles_before b (i + 1) → place ≡ length a + 24 * i
    → r ≡ refuse (ltb fleet_limit together) rule.Fleet place → r ≡ fleet_check a b i
unfolding fleet_check
fleet-is a b i g e q h =
    let there : row_place a (rows_of a + i) ≡ length a + 24 * i = omega (arith, start g, length-is g) in
    h ∙ rw (e, q, there, add-one)
