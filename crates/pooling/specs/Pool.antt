-- "Two version 4 sheets with equal seasons and parking bytes are pooled": the pooled sheet, and where pooling stops. Definitions only.
use Rattle.std.specs.Prelude.{Bool, false, not, ◌||◌, List, [], ◌∷◌, ◌++◌, ℕ, suc, zero, ◌+◌, ◌*◌, ◌/◌, ◌%◌, ltb, eqb, length, drop}
use Rattle.std.proofs.lemmas.List.Edits.{sets}
use Rattle.refusals.specs.declared.Rule.TheVariants as rule
use Rattle.refusals.specs.Check.{Check, refuse, ◌then◌}
use Rattle.sheet.specs.Integers.{u8_at}
use Rattle.sheet.specs.Versions.{version_of}
use Rattle.sheet.specs.Bytes.{seasons_of, rows_of, row_place}
use Rattle.sheet.specs.Sheet.{mark_check, sheet_check}

-- the version that is pooled
abbrev pub region_version : ℕ
region_version = 4

-- the rows of both
abbrev pub rows_together : List ℕ → List ℕ → ℕ
rows_together a b = rows_of a + rows_of b

-- "the first's rows, then the second's": the first sheet with the rows of both in its u16 row count, and behind it the second's rows
unfoldable pub pool : List ℕ → List ℕ → List ℕ
pool a b = sets a 6 (rows_together a b % 256 ∷ rows_together a b / 256 ∷ []) ++ drop (row_place b 0) b

-- the checks of one sheet: "another version is refused as 3 where that sheet's version is checked", after 1 and 2 and before all else
unfoldable pub region_check : List ℕ → Check
region_check s =
    mark_check s then
    refuse (not (eqb (version_of s) region_version)) rule.Version 3 then
    sheet_check s

-- the bytes of the parking and of n seasons: a grid of 1,152, and 8 for each season
abbrev pub shared_bytes : ℕ → ℕ
shared_bytes n = 1152 + 8 * n

-- one of the first n bytes after the head differs
unfoldable pub some_differs : List ℕ → List ℕ → ℕ → Bool
some_differs a b zero = false
some_differs a b (suc n) = some_differs a b n || not (eqb (u8_at a (8 + n)) (u8_at b (8 + n)))

-- "seasons or parking differ"
unfoldable pub differ : List ℕ → List ℕ → Bool
differ a b = not (eqb (seasons_of a) (seasons_of b)) || some_differs a b (shared_bytes (seasons_of a))

-- the checks of the two together: "32, seasons or parking differ, place 0, after the first and then the second sheet pass and before the
-- checks on the pooled sheet"; "a short buffer as 22, last"
unfoldable pub pair_check : List ℕ → List ℕ → ℕ → Check
pair_check a b room =
    refuse (differ a b) rule.Differ 0 then
    sheet_check (pool a b) then
    refuse (ltb room (length (pool a b))) rule.Room 0

-- all of them, with this much room in the output buffer. Each is of its own bytes: "A place counts from the start of the sheet under check."
unfoldable pub pool_check : List ℕ → List ℕ → ℕ → Check
pool_check a b room = region_check a then region_check b then pair_check a b room
