-- What each version changes in document 01's sheet. Nothing after the reading asks for the version. Definitions only.
use Rattle.std.specs.Prelude.{Bool, true, false, List, ℕ, leb}
use Rattle.sheet.specs.Limits.{rows_limit, many_rows_limit}
use Rattle.sheet.specs.Integers.{u16_at}

-- "Head, 8 bytes: letters EVP (hexadecimal 45 56 50); u16 version 1; .."
abbrev pub version_of : List ℕ → ℕ
version_of s = u16_at s 3

-- from version 2 on: "Version 2 replaces the two lists by 576 u16 counts, end hour 1 first, its 24 durations in a row."
abbrev pub has_grid : List ℕ → Bool
has_grid s = leb 2 (version_of s)

-- from version 3 on: "row bytes 20 to 23 are a u32 mileage M in km; 0 keeps the written load"
abbrev pub has_mileage : List ℕ → Bool
has_mileage s = leb 3 (version_of s)

-- from version 4 on: "bytes 6 and 7 as a u16 row count of 1 to 1,000". "Versions 1 to 3 keep their one-byte count, their limit of 32 and
-- their zero byte."
abbrev pub has_many_rows : List ℕ → Bool
has_many_rows s = leb 4 (version_of s)

unfoldable pub rows_most : List ℕ → ℕ
rows_most s = elim (has_many_rows s) [ true ↦ many_rows_limit | false ↦ rows_limit ]

-- where the seasons start, after the parking: 96 bytes of two lists, or with a grid "the length is 1,160 + 8S + 24R"
unfoldable pub seasons_start : List ℕ → ℕ
seasons_start s = elim (has_grid s) [ true ↦ 1160 | false ↦ 104 ]
