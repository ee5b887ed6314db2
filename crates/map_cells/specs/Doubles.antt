-- Doubles that are whole numbers of milligrams. Definitions only.
use Rattle.std.specs.Prelude.{Option, Some, None, ℕ, ◌+◌, ◌-◌, ◌*◌, ◌/◌, ◌%◌, ◌^◌, Bool, cond, not, ◌&&◌, ◌||◌, pos, ◌==◌, nat_le, to_bits, Float}
use Rattle.std.specs.Float.{nan, inf, fin, binary64}
use Rattle.std.specs.Float.Ieee.{up, down, of_int}

-- "above 2⁵³": up to here every whole number is a double
abbrev pub mass_limit : ℕ
mass_limit = 2 ^ 53

-- "each a double equal to its whole number"
abbrev pub double : ℕ → Float
double n = of_int binary64 (pos n)

-- The whole number from 0 to 2⁵³ that a double is, where it is one: `fin s m e` is m·2ᵉ, below 0 where s holds, and 2ᵉ is up e / down e.
-- "A minus zero handed in counts as 0".
unfoldable pub whole_of : Float → Option ℕ
whole_of nan = None
whole_of (inf s) = None
whole_of (fin s m e) =
    let n = m * up e / down e in
    cond (m * up e == n * down e && nat_le n mass_limit && (not s || n == 0)) (Some n) None

-- For the code alone, which holds a double below 1 against 0 by its bits too: those of 0, plus or minus, are 0 and 2⁶³, and those of 1 are
-- 1023·2⁵².
unfoldable pub zero_bits : Float → Bool
zero_bits x = nat_le (1023 * 2 ^ 52) ((to_bits binary64 x % 2 ^ 63 + (2 ^ 63 - 1)) % 2 ^ 63)
