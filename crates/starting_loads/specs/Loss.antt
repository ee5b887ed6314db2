-- Need not be believed: the computed starting load, that is which whole number the program's starting load is.
-- The starting load m is the net load G and the loss at m: m = G + E(a + b·s·m). With y = E(a + b·s·G) that loss is y·Θ(b·s·y).
-- Loads are in units of 2⁻⁴⁰ g; a + 16 and 2·b·s are in units of 2⁻⁴⁴.
use Rattle.std.specs.Prelude.{ℕ, ◌+◌, ◌*◌, ◌/◌, ◌^◌, min}
use Rattle.bounds.specs.Short.{short, line_of}
use Rattle.bounds.specs.Theta.{theta}

-- b·s·y in units of 2⁻⁴⁰, rounded down, for 2·b·s = k and y in units of 2⁻³²
unfoldable pub feedback : ℕ → ℕ → ℕ
feedback k y = k / 2 ^ 12 * y / 2 ^ 25

-- y·Θ(b·s·y) in units of 2⁻⁴⁰, rounded down
unfoldable pub loss : ℕ → ℕ → ℕ
loss k y = y * theta (feedback k y) / 2 ^ 23

-- the starting load for a net load l that is at most the saturating load σ
unfoldable pub loaded : ℕ → ℕ → ℕ → ℕ → ℕ
loaded a k σ l = min σ (l + loss k (short (line_of a k l) / 2 ^ 4))

-- the starting load for any net load
abbrev pub start : ℕ → ℕ → ℕ → ℕ → ℕ
start a k σ G = loaded a k σ (min σ G)
