-- Need not be believed: a mark at each distance from 14:00, where the program computes what the other mark at this distance has too.
use Rattle.std.specs.Prelude.{ℕ, ◌-◌}

-- the mark d half-hours before 14:00
abbrev pub ahead : ℕ → ℕ
ahead d = 28 - d
