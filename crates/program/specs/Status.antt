-- The exit status of a program: three numbers. Definitions only.
use Rattle.std.specs.Prelude.{ℕ}
use Rattle.program.specs.declared.Status.{Status}
use Rattle.program.specs.declared.Status.TheVariants.{Accepted, Refused, Neither}

-- 0 an answer, 1 a refusal, 2 neither
abbrev pub status_number : Status → ℕ
status_number Accepted = 0
status_number Refused = 1
status_number Neither = 2
