-- Need not be believed: the numbers of the versions after the first, by what each brought, for the contract of the function that compares them.
use Rattle.std.specs.Prelude.{ℕ}
use Rattle.fields.specs.declared.Version.{Version}
use Rattle.fields.specs.declared.Version.TheVariants.{Grid, Mileage, ManyRows}

-- the first version that has it
abbrev pub first_version : Version → ℕ
first_version Grid = 2
first_version Mileage = 3
first_version ManyRows = 4
