-- Need not be believed: a product over a divisor, digit by digit of its first factor.
use Rattle.std.specs.Prelude.{◌≡◌, ℕ, ◌*◌, ◌/◌, ◌%◌}
use Rattle.map_shares.specs.declared.Part.{Part}
use Rattle.map_rows.specs.declared.split.Quotient.{Quotient}

-- the quotient and the remainder of a mass times part over all
pub record QuotientOf (mass : ℕ) (p : Part) (q : Quotient) : Type 0 where
  pub whole_is : q.whole ≡ mass * p.part / p.all
  pub rest-is : q.rest ≡ mass * p.part % p.all
