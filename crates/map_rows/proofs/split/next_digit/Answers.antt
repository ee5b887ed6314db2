-- `map_rows::split::next_digit` meets its contract: the quotient and the remainder go on by one digit.
use Rattle.map_rows.proofs.Digits.{digit-whole, digit-rest}
use Rattle.map_rows.proofs.split.next_digit.Goals as goal

pub returns : goal.returns
returns c =
    let p = c.args.p in
    let q = c.requires.2 in
    record {
      whole_is = rw (q.whole_is, q.rest-is) (digit-whole c.args.mass p.part p.all 262144 c.requires.0.some);
      rest-is = rw q.rest-is (digit-rest c.args.mass p.part p.all 262144 c.requires.0.some);
    }
