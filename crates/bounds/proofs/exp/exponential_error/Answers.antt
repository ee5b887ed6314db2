-- `bounds::exp::exponential_error` meets its contract: an entry is below 64·10¹², so its whole part in units of 2⁴⁰ is at most 58.
use Rattle.std.proofs.Common.{arith}
use Rattle.bounds.specs.Exponential.{exponential_error}
use Rattle.bounds.proofs.exp.exponential_error.Goals as goal

pub returns : goal.returns
unfolding exponential_error
returns c = (cc, omega arith)
