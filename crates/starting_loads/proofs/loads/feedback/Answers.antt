-- `starting_loads::loads::feedback` meets its contract: the product fits.
use borrow.Author.Rules.{rules}
use Rattle.starting_loads.specs.Loss.{feedback}
use Rattle.starting_loads.proofs.Loss.{feedback-most}
use Rattle.starting_loads.proofs.loads.feedback.Goals as goal

pub returns : goal.returns
unfolding feedback
returns c = (search rules, feedback-most c.args.growth c.args.y c.requires.0 c.requires.1)
