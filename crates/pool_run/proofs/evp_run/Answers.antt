-- `pool_run::evp_run` meets its contract: it hands on the two sheets that were read, all of each, or ends where one could not be read.
use Rattle.std.proofs.KnownBytes.{Keeps-trans}
use Rattle.pool_run.specs.Ran.{unread}
use Rattle.pool_run.proofs.Printing.{printed-from_kept, prints, unread_prints}
use Rattle.pool_run.proofs.evp_run.Goals as goal

pub returns-in_default-clause-ran : goal.returns-in_default-clause-ran
returns-in_default-clause-ran g c = unread 1 c.in_default.ensures.read.unread

pub returns-in_default-clause-prints : goal.returns-in_default-clause-prints
returns-in_default-clause-prints g c = unread_prints _ _

pub returns-in_default-read-clause-ran : goal.returns-in_default-read-clause-ran
returns-in_default-read-clause-ran g c = unread 2 c.in_default-read.ensures.read.unread

pub returns-in_default-read-clause-prints : goal.returns-in_default-read-clause-prints
returns-in_default-read-clause-prints g c = unread_prints _ _

pub returns-clause-prints : goal.returns-clause-prints
returns-clause-prints g c =
    let silent = Keeps-trans _ _ _ c.in-Ok.ensures.read.silent c.in-Ok-read.ensures.read.silent in
    prints _ _ c.in-Ok.ensures.known c.in-Ok-read.ensures.known (printed-from_kept silent c.answer.ensures.printed)
