-- `report_sums::renewal::words_of` meets its contract: the figures of the year, in milligrams.
use Rattle.report_sums.proofs.OneRow.{words-made}
use Rattle.report_sums.proofs.renewal.words_of.Goals as goal

pub returns : goal.returns
returns c = words-made _ _ (rw c.new.ensures at c.year_of-six.ensures) c.vehicles.ensures.0 c.six_words.ensures
