-- `Masses::try_from` of a cell meets its contract.
use Rattle.map_cells.specs.Cells.{masses_of}
use Rattle.map_cells.proofs.kinds.MassesTryFromCell.try_from.Goals as goal

pub returns-in-Empty : goal.returns-in-Empty
unfolding masses_of
returns-in-Empty c = rw c.in-Empty.is

pub returns-in-Exact : goal.returns-in-Exact
unfolding masses_of
returns-in-Exact c = rw c.in-Exact.is c.exact_masses.ensures

pub returns-in-Band : goal.returns-in-Band
unfolding masses_of
returns-in-Band c = rw c.in-Band.is c.band_masses.ensures
