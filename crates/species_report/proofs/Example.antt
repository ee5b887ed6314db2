-- The lines of 10,001 mg, computed: each species with its share.
-- Assumes nothing.
use mathlib.Core.List.{List, ◌++◌}
use Prim.Native.Nat.{ℕ}
use mathlib.Core.Path.{◌≡◌, refl, ◌∙◌, ap}
use Rattle.text.specs.Ascii.{bytes}
use Rattle.text.specs.Decimal.{digits_in, digits}
use Rattle.text.specs.Lines.{pair_line}
use Rattle.speciation.specs.Table.{alkanes, alkenes, alkines, aromatics, table, names}
use Rattle.speciation.specs.Split.{species_masses}
use Rattle.speciation.proofs.Values.{of-all-shares}
use Rattle.species_report.specs.Lines.{total_line, name_at, species_line, species_lines, composition_lines}

abbrev lines : List ℕ
lines =
    bytes "EVP 4 total 10001\n" ++
    bytes "ethane 30\npropane 515\ni-butane 438\nn-butane 586\ni-pentane 1069\n" ++
    bytes "n-pentane 772\n2-methylpentane 1402\n3-methylpentane 2514\nn-hexane 202\nn-heptane 165\n" ++
    bytes "ethene 5\npropene 28\n1-butene 72\ntrans-2-butene 119\nisobutene 12\n" ++
    bytes "cis-2-butene 105\n1,3-butadiene 0\ntrans-2-pentene 160\ncis-2-pentene 75\nisoprene 0\n" ++
    bytes "propyne 7\nacetylene 1\n" ++
    bytes "benzene 97\ntoluene 394\nethylbenzene 352\nm-xylene 579\n" ++
    bytes "o-xylene 252\n1,2,4-trimethylbenzene 50\n1,3,5-trimethylbenzene 0\n"

pub table-printed : composition_lines 4 10001 (species_masses 10001) ≡ lines
unfolding composition_lines total_line pair_line name_at names table alkanes alkenes alkines aromatics species_line species_lines digits digits_in
table-printed = ap (composition_lines 4 10001) of-all-shares ∙ refl
