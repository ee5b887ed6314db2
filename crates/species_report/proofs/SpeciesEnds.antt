-- Each line ends with a line feed: the text ends with one, and has as many as it has lines.
-- Assumes nothing.
use mathlib.Core.List.{List, ◌++◌}
use mathlib.Core.Path.{◌≡◌, refl}
use Prim.Native.Nat.{ℕ, suc, zero, ◌≤◌, ◌<◌}
use native.Mathlib.Omega.{arith}
use Rattle.numbers.specs.Lists.{at}
use Rattle.text.specs.Ascii.{bytes}
use Rattle.text.specs.Decimal.{digits}
use Rattle.text.proofs.LineEnds.{line_feeds, feeds-append, digits-feeds, pair-feeds, Ended, ended-behind}
use Rattle.speciation.specs.Table.{alkanes, alkenes, alkines, aromatics, table, names}
use Rattle.species_report.specs.Lines.{total_line, name_at, species_line, species_lines, composition_lines}
use Rattle.speciation.proofs.Computed.{alike}

-- no name has one
name-feeds : (i : ℕ) → i < 29 → line_feeds (name_at i) ≡ 0
unfolding name_at names table alkanes alkenes alkines aromatics line_feeds
name-feeds = alike (λ i. line_feeds (name_at i)) (λ i. 0) 29 refl

species-feeds : (masses : List ℕ) (i : ℕ) → i < 29 → line_feeds (species_line masses i) ≡ 1
unfolding species_line line_feeds
species-feeds masses i h = simp feeds-append (omega (arith, name-feeds i h, digits-feeds (at masses i)))

lines-feeds : (masses : List ℕ) (n : ℕ) → n ≤ 29 → line_feeds (species_lines masses n) ≡ n
unfolding species_lines line_feeds
lines-feeds masses zero h = refl
lines-feeds masses (suc n) h =
    omega (
      arith,
      feeds-append (species_lines masses n) (species_line masses n),
      lines-feeds masses n (omega arith),
      species-feeds masses n (omega arith),
    )

-- the line of the total and 29 more
pub composition-feeds : (version total : ℕ) (masses : List ℕ) → line_feeds (composition_lines version total masses) ≡ 30
unfolding composition_lines total_line line_feeds
composition-feeds version total masses =
    simp feeds-append
    (omega (arith, pair-feeds (bytes "EVP ") version (bytes " total ") total refl refl, lines-feeds masses 29 (omega arith)))

pub composition-ended : (version total : ℕ) (masses : List ℕ) → Ended (composition_lines version total masses)
unfolding composition_lines species_lines species_line
composition-ended version total masses =
    ended-behind (total_line version total)
    (ended-behind (species_lines masses 28) (record { body = name_at 28 ++ bytes " " ++ digits (at masses 28); text-is = refl }))
