-- How long the lines are at most, where each mass has 64 bits: 22 bytes of a name, 20 digits, a space and a line feed.
-- Assumes nothing.
use mathlib.Core.List.{List}
use mathlib.Core.Path.{◌≡◌, refl}
use Prim.Native.Nat.{ℕ, suc, zero, ◌+◌, ◌*◌, ◌-◌, ◌^◌, ◌≤◌, ◌<◌}
use native.Mathlib.Omega.{arith}
use lib.ListN.{length, length-append}
use Rattle.numbers.specs.Lists.{at}
use Rattle.numbers.proofs.Lists.{tab-at-most}
use Rattle.speciation.specs.Split.{species_mass, species_masses}
use Rattle.speciation.proofs.Promised.{mass-most}
use Rattle.text.specs.Ascii.{bytes}
use Rattle.text.proofs.Digits.{word-digits}
use Rattle.text.proofs.LineSizes.{Words, pair-most}
use Rattle.speciation.specs.Table.{alkanes, alkenes, alkines, aromatics, table, names}
use Rattle.species_report.specs.Lines.{total_line, name_at, species_line, species_lines, composition_lines}
use Rattle.speciation.proofs.Computed.{alike}

-- no name has more than 22 bytes
name-most : (i : ℕ) → i < 29 → length (name_at i) + (22 - length (name_at i)) ≡ 22
unfolding name_at names table alkanes alkenes alkines aromatics
name-most = alike (λ i. length (name_at i) + (22 - length (name_at i))) (λ i. 22) 29 refl

-- no species has more than the total
pub masses-words : {total : ℕ} {masses : List ℕ} → masses ≡ species_masses total → total < 2 ^ 64 → Words masses
unfolding species_masses
masses-words {total} {masses} e h =
    let most = tab-at-most (species_mass total) 29 e (mass-most total) in
    record { word = λ k. omega (arith, most.at_most k) }

module _ (masses : List ℕ) (words : Words masses) where
  line-most : (i : ℕ) → i < 29 → length (species_line masses i) ≤ 44
  unfolding species_line
  line-most i h = simp length-append (omega (arith, name-most i h, word-digits (at masses i) (words.word i)))

  lines-most : (n : ℕ) → n ≤ 29 → length (species_lines masses n) ≤ 44 * n
  unfolding species_lines
  lines-most zero h = omega arith
  lines-most (suc n) h =
      let before = lines-most n (omega arith) in
      omega (arith, length-append (species_lines masses n) (species_line masses n), line-most n (omega arith))

  -- all lines of an accepted sheet
  pub composition-most : (version total : ℕ) → version < 2 ^ 64 → total < 2 ^ 64 → length (composition_lines version total masses) ≤ 44 * 29 + 52
  unfolding composition_lines total_line
  composition-most version total v t =
      omega (
        arith,
        length-append (total_line version total) (species_lines masses 29),
        pair-most (bytes "EVP ") version (bytes " total ") total v t,
        lines-most 29 (omega arith),
      )
