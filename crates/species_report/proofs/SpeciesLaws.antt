-- One species more, whose name stands in the code's table.
-- Assumes nothing.
use mathlib.Core.List.{List, ◌++◌}
use mathlib.Core.Path.{◌≡◌, sym, ◌∙◌, ap}
use Prim.Native.Nat.{ℕ, ◌+◌, ◌<◌}
use native.Mathlib.Numerals.{add-one}
use Rattle.std.proofs.Common.{Bor, get_or}
use Rattle.numbers.specs.Lists.{at}
use Rattle.text.specs.Ascii.{bytes}
use Rattle.text.specs.Decimal.{digits}
use Rattle.species_report.specs.Lines.{name_at, species_line, species_lines}
use Rattle.speciation.proofs.Computed.{first, alike}

species-more : (masses : List ℕ) (i : ℕ) → species_lines masses (i + 1) ≡ species_lines masses i ++ species_line masses i
unfolding species_lines
species-more masses i = rw add-one

-- a table of names that is computed to be this one
pub named : (table : List (Bor (List ℕ))) (d : Bor (List ℕ)) (i : ℕ) → i < 29
    → first (λ k. (get_or table k d).now) 29 ≡ first name_at 29 → (get_or table i d).now ≡ name_at i
named table d i h e = alike (λ k. (get_or table k d).now) name_at 29 e i h

pub species-behind : (masses : List ℕ) (i : ℕ) {name : List ℕ} → i < 29 → name ≡ name_at i
    → species_lines masses i ++ (name ++ bytes " " ++ digits (at masses i) ++ bytes "\n") ≡ species_lines masses (i + 1)
unfolding species_line
species-behind masses i h e =
    ap (λ (name : List ℕ). species_lines masses i ++ (name ++ bytes " " ++ digits (at masses i) ++ bytes "\n")) e ∙
    sym (species-more masses i)
