-- What lies in a cell. Definitions only.
use Rattle.std.specs.Prelude.{◌≡◌, ◌*◌, true, false, Float}
use Rattle.std.specs.Float.{nan, inf, fin}
use Rattle.std.specs.Float.Ieee.{up, down}
use Rattle.std.specs.Float.Ieee.Fits.{down_pos}
use Rattle.numbers.specs.Fraction.{Fraction, ◌≤ᶠ◌, ◌≈ᶠ◌, whole}
use Rattle.map_cells.specs.declared.Cell.{Cell}
use Rattle.map_cells.specs.declared.Cell.TheVariants.{Empty, Exact, Band}

-- a finite double as a fraction: m·2ᵉ, or −m·2ᵉ. A NaN and an infinity have none; 0 stands for it, and no cell holds one.
unfoldable pub value_of : Float → Fraction
value_of nan = whole 0
value_of (inf s) = whole 0
value_of (fin false m e) = record { up = m * up e; down = 0; den = down e; pos = down_pos e }
value_of (fin true m e) = record { up = 0; down = m * up e; den = down e; pos = down_pos e }

pub record InBand (low high : Float) (x : Fraction) : Type 0 where
  pub above : value_of low ≤ᶠ x
  pub below : x ≤ᶠ value_of high

-- "lies in that cell, and is 0 where the cell is empty"
unfoldable pub InCell : Cell → Fraction → Type 0
InCell Empty x = x ≈ᶠ whole 0
InCell (Exact m) x = x ≈ᶠ value_of m
InCell (Band low high) x = InBand low high x

-- a finite double with the sign plus: no minus zero
unfoldable pub Plus : Float → Type 0
Plus nan = ⊥
Plus (inf s) = ⊥
Plus (fin s m e) = s ≡ false

-- "A minus zero .. none is given back."
unfoldable pub NoMinus : Cell → Type 0
NoMinus Empty = Unit {0}
NoMinus (Exact m) = Plus m
NoMinus (Band low high) = Plus low × Plus high
