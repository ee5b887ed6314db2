-- The promise of every answer: what the number means, and what the cell holds.
-- Assumes nothing.
use Rattle.std.proofs.Common.{Option, Some, None, Ok, Err}
use Rattle.std.proofs.Common.{◌≡◌, ℕ, ◌+◌, ◌<◌, ◌≤◌, Bool, true, false, cond, leb, sym, refl, ◌∙◌, inl, inr, arith, leb-false, leb-true}
use Rattle.map_cells.specs.declared.Cell.{Cell}
use Rattle.refusals.specs.Rule.{number}
use Rattle.refusals.specs.Check.{number_of, place_of}
use Rattle.map_cells.specs.Doubles.{mass_limit}
use Rattle.map_cells.specs.Cells.{cell_of, masses_of}
use Rattle.map_cells.specs.Sums.{CellAnswer, cell_refusal, masses_sum, cell_sum}
use Rattle.map_cells.specs.Promise.{SumIn, SumSays, SumCell, SumPromise}
use Rattle.map_cells.proofs.Between.{wrong-between, equal-lows, equal-highs}
use Rattle.map_cells.proofs.Enclosed.{sum-encloses}
use Rattle.map_cells.proofs.GivenSum.{given-sum}
use Rattle.map_cells.proofs.Signs.{sum-no-minus}

-- what the number means
says : (a b : Cell) → SumSays a b (number_of (cell_sum a b)) (place_of (cell_sum a b))
unfolding cell_sum masses_sum number_of place_of number
says a b = go (masses_of a) (masses_of b) refl refl
  where
    go : (m n : Option (ℕ × ℕ)) → masses_of a ≡ m → masses_of b ≡ n → SumSays a b (number_of (masses_sum m n)) (place_of (masses_sum m n))
    go None n f g = record { place_is = refl; meaning = inr (refl, λ s. wrong-between s.low s.high (sym f ∙ s.first)) }
    go (Some (l, h)) None f g = record { place_is = refl; meaning = inr (refl, λ s. wrong-between s.low' s.high' (sym g ∙ s.second)) }
    go (Some (l, h)) (Some (l', h')) f g = tests (leb (h + h') mass_limit) (leb-true (h + h') mass_limit) (leb-false (h + h') mass_limit)
      where
        high_is : (s : SumIn a b) → s.high + s.high' ≡ h + h'
        high_is s =
            let one : s.high ≡ h = equal-highs (sym s.first ∙ f) in
            let two : s.high' ≡ h' = equal-highs (sym s.second ∙ g) in
            omega arith

        tests : (t : Bool) → (t ≡ true → h + h' ≤ mass_limit) → (t ≡ false → mass_limit < h + h')
            → SumSays a b (number_of {A = Cell} (cond t (Ok (cell_of (l + l') (h + h'))) (Err cell_refusal)))
            (place_of {A = Cell} (cond t (Ok (cell_of (l + l') (h + h'))) (Err cell_refusal)))
        tests true p q = record {
          place_is = refl;
          meaning = inl (refl, record { low = l; high = h; low' = l'; high' = h'; first = f; second = g; room = p refl });
        }
        tests false p q = record { place_is = refl; meaning = inr (refl, λ s. not-both s.room (high_is s) (q refl)) }
          where
            not-both : {x y : ℕ} → x ≤ mass_limit → x ≡ y → mass_limit < y → ⊥
            not-both r e l = omega arith

-- the cell that is given
sum-cell : (a b c : Cell) → cell_sum a b ≡ Ok c → SumCell a b c
sum-cell a b c e =
    let g = given-sum a b c e in
    record {
      exact = λ s.
          let one : s.low ≡ g.low = equal-lows (sym s.first ∙ g.first) in
          let two : s.low' ≡ g.low' = equal-lows (sym s.second ∙ g.second) in
          let three : s.high ≡ g.high = equal-highs (sym s.first ∙ g.first) in
          let four : s.high' ≡ g.high' = equal-highs (sym s.second ∙ g.second) in
          rw (one, two, three, four) (sym g.cell-is);
      holds = λ x y p q. sum-encloses a b c x y e p q;
      no_minus = sum-no-minus a b c e;
    }

pub promised : (a b : Cell) {r : CellAnswer} → r ≡ cell_sum a b → SumPromise a b r
promised a b e = rw e (record { says = says a b; cell = sum-cell a b })
