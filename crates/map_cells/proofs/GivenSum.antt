-- What is known where the sum of two cells is given.
use Rattle.std.proofs.Common.{Option, Some, None, Ok, Err}
use Rattle.std.proofs.Common.{◌≡◌, ℕ, ◌+◌, ◌≤◌, Bool, true, false, cond, leb, refl, arith, leb-true}
use Rattle.map_cells.specs.declared.Cell.{Cell}
use Rattle.map_cells.specs.Doubles.{mass_limit}
use Rattle.map_cells.specs.Cells.{cell_of, masses_of}
use Rattle.map_cells.specs.Sums.{CellAnswer, cell_refusal, masses_sum, cell_sum}
use Rattle.map_cells.proofs.Between.{InOrder, masses-in-order}

-- c is the cell of the added lows and highs of a and b
pub record GivenSum (a b c : Cell) : Type 0 where
  pub low : ℕ
  pub high : ℕ
  pub low' : ℕ
  pub high' : ℕ
  pub first : masses_of a ≡ Some (low, high)
  pub second : masses_of b ≡ Some (low', high')
  pub order : low + low' ≤ high + high'
  pub room : high + high' ≤ mass_limit
  pub cell-is : cell_of (low + low') (high + high') ≡ c

no-sum : (c : Cell) → ◌≡◌ {A = CellAnswer} (Err cell_refusal) (Ok c) → ⊥
no-sum c e = let z : ◌≡◌ {A = ℕ} 0 1 = cc in omega arith

pub given-sum : (a b c : Cell) → cell_sum a b ≡ Ok c → GivenSum a b c
unfolding cell_sum masses_sum
given-sum a b c e = go (masses_of a) (masses_of b) refl refl e
  where
    go : (m n : Option (ℕ × ℕ)) → masses_of a ≡ m → masses_of b ≡ n → masses_sum m n ≡ Ok c → GivenSum a b c
    go None n f g e = absurd (no-sum c e)
    go (Some (l, h)) None f g e = absurd (no-sum c e)
    go (Some (l, h)) (Some (l', h')) f g e = tests (leb (h + h') mass_limit) (leb-true (h + h') mass_limit) e
      where
        tests : (t : Bool) → (t ≡ true → h + h' ≤ mass_limit)
            → ◌≡◌ {A = CellAnswer} (cond t (Ok (cell_of (l + l') (h + h'))) (Err cell_refusal)) (Ok c)
            → GivenSum a b c
        tests false k e = absurd (no-sum c e)
        tests true k e =
            let o : InOrder l h = masses-in-order a l h f in
            let o' : InOrder l' h' = masses-in-order b l' h' g in
            record {
              low = l;
              high = h;
              low' = l';
              high' = h';
              first = f;
              second = g;
              order = omega arith;
              room = k refl;
              cell-is = cc;
            }
