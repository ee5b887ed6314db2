-- What lies between a low and a high lies in their cell, and the sum of two cells holds the sums of what lies in them.
use Rattle.std.proofs.Common.{Option, Some, None, Ok}
use Rattle.std.proofs.Common.{◌≡◌, ℕ, ◌+◌, ◌*◌, ◌≤◌, Bool, true, false, cond, eqb, ltb, sym, refl, subst, arith, eqb→eq, eqb-true}
use lib.Ieee.{Float, nan, inf, fin, up}
use Rattle.numbers.specs.Fraction.{Fraction, ◌≤ᶠ◌, ◌≈ᶠ◌, ◌+ᶠ◌, whole, one-pos}
use Rattle.numbers.proofs.Order.{ratio, ratio-sum, ≤_trans, ≤-antisym, ≈-sym, ≈-trans, ≈→≤, ≈→≥, +-mono}
use Rattle.map_cells.specs.declared.Cell.{Cell}
use Rattle.map_cells.specs.declared.Cell.TheVariants.{Empty, Exact, Band}
use Rattle.map_cells.specs.Doubles.{mass_limit, double, whole_of}
use Rattle.map_cells.specs.Cells.{cell_of, exact_masses, band_masses, masses_of}
use Rattle.map_cells.specs.Sums.{cell_sum}
use Rattle.map_cells.specs.Values.{value_of, InCell}
use Rattle.map_cells.proofs.WholeDoubles.{IsWhole, whole_is, double-whole}
use Rattle.map_cells.proofs.Between.{wrong-between, equal-lows, equal-highs}
use Rattle.map_cells.proofs.GivenSum.{given-sum}

-- a double that is n, a minus zero too, has the value n
value-of : (x : Float) (n : ℕ) → IsWhole x n → value_of x ≈ᶠ whole n
unfolding value_of whole
value-of nan n h = elim h [ ]
value-of (inf _) n h = elim h [ ]
value-of (fin true m e) n h =
    let z : n ≡ 0 = eqb→eq n 0 h.2 in
    let v : m * up e ≡ 0 = omega (arith, rw z at h.0) in
    record { cross = rw (z, v) (omega arith) }
value-of (fin false m e) n h = record { cross = omega (arith, h.0) }

double-is : (n : ℕ) → n ≤ mass_limit → value_of (double n) ≈ᶠ whole n
double-is n h = value-of (double n) n (double-whole n h)

-- what lies between a low and a high lies in their cell
pub in_cell : (low high : ℕ) (x : Fraction) → low ≤ high → high ≤ mass_limit → whole low ≤ᶠ x → x ≤ᶠ whole high → InCell (cell_of low high) x
unfolding cell_of InCell
in_cell low high x o h a b = empty (eqb high 0) (eqb-true high 0)
  where
    band : (t : Bool) → (t ≡ true → low ≡ high) → InCell (cond t (Exact (double low)) (Band (double low) (double high))) x
    band true e = ≈-trans (≤-antisym (subst (λ (n : ℕ). x ≤ᶠ whole n) (sym (e refl)) b) a) (≈-sym (double-is low (omega arith)))
    band false e = record { above = ≤_trans (≈→≤ (double-is low (omega arith))) a; below = ≤_trans b (≈→≥ (double-is high h)) }

    empty : (t : Bool) → (t ≡ true → high ≡ 0) → InCell (cond t Empty (cond (eqb low high) (Exact (double low)) (Band (double low) (double high)))) x
    empty true e =
        let z : high ≡ 0 = e refl in
        let y : low ≡ 0 = omega arith in
        ≤-antisym (subst (λ (n : ℕ). x ≤ᶠ whole n) z b) (subst (λ (n : ℕ). whole n ≤ᶠ x) y a)
    empty false e = band (eqb low high) (eqb-true low high)

-- between two whole numbers
record BetweenWhole (low high : ℕ) (x : Fraction) : Type 0 where
  pub above : whole low ≤ᶠ x
  pub below : x ≤ᶠ whole high

-- what lies in a cell handed in lies between its low and its high
between-whole : (c : Cell) (low high : ℕ) (x : Fraction) → masses_of c ≡ Some (low, high) → InCell c x → BetweenWhole low high x
unfolding masses_of exact_masses band_masses InCell
between-whole Empty low high x e h =
    let a : 0 ≡ low = equal-lows e in
    let b : 0 ≡ high = equal-highs e in
    record { above = subst (λ (n : ℕ). whole n ≤ᶠ x) a (≈→≥ h); below = subst (λ (n : ℕ). x ≤ᶠ whole n) b (≈→≤ h) }
between-whole (Exact m) low high x e h = exact (whole_of m) (λ n k. value-of m n (whole_is m n k)) e
  where
    exact : (w : Option ℕ) → ((n : ℕ) → w ≡ Some n → value_of m ≈ᶠ whole n) → exact_masses w ≡ Some (low, high) → BetweenWhole low high x
    exact None f e = absurd (wrong-between low high e)
    exact (Some n) f e = tests (ltb 0 n) e
      where
        tests : (t : Bool) → cond {A = Option (ℕ × ℕ)} t (Some (n, n)) None ≡ Some (low, high) → BetweenWhole low high x
        tests false e = absurd (wrong-between low high e)
        tests true e =
            let a : n ≡ low = equal-lows e in
            let b : n ≡ high = equal-highs e in
            let v : x ≈ᶠ whole n = ≈-trans h (f n refl) in
            record { above = subst (λ (k : ℕ). whole k ≤ᶠ x) a (≈→≥ v); below = subst (λ (k : ℕ). x ≤ᶠ whole k) b (≈→≤ v) }
between-whole (Band l u) low high x e h =
    band (whole_of l) (whole_of u) (λ n k. value-of l n (whole_is l n k)) (λ n k. value-of u n (whole_is u n k)) e
  where
    band : (v w : Option ℕ) → ((n : ℕ) → v ≡ Some n → value_of l ≈ᶠ whole n) → ((n : ℕ) → w ≡ Some n → value_of u ≈ᶠ whole n)
        → band_masses v w ≡ Some (low, high)
        → BetweenWhole low high x
    band None w f g e = absurd (wrong-between low high e)
    band (Some m) None f g e = absurd (wrong-between low high e)
    band (Some m) (Some n) f g e = tests (ltb m n) e
      where
        tests : (t : Bool) → cond {A = Option (ℕ × ℕ)} t (Some (m, n)) None ≡ Some (low, high) → BetweenWhole low high x
        tests false e = absurd (wrong-between low high e)
        tests true e =
            let a : m ≡ low = equal-lows e in
            let b : n ≡ high = equal-highs e in
            record {
              above = subst (λ (k : ℕ). whole k ≤ᶠ x) a (≤_trans (≈→≥ (f m refl)) h.above);
              below = subst (λ (k : ℕ). x ≤ᶠ whole k) b (≤_trans h.below (≈→≤ (g n refl)));
            }

-- "Sums of cells are exact": where x lies in one cell and y in the other, x + y lies in their sum, and is 0 where that is empty
pub sum-encloses : (a b c : Cell) (x y : Fraction) → cell_sum a b ≡ Ok c → InCell a x → InCell b y → InCell c (x +ᶠ y)
unfolding whole ratio
sum-encloses a b c x y e hx hy =
    let g = given-sum a b c e in
    let p = between-whole a _ _ x g.first hx in
    let q = between-whole b _ _ y g.second hy in
    rw g.cell-is at
    (in_cell (g.low + g.low') (g.high + g.high') (x +ᶠ y) g.order g.room
    (≤_trans (≈→≥ (ratio-sum g.low g.low' 1 one-pos)) (+-mono p.above q.above))
    (≤_trans (+-mono p.below q.below) (≈→≤ (ratio-sum g.high g.high' 1 one-pos))))
