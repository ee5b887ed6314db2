-- A cell and its low and high: a cell made of two whole doubles, and what is known of a cell taken apart.
use Rattle.std.proofs.Common.{Option, Some, None, Ok, Err}
use Rattle.std.proofs.Common.{◌≡◌, ℕ, zero, suc, ◌+◌, ◌*◌, ◌<◌, ◌≤◌, Bool, true, false, cond, ◌&&◌, eqb, ltb, pos, sym, refl, ap, ◌∙◌, arith}
use Rattle.std.proofs.Common.{ltb-true, ne_eqb, le-leb}
use borrow.Author.Tests.{lt-leb}
use lib.Ieee.{Float, fin, eq}
use Rattle.map_cells.specs.declared.Cell.{Cell}
use Rattle.map_cells.specs.declared.Cell.TheVariants.{Empty, Exact, Band}
use Rattle.map_cells.specs.Doubles.{mass_limit, double, whole_of}
use Rattle.map_cells.specs.Cells.{cell_of, exact_masses, band_masses, masses_of}
use Rattle.map_cells.specs.Between.{cell_between}
use Rattle.map_cells.specs.Sums.{CellAnswer, cell_refusal, masses_sum}
use Rattle.map_cells.proofs.WholeDoubles.{double-value, same-value, double-eq, whole-limit}

-- a whole double compared with 0
zero-eq : (n : ℕ) → n ≤ mass_limit → eq (double n) (fin false 0 (pos 0)) ≡ eqb n 0
zero-eq zero h = same-value (double 0) 0 false 0 (pos 0) (double-value 0 h)
zero-eq (suc n) h =
    same-value (double (suc n)) (suc n) false 0 (pos 0) (double-value (suc n) h) ∙
    ap (λ (t : Bool). t && true) (ne_eqb 0 (suc n * 1) (λ e. no_zero n e)) ∙ sym (ne_eqb (suc n) 0 (λ e. no-zero' n e))
  where
    no_zero : (n : ℕ) → 0 ≡ suc n * 1 → ⊥
    no_zero n e = omega arith

    no-zero' : (n : ℕ) → suc n ≡ 0 → ⊥
    no-zero' n e = omega arith

-- the cell between two whole doubles is that of their numbers
pub between_is : (low high : ℕ) → low ≤ high → high ≤ mass_limit → cell_between (double low) (double high) ≡ cell_of low high
unfolding cell_between cell_of
between_is low high h k =
    let l : low ≤ mass_limit = omega arith in
    rw (zero-eq high k, double-eq low high l k)

-- what is known of a low and a high that a cell was taken apart into
pub record InOrder (low high : ℕ) : Type 0 where
  pub order : low ≤ high
  pub limit : high ≤ mass_limit

-- the two numbers of a low and a high that are equal to others
abbrev low-of : Option (ℕ × ℕ) → ℕ
low-of (Some (low, high)) = low
low-of None = 0

abbrev high-of : Option (ℕ × ℕ) → ℕ
high-of (Some (low, high)) = high
high-of None = 0

module _ {low high low' high' : ℕ} (e : ◌≡◌ {A = Option (ℕ × ℕ)} (Some (low, high)) (Some (low', high'))) where
  pub equal-lows : low ≡ low'
  equal-lows = ap low-of e

  pub equal-highs : high ≡ high'
  equal-highs = ap high-of e

pub wrong-between : (low high : ℕ) → ◌≡◌ {A = Option (ℕ × ℕ)} None (Some (low, high)) → ⊥
wrong-between low high e = let z : ◌≡◌ {A = ℕ} 0 1 = cc in omega arith

pub masses-in-order : (c : Cell) (low high : ℕ) → masses_of c ≡ Some (low, high) → InOrder low high
unfolding masses_of exact_masses band_masses
masses-in-order Empty low high e =
    let a : 0 ≡ low = equal-lows e in
    let b : 0 ≡ high = equal-highs e in
    record { order = omega arith; limit = omega arith }
masses-in-order (Exact m) low high e = exact (whole_of m) (whole-limit m) e
  where
    exact : (w : Option ℕ) → ((n : ℕ) → w ≡ Some n → n ≤ mass_limit) → exact_masses w ≡ Some (low, high) → InOrder low high
    exact None f e = absurd (wrong-between low high e)
    exact (Some n) f e = tests (ltb 0 n) e
      where
        tests : (t : Bool) → cond {A = Option (ℕ × ℕ)} t (Some (n, n)) None ≡ Some (low, high) → InOrder low high
        tests false e = absurd (wrong-between low high e)
        tests true e =
            let a : n ≡ low = equal-lows e in
            let b : n ≡ high = equal-highs e in
            record { order = omega arith; limit = omega (arith, f n refl) }
masses-in-order (Band l h) low high e = band (whole_of l) (whole_of h) (whole-limit h) e
  where
    band : (v w : Option ℕ) → ((n : ℕ) → w ≡ Some n → n ≤ mass_limit) → band_masses v w ≡ Some (low, high) → InOrder low high
    band None w f e = absurd (wrong-between low high e)
    band (Some m) None f e = absurd (wrong-between low high e)
    band (Some m) (Some n) f e = tests (ltb m n) (ltb-true m n) e
      where
        tests : (t : Bool) → (t ≡ true → m < n) → cond {A = Option (ℕ × ℕ)} t (Some (m, n)) None ≡ Some (low, high) → InOrder low high
        tests false g e = absurd (wrong-between low high e)
        tests true g e =
            let a : m ≡ low = equal-lows e in
            let b : n ≡ high = equal-highs e in
            record { order = omega (arith, g refl); limit = omega (arith, f n refl) }

-- The cases of the definitions, as the program meets them.
module _ (low high : Float) where
  pub between-empty : eq high (fin false 0 (pos 0)) ≡ true → Empty ≡ cell_between low high
  unfolding cell_between
  between-empty e = rw e

  pub between-exact : eq high (fin false 0 (pos 0)) ≡ false → eq low high ≡ true → Exact low ≡ cell_between low high
  unfolding cell_between
  between-exact e f = rw (e, f)

  pub between-band : eq high (fin false 0 (pos 0)) ≡ false → eq low high ≡ false → Band low high ≡ cell_between low high
  unfolding cell_between
  between-band e f = rw (e, f)

module _ (low high low' high' : ℕ) where
  pub sum_over : mass_limit < high + high' → ◌≡◌ {A = CellAnswer} (Err cell_refusal) (masses_sum (Some (low, high)) (Some (low', high')))
  unfolding masses_sum
  sum_over h = rw (lt-leb (high + high') mass_limit h)

  pub sum-within : (x y : Float) (r : Cell) → low ≤ high → low' ≤ high' → high + high' ≤ mass_limit
      → x ≡ double (low + low') → y ≡ double (high + high')
      → r ≡ cell_between x y → ◌≡◌ {A = CellAnswer} (Ok r) (masses_sum (Some (low, high)) (Some (low', high')))
  unfolding masses_sum
  sum-within x y r g g' h e f k =
      let o : low + low' ≤ high + high' = omega arith in
      rw (le-leb (high + high') mass_limit h) (ap Ok (k ∙ rw (e, f) (between_is (low + low') (high + high') o h)))
