-- The cells of two lists of counts: which product stands in which.
use mathlib.Core.Path.{◌≡◌, sym, ◌∙◌, ap}
use mathlib.Core.List.{List, [], ◌∷◌, map}
use Prim.Native.Nat.{ℕ, zero, suc, ◌+◌, ◌*◌, ◌/◌, ◌%◌, ◌≤◌, ◌<◌}
use native.Mathlib.Omega.{arith}
use native.Mathlib.Nat.{mul-le-mul}
use lib.ListN.{length, get_or, length-map, get_or-append, get_or-map}
use lib.Seq.{get_or-append-add, ext_get_or}
use Rattle.numbers.specs.Lists.{tab, at}
use Rattle.numbers.proofs.Lists.{tab-length, get_d-tab}
use Rattle.exact.specs.Factors.{total, products}
use Rattle.exact.proofs.Products.{products-length, products_total}
use Rattle.parking.specs.Grid.{CellsInRange}

module _ (durations : List ℕ) where
  -- the cell of an end hour and a duration holds the product of their counts
  products_at : (hours : List ℕ) (n h k : ℕ) → length durations ≡ n → k < n → h < length hours
      → at (products durations hours) (n * h + k) ≡ at durations k * at hours h
  unfolding products
  products_at [] n h k e l m = absurd (omega arith)
  products_at (q ∷ hours) n zero k e l m =
      ap (at (products durations (q ∷ hours))) {x = n * 0 + k} {y = k} (omega arith) ∙
      get_or-append (map (λ (j : ℕ). j * q) durations) (products durations hours) 0 k
      (rw (length-map durations (λ (j : ℕ). j * q)) (omega arith)) ∙
      ap (get_or (map (λ (j : ℕ). j * q) durations) k) {x = 0} {y = 0 * q} (omega arith) ∙ get_or-map (λ (j : ℕ). j * q) durations k 0
  products_at (q ∷ hours) n (suc h) k e l m =
      let first = map (λ (j : ℕ). j * q) durations in
      ap (at (products durations (q ∷ hours))) {x = n * suc h + k} {y = length first + (n * h + k)}
      (omega (arith, length-map durations (λ (j : ℕ). j * q))) ∙
      get_or-append-add first (products durations hours) (n * h + k) 0 ∙ products_at hours n h k e l (omega arith)

-- 24 durations and 24 end hours, by cell
pub products-tab : (durations hours : List ℕ) → length durations ≡ 24 → length hours ≡ 24
    → tab (λ (cell : ℕ). at durations (cell % 24) * at hours (cell / 24)) 576 ≡ products durations hours
products-tab durations hours d h =
    let f : ℕ → ℕ = λ cell. at durations (cell % 24) * at hours (cell / 24) in
    ext_get_or 0 (tab f 576) (products durations hours)
    (tab-length f 576 ∙ sym (products-length durations hours ∙ rw (d, h)))
    (λ cell l.
    let small : cell < 576 = omega (arith, tab-length f 576) in
    get_d-tab f 576 cell small ∙ sym (products_at durations hours 24 (cell / 24) (cell % 24) d (omega arith) (omega arith)) ∙
    ap (at (products durations hours)) {x = 24 * (cell / 24) + cell % 24} {y = cell} (omega arith))

-- the cells of two lists of 24 counts that each sum to 1 to 1,000
pub products-in-range : (durations hours : List ℕ) → length durations ≡ 24 → length hours ≡ 24
    → 1 ≤ total durations → total durations ≤ 1000 → 1 ≤ total hours → total hours ≤ 1000 → CellsInRange (products durations hours)
products-in-range durations hours d h p P q Q =
    record {
      length-is = products-length durations hours ∙ rw (d, h);
      total-least = rw (products_total durations hours) (omega (arith, mul-le-mul p q));
      total-most = rw (products_total durations hours) (omega (arith, mul-le-mul P Q));
    }
