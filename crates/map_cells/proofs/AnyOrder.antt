-- Cells may be added in any order, refusals included.
use Rattle.std.proofs.Common.{Option, Some, None, Ok, Err}
use Rattle.std.proofs.Common.{◌≡◌, ℕ, ◌+◌, ◌<◌, ◌≤◌, Bool, true, false, cond, eqb, leb, sym, refl, ap, ◌∙◌, add_comm, arith, lt-ltb, eqb-true}
use Rattle.std.proofs.Common.{leb-false, leb-true}
use borrow.Author.Tests.{lt-leb, eqb-false}
use Rattle.map_cells.specs.declared.Cell.{Cell}
use Rattle.map_cells.specs.declared.Cell.TheVariants.{Empty, Exact, Band}
use Rattle.map_cells.specs.Doubles.{mass_limit, double}
use Rattle.map_cells.specs.Cells.{cell_of, exact_masses, band_masses, masses_of}
use Rattle.map_cells.specs.Sums.{CellAnswer, cell_refusal, masses_sum, cell_sum, add_to}
use Rattle.map_cells.proofs.WholeDoubles.{double-mass}
use Rattle.map_cells.proofs.Between.{InOrder, masses-in-order}

-- a cell that is given back may be handed in, and has its low and high
pub masses-of-cell : (low high : ℕ) → low ≤ high → high ≤ mass_limit → masses_of (cell_of low high) ≡ Some (low, high)
unfolding cell_of masses_of exact_masses band_masses
masses-of-cell low high o h = empty (eqb high 0) (eqb-true high 0) (eqb-false high 0)
  where
    l : low ≤ mass_limit
    l = omega arith

    band : (t : Bool) → (t ≡ true → low ≡ high) → (t ≡ false → low ≡ high → ⊥) → 0 < high
        → masses_of (cond t (Exact (double low)) (Band (double low) (double high))) ≡ Some (low, high)
    band true e f p =
        let s : low ≡ high = e refl in
        rw (double-mass low l, lt-ltb 0 low (omega arith), s)
    band false e f p = rw (double-mass low l, double-mass high h, lt-ltb low high (below (f refl)))
      where
        below : (low ≡ high → ⊥) → low < high
        below n = omega arith

    empty : (t : Bool) → (t ≡ true → high ≡ 0) → (t ≡ false → high ≡ 0 → ⊥)
        → masses_of (cond t Empty (cond (eqb low high) (Exact (double low)) (Band (double low) (double high)))) ≡ Some (low, high)
    empty true e f =
        let z : high ≡ 0 = e refl in
        let y : low ≡ 0 = omega arith in
        rw (z, y)
    empty false e f = band (eqb low high) (eqb-true low high) (eqb-false low high) (some (f refl))
      where
        some : (high ≡ 0 → ⊥) → 0 < high
        some n = omega arith

swap : (m n : Option (ℕ × ℕ)) → masses_sum m n ≡ masses_sum n m
unfolding masses_sum
swap None None = refl
swap None (Some (l, h)) = refl
swap (Some (l, h)) None = refl
swap (Some (l, h)) (Some (l', h')) = rw (add_comm l l', add_comm h h')

-- two cells may be exchanged
pub sum-commutes : (a b : Cell) → cell_sum a b ≡ cell_sum b a
unfolding cell_sum
sum-commutes a b = swap (masses_of a) (masses_of b)

-- the sum of three, from their lows and highs
unfoldable three_sum : Option (ℕ × ℕ) → Option (ℕ × ℕ) → Option (ℕ × ℕ) → CellAnswer
three_sum None n k = Err cell_refusal
three_sum (Some (l, h)) None k = Err cell_refusal
three_sum (Some (l, h)) (Some (l', h')) None = Err cell_refusal
three_sum (Some (l, h)) (Some (l', h')) (Some (l'', h'')) =
    cond (leb (h + h' + h'') mass_limit) (Ok (cell_of (l + l' + l'') (h + h' + h''))) (Err cell_refusal)

three : (a b c : Cell) → add_to (cell_sum a b) c ≡ three_sum (masses_of a) (masses_of b) (masses_of c)
unfolding cell_sum add_to masses_sum three_sum
three a b c = go (masses_of a) (masses_of b) (masses-in-order a) (masses-in-order b)
  where
    go : (m n : Option (ℕ × ℕ)) → ((l h : ℕ) → m ≡ Some (l, h) → InOrder l h) → ((l h : ℕ) → n ≡ Some (l, h) → InOrder l h)
        → add_to (masses_sum m n) c ≡ three_sum m n (masses_of c)
    go None n f g = refl
    go (Some (l, h)) None f g = refl
    go (Some (l, h)) (Some (l', h')) f g = tests (leb (h + h') mass_limit) (leb-true (h + h') mass_limit) (leb-false (h + h') mass_limit)
      where
        within : (k : Option (ℕ × ℕ)) → masses_sum (Some (l + l', h + h')) k ≡ three_sum (Some (l, h)) (Some (l', h')) k
        within None = refl
        within (Some (l'', h'')) = refl

        over : mass_limit < h + h' → (k : Option (ℕ × ℕ)) → ◌≡◌ {A = CellAnswer} (Err cell_refusal) (three_sum (Some (l, h)) (Some (l', h')) k)
        over p None = refl
        over p (Some (l'', h'')) = rw (lt-leb (h + h' + h'') mass_limit (omega arith))

        tests : (t : Bool) → (t ≡ true → h + h' ≤ mass_limit) → (t ≡ false → mass_limit < h + h')
            → add_to (cond t (Ok (cell_of (l + l') (h + h'))) (Err cell_refusal)) c ≡ three_sum (Some (l, h)) (Some (l', h')) (masses_of c)
        tests true p q =
            let o : l + l' ≤ h + h' = omega (arith, (f l h refl).order, (g l' h' refl).order) in
            rw (masses-of-cell (l + l') (h + h') o (p refl)) (within (masses_of c))
        tests false p q = over (q refl) (masses_of c)

swap-last : (m n k : Option (ℕ × ℕ)) → three_sum m n k ≡ three_sum m k n
unfolding three_sum
swap-last None n k = refl
swap-last (Some (l, h)) None None = refl
swap-last (Some (l, h)) None (Some (l'', h'')) = refl
swap-last (Some (l, h)) (Some (l', h')) None = refl
swap-last (Some (l, h)) (Some (l', h')) (Some (l'', h'')) =
    let low : l + l' + l'' ≡ l + l'' + l' = omega arith in
    let high : h + h' + h'' ≡ h + h'' + h' = omega arith in
    rw (low, high)

-- of three cells, the two that are added to the first may be exchanged
sum-exchange : (a b c : Cell) → add_to (cell_sum a b) c ≡ add_to (cell_sum a c) b
sum-exchange a b c = three a b c ∙ swap-last (masses_of a) (masses_of b) (masses_of c) ∙ sym (three a c b)

-- (a + b) + c is (b + c) + a; with `sum-commutes`, three cells added in any order
pub sum-turns : (a b c : Cell) → add_to (cell_sum a b) c ≡ add_to (cell_sum b c) a
sum-turns a b c = ap (λ (r : CellAnswer). add_to r c) (sum-commutes a b) ∙ sum-exchange b a c

-- any two cells that are added one after the other may be exchanged, so any number of cells may be added in any order
pub in-any-order : (r : CellAnswer) (a b : Cell) → add_to (add_to r a) b ≡ add_to (add_to r b) a
unfolding add_to
in-any-order (Ok c) a b = sum-exchange c a b
in-any-order (Err refusal) a b = refl
