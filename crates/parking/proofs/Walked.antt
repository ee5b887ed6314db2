-- The walk gives what passed in every parking.
use mathlib.Core.List.{List, ◌++◌, append_assoc}
use mathlib.Core.Path.{◌≡◌, refl, sym, ◌∙◌, ap, ap₂}
use Prim.Native.Nat.{ℕ, zero, suc, ◌+◌, ◌*◌, ◌/◌, ◌%◌, ◌<◌}
use native.Mathlib.Nat.{le_dest, lt_of_not-le}
use native.Mathlib.Decide.{dec_le}
use native.Mathlib.Numerals.{add-one}
use native.Mathlib.Omega.{arith}
use lib.ListN.{length, take, length-append, get_or-append}
use lib.Seq.{get_or-append-add, ext_get_or, take_at}
use Rattle.numbers.specs.Lists.{tab, at}
use Rattle.numbers.proofs.Lists.{tab-length, get_d-tab}
use Rattle.exact.specs.Day.{start_mark}
use Rattle.exact.specs.Factors.{end_hour, duration}
use Rattle.marks.specs.Marks.{passed}
use Rattle.parking.specs.Grid.{passed_in}
use Rattle.parking.specs.Walk.{steps_back, walked}

module _ (values : List ℕ) where
  -- nothing passed in no time
  pub none_passed : (hour : ℕ) → 0 ≡ passed (at values) hour 0
  unfolding passed
  none_passed hour = refl

  -- as many as steps
  steps-length : (hour d carried n : ℕ) → length (steps_back values hour d carried n) ≡ n
  unfolding steps_back
  steps-length hour d carried zero = refl
  steps-length hour d carried (suc n) = ap suc (steps-length hour (suc d) _ n)

  -- step k gives what passed in the parking of d + k + 1 half-hours
  pub steps-at : (hour d carried n k : ℕ) → carried ≡ passed (at values) hour d → k < n
      → at (steps_back values hour d carried n) k ≡ passed (at values) hour (suc (d + k))
  unfolding steps_back passed
  steps-at hour d carried zero k e l = absurd (omega arith)
  steps-at hour d carried (suc n) zero e l =
      let place : d + 0 ≡ d = omega arith in
      rw (place, e) refl
  steps-at hour d carried (suc n) (suc k) e l =
      let place : d + suc k ≡ suc d + k = omega arith in
      rw place (steps-at hour (suc d) _ n k (ap (λ (x : ℕ). x + at values (start_mark hour (suc d))) e) (omega arith))

  -- the column of an end hour
  pub column-is : (hour : ℕ) → tab (λ (k : ℕ). passed (at values) hour (suc k)) 24 ≡ steps_back values hour 0 0 24
  column-is hour =
      ext_get_or 0 _ (steps_back values hour 0 0 24) (tab-length _ 24 ∙ sym (steps-length hour 0 0 24))
      (λ k l.
      let small : k < 24 = omega (arith, tab-length (λ (j : ℕ). passed (at values) hour (suc j)) 24) in
      let place : 0 + k ≡ k = omega arith in
      get_d-tab (λ (j : ℕ). passed (at values) hour (suc j)) 24 k small ∙ sym (rw place at (steps-at hour 0 0 24 k (none_passed hour) small)))

  -- 24 for each end hour
  walked-length : (h : ℕ) → length (walked values h) ≡ 24 * h
  unfolding walked
  walked-length zero = refl
  walked-length (suc h) =
      length-append (walked values h) (steps_back values (suc h) 0 0 24) ∙
      omega (arith, walked-length h, steps-length (suc h) 0 0 24)

  -- one end hour more: its column stands behind those before it
  walked_next : (h : ℕ) → walked values h ++ steps_back values (suc h) 0 0 24 ≡ walked values (suc h)
  unfolding walked
  walked_next h = refl

  pub walked_more : (h : ℕ) (xs zs : List ℕ) {ys : List ℕ} → take (24 * h) xs ≡ walked values h → ys ≡ steps_back values (h + 1) 0 0 24
      → take (24 * (h + 1)) (take (24 * h) xs ++ (ys ++ zs)) ≡ walked values (h + 1)
  walked_more h xs zs e f =
      let column = steps_back values (suc h) 0 0 24 in
      let long : length (walked values h ++ column) ≡ 24 * suc h
      = length-append (walked values h) column ∙ omega (arith, walked-length h, steps-length (suc h) 0 0 24) in
      rw (e, f, add-one, ← append_assoc (walked values h) column zs) (take_at (walked values h ++ column) zs (24 * suc h) long ∙ walked_next h)

  -- cell k of the last of the end hours
  last-at : (h k cell : ℕ) → 24 * h + k ≡ cell → k < 24 → at (walked values h ++ steps_back values (suc h) 0 0 24) cell ≡ passed_in values cell
  unfolding passed_in end_hour duration
  last-at h k cell e l =
      let place : cell ≡ length (walked values h) + k = omega (arith, walked-length h) in
      let hour : suc h ≡ cell / 24 + 1 = omega arith in
      let half-hours : suc (0 + k) ≡ cell % 24 + 1 = omega arith in
      ap (at (walked values h ++ steps_back values (suc h) 0 0 24)) place ∙
      get_or-append-add (walked values h) (steps_back values (suc h) 0 0 24) k 0 ∙
      steps-at (suc h) 0 0 24 k (none_passed (suc h)) l ∙
      ap₂ (passed (at values)) hour half-hours

  -- a cell holds what passed in its parking
  pub walked_at : (h cell : ℕ) → cell < 24 * h → at (walked values h) cell ≡ passed_in values cell
  unfolding walked
  walked_at zero cell l = absurd (omega arith)
  walked_at (suc h) cell l =
      elim (dec_le (24 * h) cell) [
        | yes g ↦ let (k, e) = le_dest g in last-at h k cell e (omega arith)
        | no g ↦
            let below : cell < 24 * h = lt_of_not-le g in
            get_or-append (walked values h) (steps_back values (suc h) 0 0 24) 0 cell (rw (walked-length h) below) ∙ walked_at h cell below
      ]

  -- all 24 end hours
  pub walked-is : walked values 24 ≡ tab (passed_in values) 576
  walked-is =
      ext_get_or 0 (walked values 24) (tab (passed_in values) 576) (walked-length 24 ∙ sym (tab-length (passed_in values) 576))
      (λ cell l.
      let small : cell < 576 = omega (arith, walked-length 24) in
      walked_at 24 cell small ∙ sym (get_d-tab (passed_in values) 576 cell small))
