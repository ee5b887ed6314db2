-- What a loop that fills a list, or adds up a sum, keeps true; and what stands in such a list. std has these laws for the list that a
-- function makes of a range; ours are theirs at `tab` and `sum`.
use mathlib.Core.Path.{◌≡◌, refl, sym, ◌∙◌, ap}
use mathlib.Core.List.{List, [], ◌∷◌, ◌++◌, map}
use Prim.Native.Nat.{ℕ, zero, suc, ◌+◌, ◌*◌, ◌≤◌, ◌<◌, zero-le}
use native.Mathlib.Decide.{dec_le}
use native.Mathlib.Numerals.{add-one}
use native.Mathlib.Omega.{arith}
use native.Mathlib.Nat.{le_antisymm}
use lib.ListN.{replicate, length-replicate, get_or-replicate, length, get_or, set, take, length-set}
use lib.Seq.{take-suc-set, take_all}
use Rattle.std.specs.List.{range_with_len, sum_by}
use Rattle.std.proofs.lemmas.List.{get_or-append-add, get_or_default, get_or_past, get_or-take, length-take-le}
use Rattle.std.proofs.lemmas.List.FromFn.{length-map-range_with_len, get_or-map-range_with_len, map-range_with_len_more, fill_by_all}
use Rattle.std.proofs.lemmas.List.Sums.{sum_by_push, sum_by-le}
use Rattle.numbers.specs.Lists.{tab, sum, at}
use Rattle.numbers.specs.Bounded.{AllAtMost}

-- f 0, f 1, .. f (n − 1) is std's list of f over a range
tab-is : (f : ℕ → ℕ) (n : ℕ) → tab f n ≡ map f (range_with_len 0 n)
unfolding tab
tab-is f zero = refl
tab-is f (suc n) =
    ap (λ (xs : List ℕ). xs ++ (f n ∷ [])) (tab-is f n) ∙ sym (map-range_with_len_more f 0 n n (omega arith)) ∙
    ap (λ (k : ℕ). map f (range_with_len 0 k)) {x = n + 1} {y = suc n} (omega arith)

-- and its sum std's sum of that list
pub sum-is : (f : ℕ → ℕ) (n : ℕ) → sum f n ≡ sum_by (λ (x : ℕ). x) (tab f n)
unfolding sum tab
sum-is f zero = refl
sum-is f (suc n) = ap (λ (k : ℕ). k + f n) (sum-is f n) ∙ sym (sum_by_push (λ (x : ℕ). x) (tab f n) (f n))

-- What stands in the list f 0, f 1, .. f (n − 1).

-- it is n long
pub tab-length : (f : ℕ → ℕ) (n : ℕ) → length (tab f n) ≡ n
tab-length f n = ap length (tab-is f n) ∙ length-map-range_with_len f 0 n

-- f k stands at k
pub get_d-tab : (f : ℕ → ℕ) (n k : ℕ) → k < n → get_or (tab f n) k 0 ≡ f k
get_d-tab f n k h = ap (λ (xs : List ℕ). get_or xs k 0) (tab-is f n) ∙ get_or-map-range_with_len f 0 n k k 0 h (omega arith)

-- a list of that length with these values is it
pub tab-from : (f : ℕ → ℕ) {n : ℕ} (xs : List ℕ) → length xs ≡ n → ((k : ℕ) → k < n → get_or xs k 0 ≡ f k) → xs ≡ tab f n
tab-from f {n} xs e h = fill_by_all f xs n 0 e h ∙ sym (tab-is f n)

-- a list is made up of what stands in it
pub tab-at : (xs : List ℕ) {n : ℕ} → length xs ≡ n → tab (at xs) n ≡ xs
tab-at xs e = sym (tab-from (at xs) xs e (λ k l. refl))

-- equal values make equal lists
pub tab-ext : {f g : ℕ → ℕ} (n : ℕ) → ((k : ℕ) → k < n → f k ≡ g k) → tab f n ≡ tab g n
tab-ext {f} {g} n h = tab-from g (tab f n) (tab-length f n) (λ k l. get_d-tab f n k l ∙ h k l)

-- its first k
pub tab-take : (f : ℕ → ℕ) {k n : ℕ} → k ≤ n → take k (tab f n) ≡ tab f k
tab-take f {k} {n} h =
    let long = tab-length f n in
    tab-from f (take k (tab f n)) (length-take-le k (tab f n) (omega arith)) (λ j l. get_or-take k (tab f n) j 0 l ∙ get_d-tab f n j (omega arith))

-- one value throughout
pub tab-constant : {f : ℕ → ℕ} (n v : ℕ) → ((k : ℕ) → k < n → f k ≡ v) → replicate n v ≡ tab f n
tab-constant {f} n v h = tab-from f (replicate n v) (length-replicate n v) (λ k l. get_or-replicate n k v 0 l ∙ sym (h k l))

-- a bound on the values bounds the list
pub tab-at-most : (f : ℕ → ℕ) (n : ℕ) {bound : ℕ} {xs : List ℕ} → xs ≡ tab f n → ((k : ℕ) → k < n → f k ≤ bound) → AllAtMost bound xs
tab-at-most f n {bound} {xs} e h = record {
  at_most = λ k.
      rw e (elim (dec_le n k) [
        | yes past ↦ omega (arith, get_or_past (tab f n) k 0 (rw (tab-length f n) past))
        | no inside ↦ let l : k < n = omega arith in rw (get_d-tab f n k l) (h k l)
      ]);
}

-- what stands past the first of two lists
pub past : (xs ys : List ℕ) (n k m : ℕ) → length xs ≡ n → m ≡ n + k → get_or (xs ++ ys) m 0 ≡ get_or ys k 0
past xs ys n k m e f = rw (f, ← e) (get_or-append-add xs ys k 0)

-- A list of n places that is filled from the front: the first i hold the values of f. Tried: `stored` place by place, with std's `fill_by_more`
-- and `fill_by_all`; the check then misses the equation by which it finds what six functions of breakthrough return.
pub record Filled (f : ℕ → ℕ) (n i : ℕ) (xs : List ℕ) : Type 0 where
  pub places : i ≤ n
  pub long : length xs ≡ n
  pub stored : take i xs ≡ tab f i

-- nothing stored
pub filled_none : (f : ℕ → ℕ) {n : ℕ} (xs : List ℕ) → length xs ≡ n → Filled f n 0 xs
unfolding tab
filled_none f xs e = record { places = zero-le; long = e; stored = refl }

-- one more stored
pub filled_more : {f : ℕ → ℕ} {n i v : ℕ} {xs : List ℕ} → Filled f n i xs → i < n → v ≡ f i → Filled f n (i + 1) (set xs i v)
unfolding tab
filled_more {f} {n} {i} {v} {xs} k l e =
    let inside : i < length xs = omega (arith, k.long) in
    record {
      places = omega arith;
      long = length-set xs i v ∙ k.long;
      stored = rw (add-one, take-suc-set) (cc k.stored);
    }

-- all n stored
pub filled-all : {f : ℕ → ℕ} {n i : ℕ} {xs : List ℕ} → Filled f n i xs → n ≤ i → xs ≡ tab f n
filled-all {f} {n} {i} {xs} k l =
    sym (take_all i xs (omega (arith, k.long))) ∙ k.stored ∙ ap (tab f) (le_antisymm k.places l)

-- A sum that is added up. The first three are a line each of the definition; by std's laws of `sum_by` they would be longer.

-- nothing added
pub sum-none : (f : ℕ → ℕ) → 0 ≡ sum f 0
unfolding sum
sum-none f = refl

-- one more added
pub sum_more : (f : ℕ → ℕ) (i : ℕ) {s r : ℕ} → s ≡ sum f i → r ≡ f i → s + r ≡ sum f (i + 1)
unfolding sum
sum_more f i e h = rw add-one (cc)

-- all n added
pub sum-all : (f : ℕ → ℕ) (i n : ℕ) {s : ℕ} → s ≡ sum f i → i ≤ n → n ≤ i → s ≡ sum f n
sum-all f i n e l h = e ∙ ap (sum f) (le_antisymm l h)

-- n parts of at most B each are at most n·B
pub sum-le : (f : ℕ → ℕ) (B n : ℕ) → ((k : ℕ) → k < n → f k ≤ B) → sum f n ≤ n * B
sum-le f B n h =
    let each = sum_by-le (λ (x : ℕ). x) B (tab f n)
    (λ k d l. let i : k < n = rw (tab-length f n) at l in rw (get_or_default (tab f n) k d 0 l, get_d-tab f n k i) (h k i)) in
    rw (sum-is f n) (rw (tab-length f n) at each)

-- equal parts have equal sums
pub sum-ext : {f g : ℕ → ℕ} (n : ℕ) → ((k : ℕ) → k < n → f k ≡ g k) → sum f n ≡ sum g n
sum-ext {f} {g} n h = sum-is f n ∙ ap (sum_by (λ (x : ℕ). x)) (tab-ext n h) ∙ sym (sum-is g n)
