-- Words replaced from the front: what a loop that fills a buffer leaves.
-- Assumes nothing.
use mathlib.Core.List.{List, [], ◌∷◌, ◌++◌, append_assoc}
use mathlib.Core.Path.{◌≡◌, refl, sym, ◌∙◌, ap}
use Prim.Native.Nat.{ℕ, suc, ◌+◌, ◌*◌, ◌/◌, ◌%◌, ◌≤◌, ◌<◌}
use native.Mathlib.Nat.{le_antisymm, le_dest}
use native.Mathlib.Numerals.{add-one}
use native.Mathlib.Omega.{arith}
use lib.ListN.{length, get_or, set, take, drop, length-append, take-append-drop, get_or-append}
use lib.Seq.{length-take-le, sets, set_at, drop_at, drop-cons, drop-drop, get_or-append-add, get_or-drop, get_or-take, ext_get_or}
use Rattle.numbers.specs.Lists.{tab}
use Rattle.numbers.proofs.Lists.{tab-length, get_d-tab, tab-at, tab-ext}
use Rattle.std.specs.Fork.{slice_chunk}
use Rattle.blocks.proofs.Parts.{part-at}
use Rattle.report_words.specs.Years.{filled}

module _ (f : ℕ → ℕ) (old : List ℕ) where
  -- none is replaced
  pub filled_none : old ≡ filled f 0 old
  unfolding tab
  filled_none = refl

  -- one more
  pub filled_more : (n : ℕ) {v : ℕ} → n < length old → v ≡ f n → set (filled f n old) n v ≡ filled f (n + 1) old
  unfolding tab
  filled_more n {v} h e =
      rw (drop-cons old n 0 h)
      (set_at (tab f n) (get_or old n 0) (drop (suc n) old) v n (tab-length f n) ∙
      rw (e, add-one, append_assoc))

  -- so many more, one after another
  pub filled-run : (n : ℕ) (vs : List ℕ) → n + length vs ≤ length old → ((m : ℕ) → m < length vs → get_or vs m 0 ≡ f (n + m))
      → sets (filled f n old) n vs ≡ filled f (n + length vs) old
  filled-run n [] h e = ap (λ (k : ℕ). filled f k old) {x = n} {y = n + 0} (omega arith)
  filled-run n (v ∷ vs) h e =
      let one : set (filled f n old) n v ≡ filled f (suc n) old =
      filled_more n (omega arith) (e 0 (omega arith) ∙ ap f {x = n + 0} {y = n} (omega arith)) ∙ rw add-one in
      ap (λ (ws : List ℕ). sets ws (suc n) vs) one ∙
      filled-run (suc n) vs (omega arith) (λ m l. e (suc m) (omega arith) ∙ ap f {x = n + suc m} {y = suc n + m} (omega arith)) ∙
      ap (λ (k : ℕ). filled f k old) {x = suc n + length vs} {y = n + suc (length vs)} (omega arith)

  -- all
  pub filled-all : (k n : ℕ) → k ≤ n → n ≤ k → filled f k old ≡ filled f n old
  filled-all k n l g = ap (λ (i : ℕ). filled f i old) (le_antisymm l g)

  -- the words that were replaced
  filled-first : (n k : ℕ) → k < n → get_or (filled f n old) k 0 ≡ f k
  filled-first n k h = get_or-append (tab f n) (drop n old) 0 k (rw (tab-length f n) h) ∙ get_d-tab f n k h

  -- and those that were not
  pub filled-beyond : (n k : ℕ) → n ≤ k → get_or (filled f n old) k 0 ≡ get_or old k 0
  filled-beyond n k h =
      let (d, e) = le_dest h in
      let at : get_or (tab f n ++ drop n old) (length (tab f n) + d) 0 ≡ get_or (drop n old) d 0 = get_or-append-add (tab f n) (drop n old) d 0 in
      rw (← e) (rw (tab-length f n) at at ∙ get_or-drop n old d 0)

-- the first of the words that were replaced
pub filled-less : (f : ℕ → ℕ) (old : List ℕ) (m n : ℕ) → m ≤ n → take m (filled f n old) ≡ tab f m
filled-less f old m n h =
    let long : m ≤ length (filled f n old) = simp (length-append, tab-length) (omega arith) in
    let size : length (take m (filled f n old)) ≡ m = length-take-le m (filled f n old) long in
    ext_get_or 0 (take m (filled f n old)) (tab f m) (size ∙ sym (tab-length f m))
    (λ k l.
    let inside : k < m = rw size at l in
    get_or-take m (filled f n old) k 0 inside ∙ filled-first f old n k (omega arith) ∙ sym (get_d-tab f m k inside))

pub filled-front : (f : ℕ → ℕ) (old : List ℕ) (n : ℕ) {words : List ℕ} → words ≡ filled f n old → take n words ≡ tab f n
filled-front f old n e = ap (take n) e ∙ filled-less f old n n (omega arith)

-- the same words replaced again, and perhaps more
pub filled-again : (f g : ℕ → ℕ) (old : List ℕ) (n m : ℕ) → n ≤ m → filled g m (filled f n old) ≡ filled g m old
filled-again f g old n m h =
    let (d, e) = le_dest h in
    let past : drop n (tab f n ++ drop n old) ≡ drop n old = drop_at (tab f n) (drop n old) n (tab-length f n) in
    ap (λ (r : List ℕ). tab g m ++ r)
    (rw (← e) (sym (drop-drop d n (filled f n old)) ∙ ap (drop d) past ∙ drop-drop d n old))

pub filled-twice : (f g : ℕ → ℕ) (old : List ℕ) (n m : ℕ) {before after : List ℕ} → n ≤ m → before ≡ filled f n old
    → after ≡ filled g m before → after ≡ filled g m old
filled-twice f g old n m h d e = e ∙ rw d (filled-again f g old n m h)

-- a buffer whose first words are those of f
pub filled-same : (f : ℕ → ℕ) (words : List ℕ) (n : ℕ) → take n words ≡ tab f n → words ≡ filled f n words
filled-same f words n e = sym (take-append-drop n words) ∙ ap (λ (r : List ℕ). r ++ drop n words) e

-- its word k: std's `get_or-take` joined to what stands in the list of f's values, which four files cite together
pub first-at : (f : ℕ → ℕ) (words : List ℕ) (n k : ℕ) → take n words ≡ tab f n → k < n → get_or words k 0 ≡ f k
first-at f words n k e h = sym (get_or-take n words k 0 h) ∙ ap (λ (r : List ℕ). get_or r k 0) e ∙ get_d-tab f n k h

-- a buffer made part by part, six words each, where what lies beyond the parts is as it was
pub filled-parts : (f : ℕ → ℕ) (old words : List ℕ) (n : ℕ) → 6 * n ≤ length words
    → ((i m : ℕ) → i < n → m < 6 → get_or (slice_chunk words 6 i) m 0 ≡ f (6 * i + m)) → drop (n * 6) words ≡ drop (n * 6) old
    → words ≡ filled f (6 * n) old
filled-parts f old words n room each rest =
    let count : n * 6 ≡ 6 * n = omega arith in
    let made : tab f (6 * n) ≡ take (6 * n) words =
    tab-ext (6 * n)
    (λ k h.
    let place : k / 6 * 6 + k % 6 ≡ k = omega arith in
    let here : 6 * (k / 6) + k % 6 ≡ k = omega arith in
    sym (get_or-take (6 * n) words k 0 h ∙ ap (λ (j : ℕ). get_or words j 0) (sym place) ∙
    sym (part-at 6 words (k / 6) (k % 6) (omega arith)) ∙ each (k / 6) (k % 6) (omega arith) (omega arith) ∙ ap f here)) ∙
    tab-at (take (6 * n) words) (length-take-le (6 * n) words room) in
    rw (← count) (sym (take-append-drop (6 * n) words) ∙ cc (made, rest))
