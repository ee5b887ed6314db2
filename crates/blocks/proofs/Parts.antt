-- A buffer whose parts, all of one size, are filled one after another.
use Rattle.std.proofs.Common.{◌≡◌, ℕ, zero, suc, ◌++◌, get_or, refl, take-append-drop, get_or-take, ◌+◌, ◌*◌, ◌<◌}
use Rattle.std.proofs.Common.{◌≤◌, List, length, take, drop, length-take, length-drop, below_more, sym, ap, ◌∙◌, arith}
use native.Mathlib.Nat.{mul-le-mul_right}
use Rattle.std.proofs.lemmas.List.{drop-take}
use Rattle.std.proofs.lemmas.Slice.{take-put_mid_below, take-put_mid, drop-put_mid}
use Rattle.std.specs.Fork.{slice_chunk}
use borrow.Rule.Slice.PartMut.{put_mid, same_len_mid}
use lib.Seq.{length-take-le, drop_at, drop-drop, get_or-drop, take-add}
use Rattle.blocks.specs.Blocks.{blocks}

module _ (size : ℕ) (words part : List ℕ) where
  -- part k, which ends where the new one starts or before
  pub part-kept : (start n k : ℕ) → k * size + size ≤ start → start ≤ length words → slice_chunk (put_mid start n words part) size k ≡
      slice_chunk words size k
  part-kept start n k before inside =
      sym (drop-take (k * size) size (put_mid start n words part)) ∙
      ap (drop (k * size)) (take-put_mid_below start n words part (k * size + size) before inside) ∙
      drop-take (k * size) size words

  -- the new one
  pub part-put : (i n : ℕ) → length part ≡ size → i * size ≤ length words → slice_chunk (put_mid (i * size) n words part) size i ≡ part
  part-put i n long inside =
      sym (drop-take (i * size) size (put_mid (i * size) n words part)) ∙
      ap (drop (i * size)) (take-put_mid (i * size) n words part (i * size + size) (omega (arith, long)) inside) ∙
      drop_at (take (i * size) words) part (i * size) (length-take-le (i * size) words inside)

-- what lies beyond one part more
later : (i size : ℕ) (xs ys : List ℕ) → drop (i * size) ys ≡ drop (i * size) xs → drop ((i + 1) * size) ys ≡ drop ((i + 1) * size) xs
later i size xs ys e =
    let next : i * size + size ≡ (i + 1) * size = omega arith in
    rw (← next) (sym (drop-drop size (i * size) ys) ∙ ap (drop size) e ∙ drop-drop size (i * size) xs)

-- A buffer of which the first i parts stand in a relation to those of the old one, part by part, and what lies beyond them is as it was.
pub record PartsMade (Made : ℕ → List ℕ → List ℕ → Type 0) (size i : ℕ) (old words : List ℕ) : Type 0 where
  pub long : length words ≡ length old
  pub each : (k : ℕ) → k < i → Made k (slice_chunk old size k) (slice_chunk words size k)
  pub beyond : drop (i * size) words ≡ drop (i * size) old

module _ (Made : ℕ → List ℕ → List ℕ → Type 0) (size i : ℕ) (old words : List ℕ) (made : PartsMade Made size i old words) where
  -- its next part is the old one
  pub next-part : slice_chunk words size i ≡ slice_chunk old size i
  next-part = ap (take size) made.beyond

  -- one part more
  pub part-made : (n : ℕ) (part : List ℕ) → i * size + size ≤ length words → n ≡ size → length part ≡ length (take n (drop (i * size) words))
      → Made i (slice_chunk old size i) part → PartsMade Made size (i + 1) old (put_mid (i * size) n words part)
  part-made n part end same kept made_i =
      let long : length part ≡ size = kept ∙ simp (length-take, length-drop) (omega (arith, end)) in
      let new = put_mid (i * size) n words part in
      record {
        long = same_len_mid (i * size) n words part kept ∙ made.long;
        each = below_more (λ k. Made k (slice_chunk old size k) (slice_chunk new size k)) i
            (λ k h. rw (part-kept size words part (i * size) n k (omega (arith, mul-le-mul_right size h)) (omega arith)) (made.each k h))
            (rw (part-put size words part i n long (omega arith)) made_i);
        beyond = drop-put_mid (i * size) n words part ((i + 1) * size) (omega arith) (omega arith) (omega (arith, long)) ∙ later i size _
            _ made.beyond;
      }

-- The words of a buffer from those of its parts.
module _ (size : ℕ) (words : List ℕ) where
  -- word m of part i
  pub part-at : (i m : ℕ) → m < size → get_or (slice_chunk words size i) m 0 ≡ get_or words (i * size + m) 0
  part-at i m h = get_or-take size (drop (i * size) words) m 0 h ∙ get_or-drop (i * size) words m 0

  -- its length, where it is one of n
  pub part-length : (i n : ℕ) → i < n → n * size ≤ length words → length (slice_chunk words size i) ≡ size
  part-length i n there room = simp (length-take, length-drop) (omega (arith, mul-le-mul_right size there))

  module _ (f : ℕ → List ℕ) where
    -- n parts that are the blocks of f
    parts-blocks : (n : ℕ) → ((i : ℕ) → i < n → slice_chunk words size i ≡ f i) → take (n * size) words ≡ blocks f n
    unfolding blocks
    parts-blocks zero h = ap (λ (k : ℕ). take k words) {x = zero * size} {y = 0} (omega arith)
    parts-blocks (suc n) h =
        let next : suc n * size ≡ n * size + size = omega arith in
        rw (next, take-add (n * size) size words, parts-blocks n (λ i l. h i (omega arith)), h n (omega arith)) refl

    -- and what lies beyond them as it was
    pub blocks-made : (n : ℕ) (old : List ℕ) → ((i : ℕ) → i < n → slice_chunk words size i ≡ f i) → drop (n * size) words ≡ drop (n * size) old
        → words ≡ blocks f n ++ drop (size * n) old
    blocks-made n old made rest =
        let place : size * n ≡ n * size = omega arith in
        rw place (sym (take-append-drop (n * size) words) ∙ cc (parts-blocks n made, rest))
