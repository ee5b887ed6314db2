-- `pooling_calls::pair::bytes_differ` meets its contract: two parts of the same length differ where one of their bytes does.
-- Assumes nothing.
use mathlib.Core.Path.{◌≡◌, refl, sym, ◌∙◌}
use mathlib.Core.List.{List, [], ◌∷◌}
use Prim.Native.Nat.{ℕ, suc, zero, ◌+◌, ◌-◌, ◌≤◌, ◌<◌}
use native.Mathlib.Omega.{arith}
use Rattle.std.proofs.Common.{Bool, true, false, not, ◌&&◌, ◌||◌, eqb, length, get_or, take, drop, length-drop, get_or-drop}
use Rattle.std.proofs.Math.Bool.{and_assoc, and-true}
use Rattle.std.specs.Cmp.Lexicographic.{pointwise}
use Rattle.pooling.specs.Pool.{some_differs}
use Rattle.pooling_calls.proofs.pair.bytes_differ.Goals as goal

-- one byte more is equal
one_more : (n : ℕ) (xs ys : List ℕ) → n < length xs → n < length ys
    → pointwise eqb (take (suc n) xs) (take (suc n) ys) ≡ (pointwise eqb (take n xs) (take n ys) && eqb (get_or xs n 0) (get_or ys n 0))
one_more zero (x ∷ xs) (y ∷ ys) l m = and-true (eqb x y)
one_more (suc n) (x ∷ xs) (y ∷ ys) l m = rw (one_more n xs ys (omega arith) (omega arith)) (sym (and_assoc (eqb x y) _ _))
one_more n [] ys l m = absurd (omega arith)
one_more n (x ∷ xs) [] l m = absurd (omega arith)

not_both : (p q : Bool) → not (p && q) ≡ (not p || not q)
not_both true q = refl
not_both false q = refl

-- n bytes after the head
differing : (a b : List ℕ) (n : ℕ) → 8 + n ≤ length a → 8 + n ≤ length b
    → not (pointwise eqb (take n (drop 8 a)) (take n (drop 8 b))) ≡ some_differs a b n
unfolding some_differs
differing a b zero l m = refl
differing a b (suc n) l m =
    let first : n < length (drop 8 a) = simp length-drop (omega arith) in
    let second : n < length (drop 8 b) = simp length-drop (omega arith) in
    let more = one_more n (drop 8 a) (drop 8 b) first second in
    rw (more, get_or-drop 8 a n 0, get_or-drop 8 b n 0, not_both, differing a b n (omega arith) (omega arith)) refl

pub returns : goal.returns
returns c =
    let long : 8 + c.args.n - 8 ≡ c.args.n = omega arith in
    let compared = rw long at c.ne.ensures in
    compared ∙ differing c.args.a.now c.args.b.now c.args.n c.requires.0 c.requires.1
