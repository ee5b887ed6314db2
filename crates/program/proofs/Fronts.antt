-- The front of a text or of a buffer, and what is added to it.
use Rattle.std.proofs.Common.{◌≡◌, ℕ, ◌+◌, ◌-◌, ◌≤◌, List, ◌++◌, length, take, drop, arith}
use Rattle.std.proofs.lemmas.Grind.{common_steps}
use Rattle.std.proofs.Math.Seq.{take-add, take-append-add}

-- a front, and n bytes of what stands behind it
pub front_more : (at n : ℕ) (xs : List ℕ) → n ≤ length xs - at → take at xs ++ take n (take (length xs - at) (drop at xs)) ≡ take (at + n) xs
front_more at n xs h = grind (arith, common_steps, take-add at n xs)

-- a buffer whose part from a place on was filled anew
pub front_filled : (at n : ℕ) (xs ys zs : List ℕ) → at ≤ length xs → n ≤ length ys
    → take (at + n) (take at xs ++ (ys ++ zs)) ≡ take at xs ++ take n ys
front_filled at n xs ys zs within fits = grind (arith, common_steps, take-append-add (take at xs) (ys ++ zs) n)
