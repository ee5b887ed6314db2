-- The entries of the exponential's two tables: each is just below E at its exponent, for every n from some N on. One computed test a table.
use mathlib.Core.Bool.{Bool}
use mathlib.Core.List.{List}
use Prim.Native.Nat.{ℕ, ◌+◌, ◌*◌, ◌^◌, ◌-◌, ◌≤◌, ◌<◌, suc, min}
use native.Mathlib.Omega.{arith}
use lib.Dec.{T}
use lib.ListN.{length, get_or}
use Rattle.bounds.specs.Exponential.{coarse, middle}
use Rattle.bounds.proofs.Tail.{Near, near, near_test}
use Rattle.bounds.proofs.Table.{at, every, ascending-at}

-- the entry at place h is just below w·E((h − o)/q) for every n from N(h) on
abbrev entry_test : (q o w : ℕ) → (ℕ → ℕ) → ℕ → ℕ → Bool
entry_test q o w N h t = near_test q (N h) w (h - o) (o - h) t

-- a table that passes the test holds the rule at each place whose exponent is below N(h) + 1
entry-near : (q o w : ℕ) (N : ℕ → ℕ) (xs : List ℕ) → T (every (entry_test q o w N) 0 xs) → (h : ℕ) → h < length xs → 0 < q
    → h - o < q * suc (N h) → o - h < q * suc (N h) → Near q (N h) w (h - o) (o - h) (get_or xs h 0)
entry-near q o w N xs t h l z i j = near q (N h) w (h - o) (o - h) (get_or xs h 0) z i j (at (entry_test q o w N) xs t h l)

-- From which n on: an entry below E at an exponent of 0 or more is compared at 29, which leaves 11 of the 40 for the factors
-- that it is multiplied with; one below E at a negative exponent at 40.
unfoldable pub from : ℕ → ℕ → ℕ
from o h = 29 + 11 * min 1 (o - h)

-- coarse(h) ≤ 2⁴⁰·E((h − 256)/16) ≤ coarse(h) + 1
pub coarse-near : (h : ℕ) → h < 322 → Near 16 (from 256 h) (2 ^ 40) (h - 256) (256 - h) (get_or coarse h 0)
unfolding coarse from near_test
coarse-near h l = entry-near 16 256 (2 ^ 40) (from 256) coarse tt h l (omega arith) (omega arith) (omega arith)

-- middle(m) ≤ 2⁴⁰·E(m/4096) ≤ middle(m) + 1
pub middle-near : (m : ℕ) → m < 256 → Near 4096 8 (2 ^ 40) (m - 0) (0 - m) (get_or middle m 0)
unfolding middle near_test
middle-near m l = entry-near 4096 0 (2 ^ 40) (λ _. 8) middle tt m l (omega arith) (omega arith) (omega arith)

-- coarse grows with its place
pub coarse-mono : {h k : ℕ} → h ≤ k → k < 322 → get_or coarse h 0 ≤ get_or coarse k 0
unfolding coarse
coarse-mono {h} {k} l g = ascending-at 0 coarse tt h k l g
