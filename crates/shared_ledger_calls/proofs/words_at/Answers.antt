-- `shared_ledger_calls::words_at` meets its contract: word m of them is word place + m of the buffer.
-- Assumes nothing.
use mathlib.Core.List.{List}
use mathlib.Core.Path.{◌≡◌, sym, ap, ◌∙◌}
use Prim.Native.Nat.{ℕ, ◌+◌, ◌-◌, ◌≤◌, ◌<◌}
use native.Mathlib.Omega.{arith}
use lib.ListN.{length, take, drop}
use lib.Seq.{length-take-le, get_or-drop, get_or-take, ext_get_or}
use Rattle.std.proofs.Common.{length-drop}
use Rattle.numbers.specs.Lists.{at, tab}
use Rattle.numbers.proofs.Lists.{tab-length, get_d-tab}
use Rattle.shared_ledger.specs.Calls.{words_from}
use Rattle.shared_ledger_calls.proofs.words_at.Goals as goal

-- so many words from a place on
copied : (words : List ℕ) (place n : ℕ) → place + n ≤ length words → take n (drop place words) ≡ words_from words place n
unfolding words_from
copied words place n h =
    let f = λ (m : ℕ). at words (place + m) in
    let long : length (take n (drop place words)) ≡ n = length-take-le n (drop place words) (simp length-drop (omega arith)) in
    ext_get_or 0 (take n (drop place words)) (tab f n) (long ∙ sym (tab-length f n))
    (λ m l.
    let inside : m < n = omega arith in
    get_or-take n (drop place words) m 0 inside ∙ get_or-drop place words m 0 ∙ sym (get_d-tab f n m inside))

pub returns : goal.returns
returns g c =
    let words = c.args.words.now in
    let place = c.args.place in
    let n = g.row.N in
    c.copy_from_slice.ensures.after ∙
    ap (λ (k : ℕ). take k (drop place words)) {x = place + n - place} {y = n} (omega arith) ∙
    copied words place n c.requires
