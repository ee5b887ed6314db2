-- `pooling_calls::pair::put` meets its contract.
-- Assumes nothing.
use Rattle.std.proofs.Common.{◌≡◌, ℕ, suc, ◌+◌, ◌<◌, List, length, drop, arith, ap, ◌∙◌, sym}
use Rattle.std.proofs.lemmas.List.{drop_more}
use Rattle.std.proofs.Math.ListN.{drop_of_length-le}
use lib.ListN.{get_or, set}
use lib.Seq.{sets}
use Rattle.pooling_calls.proofs.pair.put.Goals as goal

-- one element more is put
one-more : (out bytes : List ℕ) (p i : ℕ) → i < length bytes
    → sets (set out (p + i) (get_or bytes i 0)) (p + (i + 1)) (drop (i + 1) bytes) ≡ sets out (p + i) (drop i bytes)
one-more out bytes p i h =
    ap (λ (q : ℕ). sets (set out (p + i) (get_or bytes i 0)) q (drop (i + 1) bytes)) {x = p + (i + 1)} {y = suc (p + i)} (omega arith) ∙
    sym (ap (sets out (p + i)) (drop_more bytes i 0 h))

pub loop-i-init : goal.loop-i-init
loop-i-init c = ap (λ (p : ℕ). sets c.args.out.now p c.args.bytes.now) {x = c.args.place + 0} {y = c.args.place} (omega arith)

pub loop-i-preserved : goal.loop-i-preserved
loop-i-preserved c =
    let l = c.loop-i in
    let x = c.args in
    one-more l.out x.bytes.now x.place l.i c.loop-i-test.true ∙ l.invariant

pub returns : goal.returns
returns c = rw (drop_of_length-le c.args.bytes.now c.loop-i-test.false) at c.loop-i.invariant
