-- `pooling_calls::pair::Pair::write` meets its contract: the first sheet with the row count of both, and behind it the second's rows.
-- Assumes nothing.
use mathlib.Core.List.{List, [], ◌∷◌}
use mathlib.Core.Path.{◌≡◌, refl, ap, ◌∙◌}
use Prim.Native.Nat.{ℕ, ◌+◌, ◌/◌, ◌%◌, ◌<◌}
use native.Mathlib.Omega.{arith}
use lib.ListN.{length, drop}
use lib.Seq.{sets, length-sets}
use Rattle.sheet.specs.Bytes.{row_place}
use Rattle.sheet.proofs.Accepted.{accepted}
use Rattle.pooling.proofs.PoolBytes.{start, length-is, rows-most, pool-long}
use Rattle.pooling.proofs.PoolAnswers.{region}
use Rattle.pooling.proofs.PoolWritten.{pool-laid}
use Rattle.pooling_calls.proofs.pair.Pair.write.Goals as goal

pub overflow_cast-count : goal.overflow_cast-count
overflow_cast-count c =
    let p = c.args.self.now.regions in
    record { fits = omega (arith, rows-most (region _ p.first), rows-most (region _ p.second), c.rows.ensures.0, c.rows-2.ensures.0) }

pub row_place-requires : goal.row_place-requires
row_place-requires c =
    let r = region _ c.args.self.now.regions.second in
    omega (arith, length-is r, start r, (accepted _ r.passed).rows-least)

pub split_at-requires : goal.split_at-requires
split_at-requires c =
    let r = region _ c.args.self.now.regions.second in
    omega (arith, length-is r, start r, c.row_place.ensures)

pub put-requires : goal.put-requires
put-requires c =
    omega (arith, pool-long c.args.self.now.first.bytes.now (region _ c.args.self.now.regions.second), c.requires)

-- the two bytes of the row count
count-is : {x y n m : ℕ} {bytes : List ℕ} → x ≡ n → y ≡ m → n + m < 65536
    → bytes ≡ (x + y) % 256 ∷ (x + y) / 256 % 256 ∷ [] → bytes ≡ (n + m) % 256 ∷ (n + m) / 256 ∷ []
count-is {n = n} {m = m} e f small h =
    let high : (n + m) / 256 % 256 ≡ (n + m) / 256 = omega arith in
    h ∙ rw (e, f, high) refl

-- as many bytes as before
as-long : (out bytes : List ℕ) (place : ℕ) {next : List ℕ} → next ≡ sets out place bytes → length next ≡ length out
as-long out bytes place e = rw e (length-sets out place bytes)

pub put-requires-2 : goal.put-requires-2
put-requires-2 c =
    let a = c.args.self.now.first.bytes.now in
    let two : length c.to_le_bytes.result ≡ 2 = rw c.to_le_bytes.ensures refl in
    let first : length c.put.new.out ≡ length c.args.out.now = as-long c.args.out.now a 0 c.put.ensures in
    omega (
      arith,
      two,
      first,
      length-is (region a c.args.self.now.regions.first),
      pool-long a (region _ c.args.self.now.regions.second),
      c.requires,
    )

pub put-requires-3 : goal.put-requires-3
put-requires-3 c =
    let r = region _ c.args.self.now.regions.second in
    let first : length c.put.new.out ≡ length c.args.out.now = as-long c.args.out.now c.args.self.now.first.bytes.now 0 c.put.ensures in
    let second : length c.put-2.new.out ≡ length c.put.new.out = as-long c.put.new.out c.to_le_bytes.result 6 c.put-2.ensures in
    omega (
      arith,
      first,
      second,
      length-is r,
      start r,
      c.row_place.ensures,
      c.split_at.ensures.back_len,
      pool-long c.args.self.now.first.bytes.now r,
      c.requires,
    )

pub returns : goal.returns
returns c =
    let x = c.args.self.now in
    let a = x.first.bytes.now in
    let b = x.second.bytes.now in
    let r = region _ x.regions.first in
    let t = region _ x.regions.second in
    let count = count-is c.rows.ensures.0 c.rows-2.ensures.0 (omega (arith, rows-most r, rows-most t)) c.to_le_bytes.ensures in
    let rows : c.split_at.result.1.now ≡ drop (row_place b 0) b = c.split_at.ensures.back ∙ ap (λ (n : ℕ). drop n b) c.row_place.ensures in
    pool-laid a b c.args.out.now (omega (arith, length-is r))
    (omega (arith, length-is t, start t, c.row_place.ensures, c.split_at.ensures.back_len, pool-long a t, c.requires))
    count rows
    (c.put-3.ensures ∙ ap (λ (s : List ℕ). sets s (length a) c.split_at.result.1.now)
    (c.put-2.ensures ∙ ap (λ (s : List ℕ). sets s 6 c.to_le_bytes.result) c.put.ensures))
