-- Texts put into a buffer one behind another.
-- Assumes nothing.
use mathlib.Core.List.{List, [], ◌∷◌, ◌++◌}
use mathlib.Core.Path.{◌≡◌, refl, sym, ◌∙◌, ap}
use Prim.Native.Nat.{ℕ, suc, ◌+◌, ◌-◌, ◌^◌, ◌≤◌, ◌<◌}
use native.Mathlib.Decide.{dec_le}
use native.Mathlib.Omega.{arith}
use lib.ListN.{length, set, drop, length-append}
use lib.Seq.{sets, sets-eq, length-sets, set_out}
use Rattle.std.specs.Prelude.{min}
use Rattle.text.specs.declared.writer.Writer.{Writer}
use Rattle.text.specs.Put.{Put}

-- std's `sets-eq` asks that the text fits; here it need not
sets-append : (out : List ℕ) (at : ℕ) (first next : List ℕ) → sets (sets out at first) (at + length first) next ≡ sets out at (first ++ next)
sets-append out at [] next = ap (λ (k : ℕ). sets out k next) {x = at + 0} {y = at} (omega arith)
sets-append out at (byte ∷ first) next =
    ap (λ (k : ℕ). sets (sets (set out at byte) (suc at) first) k next) {x = at + suc (length first)} {y = suc at + length first} (omega arith) ∙
    sets-append (set out at byte) (suc at) first next

-- nothing is written behind the buffer's end
sets-past : (out : List ℕ) (at : ℕ) (text : List ℕ) → length out ≤ at → sets out at text ≡ out
sets-past out at [] h = refl
sets-past out at (byte ∷ text) h = rw (set_out out at byte h) (sets-past out (suc at) text (omega arith))

-- so the place may stop at the largest number of 64 bits
sets-least : (out : List ℕ) (at : ℕ) (text : List ℕ) → length out < 2 ^ 64 → sets out (min at (2 ^ 64 - 1)) text ≡ sets out at text
sets-least out at text h =
    elim (dec_le at (2 ^ 64 - 1)) [
      | yes l ↦ ap (λ (k : ℕ). sets out k text) {x = min at (2 ^ 64 - 1)} {y = at} (omega arith)
      | no l ↦ sets-past out (min at (2 ^ 64 - 1)) text (omega arith) ∙ sym (sets-past out at text (omega arith))
    ]

-- a text, and the next behind it
infixl 5 ◌and◌
pub ◌and◌ : {old between new : Writer} {first next : List ℕ} → Put old first between → Put between next new → Put old (first ++ next) new
◌and◌ {old} {between} {new} {first} {next} a b = record {
  buffer = b.buffer ∙ a.buffer;
  long = a.long;
  out_is =
      b.out_is ∙ rw (a.out_is, a.at_is)
      (sets-least (sets old.out.now old.at first) (old.at + length first) next (rw (length-sets old.out.now old.at first) a.long) ∙
      sets-append old.out.now old.at first next);
  at_is = omega (arith, a.at_is, b.at_is, length-append first next);
}

-- no text, behind another
pub put-none : {old new : Writer} {text : List ℕ} → Put old text new → Put new [] new
put-none {old} {new} {text} a = record {
  buffer = refl;
  long = rw (a.out_is, length-sets old.out.now old.at text) a.long;
  out_is = refl;
  at_is = omega (arith, a.at_is);
}

-- the same text, said in another way
pub put_same : {old new : Writer} {text text' : List ℕ} → Put old text new → text ≡ text' → Put old text' new
put_same a e = rw (← e) a

-- A text at the front of a buffer: its length, and where the buffer is long enough what stands there.
module _ {out text : List ℕ} {old new : Writer} (start : old.out.now ≡ out) (front : old.at ≡ 0) (a : Put old text new) where
  pub place_is : length text < 2 ^ 64 → new.at ≡ length text
  place_is h = omega (arith, a.at_is, front)

  pub put_front : length text ≤ length out → new.out.now ≡ text ++ drop (length text) out
  put_front h =
      a.out_is ∙ rw (start, front)
      (sets-eq text out 0 (omega arith) ∙ ap (λ (k : ℕ). text ++ drop k out) {x = 0 + length text} {y = length text} (omega arith))
