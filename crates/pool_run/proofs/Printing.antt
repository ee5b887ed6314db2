-- What the program prints where what it reads and writes is known: told of all bytes of its two sources, though of each it reads only one more than
-- the longest sheet has.
-- Assumes nothing.
use Rattle.std.proofs.Common.{◌≡◌, ℕ, ◌<◌, Bool, true, false, leb, List, [], Option, None, Some, IfSome, Ok, Err}
use Rattle.std.proofs.Common.{◌≢◌, refl, ap, sym, ◌∙◌, length, take, take_all, arith, subst, inl, inr}
use Rattle.std.specs.Io.KnownBytes.{Keeps}
use Rattle.std.proofs.KnownBytes.{Keeps-refl, Keeps-trans}
use Rattle.std.proofs.lemmas.Bool.{leb-true, leb-false}
use Rattle.refusals.specs.Check.{Check, Pass}
use Rattle.sheet.specs.Limits.{longest}
use Rattle.sheet.specs.Sheet.{sheet_check}
use Rattle.sheet.proofs.Checks.{then-pass}
use Rattle.pooling.specs.declared.PoolRefusal.{PoolRefusal}
use Rattle.pooling.specs.Pool.{pool, region_check, pair_check}
use Rattle.pooling.specs.PoolCall.{Accepted, pool_answered, pool_answer}
use Rattle.program.specs.Printed.{Wrote, AnswerPrinted}
use Rattle.program.proofs.Overlong.{BothRefused, overlong}
use Rattle.pool_run.specs.Refusal.{refusal_text, status_of}
use Rattle.pool_run.specs.Ran.{RefusalPrinted, refusal-printed, refusal-cut}
use Rattle.pool_run.proofs.Refusing.{refused-status}
use Rattle.pool_run.specs.Ran.{PoolPrinted, pool-printed, pool-cut, refused-printed, none-printed, PoolPrints}

-- ---- after an answer

module _ {a b : List ℕ} {out out' err err' : Option (List ℕ)} {status : ℕ} where
  -- the pooled sheet: nothing on standard error, but where not all of it was taken
  pub pool-answered : pool_answer a b longest ≡ Accepted → AnswerPrinted 0 (pool a b) out out' status → (status ≢ 2 → Keeps err err')
      → PoolPrinted a b out out' err err' status
  pool-answered e (inl (s, w)) k = subst (PoolPrinted a b out out' err err') (sym s) (pool-printed e w (k (omega (arith, s))))
  pool-answered e (inr (s, w)) k = subst (PoolPrinted a b out out' err err') (sym s) (pool-cut e w)

module _ {a b : List ℕ} {err err' : Option (List ℕ)} {status : ℕ} {refusal : PoolRefusal} (e : pool_answer a b longest ≡ Err refusal) where
  refusal-written : AnswerPrinted 1 (refusal_text (Err refusal)) err err' status → RefusalPrinted a b err err' status
  refusal-written (inl (s, w)) = subst (RefusalPrinted a b err err') (sym s) (refusal-printed (refused-status e) (rw e w))
  refusal-written (inr (s, w)) = subst (RefusalPrinted a b err err') (sym s) (refusal-cut (refused-status e) (rw e w))

  -- the refusal: nothing on standard output
  pub refusal-answered : (out : Option (List ℕ)) → AnswerPrinted 1 (refusal_text (Err refusal)) err err' status
      → PoolPrinted a b out out err err' status
  refusal-answered out p = refused-printed status (Keeps-refl out) (refusal-written p)

-- ---- of a writer that kept its bytes before

from_kept : (a b c : Option (List ℕ)) (text : List ℕ) (all : Bool) → Keeps a b → Wrote b c text all → Wrote a c text all
from_kept None b c text true k w = tt
from_kept None b c text false k w = (0, tt)
from_kept (Some x) None c text all k w = absurd k
from_kept (Some x) (Some y) c text all k w = subst (λ z. Wrote (Some z) c text all) k w

module _ {a b : List ℕ} {e e' e'' : Option (List ℕ)} (k : Keeps e e') where
  refusal-from_kept : {status : ℕ} → RefusalPrinted a b e' e'' status → RefusalPrinted a b e e'' status
  refusal-from_kept (refusal-printed s w) = refusal-printed s (from_kept e e' e'' _ true k w)
  refusal-from_kept (refusal-cut s w) = refusal-cut s (from_kept e e' e'' _ false k w)

  pub printed-from_kept : {o o' : Option (List ℕ)} {status : ℕ} → PoolPrinted a b o o' e' e'' status → PoolPrinted a b o o' e e'' status
  printed-from_kept (pool-printed p w l) = pool-printed p w (Keeps-trans e e' e'' k l)
  printed-from_kept (pool-cut p w) = pool-cut p w
  printed-from_kept (refused-printed s l r) = refused-printed s l (refusal-from_kept r)
  printed-from_kept (none-printed l) = none-printed l

-- ---- of sheets and of what was read of them

-- t is s, or both are refused alike
record Front (s t : List ℕ) : Type 0 where
  region : region_check t ≡ region_check s
  same : region_check s ≡ Pass → t ≡ s

whole : (s : List ℕ) → Front s s
whole s = record { region = refl; same = λ e. refl }

too_long : (s t : List ℕ) → BothRefused s t → Front s t
unfolding region_check
too_long s t b = record {
  region = rw (b.mark, b.version, b.first, b.second) refl;
  same = λ e. let passed : sheet_check s ≡ Pass = (then-pass _ _ (then-pass _ _ e).1).1 in let f = b.first in cc;
}

-- at most n bytes of a source, where n is more than the longest sheet has
front : (s : List ℕ) (n : ℕ) → longest < n → Front s (take n s)
front s n l = go (leb n (length s)) refl
  where
    go : (b : Bool) → leb n (length s) ≡ b → Front s (take n s)
    go true h = too_long s (take n s) (overlong s n l (leb-true n (length s) h))
    go false h = subst (Front s) (sym (take_all n s (omega (arith, leb-false n (length s) h)))) (whole s)

-- the answers are the same, and where the pool is accepted it is the same
record SamePool (a b a' b' : List ℕ) : Type 0 where
  answer : pool_answer a' b' longest ≡ pool_answer a b longest
  pooled : pool_answer a b longest ≡ Accepted → pool a' b' ≡ pool a b

-- by what is known of the two sheets
answered-same : (c d : Check) {e e' : Check} → (c ≡ Pass → d ≡ Pass → e' ≡ e) → pool_answered c d e' ≡ pool_answered c d e
unfolding pool_answered
answered-same (Err refusal) d h = refl
answered-same (Ok _) (Err refusal) h = refl
answered-same (Ok _) (Ok _) h = ap (pool_answered Pass Pass) (h refl refl)

accepted-passes : (c d e : Check) → pool_answered c d e ≡ Accepted → (c ≡ Pass) × (d ≡ Pass)
unfolding pool_answered
accepted-passes (Err refusal) d e h = cc
accepted-passes (Ok _) (Err refusal) e h = cc
accepted-passes (Ok _) (Ok _) e h = (refl, refl)

same_pool : {a b a' b' : List ℕ} → Front a a' → Front b b' → SamePool a b a' b'
unfolding pool_answer
same_pool {a} {b} {a'} {b'} f g = record {
  answer = rw (f.region, g.region) (answered-same (region_check a) (region_check b) (λ p q. rw (f.same p, g.same q) refl));
  pooled = λ e. let (p, q) = accepted-passes (region_check a) (region_check b) (pair_check a b longest) e in rw (f.same p, g.same q) refl;
}

module _ {a b a' b' : List ℕ} (s : SamePool a b a' b') where
  refusal-same : {old new : Option (List ℕ)} {status : ℕ} → RefusalPrinted a' b' old new status → RefusalPrinted a b old new status
  refusal-same {old} {new} (refusal-printed e w) =
      refusal-printed (ap status_of (sym s.answer) ∙ e) (subst (λ x. Wrote old new (refusal_text x) true) s.answer w)
  refusal-same {old} {new} (refusal-cut e w) =
      refusal-cut (ap status_of (sym s.answer) ∙ e) (subst (λ x. Wrote old new (refusal_text x) false) s.answer w)

  printed-same : {o o' e e' : Option (List ℕ)} {status : ℕ} → PoolPrinted a' b' o o' e e' status → PoolPrinted a b o o' e e' status
  printed-same {o} {o'} (pool-printed p w k) =
      let q = sym s.answer ∙ p in
      pool-printed q (subst (λ x. Wrote o o' x true) (s.pooled q) w) k
  printed-same {o} {o'} (pool-cut p w) = let q = sym s.answer ∙ p in pool-cut q (subst (λ x. Wrote o o' x false) (s.pooled q) w)
  printed-same (refused-printed status k r) = refused-printed status k (refusal-same r)
  printed-same (none-printed k) = none-printed k

-- what was read of a source whose bytes may be known
read-of : (source : Option (List ℕ)) (t : List ℕ) → IfSome source (λ bytes. t ≡ take 25257 bytes)
    → (s : List ℕ) × IfSome source (λ bytes. s ≡ bytes) × Front s t
read-of None t h = (t, tt, whole t)
read-of (Some bytes) t h = (bytes, refl, subst (Front bytes) (sym h) (front bytes 25257 (omega arith)))

-- after both were read and answered
pub prints : (first second : Option (List ℕ)) {a b : List ℕ} {o o' e e' : Option (List ℕ)} {status : ℕ} → IfSome first (λ bytes. a ≡ take 25257 bytes)
    → IfSome second (λ bytes. b ≡ take 25257 bytes) → PoolPrinted a b o o' e e' status → PoolPrints first second o o' e e' status
prints first second {a} {b} h g p =
    let (s, is, f) = read-of first a h in
    let (t, it, k) = read-of second b g in
    (s, t, is, it, printed-same (same_pool f k) p)

-- after one could not be read
known : (source : Option (List ℕ)) → (s : List ℕ) × IfSome source (λ bytes. s ≡ bytes)
known None = ([], tt)
known (Some bytes) = (bytes, refl)

pub unread_prints : (first second : Option (List ℕ)) {o e e' : Option (List ℕ)} → PoolPrints first second o o e e' 2
unread_prints first second {o} =
    let (s, is) = known first in
    let (t, it) = known second in
    (s, t, is, it, none-printed (Keeps-refl o))
