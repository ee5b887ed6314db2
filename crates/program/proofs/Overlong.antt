-- A sheet that is longer than the longest is refused, by its head or by its length, and so is any front of it that is longer than the longest,
-- with the same number and place.
-- Assumes nothing.
use Rattle.std.proofs.Common.{◌≡◌, ℕ, ◌+◌, ◌*◌, ◌≤◌, ◌<◌, List, length, take, refl, ◌∙◌, arith, length-take-le, Ok, Err}
use Rattle.std.proofs.lemmas.List.{get_or-take}
use Rattle.std.proofs.lemmas.Bool.{le-ltb, ne_eqb}
use Rattle.refusals.specs.declared.Rule.TheVariants as rule
use Rattle.refusals.specs.declared.Refusal.{Refusal}
use Rattle.refusals.specs.Check.{Check, Pass, Refused, refuse, ◌then◌}
use Rattle.sheet.specs.Integers.{u8_at}
use Rattle.sheet.specs.Limits.{longest}
use Rattle.sheet.specs.Versions.{version_of, rows_most, seasons_start}
use Rattle.sheet.specs.Bytes.{seasons_of, rows_of}
use Rattle.sheet.specs.Sheet.{letters_missing, mark_check, numbers_check, head_check, length_check, sheet_check}
use Rattle.sheet.proofs.Versions.{rows-limit, start_between}
use Rattle.sheet.proofs.Conditions.{head-judged}

-- two sheets are refused with the same number and place,
pub record BothRefused (s s' : List ℕ) : Type 0 where
  pub refusal : Refusal
  pub first : sheet_check s ≡ Err refusal
  pub second : sheet_check s' ≡ Err refusal
  -- and their marks and versions are the same
  pub mark : mark_check s' ≡ mark_check s
  pub version : version_of s' ≡ version_of s

-- sheets of at least eight bytes whose first eight are the same
record SameHead (s s' : List ℕ) : Type 0 where
  long : 8 ≤ length s
  long' : 8 ≤ length s'
  early : (k : ℕ) → k < 8 → u8_at s' k ≡ u8_at s k

module _ {s s' : List ℕ} (h : SameHead s s') where
  version : version_of s' ≡ version_of s
  version = cc (h.early 3 (omega arith), h.early 4 (omega arith))

  rows : rows_of s' ≡ rows_of s
  unfolding rows_of
  rows = cc (version, h.early 6 (omega arith), h.early 7 (omega arith))

  rows-most : rows_most s' ≡ rows_most s
  unfolding rows_most
  rows-most = cc (version)

  mark : mark_check s' ≡ mark_check s
  unfolding mark_check letters_missing
  mark = cc (le-ltb (length s) 8 h.long, le-ltb (length s') 8 h.long', h.early 0 (omega arith), h.early 1 (omega arith), h.early 2 (omega arith))

  -- their heads pass or are refused alike
  head : head_check s' ≡ head_check s
  unfolding head_check numbers_check
  head = cc (
    mark,
    version,
    h.early 5 (omega arith),
    rows,
    rows-most,
    h.early 7 (omega arith),
  )

-- a length that is wrong
wrong : (s : List ℕ) → ¬ (length s ≡ seasons_start s + 8 * seasons_of s + 24 * rows_of s) → length_check s ≡ Refused rule.Length 0
unfolding length_check refuse
wrong s h = rw (ne_eqb (length s) (seasons_start s + 8 * seasons_of s + 24 * rows_of s) h) refl

-- where the head of a longer sheet than the longest passes, its length is wrong
refused_by_length : (s : List ℕ) → head_check s ≡ Pass → longest < length s → length_check s ≡ Refused rule.Length 0
refused_by_length s h l =
    let (mark, (version, (seasons, (rows, zero)))) = (head-judged s).passes h in
    let most = rows-limit s in
    let (low, high) = start_between s in
    wrong s (λ e. omega arith)

-- a sheet whose head is refused, and one whose head passes and whose length is wrong
by_head : (s : List ℕ) {refusal : Refusal} → head_check s ≡ Err refusal → sheet_check s ≡ Err refusal
unfolding sheet_check ◌then◌
by_head s h = rw h refl

by_length : (s : List ℕ) {refusal : Refusal} → head_check s ≡ Pass → length_check s ≡ Err refusal → sheet_check s ≡ Err refusal
unfolding sheet_check ◌then◌
by_length s h l = rw (h, l) refl

both : (s s' : List ℕ) → SameHead s s' → longest < length s → longest < length s' → BothRefused s s'
both s s' same l l' = go (head_check s) refl
  where
    go : (c : Check) → head_check s ≡ c → BothRefused s s'
    go (Ok _) e = record {
      refusal = record { rule = rule.Length; place = 0 };
      first = by_length s e (refused_by_length s e l);
      second = by_length s' (head same ∙ e) (refused_by_length s' (head same ∙ e) l');
      mark = mark same;
      version = version same;
    }
    go (Err refusal) e = record {
      refusal = refusal;
      first = by_head s e;
      second = by_head s' (head same ∙ e);
      mark = mark same;
      version = version same;
    }

pub overlong : (s : List ℕ) (n : ℕ) → longest < n → n ≤ length s → BothRefused s (take n s)
overlong s n l h =
    let long : length (take n s) ≡ n = length-take-le n s h in
    both s (take n s) (record { long = omega arith; long' = omega arith; early = λ k b. get_or-take n s k 0 (omega arith) }) (omega arith)
    (omega arith)
