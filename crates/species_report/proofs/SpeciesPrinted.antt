-- The text of a sheet's species: how long it is at most, and where it stands.
-- Assumes nothing.
use Rattle.std.proofs.Common.{Ok, Err}
use mathlib.Core.List.{List}
use mathlib.Core.Path.{◌≡◌, refl, ◌∙◌, ap}
use Prim.Native.Nat.{ℕ, ◌^◌, ◌≤◌, ◌<◌}
use native.Mathlib.Omega.{arith}
use lib.ListN.{length, take}
use Rattle.refusals.specs.Rule.{number}
use Rattle.refusals.specs.declared.Refusal.{Refusal}
use Rattle.refusals.specs.Check.{Answer}
use Rattle.sheet.specs.Versions.{version_of}
use Rattle.text.specs.Lines.{refusal_line}
use Rattle.text.specs.Whole.{printed}
use Rattle.text.proofs.Printed.{printed-first}
use Rattle.text.proofs.LineSizes.{Words, refusal-most}
use Rattle.species_report.specs.declared.composition.Composition.{Composition}
use Rattle.species_report.specs.Composition.{CompositionCall}
use Rattle.species_report.specs.Lines.{composition_lines}
use Rattle.species_report.proofs.SpeciesSizes.{composition-most}
use Rattle.species_report.specs.SpeciesText.{lines_of, species_text, lines_most, SpeciesTextCall}

-- The line of a refusal.
pub refusal_is : (s : List ℕ) (refusal : Refusal) → refusal_line (number refusal.rule) refusal.place ≡ lines_of (Err refusal) s
unfolding lines_of
refusal_is s refusal = refl

pub refusal-short : (s : List ℕ) (refusal : Refusal) → refusal.place < 2 ^ 64 → length (lines_of (Err refusal) s) ≤ lines_most
unfolding lines_of
refusal-short s refusal p = omega (arith, refusal-most refusal p)

-- The lines of an accepted sheet.
pub lines-made : (s : List ℕ) (c : Composition) {version : ℕ} → version ≡ version_of s
    → composition_lines version c.total c.milligrams ≡ lines_of (Ok c) s
unfolding lines_of
lines-made s c e = rw e refl

pub lines-short : (s : List ℕ) (c : Composition) {version : ℕ} → version ≡ version_of s → Words c.milligrams → version < 2 ^ 64 → c.total < 2 ^ 64
    → length (lines_of (Ok c) s) ≤ lines_most
lines-short s c {version} e each v t = rw (← lines-made s c e) (composition-most c.milligrams each version c.total v t)

-- What holds after the call, where the text of these lines was written whole.
pub text-call : {s old words before out : List ℕ} {found : Answer Composition} {size : ℕ} → CompositionCall s old words found
    → size ≡ length (lines_of found s) → length (lines_of found s) ≤ lines_most → out ≡ printed (lines_of found s) before
    → SpeciesTextCall s old words before out size
unfolding species_text
text-call {s} {old} a size_is most written = record {
  reported = a.reported;
  length-is = rw a.answer-is at size_is;
  text-is = rw a.answer-is at written;
  length_most = omega (arith, size_is, most);
}

-- In a buffer that is long enough for any text, as many bytes at the front as the call answers are the text.
pub text-first : {s old words before out : List ℕ} {r : ℕ} → SpeciesTextCall s old words before out r → lines_most ≤ length before
    → take r out ≡ species_text s (length old)
text-first {s} {old} {words} {before} {out} {r} a h =
    ap (take r) a.text-is ∙
    printed-first (species_text s (length old)) before a.length-is (omega (arith, a.length-is, a.length_most))
