-- A text that is written whole or not at all, and the text of lines or of a refusal. Definitions only.
use Rattle.std.specs.Prelude.{true, false, List, ◌++◌, ℕ, leb, length, drop, Result, Ok, Err}
use Rattle.refusals.specs.declared.Refusal.{Refusal}
use Rattle.refusals.specs.Rule.{number}
use Rattle.text.specs.Lines.{refusal_line}

-- the text and behind it what was there; where it does not fit, all as it was
unfoldable pub printed : List ℕ → List ℕ → List ℕ
printed text old = elim (leb (length text) (length old)) [ true ↦ text ++ drop (length text) old | false ↦ old ]

-- the length of a text, whether it was written or did not fit
abbrev pub length_of : Result ℕ ℕ → ℕ
length_of (Ok n) = n
length_of (Err n) = n

-- the text of lines, or the line of the refusal that stands in their place
abbrev pub text_or_refusal : {A : Type 0} → (A → List ℕ) → Result A Refusal → List ℕ
text_or_refusal text (Ok lines) = text lines
text_or_refusal text (Err refusal) = refusal_line (number refusal.rule) refusal.place
