-- What a program prints is stated for all bytes of its source, though it reads only one more than the longest sheet has; and where its sheet
-- could not be read, nothing is printed.
-- Assumes nothing.
use Rattle.std.proofs.Common.{◌≡◌, ℕ, ◌<◌, Bool, true, false, leb, List, [], Option, None, Some, refl, ap, ◌∙◌, length, take, take_all}
use Rattle.std.proofs.Common.{arith, inl, inr, subst}
use Rattle.std.proofs.KnownBytes.{Appends-nil}
use Rattle.std.proofs.lemmas.Bool.{leb-true, leb-false}
use Rattle.refusals.specs.Check.{◌then◌}
use Rattle.sheet.specs.Limits.{longest}
use Rattle.inventory.specs.ReportAnswers.{report_check}
use Rattle.program.specs.Ends.{sheet_status}
use Rattle.program.specs.Printed.{Wrote, SheetPrinted, PrintsRead, Prints}
use Rattle.program.proofs.Overlong.{BothRefused, overlong}

-- a sheet that is too long has the exit status of its front
overlong-status : (s s' : List ℕ) → BothRefused s s' → sheet_status s' ≡ sheet_status s
unfolding sheet_status report_check ◌then◌
overlong-status s s' b = rw (b.first, b.second) refl

-- and so it is of a text
pub record OfFront (text_of : List ℕ → List ℕ) : Type 0 where
  pub same : (s s' : List ℕ) → BothRefused s s' → text_of s' ≡ text_of s

-- a sheet with the same status and text as another is printed as that one
printed-same : (s s' text text' : List ℕ) (old new : Option (List ℕ)) (status : ℕ) → sheet_status s' ≡ sheet_status s → text' ≡ text
    → SheetPrinted s' text' old new status → SheetPrinted s text old new status
printed-same s s' text text' old new status e t (inl p) = inl (p.0 ∙ e, subst (λ x. Wrote old new x true) t p.1)
printed-same s s' text text' old new status e t (inr p) = inr (p.0, subst (λ x. Wrote old new x false) t p.1)

module _ {text_of : List ℕ → List ℕ} (f : OfFront text_of) where
  -- what was read of a source, at most n bytes, where n is more than the longest sheet has
  read-same : (bytes : List ℕ) (n : ℕ) → longest < n
      → (sheet_status (take n bytes) ≡ sheet_status bytes) × (text_of (take n bytes) ≡ text_of bytes)
  read-same bytes n l = go (leb n (length bytes)) refl
    where
      go : (b : Bool) → leb n (length bytes) ≡ b
          → (sheet_status (take n bytes) ≡ sheet_status bytes) × (text_of (take n bytes) ≡ text_of bytes)
      go true h =
          let both = overlong bytes n l (leb-true n (length bytes) h) in
          (overlong-status bytes (take n bytes) both, f.same bytes (take n bytes) both)
      go false h =
          let all : take n bytes ≡ bytes = take_all n bytes (omega (arith, leb-false n (length bytes) h)) in
          (ap sheet_status all, ap text_of all)

  pub prints : (source old new : Option (List ℕ)) (status : ℕ) → PrintsRead text_of source old new status → Prints text_of source old new status
  prints None old new status (s, known, p) = (s, tt, p)
  prints (Some bytes) old new status (s, known, p) =
      let same = read-same bytes 25257 (omega arith) in
      (bytes, refl, printed-same bytes s _ _ old new status (ap sheet_status known ∙ same.0) (ap text_of known ∙ same.1) p)

-- where nothing was read, of a writer that has the bytes that it had
pub unread_prints : (text_of : List ℕ → List ℕ) (source known : Option (List ℕ)) → PrintsRead text_of source known known 2
unread_prints text_of None known = ([], tt, inr (refl, (0, Appends-nil known)))
unread_prints text_of (Some bytes) known = (take 25257 bytes, refl, inr (refl, (0, Appends-nil known)))
