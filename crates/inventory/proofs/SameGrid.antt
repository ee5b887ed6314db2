-- A grid of products has the exact factors and masses, the words and the answers of its two lists; so has a version 2 sheet in version 3, and
-- a sheet with a class's canister or tank written out.
-- Assumes nothing.
use mathlib.Core.List.{List}
use mathlib.Core.Path.{◌≡◌, ◌∙◌}
use Prim.Native.Nat.{ℕ}
use Rattle.refusals.specs.Check.{Pass}
use Rattle.sheet.specs.Sheet.{sheet_check}
use Rattle.sheet.proofs.Alike.{Alike, alike}
use Rattle.sheet.proofs.SameGrid.{grid-accepted, grid-alike}
use Rattle.sheet.proofs.NextVersion.{next-accepted, next-alike, fourth-accepted, fourth-alike}
use Rattle.inventory.specs.SameGrid.{SameInventory, GridTheorem}
use Rattle.inventory.specs.NextVersion.{VersionTheorem, FourthTheorem}
use Rattle.inventory.specs.ByClass.{ClassTheorem}
use Rattle.inventory.proofs.CallsAlike.{factor-alike, report-check-alike, report-alike}

-- of sheets that count alike
same-inventory : {s t : List ℕ} → Alike s t → sheet_check t ≡ Pass → SameInventory s t
same-inventory a h = record {
  accepted = h;
  seasons = a.seasons-same;
  rows = a.rows_same;
  factors = λ n season row k j i. rw (a.cells_same, a.season-same season j, a.row_same row i);
  masses = λ n row mechanism i. rw (a.cells_same, a.season-list-same, a.row_same row i);
  words = report-alike a;
  report-answers = report-check-alike a;
  factor-answers = factor-alike a;
}

pub same-grid : GridTheorem
same-grid s t g h = same-inventory (grid-alike g h) (grid-accepted g h)

pub same_version : VersionTheorem
same_version s t next h = same-inventory (next-alike next h) (next-accepted next h)

pub same-fourth : FourthTheorem
same-fourth s t next h fleet = same-inventory (fourth-alike next h fleet) (fourth-accepted next h fleet)

pub same-by-class : ClassTheorem
same-by-class s t i c tank fitted w =
    let a = alike s t i c tank fitted w in
    record { check-same = a.check-same; inventory = λ h. same-inventory a (a.check-same ∙ h) }
