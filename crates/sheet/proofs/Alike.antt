-- A canister or a tank that is written, and one left to the class that stands for the same, count alike: the sheet is accepted
-- or refused alike, and gives the same values to all that follows.
-- Assumes nothing.
use Rattle.std.proofs.Common.{Option, Some, None}
use mathlib.Core.List.{List}
use mathlib.Core.Logic.{inl, inr, ⊎_elim}
use mathlib.Core.Path.{◌≡◌, refl, ap, ◌∙◌}
use Prim.Native.Nat.{ℕ, suc, zero, ◌+◌, ◌/◌, ◌%◌, ◌≤◌, ◌<◌}
use native.Mathlib.Decide.{ℕ_discrete}
use native.Mathlib.Omega.{arith}
use borrow.Author.Tests.{le-ltb}
use lib.Dec.{ltb}
use lib.ListN.{length, set, length-set}
use lib.Seq.{get_or-set_same, get_or-set_other}
use Rattle.std.proofs.lemmas.Nat.{same_from_place}
use Rattle.exact.specs.declared.Canister.{Canister}
use Rattle.exact.specs.declared.Canister.TheVariants.{Small, Medium, Large}
use Rattle.exact.specs.Classes.{fitted_with}
use Rattle.exact.specs.declared.Row.{Row}
use Rattle.sheet.specs.Limits.{tank_limit}
use Rattle.sheet.specs.Integers.{u8_at, u16_at}
use Rattle.sheet.specs.Bytes.{seasons_of, rows_of, cells_of, row_place, season_at, season_list, row_from, row_at}
use Rattle.sheet.specs.Bytes.{equipment_at, fitted_canister, fitted_tank, written_canister, canister_of, tank_of}
use Rattle.sheet.specs.ByClass.{code_of, Written}
use Rattle.refusals.specs.Check.{each}
use Rattle.sheet.specs.Sheet.{length_check, code_wrong, saturation_above, mileage_wrong, row_check, sheet_check}
use Rattle.sheet.specs.RunningSums.{vehicles_before}
use Rattle.sheet.proofs.Equipment.{equipment-tank}
use Rattle.sheet.proofs.Local.{Same, byte_at, word_at, equipment-same, row_counts, row_same}
use Rattle.sheet.proofs.BeforeRows.{BeforeRows, each-cong, version, start, seasons, rows, season, season-list}
use Rattle.sheet.proofs.BeforeRows.{some, head, parking, cells, season-checks}

-- accepted or refused alike, with the same values
pub record Alike (s s' : List ℕ) : Type 0 where
  pub seasons-same : seasons_of s' ≡ seasons_of s
  pub rows_same : rows_of s' ≡ rows_of s
  pub check-same : sheet_check s' ≡ sheet_check s
  pub cells_same : cells_of s' ≡ cells_of s
  pub season-same : (j : ℕ) → j < seasons_of s → season_at s' j ≡ season_at s j
  pub season-list-same : season_list s' ≡ season_list s
  pub row_same : (j : ℕ) → j < rows_of s → row_at s' j ≡ row_at s j

-- a canister's code passes as 255 does,
code-counts : (c : Option Canister) → code_wrong (code_of c) ≡ code_wrong 255
unfolding code_wrong
code-counts None = refl
code-counts (Some Small) = refl
code-counts (Some Medium) = refl
code-counts (Some Large) = refl

-- and stands for the same where the class has that canister
canister-counts : (c : Option Canister) (t : ℕ) → canister_of (code_of c) (fitted_with c t) ≡ canister_of 255 (fitted_with c t)
unfolding canister_of fitted_canister written_canister
canister-counts None t = refl
canister-counts (Some Small) t = refl
canister-counts (Some Medium) t = refl
canister-counts (Some Large) t = refl

-- a tank that is written counts as 0 does, where the class has that tank
tank-counts : (c : Option Canister) (t : ℕ) → tank_of t (fitted_with c t) ≡ tank_of 0 (fitted_with c t)
unfolding tank_of fitted_tank
tank-counts c zero = refl
tank-counts c (suc t) = refl

-- and passes as 0 does
tank-passes : (s : List ℕ) (p : ℕ) {c : Option Canister} {t : ℕ} → equipment_at s p ≡ fitted_with c t → ltb tank_limit t ≡ ltb tank_limit 0
unfolding equipment_at fitted_tank
tank-passes s p {c} {t} e =
    let most = (equipment-tank (u8_at s p) (u8_at s (p + 1)) (λ a. let z : ◌≡◌ {A = ℕ} 0 1 = cc in omega arith)).1 in
    le-ltb tank_limit t (omega (arith, ap fitted_tank e))

-- what is read of the row at p counts and passes alike
record RowAlike (s s' : List ℕ) (p : ℕ) : Type 0 where
  row : row_from s' p ≡ row_from s p
  equipment : equipment_at s' p ≡ equipment_at s p
  code : code_wrong (u8_at s' (p + 2)) ≡ code_wrong (u8_at s (p + 2))
  limit : ltb tank_limit (u16_at s' (p + 6)) ≡ ltb tank_limit (u16_at s (p + 6))

-- where all its bytes are the same
same_alike : {s s' : List ℕ} {p : ℕ} → Same s' s p p 24 → RowAlike s s' p
same_alike {p} h = record {
  row = row_same h;
  equipment = equipment-same h (omega arith);
  code = ap code_wrong (byte_at h 2 (p + 2) (p + 2) refl refl (omega arith));
  limit = ap (ltb tank_limit) (word_at h 6 (p + 6) (p + 6) refl refl (omega arith));
}

-- and where the canister or the tank is written
written-alike : {s s' : List ℕ} {p t : ℕ} {c : Option Canister} → equipment_at s p ≡ fitted_with c t → Written s s' p c t → RowAlike s s' p
written-alike {s} {s'} {p} {t} {c} fitted w =
    let class : Same s' s p p 2 = record { byte = λ k l. w.elsewhere (p + k) (λ e. omega arith) (λ e. omega arith) (λ e. omega arith) } in
    let shares : Same s' s (p + 3) (p + 3) 3 = record {
      byte = λ k l. w.elsewhere (p + 3 + k) (λ e. omega arith) (λ e. omega arith) (λ e. omega arith);
    } in
    let rest : Same s' s (p + 8) (p + 8) 16 = record {
      byte = λ k l. w.elsewhere (p + 8 + k) (λ e. omega arith) (λ e. omega arith) (λ e. omega arith);
    } in
    let equipment : equipment_at s' p ≡ equipment_at s p = equipment-same class (omega arith) in
    let (code, canister) : (code_wrong (u8_at s' (p + 2)) ≡ code_wrong (u8_at s (p + 2)))
    × (canister_of (u8_at s' (p + 2)) (equipment_at s p) ≡ canister_of (u8_at s (p + 2)) (equipment_at s p))
    = ⊎_elim (λ h. (cc, cc)) (λ (h, g). (cc (code-counts c), cc (canister-counts c t))) w.canister in
    let (limit, tank) : (ltb tank_limit (u16_at s' (p + 6)) ≡ ltb tank_limit (u16_at s (p + 6)))
    × (tank_of (u16_at s' (p + 6)) (equipment_at s p) ≡ tank_of (u16_at s (p + 6)) (equipment_at s p))
    = ⊎_elim (λ h. (cc, cc)) (λ (h, g). (cc (tank-passes s p fitted), cc (tank-counts c t))) w.tank in
    record { row = row_counts class shares rest (cc) (cc); equipment = equipment; code = code; limit = limit }

module _ (s s' : List ℕ) (i : ℕ) (c : Option Canister) (t : ℕ) (fitted : equipment_at s (row_place s i) ≡ fitted_with c t)
    (w : Written s s' (row_place s i) c t) where
  -- bytes before the rows are the same
  before : BeforeRows s s'
  before = record { same_length = w.same_length; early = λ k h. w.elsewhere k (λ e. omega arith) (λ e. omega arith) (λ e. omega arith) }

  -- In another row than i all bytes are the same,
  other : (j : ℕ) → ¬ (j ≡ i) → Same s' s (row_place s j) (row_place s j) 24
  other j n =
      let off : (k m : ℕ) → k < 24 → m < 24 → row_place s j + k ≡ row_place s i + m → ⊥ =
      λ k m l d e. n (same_from_place j k i m 24 l d (omega arith)).0 in
      record { byte = λ k l. w.elsewhere (row_place s j + k) (off k 2 l (omega arith)) (off k 6 l (omega arith)) (off k 7 l (omega arith)) }

  -- so every row counts and passes alike:
  row-alike : (j : ℕ) → RowAlike s s' (row_place s j)
  row-alike j = elim (ℕ_discrete j i) [ yes e ↦ rw e (written-alike fitted w) | no n ↦ same_alike (other j n) ]

  -- its values are the same,
  row : (j : ℕ) → row_at s' j ≡ row_at s j
  unfolding row_at
  row j = rw (start before, seasons before) (row-alike j).row

  -- and so are the vehicles before it,
  vehicles : (n : ℕ) → vehicles_before s' n ≡ vehicles_before s n
  unfolding vehicles_before
  vehicles zero = refl
  vehicles (suc n) = cc (vehicles n, row n)

  -- and it passes or is refused alike.
  mileage : (r : Row) → mileage_wrong s' r ≡ mileage_wrong s r
  unfolding mileage_wrong
  mileage r = cc (seasons before, some before (saturation_above 0 r.canister r.saturation) (seasons_of s) (omega arith))

  row-check : (j : ℕ) → row_check s' j ≡ row_check s j
  unfolding row_check
  row-check j =
      let r = row-alike j in
      rw (
        start before,
        seasons before,
        version before,
        row j,
        vehicles j,
        r.equipment,
        r.code,
        r.limit,
        mileage (row_at s j),
        some before (saturation_above 3 (row_at s j).canister (row_at s j).saturation)
            (seasons_of s) (omega arith),
      )

  -- accepted or refused alike, with the same values
  pub alike : Alike s s'
  unfolding sheet_check length_check
  alike = record {
    seasons-same = seasons before;
    rows_same = rows before;
    check-same =
        let rest : each (row_check s') (rows_of s) ≡ each (row_check s) (rows_of s) =
        each-cong (row_check s') (row_check s) (rows_of s) (λ j _. row-check j) in
        cc (w.same_length, start before, seasons before, rows before, head before, parking before, season-checks before, rest);
    cells_same = cells before;
    season-same = season before;
    season-list-same = season-list before;
    row_same = λ j _. row j;
  }

-- nothing written
nothing_written : (s : List ℕ) (p : ℕ) (c : Option Canister) (t : ℕ) → Written s s p c t
nothing_written s p c t = record { same_length = refl; elsewhere = λ k a b d. refl; canister = inl refl; tank = inl refl }

-- the canister written, where the row left it to the class
canister-written : {s s' : List ℕ} {p : ℕ} {c : Option Canister} {t : ℕ} → p + 24 ≤ length s → u8_at s (p + 2) ≡ 255 → Written s s' p c t
    → Written s (set s' (p + 2) (code_of c)) p c t
canister-written {s} {s'} {p} {c} inside h w =
    let kept : (k : ℕ) → ¬ (k ≡ p + 2) → u8_at (set s' (p + 2) (code_of c)) k ≡ u8_at s' k = λ k a. get_or-set_other s' (p + 2) k (code_of c) 0 a in
    let tank : u16_at (set s' (p + 2) (code_of c)) (p + 6) ≡ u16_at s' (p + 6) =
    cc (kept (p + 6) (λ e. omega arith), kept (p + 6 + 1) (λ e. omega arith)) in
    record {
      same_length = length-set s' (p + 2) (code_of c) ∙ w.same_length;
      elsewhere = λ k a b d. kept k a ∙ w.elsewhere k a b d;
      canister = inr (h, get_or-set_same s' (p + 2) (code_of c) 0 (omega (arith, w.same_length)));
      tank = ⊎_elim (λ e. inl (tank ∙ e)) (λ (a, e). inr (a, tank ∙ e)) w.tank;
    }

-- the tank written, where the row left it to the class
tank-written : {s s' : List ℕ} {p : ℕ} {c : Option Canister} {t : ℕ} → p + 24 ≤ length s → u16_at s (p + 6) ≡ 0 → Written s s' p c t
    → Written s (set (set s' (p + 6) (t % 256)) (p + 7) (t / 256)) p c t
tank-written {s} {s'} {p} {c} {t} inside h w =
    let low : List ℕ = set s' (p + 6) (t % 256) in
    let kept : (k : ℕ) → ¬ (k ≡ p + 6) → ¬ (k ≡ p + 7) → u8_at (set low (p + 7) (t / 256)) k ≡ u8_at s' k
    = λ k a b. get_or-set_other low (p + 7) k (t / 256) 0 b ∙ get_or-set_other s' (p + 6) k (t % 256) 0 a in
    let canister : u8_at (set low (p + 7) (t / 256)) (p + 2) ≡ u8_at s' (p + 2) = kept (p + 2) (λ e. omega arith) (λ e. omega arith) in
    let long : length low ≡ length s = length-set s' (p + 6) (t % 256) ∙ w.same_length in
    let first : u8_at (set low (p + 7) (t / 256)) (p + 6) ≡ t % 256
    = get_or-set_other low (p + 7) (p + 6) (t / 256) 0 (λ e. omega arith) ∙ get_or-set_same s' (p + 6) (t % 256) 0 (omega (arith, w.same_length)) in
    let next : p + 6 + 1 ≡ p + 7 = omega arith in
    let second : u8_at (set low (p + 7) (t / 256)) (p + 6 + 1) ≡ t / 256 = rw next (get_or-set_same low (p + 7) (t / 256) 0 (omega (arith, long))) in
    record {
      same_length = length-set low (p + 7) (t / 256) ∙ long;
      elsewhere = λ k a b d. kept k b d ∙ w.elsewhere k a b d;
      canister = ⊎_elim (λ e. inl (canister ∙ e)) (λ (a, e). inr (a, canister ∙ e)) w.canister;
      tank = inr (h, omega (arith, first, second));
    }

-- So there is such a sheet for every row inside s that leaves both to its class.
pub both-written : {s : List ℕ} {p : ℕ} {c : Option Canister} {t : ℕ} → p + 24 ≤ length s → u8_at s (p + 2) ≡ 255 → u16_at s (p + 6) ≡ 0
    → Written s (set (set (set s (p + 2) (code_of c)) (p + 6) (t % 256)) (p + 7) (t / 256)) p c t
both-written {s} {p} {c} {t} inside h k = tank-written inside k (canister-written inside h (nothing_written s p c t))
