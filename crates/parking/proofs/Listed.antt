-- Cells counted one after another, of which those without rise or with a count of 0 are passed over: each entry is of cells that count something
-- and rise.
-- Assumes nothing.
use mathlib.Core.Bool.{false}
use mathlib.Core.List.{List}
use mathlib.Core.Logic.{◌⊎◌, ⊎_elim}
use mathlib.Core.Path.{◌≡◌, sym, ◌∙◌, ap}
use Prim.Native.Nat.{ℕ, ◌+◌, ◌≤◌, ◌<◌, max}
use native.Mathlib.Decide.{ℕ_discrete, dec_le}
use native.Mathlib.Omega.{arith}
use lib.ListN.{set, replicate}
use lib.Seq.{get_or-set_same, get_or-set_other}
use Rattle.numbers.specs.Lists.{at}
use Rattle.parking.specs.Grid.{CellsInRange, apart_of}
use Rattle.parking.proofs.Counted.{Counted, counted_none, counted_past, counted_next, counted-all}
use Rattle.parking.specs.declared.season_list.Entry.{Entry}
use Rattle.parking.specs.declared.season_list.Kind.{Kind}
use Rattle.parking.specs.SeasonList.{none, entry_at, IsPlace, Breathes, ListBreathes}

-- The first n cells are counted, and each entry counts something and rises.
pub record Listed (cells rises : List ℕ) (n : ℕ) (entries : List Entry) (len : ℕ) : Type 0 where
  pub counted : Counted cells rises n entries len
  pub each : (k : ℕ) → k < len → Breathes (entry_at entries k)

-- no cell is counted
pub listed_none : (cells rises : List ℕ) → Listed cells rises 0 (replicate 576 none) 0
listed_none cells rises = record { counted = counted_none cells rises; each = λ k h. (omega (arith, h), omega (arith, h)) }

-- One more cell.
module _ {cells rises : List ℕ} {n : ℕ} {entries : List Entry} {len : ℕ} (c : Listed cells rises n entries len) (n576 : n < 576) where
  -- a cell without rise or with a count of 0 is passed over
  pub listed_past : (at rises n ≡ 0) ⊎ (at cells n ≡ 0) → Listed cells rises (n + 1) entries len
  listed_past h = record { counted = counted_past c.counted n576 h; each = c.each }

  -- an entry that rises is none of those behind the last
  inside : (place : ℕ) (kind : Kind) → (kind.rise ≡ 0 → ⊥) → (entry_at entries place).kind ≡ kind → place < len
  inside place kind some same = elim (dec_le len place) [
    | yes h ↦ absurd (some (sym (ap (λ (x : Kind). x.rise) same) ∙ ap (λ (x : Entry). x.kind.rise) (c.counted.behind place h)))
    | no h ↦ omega arith
  ]

  -- with one entry more at most, every other is among those before
  others : (place after k : ℕ) → place ≤ len → after ≡ max len (place + 1) → k < after → (k ≡ place → ⊥) → k < len
  others place after k l e h q = elim (dec_le len k) [ yes m ↦ absurd (q (omega arith)) | no m ↦ omega arith ]

  -- what is not 0 is more
  more : (x : ℕ) → (x ≡ 0 → ⊥) → 0 < x
  more x some = elim (dec_le 1 x) [ yes h ↦ omega arith | no h ↦ absurd (some (omega arith)) ]

  -- at an entry of the cell's kind, or at a new one
  pub listed_next : (kind : Kind) (entry place after : ℕ) → place < 576 → kind ≡ record { start = apart_of false n; rise = at rises n }
      → (at rises n ≡ 0 → ⊥) → (at cells n ≡ 0 → ⊥) → IsPlace entries kind entry len place → after ≡ max len (place + 1)
      → Listed cells rises (n + 1) (set entries place (record { kind = kind; count = (entry_at entries place).count + at cells n })) after
  listed_next kind entry place after l is some any p e =
      let new : Entry = record { kind = kind; count = (entry_at entries place).count + at cells n } in
      let rises-so : kind.rise ≡ at rises n = ap (λ (x : Kind). x.rise) is in
      let near : place ≤ len = ⊎_elim (λ h. omega (
        arith,
        inside place kind (λ z. some (sym rises-so ∙ z)) (ap (λ (x : ℕ). (entry_at entries x).kind) h.0 ∙ h.1),
      )) (λ h. omega (arith, h)) p in
      record {
        counted = counted_next c.counted n576 kind entry place after l is some p e;
        each = λ k h. elim (ℕ_discrete k place) [
          | yes q ↦ rw (q, get_or-set_same entries place new none (rw c.counted.long l))
              (omega (arith, more (at cells n) any), rw rises-so (more (at rises n) some))
          | no q ↦ rw (get_or-set_other entries place k new none q) (c.each k (others place after k near e h q))
        ];
      }

-- all cells counted: they are the list of the season
pub listed-all : {cells rises : List ℕ} {n : ℕ} {entries : List Entry} {len : ℕ} → Listed cells rises n entries len → n ≡ 576
    → CellsInRange cells → ListBreathes cells rises (record { entries = entries; length = len })
listed-all c e r = record { ready = counted-all c.counted e r; each = c.each }
