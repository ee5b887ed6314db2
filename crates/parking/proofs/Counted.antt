-- Cells counted one after another into a list of starts, by distance from 14:00, and rises: whatever is summed, the list gives what the cells give.
-- Assumes nothing.
use mathlib.Core.Bool.{false}
use mathlib.Core.List.{List}
use mathlib.Core.Logic.{◌⊎◌, inl, inr, ⊎_elim}
use mathlib.Core.Path.{◌≡◌, refl, sym, ◌∙◌, ap}
use Prim.Native.Nat.{ℕ, zero, suc, ◌+◌, ◌*◌, ◌^◌, ◌≤◌, ◌<◌, zero-le, max}
use native.Mathlib.Decide.{ℕ_discrete, dec_le}
use native.Mathlib.Nat.{add-mul}
use native.Mathlib.Omega.{arith}
use lib.ListN.{length, set, replicate, length-set, length-replicate}
use lib.Seq.{get_or-set_same, get_or-set_other}
use Rattle.numbers.specs.Lists.{at, sum}
use Rattle.numbers.specs.Bounded.{AllAtMost}
use Rattle.numbers.proofs.Lists.{sum-none, sum_more, sum-ext}
use Rattle.exact.specs.Factors.{total}
use Rattle.parking.specs.Grid.{CellsInRange, apart_of}
use Rattle.parking.proofs.Sums.{sum-within, sum-but-one, total-is}
use Rattle.parking.proofs.Tally.{apart_of-below, blank}
use Rattle.parking.specs.declared.season_list.Entry.{Entry}
use Rattle.parking.specs.declared.season_list.Kind.{Kind}
use Rattle.parking.specs.SeasonList.{by_cell, none, entry_at, part, IsPlace, ListReady}

-- a value that is 0 where there is no rise
abbrev Flat : (ℕ → ℕ → ℕ) → Type 0
Flat f = (start : ℕ) → start < 25 → f start 0 ≡ 0

-- The first n cells are counted.
pub record Counted (cells rises : List ℕ) (n : ℕ) (entries : List Entry) (len : ℕ) : Type 0 where
  pub few : len ≤ n
  pub long : length entries ≡ 576
  pub starts-below : (k : ℕ) → (entry_at entries k).kind.start ≤ 24
  pub rises-most : (bound : ℕ) → AllAtMost bound rises → (k : ℕ) → (entry_at entries k).kind.rise ≤ bound
  -- behind the entries there are none
  pub behind : (k : ℕ) → len ≤ k → entry_at entries k ≡ none
  pub counts-most : sum (λ (k : ℕ). (entry_at entries k).count) len ≤ sum (at cells) n
  pub sums : (f : ℕ → ℕ → ℕ) → Flat f → sum (part f entries) len ≡ by_cell cells rises f n

-- a list of zeros is below every bound
pub blank-most : (n bound : ℕ) → AllAtMost bound (replicate n 0)
blank-most n bound = record { at_most = λ k. rw (blank n k) zero-le }

-- and a list below a bound stays so with another value that is
pub set-most : {bound : ℕ} (xs : List ℕ) (place v : ℕ) → place < length xs → AllAtMost bound xs → v ≤ bound → AllAtMost bound (set xs place v)
set-most xs place v l h e = record {
  at_most = λ k.
      elim (ℕ_discrete k place) [
        | yes q ↦ rw (q, get_or-set_same xs place v 0 l) e
        | no q ↦ rw (get_or-set_other xs place k v 0 q) (h.at_most k)
      ];
}

-- entries that are none
blank-entry : (n k : ℕ) → entry_at (replicate n none) k ≡ none
blank-entry zero k = refl
blank-entry (suc n) zero = refl
blank-entry (suc n) (suc k) = blank-entry n k

-- no cell is counted
pub counted_none : (cells rises : List ℕ) → Counted cells rises 0 (replicate 576 none) 0
unfolding sum
counted_none cells rises = record {
  few = zero-le;
  long = length-replicate {A = Entry} 576 none;
  starts-below = λ k. rw (blank-entry 576 k) zero-le;
  rises-most = λ bound h k. rw (blank-entry 576 k) zero-le;
  behind = λ k h. blank-entry 576 k;
  counts-most = zero-le;
  sums = λ f h. sum-none (λ (cell : ℕ). at cells cell * f (apart_of false cell) (at rises cell));
}

-- One more cell.
module _ {cells rises : List ℕ} {n : ℕ} {entries : List Entry} {len : ℕ} (c : Counted cells rises n entries len) (n576 : n < 576) where
  abbrev start : ℕ
  start = apart_of false n

  abbrev rise : ℕ
  rise = at rises n

  -- a cell without rise or with a count of 0 is passed over
  pub counted_past : (rise ≡ 0) ⊎ (at cells n ≡ 0) → Counted cells rises (n + 1) entries len
  counted_past h = record {
    few = omega (arith, c.few);
    long = c.long;
    starts-below = c.starts-below;
    rises-most = c.rises-most;
    behind = c.behind;
    counts-most = omega (arith, c.counts-most, sum_more (at cells) n refl refl);
    sums = λ f flat.
        let nothing : at cells n * f start rise ≡ 0
        = ⊎_elim (λ (e : rise ≡ 0). rw (e, flat start (apart_of-below false n)) (omega arith)) (λ (e : at cells n ≡ 0). rw e (omega arith)) h in
        let counted = sum_more (λ (cell : ℕ). at cells cell * f (apart_of false cell) (at rises cell)) n refl refl in
        omega (arith, c.sums f flat, counted, nothing);
  }

  -- the entry with the cell
  abbrev with_cell : ℕ → Entry
  with_cell place = record { kind = record { start = start; rise = rise }; count = (entry_at entries place).count + at cells n }

  module _ (place : ℕ) (l : place < 576) where
    abbrev stored : List Entry
    stored = set entries place (with_cell place)

    here : entry_at stored place ≡ with_cell place
    here = get_or-set_same entries place (with_cell place) none (rw c.long l)

    other : (k : ℕ) → (k ≡ place → ⊥) → entry_at stored k ≡ entry_at entries k
    other k e = get_or-set_other entries place k (with_cell place) none e

    -- what holds of the entry with the cell, and of every other, holds of all
    all_of : (P : Entry → Type 0) (k : ℕ) → P (with_cell place) → P (entry_at entries k) → P (entry_at stored k)
    all_of P k new old = elim (ℕ_discrete k place) [ yes e ↦ rw (e, here) new | no e ↦ rw (other k e) old ]

    -- where an entry's value is 0 if it is none, the sum of the entries' values has the new one in the old one's place
    abbrev Grown : ℕ → Type 0
    Grown len' = (v : Entry → ℕ) → v none ≡ 0
        → sum (λ (k : ℕ). v (entry_at stored k)) len' + v (entry_at entries place) ≡ sum (λ (k : ℕ). v (entry_at entries k)) len + v (with_cell place)

    -- where what stands there gives what the cell's start and rise would, the cell is counted
    counted_at : ((f : ℕ → ℕ → ℕ) → part f entries place ≡ (entry_at entries place).count * f start rise) → (len' : ℕ) → len ≤ len'
        → len' ≤ n + 1 → place < len' → Grown len' → Counted cells rises (n + 1) stored len'
    counted_at alike len' more most inside grown = record {
      few = most;
      long = length-set entries place (with_cell place) ∙ c.long;
      starts-below = λ k. all_of (λ (e : Entry). e.kind.start ≤ 24) k (omega (arith, apart_of-below false n)) (c.starts-below k);
      rises-most = λ bound h k. all_of (λ (e : Entry). e.kind.rise ≤ bound) k (h.at_most n) (c.rises-most bound h k);
      behind = λ k h. other k (λ e. omega arith) ∙ c.behind k (omega arith);
      counts-most =
          let counted = sum_more (at cells) n refl refl in
          omega (arith, grown (λ x. x.count) refl, c.counts-most, counted);
      sums = λ f flat.
          let counted = sum_more (λ (cell : ℕ). at cells cell * f (apart_of false cell) (at rises cell)) n refl refl in
          let split = add-mul (entry_at entries place).count (at cells n) (f start rise) in
          omega (arith, grown (λ x. x.count * f x.kind.start x.kind.rise) (omega arith), split, alike f, c.sums f flat, counted);
    }

  -- at an entry of the cell's kind, or at a new one
  pub counted_next : (kind : Kind) (entry place after : ℕ) → place < 576 → kind ≡ record { start = start; rise = rise } → (rise ≡ 0 → ⊥)
      → IsPlace entries kind entry len place → after ≡ max len (place + 1)
      → Counted cells rises (n + 1) (set entries place (record { kind = kind; count = (entry_at entries place).count + at cells n })) after
  counted_next kind entry place after l is some (inl (p, k)) e =
      let same : (entry_at entries place).kind ≡ record { start = start; rise = rise } = ap (λ (x : ℕ). (entry_at entries x).kind) p ∙ k ∙ is in
      let inside : place < len = elim (dec_le len place) [
        | yes h ↦ absurd (some (sym (ap (λ (x : Kind). x.rise) same) ∙ ap (λ (x : Entry). x.kind.rise) (c.behind place h)))
        | no h ↦ omega arith
      ] in
      let still : after ≡ len = omega arith in
      let grown : Grown place l len
      = (λ v z. sum-but-one (λ (k : ℕ). v (entry_at entries k)) (λ (k : ℕ). v (entry_at (stored place l) k)) place len inside
      (λ k q. ap v (other place l k q)) ∙ ap (λ (x : Entry). sum (λ (k : ℕ). v (entry_at entries k)) len + v x) (here place l)) in
      rw (is, still) (counted_at place l (λ f. rw same refl) len (omega arith) (omega (arith, c.few)) inside grown)
  counted_next kind entry place after l is some (inr p) e =
      let free : (entry_at entries place).count ≡ 0 = ap (λ (x : Entry). x.count) (c.behind place (omega arith)) in
      let longer : after ≡ len + 1 = omega arith in
      let grown : Grown place l (len + 1)
      = (λ v z.
      let before = sum-ext len (λ k q. ap v (other place l k (λ m. omega arith))) in
      let last = sum_more (λ (k : ℕ). v (entry_at (stored place l) k)) len refl refl in
      omega (arith, before, last, ap (λ (k : ℕ). v (entry_at (stored place l) k)) p, ap v (here place l), ap v (c.behind place (omega arith)), z)) in
      rw (is, longer) (counted_at place l (λ f. rw free (omega arith)) (len + 1) (omega arith) (omega (arith, c.few)) (omega arith) grown)

-- no more is counted at a place than in the cells
pub counted-most : {cells rises : List ℕ} {n : ℕ} {entries : List Entry} {len : ℕ} → Counted cells rises n entries len
    → CellsInRange cells → n < 576 → (place : ℕ) → (entry_at entries place).count + at cells n ≤ 10 ^ 6
counted-most {cells} {rises} {n} {entries} {len} c r h place =
    let here : (entry_at entries place).count ≤ sum (at cells) n = elim (dec_le len place) [
      | yes past ↦ omega (arith, ap (λ (x : Entry). x.count) (c.behind place past))
      | no inside ↦ omega (arith, sum-within (λ (k : ℕ). (entry_at entries k).count) {k = place} {n = len} (omega arith), c.counts-most)
    ] in
    let cell = sum-within (at cells) {k = n} {n = 576} h in
    omega (arith, here, cell, total-is cells, ap (sum (at cells)) r.length-is, r.total-most)

-- all cells counted: they are the list of the season
pub counted-all : {cells rises : List ℕ} {n : ℕ} {entries : List Entry} {len : ℕ} → Counted cells rises n entries len → n ≡ 576
    → CellsInRange cells → ListReady cells rises (record { entries = entries; length = len })
counted-all {cells} {rises} {n} {entries} {len} c e r =
    let all : sum (at cells) n ≡ total cells = ap (sum (at cells)) (e ∙ sym r.length-is) ∙ sym (total-is cells) in
    record {
      fits = λ bound h. record {
        length-most = omega (arith, c.few);
        starts-below = λ k l. omega (arith, c.starts-below k);
        rises-most = λ k l. c.rises-most bound h k;
        counts-most = omega (arith, c.counts-most, all, r.total-most);
      };
      sum_is = λ f z. c.sums f z ∙ ap (by_cell cells rises f) e;
    }
