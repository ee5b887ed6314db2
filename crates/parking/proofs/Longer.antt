-- A list with one entry more, which counts nothing, is ready as it was: what makes a row's factors does not ask that each entry counts something.
-- Assumes nothing.
use mathlib.Core.List.{List}
use mathlib.Core.Path.{◌≡◌, refl, ◌∙◌, ap}
use Prim.Native.Nat.{ℕ, ◌+◌, ◌*◌, ◌≤◌, ◌<◌, zero-le}
use native.Mathlib.Decide.{ℕ_discrete}
use native.Mathlib.Omega.{arith}
use lib.ListN.{length, set}
use lib.Seq.{get_or-set_same, get_or-set_other}
use Rattle.numbers.specs.Lists.{at, sum}
use Rattle.numbers.proofs.Lists.{sum_more, sum-ext}
use Rattle.parking.specs.declared.season_list.Entry.{Entry}
use Rattle.parking.specs.declared.season_list.SeasonList.{SeasonList}
use Rattle.parking.specs.SeasonList.{by_cell, none, entry_at, part, by_entry, ListReady}

module _ {cells rises : List ℕ} {list : SeasonList} (ready : ListReady cells rises list) (long : length list.entries ≡ 576)
    (room : list.length < 576) where
  abbrev stored : List Entry
  stored = set list.entries list.length none

  here : entry_at stored list.length ≡ none
  here = get_or-set_same list.entries list.length none none (rw long room)

  other : (k : ℕ) → (k ≡ list.length → ⊥) → entry_at stored k ≡ entry_at list.entries k
  other k e = get_or-set_other list.entries list.length k none none e

  -- a value of the entries that is 0 where there is none has the same sum
  same_sum : (v : Entry → ℕ) → v none ≡ 0
      → sum (λ (k : ℕ). v (entry_at stored k)) (list.length + 1) ≡ sum (λ (k : ℕ). v (entry_at list.entries k)) list.length
  same_sum v z =
      let before = sum-ext list.length (λ k q. ap v (other k (λ m. omega arith))) in
      let last = sum_more (λ (k : ℕ). v (entry_at stored k)) list.length refl refl in
      omega (arith, before, last, ap v here, z)

  -- what holds of none and of every other holds of all
  all_of : (P : Entry → Type 0) (k : ℕ) → P none → P (entry_at list.entries k) → P (entry_at stored k)
  all_of P k new old = elim (ℕ_discrete k list.length) [ yes e ↦ rw (e, here) new | no e ↦ rw (other k e) old ]

  pub ready-longer : ListReady cells rises (record { entries = stored; length = list.length + 1 })
  ready-longer = record {
    fits = λ bound h.
        let f = ready.fits bound h in record {
          length-most = omega arith;
          starts-below = λ k l. all_of (λ (e : Entry). e.kind.start < 25) k (omega arith) (f.starts-below k l);
          rises-most = λ k l. all_of (λ (e : Entry). e.kind.rise ≤ bound) k zero-le (f.rises-most k l);
          counts-most = rw (same_sum (λ x. x.count) refl) f.counts-most;
        };
    sum_is = λ f z. same_sum (λ x. x.count * f x.kind.start x.kind.rise) (omega arith) ∙ ready.sum_is f z;
  }
