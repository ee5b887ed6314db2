-- The checks of a row say whether its demands are met.
use mathlib.Core.Path.{◌≡◌, refl, sym, ◌∙◌}
use mathlib.Core.Bool.{Bool, true, false, ◌||◌, true≢false}
use Prim.Native.Nat.{ℕ}
use borrow.Author.Tests.{ltb-false, le-ltb}
use Rattle.map_cells.specs.Doubles.{mass_limit}
use Rattle.map_shares.specs.declared.Travel.{Travel}
use Rattle.map_shares.specs.declared.Span.{Span}
use Rattle.map_shares.specs.declared.Words.{Words}
use Rattle.map_shares.specs.Kinds.{RowShares}
use Rattle.map_shares.specs.Demands.{travel_limit, Driven, TravelIn, SpanIn, WordsIn}
use Rattle.map_shares.specs.Shares.{total}
use Rattle.map_rows.specs.Rows.{amiss, travel_wrong, span_wrong, words_wrong, over}
use Rattle.map_rows.specs.Promise.{RoomIn}

-- neither of two tests is true
record Neither (a b : Bool) : Type 0 where
  pub first : a ≡ false
  pub second : b ≡ false

neither : {a b : Bool} → (a || b) ≡ false → Neither a b
neither {a} {b} e = go a b e
  where
    go : (a b : Bool) → (a || b) ≡ false → Neither a b
    go true b e = absurd (true≢false e)
    go false b e = record { first = refl; second = e }

driven : (x : ℕ) → amiss x ≡ false → Driven x
unfolding amiss
driven x e =
    let n = neither e in
    record { least = ltb-false x 1 n.first; most = ltb-false travel_limit x n.second }

fine : {x : ℕ} → Driven x → amiss x ≡ false
unfolding amiss
fine {x} d = rw (le-ltb x 1 d.least, le-ltb travel_limit x d.most)

pub travel-met : (t : Travel) → travel_wrong t ≡ false → TravelIn t
unfolding travel_wrong
travel-met t e =
    let hs = neither e in
    let rs = neither hs.first in
    let hm = neither rs.first in
    let um = neither hm.first in
    record {
      urban-mileage = driven _ um.first;
      rural-mileage = driven _ um.second;
      highway-mileage = driven _ hm.second;
      rural-speed = driven _ rs.second;
      highway-speed = driven _ hs.second;
    }

pub travel-unmet : (t : Travel) → travel_wrong t ≡ true → ¬ (TravelIn t)
unfolding travel_wrong
travel-unmet t e d =
    true≢false
    (sym e ∙ rw (fine d.urban-mileage, fine d.rural-mileage, fine d.highway-mileage, fine d.rural-speed, fine d.highway-speed))

span-met : (s : Span) → span_wrong s ≡ false → SpanIn s
unfolding span_wrong
span-met s e = let n = neither e in record { order = ltb-false _ _ n.first; limit = ltb-false mass_limit _ n.second }

span-fine : {s : Span} → SpanIn s → span_wrong s ≡ false
unfolding span_wrong
span-fine {s} d = rw (le-ltb s.high s.low d.order, le-ltb mass_limit s.high d.limit)

pub words-met : (w : Words) → words_wrong w ≡ false → WordsIn w
unfolding words_wrong
words-met w e =
    let r = neither e in
    let d = neither r.first in
    record { diurnal-in = span-met _ d.first; soak-in = span-met _ d.second; running-in = span-met _ r.second }

pub words-unmet : (w : Words) → words_wrong w ≡ true → ¬ (WordsIn w)
unfolding words_wrong
words-unmet w e d = true≢false (sym e ∙ rw (span-fine d.diurnal-in, span-fine d.soak-in, span-fine d.running-in))

pub room-met : (s : RowShares) → (over s.urban || over s.rural || over s.highway) ≡ false → RoomIn s
unfolding over
room-met s e =
    let h = neither e in
    let u = neither h.first in
    record {
      urban-room = ltb-false mass_limit _ u.first;
      rural-room = ltb-false mass_limit _ u.second;
      highway-room = ltb-false mass_limit _ h.second;
    }

pub room-unmet : (s : RowShares) → (over s.urban || over s.rural || over s.highway) ≡ true → ¬ (RoomIn s)
unfolding over
room-unmet s e d =
    true≢false
    (sym e ∙ rw (
      le-ltb mass_limit (total s.urban.high) d.urban-room,
      le-ltb mass_limit (total s.rural.high) d.rural-room,
      le-ltb mass_limit (total s.highway.high) d.highway-room,
    ))
