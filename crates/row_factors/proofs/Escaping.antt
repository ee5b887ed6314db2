-- What the program averages is the escape of the definitions: with a canister what breaks through in each cell, without one the vapour
-- of the mean rise.
use Rattle.std.proofs.Common.{Option, Some, None}
use mathlib.Core.Bool.{Bool, false}
use mathlib.Core.List.{List}
use mathlib.Core.Path.{◌≡◌, refl, ◌∙◌, ap, ap₂}
use Prim.Native.Nat.{ℕ, ◌+◌, ◌*◌, ◌/◌, ◌^◌, ◌≤◌, ◌<◌}
use native.Mathlib.Omega.{arith}
use native.Mathlib.Nat.{le_of_lt}
use lib.ListN.{length}
use Rattle.numbers.specs.Lists.{tab, at}
use Rattle.numbers.specs.Bounded.{AllAtMost}
use Rattle.numbers.proofs.Lists.{get_d-tab, tab-at-most, tab-ext}
use Rattle.exact.specs.declared.Canister.{Canister}
use Rattle.exact.specs.declared.Canister.TheVariants.{Small, Medium, Large}
use Rattle.exact.specs.declared.Season.{Season}
use Rattle.exact.specs.declared.Row.{Row}
use Rattle.exact.specs.Factors.{total, end_hour, duration}
use Rattle.marks.specs.Marks.{raise, rate, tenths}
use Rattle.marks.specs.AtMarks.{raises_by, day_raises, rates_at}
use Rattle.marks.proofs.Permeation.{rate-most}
use Rattle.marks.proofs.Curve.{season-rise-most}
use Rattle.sheet.proofs.Temperature.{warmth-most, warmth-alike}
use Rattle.factors.proofs.Losses.{duration-most}
use Rattle.sheet.specs.Range.{mark_warmth, SeasonInRange, halves}
use Rattle.factors.specs.Escape.{growth, tenth_grams}
use Rattle.factors.specs.Means.{mean_units}
use Rattle.factors.specs.Units.{gain, row_start, loss_error, parking_rise, parking_rates, vapour_units, through_units, start_of, end_of}
use Rattle.factors.specs.Units.{escape_units, escape_over_units, open_units}
use Rattle.factors.proofs.Gain.{gain-most}
use Rattle.factors.proofs.Mean.{mean_units-most}
use Rattle.factors.proofs.Sizes.{parking-rise-most, raise-rise-most}
use Rattle.bounds.specs.Weights.{apart}
use Rattle.bounds.specs.Ahead.{ahead}
use Rattle.parking.specs.declared.season_list.SeasonList.{SeasonList}
use Rattle.parking.specs.Grid.{CellsInRange, mark_of, apart_of, passed_in}
use Rattle.parking.specs.SeasonList.{ListFits}
use Rattle.parking.proofs.Passed.{passed_in-tab}
use Rattle.parking.proofs.Tally.{mark_of-below, apart_of-below}
use Rattle.parking.proofs.Weighted.{mean-ext, mean-below, cell-mean}
use Rattle.breakthrough.specs.declared.curve.Curve.{Curve}
use Rattle.starting_loads.specs.declared.loads.Line.{Line}
use Rattle.breakthrough.specs.Lines.{line_of_warmth, line_at, FitReady, bases_of, growths_of, CurveBy, CurvesOf}
use Rattle.breakthrough.specs.Through.{curve_at, through, raise_through}
use Rattle.breakthrough.proofs.Fitted.{fit-ready, curve-of, through-is, through-none, through-alike}
use Rattle.row_factors.specs.declared.season.AtSeason.{AtSeason}
use Rattle.row_factors.specs.declared.season.Day.{Day}
use Rattle.row_factors.specs.declared.escapes.Kind.{Kind}
use Rattle.row_factors.specs.declared.escapes.Kind.TheVariants.{Car, TwoWheeler}
use Rattle.row_factors.specs.declared.escapes.Escapes.{Escapes}
use Rattle.row_factors.specs.Season.{mean_at, rises_of, lines_in, LinesOf, DayReady, SeasonReady, RowReady}
use Rattle.row_factors.specs.Seven.{soak_raise, hotsoak_raise, trip_raise, hottrip_raise, RisesOf, VapourOf, RisesInRange}
use Rattle.row_factors.specs.Seven.{parking_through, parking_escape, trip_escape, EscapesOf}

module _ (season : Season) (row : Row) (counts : List ℕ) where
  -- with a canister the escape of each cell is averaged
  escape-through : (c : Option Canister) → 0 < halves c → (mark rise : ℕ → ℕ)
      → mean_units counts (λ (cell : ℕ). through_units season row (mark cell) (rise cell)) ≡ escape_units season row counts c mark rise
  unfolding halves escape_units
  escape-through None h mark rise = absurd (omega arith)
  escape-through (Some c) h mark rise = refl

  -- and a trip loses no vapour
  pub open-shut : (c : Option Canister) → 0 < halves c → (raised : ℕ) → 0 ≡ open_units season row counts c raised
  unfolding halves open_units
  open-shut None h raised = absurd (omega arith)
  open-shut (Some c) h raised = refl

  -- without canister the rise is averaged first
  escape-open : (c : Option Canister) → halves c ≡ 0 → (mark rise : ℕ → ℕ)
      → gain season row * mean_units counts rise / 2 ^ 40 ≡ escape_units season row counts c mark rise
  unfolding halves escape_units vapour_units
  escape-open None e mark rise = refl
  escape-open (Some Small) e mark rise = absurd (omega arith)
  escape-open (Some Medium) e mark rise = absurd (omega arith)
  escape-open (Some Large) e mark rise = absurd (omega arith)

  -- on a trip too
  open-open : (c : Option Canister) → halves c ≡ 0 → (raised : ℕ)
      → gain season row * mean_units counts (λ (cell : ℕ). raise raised (mark_warmth season (end_of cell))) / 2 ^ 40 ≡
      open_units season row counts c raised
  unfolding halves open_units vapour_units
  open-open None e raised = refl
  open-open (Some Small) e raised = absurd (omega arith)
  open-open (Some Medium) e raised = absurd (omega arith)
  open-open (Some Large) e raised = absurd (omega arith)

-- Marks as far from 14:00 have the same raises and the same permeation.
pub raises-alike : (season : Season) (k i : ℕ) → i < 48 → raises_by season k (ahead (apart i)) ≡ raises_by season k i
raises-alike season k i h = ap (raise (tenths k)) (warmth-alike season i h)

pub rates-alike : (season : Season) (k i : ℕ) → i < 48 → rates_at season k (ahead (apart i)) ≡ rates_at season k i
rates-alike season k i h = ap (λ (θ : ℕ). rate season.vp (θ + tenths k)) (warmth-alike season i h)

-- How large the values at the marks are.
module _ {season : Season} (s : SeasonInRange season) where
  -- permeation, at the marks and by distance
  rate-mark-most : (k mark : ℕ) → k ≤ 150 → rates_at season k mark ≤ 2 ^ 40
  rate-mark-most k mark h =
      le_of_lt (rate-most season.vp (mark_warmth season mark + tenths k) s.vp-most (omega (arith, warmth-most mark s)))

  pub rate-list-most : {xs : List ℕ} → xs ≡ tab (λ (i : ℕ). rate season.vp (mark_warmth season i)) 48 → AllAtMost (2 ^ 40) xs
  rate-list-most e =
      tab-at-most _ 48 (e ∙ tab-ext 48 (λ i _. ap (rate season.vp) (omega arith))) (λ mark _. rate-mark-most 0 mark (omega arith))

  -- what passed of them
  pub rates-in : {xs : List ℕ} → xs ≡ tab (λ (i : ℕ). rate season.vp (mark_warmth season i)) 48 → (cell : ℕ)
      → passed_in xs cell ≡ parking_rates season cell
  unfolding parking_rates
  rates-in e cell = passed_in-tab _ e cell

  pub rate-list-fits : (k : ℕ) {xs : List ℕ} → k ≤ 150 → xs ≡ tab (λ (d : ℕ). rates_at season k (ahead d)) 25 → AllAtMost (2 ^ 54) xs
  rate-list-fits k h e = tab-at-most _ 25 e (λ d _. omega (arith, rate-mark-most k (ahead d) h))

  pub rises-most : {xs : List ℕ} → xs ≡ tab (parking_rise season) 576 → AllAtMost (72 * 2 ^ 40) xs
  unfolding parking_rise
  rises-most e = tab-at-most _ 576 e (λ cell _. omega (arith, season-rise-most s (end_hour cell) (duration cell) (duration-most cell)))

-- A row with a canister, whose values at each distance these are.
module _ {season : Season} {row : Row} {c : List Curve} (f : CurvesOf season row c) (l : row.load ≤ row.saturation)
    (p : 0 < halves row.canister) (cells : List ℕ) where
  -- from the end, or the start, of a cell's parking
  through-from : (ends : Bool) (cell rise : ℕ) → through (curve_at c (apart_of ends cell)) rise ≡ through_units season row (mark_of ends cell) rise
  through-from ends cell rise =
      through-is l f (apart_of ends cell) rise (apart_of-below ends cell) ∙ through-alike season row (mark_of ends cell) rise
      (mark_of-below ends cell)

  -- in a parking
  parking-escape : length cells ≡ 576
      → mean_units cells (λ (cell : ℕ). through (curve_at c (apart_of false cell)) (at (rises_of season) cell)) ≡ parking_escape season row cells
  parking-escape e =
      mean-below cells e (λ cell h. rw (get_d-tab (parking_rise season) 576 cell h) (through-from false cell _)) ∙
      escape-through season row cells row.canister p start_of (parking_rise season)

  -- over a raise by so many tenths of °C
  raise-escape : (ends : Bool) (k : ℕ) {raises : List ℕ} → raises ≡ day_raises season k
      → raise_through cells ends raises c ≡ escape_over_units season row cells (mark_of ends) (tenths k)
  unfolding escape_over_units
  raise-escape ends k e =
      mean-ext cells
      (λ cell.
      rw (
        e,
        get_d-tab (λ (d : ℕ). raises_by season k (ahead d)) 25 (apart_of ends cell) (apart_of-below ends cell),
        raises-alike season k (mark_of ends cell) (mark_of-below ends cell),
      )
      (through-from ends cell _)) ∙
      escape-through season row cells row.canister p (mark_of ends) (λ (cell : ℕ). raises_by season k (mark_of ends cell))

-- A row with a canister: a and 2·b·s are those of the day.
lines-are : {season : Season} {day : Day} → DayReady season day → (c : Option Canister) → 0 < halves c → LinesOf season (halves c) (lines_in day c)
unfolding lines_in halves
lines-are r None p = absurd (omega arith)
lines-are r (Some Large) p = r.large_is
lines-are r (Some Medium) p = r.medium-is
lines-are r (Some Small) p = r.small_is

module _ {season : Season} (row : Row) {day : Day} (r : DayReady season day) (p : 0 < halves row.canister) (d : ℕ) (h : d < 25) where
  base-is : (line_at (lines_in day row.canister) d).base ≡ bases_of season row d
  unfolding line_of_warmth
  base-is = rw (lines-are r row.canister p d h) refl

  growth-is : (line_at (lines_in day row.canister) d).growth ≡ growths_of season row d
  unfolding line_of_warmth growth
  growth-is = rw (lines-are r row.canister p d h) refl

-- A row with a canister, and what is made of its season: what its functions need, and that each mean is its escape.
module _ {counts : List ℕ} {list : SeasonList} {made : AtSeason} {row : Row} (ready : SeasonReady counts made)
    (q : RowReady counts list made.season row × (0 < halves row.canister)) where
  its-day : DayReady made.season made.day
  its-day = ready.day-ready

  pub fit_needs : {lines : List Line} {vapour : ℕ} → lines ≡ lines_in made.day row.canister → vapour ≡ gain made.season row
      → (d : ℕ) → d < 25 → FitReady row (line_at lines d).base (line_at lines d).growth vapour
  fit_needs g v d h =
      rw g (fit-ready ready.day-ready.season-in q.0.row_in q.1 d (base-is row its-day q.1 d h) (growth-is row its-day q.1 d h) v)

  pub fit-right : {lines : List Line} {vapour : ℕ} {c : List Curve} → lines ≡ lines_in made.day row.canister → vapour ≡ gain made.season row
      → ((d : ℕ) → d < 25 → CurveBy (line_at lines d).base (line_at lines d).growth
      (row_start row (line_at lines d).base (line_at lines d).growth) (tenth_grams row.saturation) vapour (loss_error row) (curve_at c d))
      → CurvesOf made.season row c
  fit-right g v by = record {
    by = λ d h. curve-of made.season row d (base-is row its-day q.1 d h) (growth-is row its-day q.1 d h) v (rw g at (by d h));
  }

  pub list-fits : ListFits (72 * 2 ^ 40) list
  list-fits = (q.0.list-ready q.1).fits (72 * 2 ^ 40) (rises-most ready.day-ready.season-in refl)

  module _ {c : List Curve} (f : CurvesOf made.season row c) where
    -- nothing breaks through where nothing rises
    still : (start : ℕ) → start < 25 → through (curve_at c start) 0 / 2 ^ 12 ≡ 0
    still start h = rw (
      through-is q.0.row_in.load-most f start 0 h,
      through-none made.season row (ahead start) q.0.row_in.load-most,
    ) (omega arith)

    pub parking-right : CellsInRange counts → {x sum : ℕ} → sum ≡ total counts → x ≡ parking_through list sum c
        → x ≡ parking_escape made.season row counts
    parking-right in_range s e =
        e ∙
        cell-mean in_range (λ (cell : ℕ). through (curve_at c (apart_of false cell)) (at (rises_of made.season) cell))
        ((q.0.list-ready q.1).sum_is (λ (start : ℕ) (rise : ℕ). through (curve_at c start) rise / 2 ^ 12) still) s ∙
        parking-escape f q.0.row_in.load-most q.1 _ in_range.length-is

    -- over a raise
    pub raise-right : (k : ℕ) {raises : List ℕ} → raises ≡ day_raises made.season k → (ends : Bool) {x : ℕ}
        → x ≡ raise_through counts ends raises c → x ≡ escape_over_units made.season row counts (mark_of ends) (tenths k)
    raise-right k known ends e = e ∙ raise-escape f q.0.row_in.load-most q.1 _ ends k known

-- A raise is of 6 °C at most.
soak-raised : (kind : Kind) → soak_raise kind ≤ 60
soak-raised Car = omega arith
soak-raised TwoWheeler = omega arith

hotsoak-raised : (kind : Kind) → hotsoak_raise kind ≤ 60
hotsoak-raised Car = omega arith
hotsoak-raised TwoWheeler = omega arith

hottrip-raised : (kind : Kind) → hottrip_raise kind ≤ 60
hottrip-raised Car = omega arith
hottrip-raised TwoWheeler = omega arith

-- A row without canister: how large the mean rises are, and that the vapour of each is its escape.
module _ {counts : List ℕ} {list : SeasonList} {made : AtSeason} {row : Row} {vapour : ℕ} (ready : SeasonReady counts made)
    (r : RowReady counts list made.season row) (v : vapour ≡ gain made.season row) where
  rise-mean-most : {x : ℕ} → x ≡ mean_units counts (parking_rise made.season) → x ≤ 72 * 2 ^ 40
  rise-mean-most e =
      omega (
        arith,
        e,
        mean_units-most counts (parking_rise made.season) (72 * 2 ^ 28)
            (λ cell. omega (arith, parking-rise-most ready.day-ready.season-in r.row_in cell)),
      )

  raise-mean-most : (mark : ℕ → ℕ) (k : ℕ) {x : ℕ} → k ≤ 60 → x ≡ mean_at counts mark (raises_by made.season k) → x ≤ 72 * 2 ^ 40
  raise-mean-most mark k h e =
      omega (
        arith,
        e,
        mean_units-most counts (λ (cell : ℕ). raises_by made.season k (mark cell))
            (56 * 2 ^ 28) (λ cell. omega (arith, raise-rise-most ready.day-ready.season-in r.row_in k (mark cell) h)),
      )

  -- the vapour of a mean rise
  vapour-of : {x y : ℕ} → x ≡ y → vapour * x / 2 ^ 40 ≡ gain made.season row * y / 2 ^ 40
  vapour-of e = ap₂ (λ (g x : ℕ). g * x / 2 ^ 40) v e

  module _ {kind : Kind} {rises : Escapes} (m : RisesOf made.season counts kind rises) where
    pub open-needs : (vapour < 2 ^ 50) × RisesInRange rises
    open-needs = (
      omega (arith, v, gain-most ready.day-ready.season-in r.row_in),
      record {
        parking-most = rise-mean-most m.parking-is;
        soak-most = raise-mean-most start_of _ (soak-raised kind) m.soak-is;
        hotsoak-most = raise-mean-most start_of _ (hotsoak-raised kind) m.hotsoak-is;
        trip-most = raise-mean-most end_of trip_raise (omega arith) m.trip-is;
        hottrip-most = raise-mean-most end_of _ (hottrip-raised kind) m.hottrip-is;
      },
    )

    module _ (none : halves row.canister ≡ 0) where
      open-raise : (mark : ℕ → ℕ) (k : ℕ) {x : ℕ} → x ≡ mean_at counts mark (raises_by made.season k)
          → vapour * x / 2 ^ 40 ≡ escape_over_units made.season row counts mark (tenths k)
      unfolding escape_over_units
      open-raise mark k e = vapour-of e ∙ escape-open made.season row counts row.canister none _ _

      open-trip : (kind : Kind) (k : ℕ) {x : ℕ} → x ≡ mean_at counts end_of (raises_by made.season k)
          → vapour * x / 2 ^ 40 ≡ trip_escape made.season row counts kind (tenths k)
      open-trip Car k e = vapour-of e ∙ open-open made.season row counts row.canister none _
      open-trip TwoWheeler k e = open-raise end_of k e

      pub open-right : {e : Escapes} → VapourOf vapour rises e → EscapesOf made.season row counts kind e
      open-right o = record {
        parking-is = o.parking-is ∙ (vapour-of m.parking-is ∙ escape-open made.season row counts row.canister none _ _);
        soak-is = o.soak-is ∙ open-raise start_of _ m.soak-is;
        hotsoak-is = o.hotsoak-is ∙ open-raise start_of _ m.hotsoak-is;
        trip-is = o.trip-is ∙ open-trip kind trip_raise m.trip-is;
        hottrip-is = o.hottrip-is ∙ open-trip kind (hottrip_raise kind) m.hottrip-is;
      }
