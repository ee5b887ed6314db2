-- Every exact mass lies between its two figures: one vehicle's on one day, then a year's, then all vehicles' in milligrams.
-- Assumes nothing.
use mathlib.Core.Path.{◌≡◌, refl}
use mathlib.Core.List.{List, [], ◌∷◌}
use Prim.Native.Nat.{ℕ, ◌+◌, ◌*◌, ◌-◌, ◌/◌, ◌^◌, ◌≤◌}
use native.Mathlib.Nat.{mul_comm, zero-mul}
use native.Mathlib.Omega.{arith}
use Rattle.numbers.specs.Fraction.{Fraction, ◌≤ᶠ◌, ◌≈ᶠ◌, ◌+ᶠ◌, ◌-ᶠ◌, ◌*ᶠ◌, whole, ◌/10^◌, ◌times◌}
use Rattle.numbers.proofs.Order.{≤_trans, ≈→≤, ≈→≥, ≈-refl, ≈-trans, NonNegative-up, decimal-NonNegative}
use Rattle.numbers.proofs.Order.{whole-NonNegative, +-mono, +-cong, *-mono-left, *-mono-right, *-cong, times-mono}
use Rattle.numbers.proofs.Order.{whole-mono}
use Rattle.exact.specs.declared.Season.{Season}
use Rattle.exact.specs.declared.Row.{Row}
use Rattle.exact.specs.Factors.{Factor, F1, F2, F3, F4, F5, F6, F7, factor}
use Rattle.exact.specs.Masses.{Mechanism, diurnal, soak, running, blend, day_mass, mass}
use Rattle.factors.specs.Units.{low_micrograms, high_micrograms}
use Rattle.masses.specs.Figures.{µg, blended, day_figure, year_figure, low_figure, high_figure}
use Rattle.masses.specs.AnyCounts.{Every, Shares, Enclosed}
use Rattle.masses.proofs.Decimals.{decimal-zero, decimal-sum, decimal-product, decimal-places, decimal-times, decimal-rest}

-- what follows for each season holds of each
pub every_map : {P Q : Season → Type 0} → ((season : Season) → P season → Q season) → (seasons : List Season) → Every P seasons → Every Q seasons
every_map f [] e = tt
every_map f (season ∷ seasons) (e, es) = (f season e, every_map f seasons es)

-- One vehicle on one day.

-- the loss as a function of the seven factors
unfoldable day_of : Row → (Factor → Fraction) → Mechanism → Fraction
day_of row F diurnal = F F1
day_of row F soak = row.trips /10^ 2 *ᶠ blend row (F F4) (F F3) (F F2)
day_of row F running = row.trips /10^ 2 *ᶠ blend row (F F7) (F F6) (F F5)

-- the exact loss is that function of the exact factors
day-is : (n : ℕ) (counts : List ℕ) (season : Season) (row : Row) (mechanism : Mechanism)
    → day_mass n counts season row mechanism ≡ day_of row (factor n counts season row) mechanism
unfolding day_of day_mass
day-is n counts season row diurnal = refl
day-is n counts season row soak = refl
day-is n counts season row running = refl

-- one season more: d·v days of a loss D, added to those of Y·v
year-step : (d D Y v : ℕ) → (d * v) times D /10^ 12 +ᶠ (Y * v) /10^ 12 ≈ᶠ ((d * D + Y) * v) /10^ 12
year-step d D Y v =
    let e : (d * D + Y) * v ≡ d * v * D + Y * v = omega arith in
    rw e (≈-trans (+-cong (decimal-times (d * v) D 12) (≈-refl _)) (decimal-sum (d * v * D) (Y * v) 12))

-- from 10⁻¹² g to milligrams, cut down
cut_down : (y : ℕ) {x : Fraction} → y /10^ 12 ≤ᶠ x → whole (y / 10 ^ 9) ≤ᶠ x *ᶠ whole 1000
unfolding ◌/10^◌ whole ◌*ᶠ◌
cut_down y h = ≤_trans (record { cross = omega arith }) (*-mono-left (whole-NonNegative 1000) h)

-- and cut up
cut_up : (y : ℕ) {x : Fraction} → x ≤ᶠ y /10^ 12 → x *ᶠ whole 1000 ≤ᶠ whole ((y + (10 ^ 9 - 1)) / 10 ^ 9)
unfolding ◌/10^◌ whole ◌*ᶠ◌
cut_up y h = ≤_trans (*-mono-left (whole-NonNegative 1000) h) (record { cross = omega arith })

module _ {row : Row} (shares : Shares row) where
  -- a blend grows with each of its three parts
  blend-mono : {h h' w w' i i' : Fraction} → h ≤ᶠ h' → w ≤ᶠ w' → i ≤ᶠ i' → blend row h w i ≤ᶠ blend row h' w' i'
  unfolding blend
  blend-mono a b c =
      +-mono
      (*-mono-right (decimal-NonNegative row.carburettor 2)
      (+-mono (*-mono-right (decimal-NonNegative row.hot 2) a)
      (*-mono-right (NonNegative-up (≈→≥ (decimal-rest row.hot shares.hot-most)) (decimal-NonNegative _ 2)) b)))
      (*-mono-right (NonNegative-up (≈→≥ (decimal-rest row.carburettor shares.carburettor-most)) (decimal-NonNegative _ 2)) c)

  -- and of whole micrograms it is a whole number of 10⁻¹⁰ g
  blend_is : (micrograms : ℕ → ℕ) (counts : List ℕ) (season : Season) (h w i : ℕ)
      → blend row (h /10^ 6) (w /10^ 6) (i /10^ 6) ≈ᶠ blended row h w i /10^ 10
  unfolding blend blended
  blend_is micrograms counts season h w i =
      let c = row.carburettor in
      let p = row.hot in
      let carburettor : p /10^ 2 *ᶠ h /10^ 6 +ᶠ (whole 1 -ᶠ p /10^ 2) *ᶠ w /10^ 6 ≈ᶠ (p * h + (100 - p) * w) /10^ 8 =
      ≈-trans (+-cong (decimal-product p 2 h 6)
      (≈-trans (*-cong (decimal-rest p shares.hot-most) (≈-refl _)) (decimal-product (100 - p) 2 w 6)))
      (decimal-sum _ _ 8) in
      let others : whole 1 -ᶠ c /10^ 2 ≈ᶠ ((100 - c) * 100) /10^ 4 =
      ≈-trans (decimal-rest c shares.carburettor-most) (decimal-places (100 - c) 2 2) in
      ≈-trans
      (+-cong (≈-trans (*-cong (≈-refl _) carburettor) (decimal-product c 2 _ 8)) (≈-trans (*-cong others (≈-refl _)) (decimal-product _ 4 i 6)))
      (decimal-sum _ _ 10)

  -- with the trips it is one of 10⁻¹² g
  trips-is : (micrograms : ℕ → ℕ) (counts : List ℕ) (season : Season) (h w i : ℕ)
      → row.trips /10^ 2 *ᶠ blend row (h /10^ 6) (w /10^ 6) (i /10^ 6) ≈ᶠ (row.trips * blended row h w i) /10^ 12
  trips-is micrograms counts season h w i =
      ≈-trans (*-cong (≈-refl _) (blend_is micrograms counts season h w i)) (decimal-product row.trips 2 _ 10)

  -- a day's loss grows with each factor
  day-mono : {F G : Factor → Fraction} → ((k : Factor) → F k ≤ᶠ G k) → (mechanism : Mechanism) → day_of row F mechanism ≤ᶠ day_of row G mechanism
  unfolding day_of
  day-mono h diurnal = h F1
  day-mono h soak = *-mono-right (decimal-NonNegative row.trips 2) (blend-mono (h F4) (h F3) (h F2))
  day-mono h running = *-mono-right (decimal-NonNegative row.trips 2) (blend-mono (h F7) (h F6) (h F5))

  -- and of whole micrograms it is a whole number of 10⁻¹² g
  day-figure : (micrograms : ℕ → ℕ) (counts : List ℕ) (season : Season) (mechanism : Mechanism)
      → day_of row (λ (k : Factor). µg micrograms counts season row k /10^ 6) mechanism ≈ᶠ day_figure micrograms counts season row mechanism /10^ 12
  unfolding day_of day_figure
  day-figure micrograms counts season diurnal = rw (mul_comm (10 ^ 6) (µg micrograms counts season row F1)) (decimal-places _ 6 6)
  day-figure micrograms counts season soak = trips-is micrograms counts season _ _ _
  day-figure micrograms counts season running = trips-is micrograms counts season _ _ _

  -- so it is at least the day's low figure
  pub day-above : {counts : List ℕ} {season : Season} → Enclosed counts season row → (mechanism : Mechanism) (n : ℕ) → 40 ≤ n
      → day_figure low_micrograms counts season row mechanism /10^ 12 ≤ᶠ day_mass n counts season row mechanism
  unfolding µg
  day-above {counts} {season} e mechanism n h =
      rw (day-is n counts season row mechanism)
      (≤_trans (≈→≥ (day-figure low_micrograms counts season mechanism)) (day-mono (λ k. e.above k n h) mechanism))

  -- and at most its high one
  pub day-below : {counts : List ℕ} {season : Season} → Enclosed counts season row → (mechanism : Mechanism) (n : ℕ) → 40 ≤ n
      → day_mass n counts season row mechanism ≤ᶠ day_figure high_micrograms counts season row mechanism /10^ 12
  unfolding µg
  day-below {counts} {season} e mechanism n h =
      rw (day-is n counts season row mechanism)
      (≤_trans (day-mono (λ k. e.below k n h) mechanism) (≈→≤ (day-figure high_micrograms counts season mechanism)))

-- All vehicles, over the days of all seasons.
module _ {row : Row} (shares : Shares row) (counts : List ℕ) (mechanism : Mechanism) (n : ℕ) (h : 40 ≤ n) where
  -- at least the year's low figure for each vehicle
  pub year-above : (seasons : List Season) → Every (λ (season : Season). Enclosed counts season row) seasons
      → (year_figure low_micrograms counts seasons row mechanism * row.vehicles) /10^ 12 ≤ᶠ mass n counts seasons row mechanism
  unfolding year_figure mass
  year-above [] e = rw zero-mul (≈→≥ (decimal-zero 12))
  year-above (season ∷ seasons) (e, es) =
      ≤_trans (≈→≥ (year-step season.days _ _ row.vehicles))
      (+-mono (times-mono _ (day-above shares e mechanism n h)) (year-above seasons es))

  -- and at most its high one
  year-below : (seasons : List Season) → Every (λ (season : Season). Enclosed counts season row) seasons
      → mass n counts seasons row mechanism ≤ᶠ (year_figure high_micrograms counts seasons row mechanism * row.vehicles) /10^ 12
  unfolding year_figure mass
  year-below [] e = rw zero-mul (≈→≤ (decimal-zero 12))
  year-below (season ∷ seasons) (e, es) =
      ≤_trans (+-mono (times-mono _ (day-below shares e mechanism n h)) (year-below seasons es))
      (≈→≤ (year-step season.days _ _ row.vehicles))

  -- "Each of a row's three exact masses in grams, times 1,000, is at least its low ..".
  pub low-above : (seasons : List Season) → Every (λ (season : Season). Enclosed counts season row) seasons
      → whole (low_figure counts seasons row mechanism) ≤ᶠ mass n counts seasons row mechanism *ᶠ whole 1000
  unfolding low_figure
  low-above seasons e = ≤_trans (whole-mono (omega arith)) (cut_down _ (year-above seasons e))

  -- ".. and at most its high."
  pub high-below : (seasons : List Season) → Every (λ (season : Season). Enclosed counts season row) seasons
      → mass n counts seasons row mechanism *ᶠ whole 1000 ≤ᶠ whole (high_figure counts seasons row mechanism)
  unfolding high_figure
  high-below seasons e = cut_up _ (year-below seasons e)
