-- Numbers 20 and 25 on whole numbers: the comparison of a + b·s·m_sat with a limit, in units of 1/20,000,000.
-- Assumes nothing.
use Rattle.std.proofs.Common.{Option, Some, None}
use mathlib.Core.Path.{◌≡◌, refl, ap}
use Prim.Native.Nat.{ℕ, ◌+◌, ◌*◌, ◌-◌, ◌≤◌, ◌<◌}
use native.Mathlib.Nat.{mul-le-mul}
use native.Mathlib.Omega.{arith}
use borrow.Author.Tests.{le-ltb}
use lib.Dec.{ltb, lit<}
use Rattle.numbers.specs.Fraction.{Fraction, ◌≤ᶠ◌, ◌≈ᶠ◌, ◌+ᶠ◌, ◌-ᶠ◌, negᶠ, ◌*ᶠ◌, whole, ◌/10^◌, ◌over◌}
use Rattle.numbers.proofs.Order.{≈-refl, ≈-sym, ≈-trans, ≤-by, +-cong, *-cong}
use Rattle.exact.specs.declared.Canister.{Canister}
use Rattle.exact.specs.declared.Canister.TheVariants.{Small, Medium, Large}
use Rattle.exact.specs.declared.Season.{Season}
use Rattle.exact.specs.Day.{signed_tenths}
use Rattle.exact.specs.Canister.{a, b, size}
use Rattle.sheet.specs.Sheet.{exponent_above, saturation_above}
use Rattle.sheet.specs.Range.{warmth, warmth_limit, SeasonInRange, halves}
use Rattle.sheet.proofs.Checks.{ltb-tests, ≤-shows, not-tests, tests-as, tests_same}
use Rattle.sheet.proofs.Temperature.{above_coldest, signed_is}

-- a follows the temperature's value
a-cong : (vp : Fraction) {T U : Fraction} → T ≈ᶠ U → a vp T ≈ᶠ a vp U
unfolding a
a-cong vp e = +-cong (≈-refl _) (*-cong (≈-refl _) e)

-- and so does b
b-cong : (vp : Fraction) {T U : Fraction} → T ≈ᶠ U → b vp T ≈ᶠ b vp U
unfolding b
b-cong vp e = +-cong (≈-refl _) (*-cong (≈-refl _) e)

-- with vp in tenths of kPa and h tenths above −30 °C: a = (130000·h − 2000·(129500 + 15·vp))/20000000
unfoldable a_whole : ℕ → ℕ → Fraction
a_whole vp h = record { up = 130000 * h; down = 2000 * (129500 + 15 * vp); den = 20000000; pos = lit< tt }

-- that is a
a-is : (vp h : ℕ) → a (vp /10^ 1) (above_coldest h) ≈ᶠ a_whole vp h
unfolding a a_whole above_coldest ◌-ᶠ◌ ◌+ᶠ◌ negᶠ ◌*ᶠ◌ whole ◌/10^◌
a-is vp h = record { cross = omega arith }

-- likewise b = (112000 + 10·h − 15·vp)/1000000
unfoldable b_whole : ℕ → ℕ → Fraction
b_whole vp h = record { up = 112000 + 10 * h; down = 15 * vp; den = 1000000; pos = lit< tt }

-- that is b
b-is : (vp h : ℕ) → b (vp /10^ 1) (above_coldest h) ≈ᶠ b_whole vp h
unfolding b b_whole above_coldest ◌-ᶠ◌ ◌+ᶠ◌ negᶠ ◌*ᶠ◌ whole ◌/10^◌
b-is vp h = record { cross = omega arith }

-- the limit less a's part below 0, times 20000000
abbrev pub most : ℕ → ℕ → ℕ
most limit vp = limit * 20000000 + 2000 * (129500 + 15 * vp)

-- what is compared with it
abbrev pub reached : ℕ → ℕ → ℕ → ℕ → ℕ
reached vp h halves m = (112000 + 10 * h - 15 * vp) * halves * m + 130000 * h

-- a + b·s·m
abbrev exponent : ℕ → ℕ → ℕ → ℕ → Fraction
exponent vp h halves m = a_whole vp h +ᶠ b_whole vp h *ᶠ (whole halves over 2) *ᶠ m /10^ 1

-- b is not below 0 up to 110 kPa, so that its two parts may be subtracted
b-positive : (vp h halves m : ℕ) → vp ≤ 1100 → (112000 + 10 * h) * halves * m ≡ (112000 + 10 * h - 15 * vp) * halves * m + 15 * vp * halves * m
b-positive vp h halves m l =
    let e : 112000 + 10 * h ≡ (112000 + 10 * h - 15 * vp) + 15 * vp = omega arith in
    omega (arith, ap (λ (t : ℕ). t * halves * m) e)

-- at most the limit as a fraction is at most that as a whole number
exponent→ : (limit vp h halves m : ℕ) → vp ≤ 1100 → exponent vp h halves m ≤ᶠ whole limit → reached vp h halves m ≤ most limit vp
unfolding a_whole b_whole ◌over◌ ◌+ᶠ◌ ◌*ᶠ◌ whole ◌/10^◌
exponent→ limit vp h halves m l e = omega (arith, e.cross, b-positive vp h halves m l)

-- and back
exponent← : (limit vp h halves m : ℕ) → vp ≤ 1100 → reached vp h halves m ≤ most limit vp → exponent vp h halves m ≤ᶠ whole limit
unfolding a_whole b_whole ◌over◌ ◌+ᶠ◌ ◌*ᶠ◌ whole ◌/10^◌
exponent← limit vp h halves m l e = record { cross = omega (arith, b-positive vp h halves m l) }

-- a + b·s·m_sat above the limit is this comparison of whole numbers, for a season in range and a size s of so many halves
above-is : (limit : ℕ) (season : Season) (s : Fraction) (halves m : ℕ) → season.highest < 65536 → warmth season.highest ≤ warmth_limit
    → season.vp ≤ 1100 → s ≈ᶠ whole halves over 2
    → ltb (most limit season.vp) (reached season.vp (warmth season.highest) halves m) ≡ exponent_above limit season s m
unfolding exponent_above
above-is limit season s halves m bits warm l size =
    let vp = season.vp in
    let h = warmth season.highest in
    let T = signed_is season.highest bits warm in
    let e : a (vp /10^ 1) (signed_tenths season.highest) +ᶠ b (vp /10^ 1) (signed_tenths season.highest) *ᶠ s *ᶠ m
    /10^ 1 ≈ᶠ exponent vp h halves m =
    +-cong (≈-trans (a-cong _ T) (a-is vp h)) (*-cong (*-cong (≈-trans (b-cong _ T) (b-is vp h)) size) (≈-refl _)) in
    tests_same (ltb-tests (most limit vp) (reached vp h halves m))
    (tests-as (λ c. exponent→ limit vp h halves m l (≤-by (≈-sym e) (≈-refl _) c)) (λ c. ≤-by e (≈-refl _) (exponent← limit vp h halves m l c))
    (not-tests (≤-shows _ _)))

-- for each canister, and without one, in a season in range
pub saturation-is : (limit : ℕ) (c : Option Canister) (m : ℕ) {season : Season} → SeasonInRange season
    → ltb (most limit season.vp) (reached season.vp (warmth season.highest) (halves c) m) ≡ saturation_above limit c m season
unfolding halves saturation_above whole ◌over◌ ◌/10^◌
saturation-is limit None m {season} r =
    le-ltb (most limit season.vp) (reached season.vp (warmth season.highest) 0 m) (omega (arith, r.warm))
saturation-is limit (Some Small) m r = above-is limit _ (size (Some Small)) 4 m r.highest-bits r.warm r.vp-most (record { cross = refl })
saturation-is limit (Some Medium) m r = above-is limit _ (size (Some Medium)) 2 m r.highest-bits r.warm r.vp-most (record { cross = refl })
saturation-is limit (Some Large) m r = above-is limit _ (size (Some Large)) 1 m r.highest-bits r.warm r.vp-most (record { cross = refl })

-- b times the halves fits 64 bits
pub b-size : {x halves : ℕ} → x ≤ 120000 → halves ≤ 4 → x * halves ≤ 480000
b-size h k = mul-le-mul {n₂ = 120000} {m₂ = 4} h k

-- and so does the product with m
pub load-size : {x halves m : ℕ} → x ≤ 120000 → halves ≤ 4 → m < 65536 → x * halves * m ≤ 31457280000
load-size {m} h k l = mul-le-mul {n₂ = 480000} {m₂ = 65536} (b-size h k) (omega arith)
