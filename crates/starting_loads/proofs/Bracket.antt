-- What is known of the starting load, for every n from 40 upward. No growth of g is asked for: the starting load reaches M and the multiple
-- before it does not, and both are put into m = g(m) + E(a + b·s·m).
-- Assumes nothing.
use mathlib.Core.Logic.{◌⊎◌, inl, inr, ⊎_elim}
use Prim.Native.Nat.{ℕ, suc, zero, ◌+◌, ◌*◌, ◌^◌, ◌≤◌, ◌<◌}
use native.Mathlib.Omega.{arith}
use native.Mathlib.Nat.{mul-le-mul_right, pow-le-pow_right, le_refl}
use Rattle.numbers.specs.Fraction.{Fraction, ◌≤ᶠ◌, ◌≈ᶠ◌, ◌+ᶠ◌, ◌-ᶠ◌, ◌*ᶠ◌, whole}
use Rattle.numbers.proofs.Order.{NonNegative, positive→NonNegative, NonNegative→≤, ≤-refl, ≤_trans, ≈-refl, ≈→≤, ≈→≥}
use Rattle.numbers.proofs.Order.{+-mono, +-NonNegative, sub-cong, sub-≤, regain, ratio, ratio-NonNegative}
use Rattle.bounds.specs.Series.{E, multiple}
use Rattle.bounds.specs.Enclosure.{Within}
use Rattle.bounds.specs.Exponential.{exponent}
use Rattle.bounds.proofs.Laws.{E-cong, E-mono, E-positive}
use Rattle.bounds.proofs.Within.{within-above, within-below, within-NonNegative}
use Rattle.bounds.proofs.Units.{unit-pos, units, units-≤, units-fold}
use Rattle.bounds.proofs.Line.{rising, along, along-is, along-mono}
use Rattle.exact.specs.Canister.{a, b}
use Rattle.exact.specs.Mileage.{multiples, g, starting_load, Reaches, IsStart, smallest, none-reaches}
use Rattle.exact.proofs.Smallest.{starting_load-is, multiple-≤, multiple-next}

-- Multiples of 2⁻ⁿ.

-- one further is at most a unit further
multiple-step : (n k : ℕ) → 40 ≤ n → multiple n (suc k) ≤ᶠ multiple n k +ᶠ units 1
unfolding ratio ◌+ᶠ◌
multiple-step n k h = record { cross = step (2 ^ n) (pow-le-pow_right (omega arith) h) }
  where
    step : (t : ℕ) → 2 ^ 40 ≤ t → suc k * (t * 2 ^ 40) + (0 * 2 ^ 40 + 0 * t) * t ≤ (k * 2 ^ 40 + 1 * t) * t + 0 * (t * 2 ^ 40)
    step t h = omega (arith, mul-le-mul_right t h)

-- and not less
multiple-mono : (n k : ℕ) → multiple n k ≤ᶠ multiple n (suc k)
unfolding ratio
multiple-mono n k = omega arith

-- the first is 0
pub multiple-0 : (n : ℕ) → multiple n 0 ≈ᶠ whole 0
unfolding ratio whole
multiple-0 n = omega arith

-- what is lost at a load
abbrev pub lost : ℕ → ℕ → ℕ → Fraction → Fraction
lost n A K m = E n (along A K m)

-- it is 0 or more
lost-NonNegative : (n A K : ℕ) (m : Fraction) → NonNegative (lost n A K m)
lost-NonNegative n A K m = positive→NonNegative (E-positive n (along A K m))

-- A load at most m_sat; m_sat itself, or G and what is lost, or more; and at most G + W, a unit, and what is lost.
pub record Balanced (n A K G W : ℕ) (saturation m : Fraction) : Type 0 where
  pub most : m ≤ᶠ saturation
  pub least : (saturation ≤ᶠ m) ⊎ (lost n A K m +ᶠ units G ≤ᶠ m)
  pub near : m ≤ᶠ lost n A K m +ᶠ units (G + W + 1)

-- The starting load is balanced, where a load that reaches M has a g of G or more, and one that does not a g of G + W or less.
module _ (n A K : ℕ) {σ : ℕ} (vp s saturation T : Fraction) (n40 : 40 ≤ n) (ea : a vp T ≈ᶠ exponent A) (eb : b vp T *ᶠ s ≈ᶠ rising K)
    (full : Within (2 ^ 40) σ 1 saturation) (M G W : ℕ)
    (low : (m : Fraction) → Reaches n vp s T M saturation m → units G ≤ᶠ g n vp s T m)
    (high : (m : Fraction) → ¬ Reaches n vp s T M saturation m → g n vp s T m ≤ᶠ units (G + W))
  where
    -- g = m − E(a + b·s·m), as a and b·s are held
    g-is : (m : Fraction) → g n vp s T m ≈ᶠ m -ᶠ lost n A K m
    unfolding g
    g-is m = sub-cong (≈-refl m) (E-cong n (along-is A K m ea eb))

    -- a load that reaches M
    reaching : (m : Fraction) → Reaches n vp s T M saturation m → lost n A K m +ᶠ units G ≤ᶠ m
    reaching m r =
        ≤_trans (+-mono (≤-refl (lost n A K m)) (≤_trans (low m r) (≈→≤ (g-is m)))) (≈→≤ (regain m (lost n A K m)))

    -- a load that is at most a unit above one that does not
    next-to : {m' m : Fraction} → ¬ Reaches n vp s T M saturation m' → m' ≤ᶠ m → m ≤ᶠ m' +ᶠ units 1 → m ≤ᶠ lost n A K m +ᶠ units (G + W + 1)
    next-to {m'} {m} r l h =
        let before : m' ≤ᶠ lost n A K m' +ᶠ units (G + W) = sub-≤ m' (lost n A K m') (≤_trans (≈→≥ (g-is m')) (high m' r)) in
        let here : m' ≤ᶠ lost n A K m +ᶠ units (G + W) = ≤_trans before (+-mono (E-mono n (along-mono A K l)) (≤-refl _)) in
        ≤_trans h (≤_trans (+-mono here (≤-refl (units 1))) (≈→≤ (units-fold (lost n A K m) (G + W) 1)))

    -- 0 ≤ m_sat
    sat-NonNegative : NonNegative saturation
    sat-NonNegative = within-NonNegative unit-pos full

    -- the load is the first that reaches M, a later one, or m_sat
    balanced : {m : Fraction} → IsStart n vp s T M saturation m → Balanced n A K G W saturation m
    balanced (smallest zero l r before) = record {
      most = l;
      least = inr (reaching (multiple n 0) r);
      near =
          ≤_trans (≈→≤ (multiple-0 n)) (NonNegative→≤ (+-NonNegative (lost-NonNegative n A K _) (ratio-NonNegative (G + W + 1) unit-pos)));
    }
    balanced (smallest (suc k) l r before) = record {
      most = l;
      least = inr (reaching (multiple n (suc k)) r);
      near = next-to (before k (omega arith)) (multiple-mono n k) (multiple-step n k n40);
    }
    balanced (none-reaches none) =
        let k : ℕ = multiples n saturation in
        let l : multiple n k ≤ᶠ saturation = multiple-≤ n sat-NonNegative k (le_refl k) in
        record {
          most = ≤-refl saturation;
          least = inl (≤-refl saturation);
          near = next-to (none k l) l (≤_trans (multiple-next n sat-NonNegative) (multiple-step n k n40));
        }

    pub starting_load-balanced : Balanced n A K G W saturation (starting_load n vp s T M saturation)
    starting_load-balanced = balanced (starting_load-is n vp s T M saturation (NonNegative→≤ sat-NonNegative))

-- A balanced load up to an exponent of 0 is at most G + W, a unit and a gram.
module _ (n A K G W : ℕ) {σ : ℕ} {saturation m : Fraction} (top : along A K saturation ≤ᶠ whole 0) (full : Within (2 ^ 40) σ 1 saturation)
    (c : Balanced n A K G W saturation m)
  where
    -- its exponent is at most 0
    pub along-0 : along A K m ≤ᶠ whole 0
    along-0 = ≤_trans (along-mono A K c.most) top

    -- a count up to σ is at most m, if it is so where G and what is lost are
    pub at_least : {k : ℕ} → k ≤ σ → (lost n A K m +ᶠ units G ≤ᶠ m → units k ≤ᶠ m) → units k ≤ᶠ m
    at_least h f = ⊎_elim (λ l. ≤_trans (units-≤ h) (≤_trans (within-above unit-pos full) l)) f c.least

    -- a count above σ is at least m
    pub at_most : {k : ℕ} → σ < k → m ≤ᶠ units k
    at_most h = ≤_trans c.most (≤_trans (within-below unit-pos full) (units-≤ (omega arith)))
