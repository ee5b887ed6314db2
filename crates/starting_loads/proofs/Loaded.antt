-- The computed starting load is at most the exact one, and near it.
-- Assumes nothing.
use mathlib.Core.Path.{◌≡◌}
use Prim.Native.Nat.{ℕ, ◌+◌, ◌*◌, ◌/◌, ◌^◌, ◌≤◌, ◌<◌, min}
use native.Mathlib.Decide.{dec_le}
use native.Mathlib.Omega.{arith}
use Rattle.numbers.specs.Fraction.{Fraction, ◌≤ᶠ◌, ◌≈ᶠ◌, ◌+ᶠ◌, ◌-ᶠ◌, ◌*ᶠ◌, whole, ◌/10^◌}
use Rattle.numbers.proofs.Order.{NonNegative, positive→NonNegative, decimal-NonNegative, either, ≤-refl, ≤_trans, ≈-sym}
use Rattle.numbers.proofs.Order.{≈-trans, ≈→≤, ≈→≥, +-mono, +_comm, +_assoc, +-zero, +-grows, sub-NonNegative, ≤-sub}
use Rattle.numbers.proofs.Order.{sub-≤, regain, *-mono-left, *-comm, *-one, *-zero, *-swap, solve-most, ratio, ratio-≤}
use Rattle.numbers.proofs.Order.{ratio-positive, ratio-sum, ratio-product, ratio-one}
use Rattle.bounds.specs.Series.{E}
use Rattle.bounds.specs.Enclosure.{Within}
use Rattle.bounds.specs.Short.{short, binary, line_exponent}
use Rattle.bounds.proofs.Laws.{E-cong, E-mono, E-positive, E-most-1, climb-to, short-most-1, held-to-0}
use Rattle.bounds.proofs.Within.{weaken, within-above, within-from}
use Rattle.bounds.proofs.Units.{unit-pos, units, units-≤, units-sum, units-fold, units-within}
use Rattle.bounds.proofs.Line.{rising, along, along-mono, along-split, along-plus}
use Rattle.bounds.proofs.ShortLine.{Held, line_width, finer, held-most-0, line-held, line_exponent-is}
use Rattle.starting_loads.specs.Loss.{loss, loaded}
use Rattle.starting_loads.proofs.Bracket.{lost, Balanced, along-0, at_least, at_most}
use Rattle.starting_loads.proofs.Loss.{four-pos, quarter, x, x-least, x-near, steep, computed-below}
use Rattle.starting_loads.proofs.Loss.{computed-near}

-- how far the starting load can be above the computed one, where the net load is known within W
abbrev pub loaded_width : ℕ → ℕ
loaded_width W = 4 * (W + 33960) / 3 + 1

-- no load passes saturation
pub loaded-most : (a k σ l : ℕ) → loaded a k σ l ≤ σ
unfolding loaded
loaded-most a k σ l = omega arith

pub halves-pos : 0 < 2
halves-pos = omega arith

-- halves and quarters
half-and-half : ratio 1 2 halves-pos +ᶠ ratio 1 2 halves-pos ≈ᶠ whole 1
half-and-half = ≈-trans (ratio-sum 1 1 2 halves-pos) (ratio-one 2 halves-pos)

quarter-and-rest : ratio 1 4 four-pos +ᶠ ratio 3 4 four-pos ≈ᶠ whole 1
quarter-and-rest = ≈-trans (ratio-sum 1 3 4 four-pos) (ratio-one 4 four-pos)

-- a quarter of 1.56 is at most a half
slope-half : ratio 1 4 four-pos *ᶠ 156 /10^ 2 ≤ᶠ ratio 1 2 halves-pos
unfolding ratio ◌*ᶠ◌ ◌/10^◌
slope-half = record { cross = omega arith }

-- c ≤ 4·c/3 and a unit, times 3/4
three_quarters : (c : ℕ) → units c ≤ᶠ units (4 * c / 3 + 1) *ᶠ ratio 3 4 four-pos
three_quarters c =
    ≤_trans (ratio-≤ c ((4 * c / 3 + 1) * 3) unit-pos _ (omega arith)) (≈→≥ (ratio-product (4 * c / 3 + 1) 3 unit-pos four-pos))

-- E grows by b·s for a unit of the load where it is at most a bound
climbed : (n A K : ℕ) {m m' bound : Fraction} → m ≤ᶠ m' → lost n A K m' ≤ᶠ bound
    → lost n A K m' ≤ᶠ lost n A K m +ᶠ rising K *ᶠ (m' -ᶠ m) *ᶠ bound
climbed n A K {m} {m'} {bound} h b =
    climb-to n (rising K *ᶠ (m' -ᶠ m)) bound (along-mono A K h) (≈→≤ (along-split A K m m')) b

module _ (n A K G W : ℕ) {σ : ℕ} {saturation m : Fraction} (n40 : 40 ≤ n) (hK : K ≤ 22 * 2 ^ 41) (hσ : σ ≤ 369 * 2 ^ 40)
    (top : along A K saturation ≤ᶠ whole 0) (full : Within (2 ^ 40) σ 1 saturation) (c : Balanced n A K G W saturation m)
  where
    -- the net load, up to saturation, and the computed loss there, in units of 2⁻³²
    abbrev l : ℕ
    l = min σ G

    abbrev z : Fraction
    z = along A K (units l)

    abbrev y : ℕ
    y = short (line_exponent A K l) / 2 ^ 4

    -- the exponent is at most 0
    z-most : z ≤ᶠ whole 0
    z-most = ≤_trans (along-mono A K (≤_trans (units-≤ {k = σ} (omega arith)) (within-above unit-pos full))) top

    held : Held (line_exponent A K l) (line_width 0) z
    held = line-held A K hK (omega arith) (omega arith) (units-within l)

    y-most : y ≤ 2 ^ 32
    y-most = omega (arith, short-most-1 _ (held-most-0 held z-most))

    -- the computed E there
    near-y : (k : ℕ) → 40 ≤ k → Within (2 ^ 40) (y * 2 ^ 8) 17008 (E k z)
    near-y k h = weaken (finer (2 ^ 4) (held-to-0 held z-most k h)) (omega arith) (omega arith)

    -- the exact loss by Θ, and the computed one
    abbrev loss-exact : Fraction
    loss-exact = x n K y n40 hK y-most

    abbrev found : ℕ
    found = loss (binary K) y

    -- the load with the exact loss
    abbrev raised : Fraction
    raised = units l +ᶠ loss-exact

    raised-along : along A K raised ≈ᶠ z +ᶠ rising K *ᶠ loss-exact
    raised-along = along-plus A K (units l) loss-exact

    -- it is at most what is lost at the load with it, and near it
    loss-low : loss-exact ≤ᶠ lost n A K raised
    loss-low = ≤_trans (x-least n K y n40 hK y-most z z-most near-y) (≈→≥ (E-cong n raised-along))

    loss-high : lost n A K raised ≤ᶠ loss-exact +ᶠ units 32934
    loss-high = ≤_trans (≈→≤ (E-cong n raised-along)) (x-near n K y n40 hK y-most z z-most near-y)

    -- E there is at most 1.56
    loss-steep : lost n A K raised ≤ᶠ 156 /10^ 2
    loss-steep =
        ≤_trans (E-mono n (≤_trans (≈→≤ raised-along) (≤_trans (+-mono z-most (≤-refl _)) (≈→≤ (≈-trans (+_comm _ _) (+-zero _))))))
        (steep n K y n40 hK y-most n n40)

    -- the load with the computed loss is below
    found_below : units (l + found) ≤ᶠ raised
    found_below = ≤_trans (≈→≥ (units-sum l found)) (+-mono (≤-refl (units l)) (computed-below n K y n40 hK y-most))

    -- and what is lost there is near the computed loss
    found-near : lost n A K (units (l + found)) ≤ᶠ units (found + 33959)
    found-near =
        ≤_trans (E-mono n (along-mono A K found_below))
        (≤_trans loss-high
        (≤_trans (+-mono (computed-near n K y n40 hK y-most) (≤-refl (units 32934)))
        (≤_trans (≈→≤ (units-sum (found + 1025) 32934)) (units-≤ (omega arith)))))

    -- m is not below the load with the exact loss, where G and what is lost are at most m
    module _ (h : lost n A K m +ᶠ units G ≤ᶠ m) (net-is : l ≡ G) where
      abbrev back : Fraction
      back = raised -ᶠ m

      half-way : m ≤ᶠ raised → raised ≤ᶠ m +ᶠ ratio 1 2 halves-pos *ᶠ back
      half-way g =
          let d0 : NonNegative back = sub-NonNegative g in
          let b0 : NonNegative (156 /10^ 2) = decimal-NonNegative 156 2 in
          let slope : rising K *ᶠ back *ᶠ 156 /10^ 2 ≤ᶠ ratio 1 2 halves-pos *ᶠ back =
          ≤_trans (≈→≤ (*-swap (rising K) back (156 /10^ 2)))
          (*-mono-left d0 (≤_trans (*-mono-left b0 (quarter K hK)) slope-half)) in
          let lost-more : loss-exact ≤ᶠ lost n A K m +ᶠ ratio 1 2 halves-pos *ᶠ back =
          ≤_trans loss-low (≤_trans (climbed n A K g loss-steep) (+-mono (≤-refl _) slope)) in
          let all : units l +ᶠ lost n A K m ≤ᶠ m = ≤_trans (≈→≤ (+_comm _ _)) (rw net-is h) in
          ≤_trans (+-mono (≤-refl (units l)) lost-more) (≤_trans (≈→≥ (+_assoc _ _ _)) (+-mono all (≤-refl _)))

      not_back : m ≤ᶠ raised → raised ≤ᶠ m
      not_back g =
          let none : back ≤ᶠ whole 0 =
          solve-most (ratio 1 2 halves-pos) back (ratio-positive halves-pos (omega arith)) half-and-half {x = whole 0} {z = whole 0}
          (≈→≥ (≈-trans (*-comm _ _) (*-zero _))) (≤_trans (≤-sub m _ (half-way g)) (≈→≥ (+-zero _))) in
          ≤_trans (sub-≤ raised m none) (≈→≤ (+-zero m))

      raised_below : raised ≤ᶠ m
      raised_below = either m raised not_back (λ g. g)

    -- the computed load is at most m
    low : units (min σ (l + found)) ≤ᶠ m
    low =
        at_least n A K G W top full c (omega arith)
        (λ h.
        elim (dec_le σ G) [
          | yes s ↦
              ≤_trans (units-≤ {k = G} (omega arith))
              (≤_trans (+-grows (units G) (positive→NonNegative (E-positive n (along A K m)))) (≤_trans (≈→≤ (+_comm _ _)) h))
          | no s ↦ ≤_trans (units-≤ {k = l + found} (omega arith)) (≤_trans found_below (raised_below h (omega arith)))
        ])

    -- m is near the load with the computed loss, where that is below saturation
    module _ (net-is : l ≡ G) (g : units (l + found) ≤ᶠ m) where
      abbrev way : Fraction
      way = m -ᶠ units (l + found)

      lost-near : lost n A K m ≤ᶠ ratio 1 4 four-pos *ᶠ way +ᶠ units (found + 33959)
      lost-near =
          ≤_trans (climbed n A K g (E-most-1 n (along-0 n A K G W top full c)))
          (≤_trans (+-mono found-near (≤_trans (≈→≤ (*-one _)) (*-mono-left (sub-NonNegative g) (quarter K hK)))) (≈→≤ (+_comm _ _)))

      all_near : m ≤ᶠ units (l + found) +ᶠ (ratio 1 4 four-pos *ᶠ way +ᶠ units (W + 33960))
      all_near =
          ≤_trans c.near
          (≤_trans (+-mono lost-near (≤-refl _))
          (≤_trans (≈→≤ (units-fold _ _ (G + W + 1)))
          (≤_trans (+-mono (≤-refl _) (units-≤ {k = W + 33960 + (l + found)} (omega (arith, net-is))))
          (≈→≤ (≈-trans (≈-sym (units-fold _ (W + 33960) (l + found))) (+_comm _ _))))))

      way-most : way ≤ᶠ units (loaded_width W)
      way-most =
          solve-most (ratio 1 4 four-pos) way (ratio-positive four-pos (omega arith)) quarter-and-rest (three_quarters (W + 33960))
          (≤-sub (units (l + found)) _ all_near)

      m-near : m ≤ᶠ units (l + found + loaded_width W)
      m-near = ≤_trans (≈→≥ (regain m (units (l + found)))) (≤_trans (+-mono (≤-refl _) way-most) (≈→≤ (units-sum _ _)))

    high : m ≤ᶠ units (min σ (l + found) + loaded_width W)
    high =
        elim (dec_le σ (l + found)) [
          | yes s ↦ at_most n A K G W top full c (omega arith)
          | no s ↦
              let e : min σ (l + found) ≡ l + found = omega arith in
              rw e (either m (units (l + found)) (λ g. ≤_trans g (units-≤ (omega arith))) (m-near (omega arith)))
        ]

    -- the starting load is within its width of the computed one
    pub loaded-within : Within (2 ^ 40) (loaded (binary A) (binary K) σ (min σ G)) (loaded_width W) m
    unfolding loaded
    loaded-within = rw (← (line_exponent-is A K (min σ G))) (within-from unit-pos low high)
