-- What breaks through a canister: document 01's B(m) in one formula, and the computed loss and breakthrough around the exact ones.
-- Assumes nothing.
use mathlib.Core.Bool.{Bool, true, false}
use mathlib.Core.Path.{◌≡◌}
use Prim.Native.Nat.{ℕ, ◌+◌, ◌*◌, ◌/◌, ◌^◌, ◌≤◌, min}
use native.Mathlib.Omega.{arith}
use native.Mathlib.Nat.{mul_comm}
use Rattle.numbers.specs.Fraction.{Fraction, ◌≤ᶠ◌, ◌≈ᶠ◌, ◌+ᶠ◌, negᶠ, ◌-ᶠ◌, ◌*ᶠ◌, whole}
use Rattle.bounds.specs.Series.{E}
use Rattle.bounds.specs.Enclosure.{Within}
use Rattle.bounds.specs.Exponential.{exponent}
use Rattle.numbers.proofs.Order.{NonNegative, NonNegative-up, test-cases, ≤-refl, ≤_trans, ≤-antisym, ≤-by, ≈-refl, ≈-sym, ≈-trans, ≈→≤, ≈→≥}
use Rattle.numbers.proofs.Order.{sub-cong, +-mono, +-cong, +_assoc, +-zero, +-grows, *-mono-right, *-comm, ratio-NonNegative}
use Rattle.bounds.proofs.Laws.{E-cong, E-mono}
use Rattle.bounds.specs.Short.{short, line_exponent, reach}
use Rattle.bounds.proofs.Line.{double-unit-pos, rising, along, along-is, along-risen, along-mono}
use Rattle.bounds.proofs.ShortLine.{Held, held-≈, finer, line_width, line-held}
use Rattle.bounds.proofs.ShortLine.{line_exponent-mono, reach-within, reach-most, rise_width, rise-held}
use Rattle.bounds.proofs.Within.{widen, weaken, within-≈, within-NonNegative, +-within, sub_within, *-within-rounded}
use Rattle.exact.specs.Canister.{a, b, curve, B, breakthrough}
use Rattle.factors.specs.Escape.{loss, risen_loss, break_units}
use Rattle.factors.proofs.Slope.{ShortSlope}
use Rattle.factors.proofs.Excess.{smaller, excess, smaller-left, smaller-right, smaller-greatest, smaller-map}
use Rattle.factors.proofs.Excess.{smaller-held, excess-mono, excess-within}

-- B(m) in one formula.

-- (x + y) − z = x + (y − z)
add_sub_assoc : (x y z : Fraction) → x +ᶠ y -ᶠ z ≈ᶠ x +ᶠ (y -ᶠ z)
unfolding ◌-ᶠ◌
add_sub_assoc x y z = +_assoc x y (negᶠ z)

module _ (n : ℕ) (vp s saturation T : Fraction) where
  -- B(m) = E(a + b·s·min(m, m_sat)) + max(0, m − m_sat)
  B-is : (m : Fraction) → B n vp s saturation T m ≈ᶠ curve n vp s saturation T (smaller m saturation) +ᶠ excess m saturation
  unfolding B smaller excess
  B-is m =
      test-cases
      (λ (c : Bool).
      (elim c [ true ↦ curve n vp s saturation T m | false ↦ curve n vp s saturation T saturation +ᶠ m -ᶠ saturation ]) ≈ᶠ
      curve n vp s saturation T (elim c [ true ↦ m | false ↦ saturation ]) +ᶠ (elim c [ true ↦ whole 0 | false ↦ m -ᶠ saturation ]))
      m saturation
      (λ _. ≈-sym (+-zero _)) (λ _. add_sub_assoc _ m saturation)

  -- B grows with the load, where b·s is 0 or more
  B-mono : {m m' : Fraction} → NonNegative (b vp T *ᶠ s) → m ≤ᶠ m' → B n vp s saturation T m ≤ᶠ B n vp s saturation T m'
  unfolding curve
  B-mono {m} {m'} k h =
      ≤-by (B-is m) (B-is m')
      (+-mono
      (E-mono n (+-mono (≤-refl (a vp T)) (*-mono-right k (smaller-greatest (≤_trans (smaller-left m saturation) h) (smaller-right m saturation)))))
      (excess-mono saturation h))

  -- equal vapours break through equally, where b·s is 0 or more
  pub breakthrough-cong : (m1 : Fraction) {v v' : Fraction} → NonNegative (b vp T *ᶠ s) → v ≈ᶠ v'
      → breakthrough n vp s saturation T m1 v ≈ᶠ breakthrough n vp s saturation T m1 v'
  unfolding breakthrough
  breakthrough-cong m1 k e =
      sub-cong (≤-antisym (B-mono k (≈→≤ (+-cong (≈-refl m1) e))) (B-mono k (≈→≥ (+-cong (≈-refl m1) e)))) (≈-refl _)

-- How far the computed values can be below, in units of 2⁻⁴⁰: E at an exponent within v;
abbrev e_width : ShortSlope → ℕ → ℕ
e_width sl v = (sl.error + sl.moved v) * 2 ^ 4

-- B at a starting load within u: the curve, and what overflows;
abbrev pub loss_width : ShortSlope → ℕ → ℕ
loss_width sl u = e_width sl (line_width u) + (u + 1)

-- B with the vapour, for a rise of at most R that is known within w;
abbrev pub vapour_width : ℕ → ℕ → ℕ
vapour_width R w = (R * 2 ^ 40 * 313 + 36 * 2 ^ 40 * w + w * 313) / 2 ^ 40 + 2

abbrev pub risen_width : ShortSlope → ℕ → ℕ → ℕ → ℕ
risen_width sl u R w = e_width sl (line_width u + rise_width R w) + (u + vapour_width R w + 1)

-- and the breakthrough, where B(m1) is at most e above its loss.
abbrev pub break_width : ShortSlope → ℕ → ℕ → ℕ → ℕ → ℕ
break_width sl e u R w = risen_width sl u R w + e

-- The loss and the breakthrough, for a canister whose a and 2·b·s are held as A and K and whose exponent at m_sat is at most a slope's top.
module _ (sl : ShortSlope) (n A K : ℕ) {σ : ℕ} (vp s saturation T : Fraction) (n40 : 40 ≤ n) (ea : a vp T ≈ᶠ exponent A)
    (eb : b vp T *ᶠ s ≈ᶠ rising K) (hK : K ≤ 22 * 2 ^ 41) (hσ : σ ≤ 369 * 2 ^ 40) (top : along A K saturation ≤ᶠ sl.top)
    (full : Within (2 ^ 40) σ 1 saturation)
  where
    -- B(m) = E(min(a + b·s·m, a + b·s·m_sat)) + max(0, m − m_sat)
    B-capped : (m : Fraction) → B n vp s saturation T m ≈ᶠ E n (smaller (along A K m) (along A K saturation)) +ᶠ excess m saturation
    unfolding curve
    B-capped m =
        ≈-trans (B-is n vp s saturation T m)
        (+-cong
        (E-cong n (≈-trans (along-is A K (smaller m saturation) ea eb) (smaller-map (along A K) m saturation (λ u v h. along-mono A K h))))
        (≈-refl _))

    -- the exponent at m_sat
    full-held : Held (line_exponent A K σ) (line_width 1) (along A K saturation)
    full-held = line-held A K hK hσ (omega arith) full

    -- E at the smaller of an exponent and that of m_sat, in units of 2⁻⁴⁰
    capped-within : {x v : ℕ} {z : Fraction} → line_width 1 ≤ v → Held x v z
        → Within (2 ^ 40) (short (min x (line_exponent A K σ)) * 2 ^ 4) (e_width sl v) (E n (smaller z (along A K saturation)))
    capped-within {x} {v} {z} h e =
        finer (2 ^ 4)
        (sl.encloses (smaller-held v (omega arith) h e full-held) (≤_trans (smaller-right z (along A K saturation)) top) n n40)

    -- B(m1) for a load of at most m_sat that is known within u
    pub loss-within : {p u : ℕ} {m1 : Fraction} → 1 ≤ u → u ≤ 2 ^ 40 → p ≤ σ → Within (2 ^ 40) p u m1
        → Within (2 ^ 40) (loss A K p) (loss_width sl u) (B n vp s saturation T m1)
    unfolding loss
    loss-within {p} {u} {m1} u1 u40 h e =
        let same : min (line_exponent A K p) (line_exponent A K σ) ≡ line_exponent A K p = omega (arith, line_exponent-mono A K h) in
        let curved = rw same at (capped-within (omega arith) (line-held A K hK (omega arith) u40 e)) in
        within-≈ (≈-sym (B-capped m1)) (weaken (+-within curved (excess-within e full)) (omega arith) (omega arith))

    module _ {p u g r w : ℕ} (R : ℕ) {m1 γ ρ : Fraction} (u1 : 1 ≤ u) (u40 : u ≤ 2 ^ 40) (h : p ≤ σ) (hg : g ≤ 36 * 2 ^ 40) (hr : r ≤ R * 2 ^ 40)
        (load : Within (2 ^ 40) p u m1) (gain : Within (2 ^ 40) g 313 γ) (rise : Within (2 ^ 40) r w ρ)
      where
        -- the vapour g·r
        vapour-within : Within (2 ^ 40) (g * r / 2 ^ 40) (vapour_width R w) (γ *ᶠ ρ)
        vapour-within =
            rw (mul_comm r g) at (within-≈ (*-comm ρ γ) (*-within-rounded (R * 2 ^ 40) (36 * 2 ^ 40) (omega arith) hr hg rise gain))

        -- the exponent at m1 + g·r
        risen-held : Held (line_exponent A K p + reach K g * r / 2 ^ 23) (line_width u + rise_width R w) (along A K (m1 +ᶠ γ *ᶠ ρ))
        risen-held =
            held-≈ (along-risen A K m1 γ ρ)
            (rise-held R (reach-most K g hK hg) hr (line-held A K hK (omega arith) u40 load) (reach-within K hK hg gain) rise)

        -- B(m1 + g·r)
        pub risen-loss-within : Within (2 ^ 40) (risen_loss A K σ p g r) (risen_width sl u R w) (B n vp s saturation T (m1 +ᶠ γ *ᶠ ρ))
        unfolding risen_loss
        risen-loss-within =
            within-≈ (≈-sym (B-capped (m1 +ᶠ γ *ᶠ ρ)))
            (weaken (+-within (capped-within (omega arith) risen-held)
            (excess-within (+-within load vapour-within) full)) (omega arith) (omega arith))

        -- B(m1 + g·r) − B(m1) from below, where B(m1) is at most e above its loss
        pub break-within : (e : ℕ) → loss_width sl u ≤ e
            → Within (2 ^ 40) (break_units A K σ e p g r) (break_width sl e u R w) (breakthrough n vp s saturation T m1 (γ *ᶠ ρ))
        unfolding breakthrough break_units
        break-within e l =
            let k : NonNegative (b vp T *ᶠ s) = NonNegative-up (≈→≥ eb) (ratio-NonNegative K double-unit-pos) in
            weaken
            (sub_within (B-mono n vp s saturation T k (+-grows m1 (within-NonNegative (omega arith) vapour-within))) risen-loss-within
            (widen (loss-within u1 u40 h load) l))
            (omega arith) (omega arith)
