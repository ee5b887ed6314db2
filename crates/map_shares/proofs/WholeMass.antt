-- The three road kinds share each mass out whole, and the diurnal mass outside towns as the times stand to one another.
use mathlib.Core.Path.{◌≡◌, refl, ap, ◌∙◌}
use mathlib.Core.Bool.{Bool, true, false}
use Prim.Native.Nat.{ℕ, suc, zero, ◌+◌, ◌*◌, ◌<◌}
use native.Mathlib.Nat.{mul-pos}
use native.Mathlib.Omega.{arith}
use Rattle.numbers.specs.Fraction.{Fraction, ◌≈ᶠ◌, ◌+ᶠ◌, ◌*ᶠ◌, whole, ◌over◌, ◌times◌}
use Rattle.numbers.proofs.Order.{≈-refl, ≈-sym, ≈-trans, +-cong, *-cong, idle}
use Rattle.map_shares.specs.declared.Travel.{Travel}
use Rattle.map_shares.specs.declared.Part.{Part}
use Rattle.map_shares.specs.Demands.{TravelIn}
use Rattle.map_shares.specs.Roads.{rural_time, highway_time, both_times, rest_parts, all_mileage, urban_road, rural_road, highway_road}
use Rattle.map_shares.specs.ExactShares.{exact_share}
use Rattle.map_shares.proofs.Ranges.{times-some, rest_some}

-- p·x/a
abbrev plain : Fraction → ℕ → (a : ℕ) → 0 < a → Fraction
plain x p a pos = record { up = p * x.up; down = p * x.down; den = x.den * a; pos = mul-pos x.pos pos }

share-is : (x : Fraction) (p a : ℕ) (pos : 0 < a) → exact_share x (record { part = p; all = a }) ≈ᶠ plain x p a pos
unfolding exact_share whole ◌over◌ ◌times◌
share-is x zero a pos = record { cross = rw (idle pos) (omega arith) }
share-is x (suc p) a pos = record { cross = rw (idle pos) (omega arith) }

plain-whole : (x : Fraction) (p q r a b c : ℕ) (A : 0 < a) (B : 0 < b) (C : 0 < c) → p * b * c + q * a * c + r * a * b ≡ a * b * c
    → plain x p a A +ᶠ plain x q b B +ᶠ plain x r c C ≈ᶠ x
unfolding ◌+ᶠ◌
plain-whole x p q r a b c A B C e = record { cross = rw (part x.up x.den, part x.down x.den) (omega arith) }
  where
    part : (u d : ℕ) → (p * u * (d * b) + q * u * (d * a)) * (d * c) + r * u * (d * a * (d * b)) ≡ u * (d * d * (a * b * c))
    part u d = regroup u d ∙ ap (λ (t : ℕ). u * (d * d * t)) e
      where
        regroup : (u d : ℕ) → (p * u * (d * b) + q * u * (d * a)) * (d * c) + r * u * (d * a * (d * b)) ≡ u *
            (d * d * (p * b * c + q * a * c + r * a * b))
        regroup u d = omega arith

plain-turned : (x : Fraction) (y z a : ℕ) (pos : 0 < a) → whole z *ᶠ plain x y a pos ≈ᶠ whole y *ᶠ plain x z a pos
unfolding whole ◌*ᶠ◌
plain-turned x y z a pos = record { cross = go x.up x.down x.den }
  where
    go : (u w d : ℕ) → (z * (y * u) + 0 * (y * w)) * (1 * (d * a)) + (y * (z * w) + 0 * (z * u)) * (1 * (d * a)) ≡
        (y * (z * u) + 0 * (z * w)) * (1 * (d * a)) + (z * (y * w) + 0 * (y * u)) * (1 * (d * a))
    go u w d = omega arith

-- three fractions that add up to 1 share a mass out whole
shares_whole : (x : Fraction) (p q r : Part) → 0 < p.all → 0 < q.all → 0 < r.all
    → p.part * q.all * r.all + q.part * p.all * r.all + r.part * p.all * q.all ≡ p.all * q.all * r.all
    → exact_share x p +ᶠ exact_share x q +ᶠ exact_share x r ≈ᶠ x
shares_whole x p q r A B C e =
    ≈-trans (+-cong (+-cong (share-is x p.part p.all A) (share-is x q.part q.all B)) (share-is x r.part r.all C))
    (plain-whole x p.part q.part r.part p.all q.all r.all A B C e)

-- two shares out of one whole, multiplied crosswise
ratio : (x : Fraction) (y z a : ℕ) → 0 < a → whole z *ᶠ exact_share x (record { part = y; all = a }) ≈ᶠ whole y *ᶠ
    exact_share x (record { part = z; all = a })
ratio x y z a pos =
    ≈-trans (*-cong (≈-refl _) (share-is x y a pos))
    (≈-trans (plain-turned x y z a pos) (*-cong (≈-refl _) (≈-sym (share-is x z a pos))))

module _ (t : Travel) (h : TravelIn t) (x : Fraction) where
  -- no running mass is lost, and none counts twice
  pub running-whole : exact_share x (urban_road t).running +ᶠ exact_share x (rural_road t).running +ᶠ exact_share x (highway_road t).running ≈ᶠ x
  unfolding urban_road rural_road highway_road
  running-whole =
      let some : 0 < all_mileage t = omega (arith, h.urban-mileage.least) in
      shares_whole x _ _ _ some some some (sums t.mileage.urban t.mileage.rural t.mileage.highway (all_mileage t) refl)
    where
      sums : (u r h a : ℕ) → a ≡ u + r + h → u * a * a + r * a * a + h * a * a ≡ a * a * a
      sums u r h a e = rw e (omega arith)

  -- nor soak mass
  pub soak-whole : exact_share x (urban_road t).soak +ᶠ exact_share x (rural_road t).soak +ᶠ exact_share x (highway_road t).soak ≈ᶠ x
  unfolding urban_road rural_road highway_road
  soak-whole = go t.town refl
    where
      go : (b : Bool) → t.town ≡ b → exact_share x (urban_road t).soak +ᶠ exact_share x (rural_road t).soak +ᶠ
          exact_share x (highway_road t).soak ≈ᶠ x
      go true e = shares_whole x _ _ _ (omega arith) (omega arith) (omega arith) (rw e (omega arith))
      go false e = shares_whole x _ _ _ (omega arith) (omega arith) (omega arith) (rw e (omega arith))

  -- nor diurnal mass
  pub diurnal-whole : exact_share x (urban_road t).diurnal +ᶠ exact_share x (rural_road t).diurnal +ᶠ exact_share x (highway_road t).diurnal ≈ᶠ x
  unfolding urban_road rural_road highway_road
  diurnal-whole = go t.town refl
    where
      some : 0 < both_times t
      some = times-some t h

      in-town : (y z : ℕ) → 11 * (12 * (y + z)) * (12 * (y + z)) + y * 12 * (12 * (y + z)) + z * 12 * (12 * (y + z)) ≡
          12 * (12 * (y + z)) * (12 * (y + z))
      in-town y z = omega arith

      elsewhere : (y z : ℕ) → 0 * (y + z) * (y + z) + y * 12 * (y + z) + z * 12 * (y + z) ≡ 12 * (y + z) * (y + z)
      elsewhere y z = omega arith

      go : (b : Bool) → t.town ≡ b → exact_share x (urban_road t).diurnal +ᶠ exact_share x (rural_road t).diurnal +ᶠ
          exact_share x (highway_road t).diurnal ≈ᶠ x
      go true e =
          let more : 0 < 12 * both_times t = omega (arith, times-some t h) in
          shares_whole x _ _ _ (omega arith) (rw e more) (rw e more) (rw e (in-town (rural_time t) (highway_time t)))
      go false e = shares_whole x _ _ _ (omega arith) (rw e some) (rw e some) (rw e (elsewhere (rural_time t) (highway_time t)))

  -- "rural to highway as rural mileage times highway speed stands to highway mileage times rural speed"
  pub diurnal-ratio : whole (t.mileage.highway * t.speed.rural) *ᶠ exact_share x (rural_road t).diurnal
      ≈ᶠ whole (t.mileage.rural * t.speed.highway) *ᶠ exact_share x (highway_road t).diurnal
  unfolding rural_road highway_road
  diurnal-ratio = ratio x (t.mileage.rural * t.speed.highway) (t.mileage.highway * t.speed.rural) (rest_parts t) (rest_some t h)
