-- A road kind's shares, cut down and cut up, enclose its exact shares.
use Prim.Native.Nat.{ℕ, suc, zero, ◌+◌, ◌*◌, ◌-◌, ◌≤◌, ◌<◌}
use native.Mathlib.Nat.{div-mul-le_self, lt-div-mul-add}
use native.Mathlib.Omega.{arith}
use Rattle.numbers.specs.Fraction.{Fraction, ◌≤ᶠ◌, ◌≈ᶠ◌, ◌+ᶠ◌, whole, ◌over◌, ◌times◌}
use Rattle.numbers.proofs.Order.{≤_trans, ≈→≤, ≈→≥, +-mono, times-mono, over-mono, idle}
use Rattle.map_shares.specs.declared.Part.{Part}
use Rattle.map_shares.specs.declared.Words.{Words}
use Rattle.map_shares.specs.Kinds.{Road}
use Rattle.map_shares.specs.Shares.{share_down, share_up, low_shares, high_shares, total}
use Rattle.map_shares.specs.ExactShares.{ExactMasses, InWords, exact_share, exact_sum}
use Rattle.map_shares.specs.Range.{PartIn, RoadIn}

-- (part·l)/all as a fraction, against a whole number
low-fraction : (q l part all : ℕ) → 0 < all → q * all ≤ part * l → whole q ≤ᶠ part times whole l over all
unfolding whole ◌over◌ ◌times◌
low-fraction q l zero all pos h = record { cross = rw (idle pos) (omega arith) }
low-fraction q l (suc part) all pos h = record { cross = rw (idle pos) (omega arith) }

high-fraction : (q l part all : ℕ) → 0 < all → part * l ≤ q * all → part times whole l over all ≤ᶠ whole q
unfolding whole ◌over◌ ◌times◌
high-fraction q l zero all pos h = record { cross = rw (idle pos) (omega arith) }
high-fraction q l (suc part) all pos h = record { cross = rw (idle pos) (omega arith) }

-- a share lies between its low, cut down, and its high, cut up
share-above : (l : ℕ) (x : Fraction) (p : Part) → PartIn p → whole l ≤ᶠ x → whole (share_down l p) ≤ᶠ exact_share x p
unfolding exact_share
share-above l x p i h =
    ≤_trans (low-fraction _ l p.part p.all i.some (omega (arith, div-mul-le_self (l * p.part) p.all)))
    (over-mono p.all (times-mono p.part h))

share-below : (u : ℕ) (x : Fraction) (p : Part) → PartIn p → x ≤ᶠ whole u → exact_share x p ≤ᶠ whole (share_up u p)
unfolding exact_share
share-below u x p i h =
    ≤_trans (over-mono p.all (times-mono p.part h))
    (high-fraction _ u p.part p.all i.some (omega (arith, i.some, lt-div-mul-add {a = u * p.part + (p.all - 1)} i.some)))

-- whole numbers added
whole_sum : (a b c : ℕ) → whole a +ᶠ whole b +ᶠ whole c ≈ᶠ whole (a + b + c)
unfolding whole ◌+ᶠ◌
whole_sum a b c = omega arith

module _ (w : Words) (k : Road) (j : RoadIn k) (x : ExactMasses) (h : InWords w x) where
  pub sum-above : whole (total (low_shares w k)) ≤ᶠ exact_sum x k
  unfolding low_shares exact_sum
  sum-above =
      ≤_trans (≈→≥ (whole_sum _ _ _))
      (+-mono (+-mono (share-above _ x.diurnal k.diurnal j.diurnal-in h.diurnal-in.above)
      (share-above _ x.soak k.soak j.soak-in h.soak-in.above))
      (share-above _ x.running k.running j.running-in h.running-in.above))

  pub sum_below : exact_sum x k ≤ᶠ whole (total (high_shares w k))
  unfolding high_shares exact_sum
  sum_below =
      ≤_trans
      (+-mono (+-mono (share-below _ x.diurnal k.diurnal j.diurnal-in h.diurnal-in.below)
      (share-below _ x.soak k.soak j.soak-in h.soak-in.below))
      (share-below _ x.running k.running j.running-in h.running-in.below))
      (≈→≤ (whole_sum _ _ _))
