-- The fractions of each road kind and the shares of a row lie in their ranges.
use mathlib.Core.Bool.{Bool, true, false, cond}
use Prim.Native.Nat.{ℕ, ◌+◌, ◌*◌, ◌-◌, ◌/◌, ◌^◌, ◌≤◌, ◌<◌}
use native.Mathlib.Nat.{mul-le-mul, mul-le-mul_left, mul-pos, div-mul-le_self, le-div_iff_mul-le, div-lt_iff_lt-mul}
use native.Mathlib.Omega.{arith}
use Rattle.map_cells.specs.Doubles.{mass_limit}
use Rattle.map_shares.specs.declared.Travel.{Travel}
use Rattle.map_shares.specs.declared.Part.{Part}
use Rattle.map_shares.specs.declared.Words.{Words}
use Rattle.map_shares.specs.Kinds.{Road}
use Rattle.map_shares.specs.Demands.{TravelIn, WordsIn}
use Rattle.map_shares.specs.Roads.{rural_time, highway_time, both_times, rest_parts, all_mileage, urban_road, rural_road, highway_road}
use Rattle.map_shares.specs.Shares.{share_down, share_up, low_shares, high_shares, road_shares}
use Rattle.map_shares.specs.Range.{parts_limit, PartIn, RoadIn, SharesIn}

-- a fraction up to 1 of x, cut up, is at most x
pub cut-up-below : (x part all : ℕ) → 0 < all → part ≤ all → (x * part + (all - 1)) / all ≤ x
cut-up-below x part all pos h =
    let q : (x * part + (all - 1)) / all < x + 1 = (div-lt_iff_lt-mul pos).1 (omega (arith, mul-le-mul_left x h)) in
    omega arith

-- a choice of two numbers that are both at most a bound
pick : (b : Bool) (x y all : ℕ) → 0 < all → x ≤ all → y ≤ all → all ≤ parts_limit → PartIn (record { part = cond b x y; all = all })
pick true x y all s p q l = record { some = s; within = p; small = l }
pick false x y all s p q l = record { some = s; within = q; small = l }

-- out of twelve times all, or out of all
rest_in : (b : Bool) (part all : ℕ) → 0 < all → part ≤ all → all ≤ 2 * 10 ^ 12 → PartIn (record { part = part; all = cond b (12 * all) all })
rest_in true part all s p l = record { some = omega arith; within = omega arith; small = omega arith }
rest_in false part all s p l = record { some = s; within = p; small = omega arith }

module _ (t : Travel) (h : TravelIn t) where
  pub times-some : 0 < both_times t
  times-some = omega (arith, mul-pos h.rural-mileage.least h.highway-speed.least, mul-pos h.highway-mileage.least h.rural-speed.least)

  pub rest_some : 0 < rest_parts t
  rest_some = go t.town
    where
      go : (b : Bool) → 0 < cond b (12 * both_times t) (both_times t)
      go true = omega (arith, times-some)
      go false = times-some

  times-most : both_times t ≤ 2 * 10 ^ 12
  times-most = omega (
    arith,
    mul-le-mul h.rural-mileage.most h.highway-speed.most,
    mul-le-mul h.highway-mileage.most h.rural-speed.most,
  )

  drive-in : (z : ℕ) → z ≤ all_mileage t → PartIn (record { part = z; all = all_mileage t })
  drive-in z l = record {
    some = omega (arith, h.urban-mileage.least);
    within = l;
    small = omega (arith, h.urban-mileage.most, h.rural-mileage.most, h.highway-mileage.most);
  }

  pub urban-in : RoadIn (urban_road t)
  unfolding urban_road
  urban-in = record {
    diurnal-in = pick t.town _ _ _ (omega arith) (omega arith) (omega arith) (omega arith);
    soak-in = pick t.town _ _ _ (omega arith) (omega arith) (omega arith) (omega arith);
    running-in = drive-in t.mileage.urban (omega arith);
  }

  pub rural-in : RoadIn (rural_road t)
  unfolding rural_road
  rural-in = record {
    diurnal-in = rest_in t.town (rural_time t) (both_times t) times-some (omega arith) times-most;
    soak-in = pick t.town _ _ _ (omega arith) (omega arith) (omega arith) (omega arith);
    running-in = drive-in t.mileage.rural (omega arith);
  }

  pub highway-in : RoadIn (highway_road t)
  unfolding highway_road
  highway-in = record {
    diurnal-in = rest_in t.town (highway_time t) (both_times t) times-some (omega arith) times-most;
    soak-in = record { some = omega arith; within = omega arith; small = omega arith };
    running-in = drive-in t.mileage.highway (omega arith);
  }

-- a share's low, cut down, is at most its high, cut up
share-order : (l h : ℕ) (p : Part) → PartIn p → l ≤ h → share_down l p ≤ share_up h p
share-order l h p i o =
    (le-div_iff_mul-le i.some).1
    (omega (arith, div-mul-le_self (l * p.part) p.all, mul-le-mul_left p.part o))

-- a share of a mass up to 2⁵³ is at most 2⁵³
share-limit : (h : ℕ) (p : Part) → PartIn p → h ≤ mass_limit → share_up h p ≤ mass_limit
share-limit h p i l = omega (arith, cut-up-below h p.part p.all i.some i.within)

pub shares-in : (w : Words) (k : Road) → WordsIn w → RoadIn k → SharesIn (road_shares w k)
unfolding road_shares low_shares high_shares
shares-in w k i j =
    let a = share-order w.diurnal.low w.diurnal.high k.diurnal j.diurnal-in i.diurnal-in.order in
    let b = share-order w.soak.low w.soak.high k.soak j.soak-in i.soak-in.order in
    let c = share-order w.running.low w.running.high k.running j.running-in i.running-in.order in
    record {
      order = omega (arith, a, b, c);
      diurnal-limit = share-limit w.diurnal.high k.diurnal j.diurnal-in i.diurnal-in.limit;
      soak-limit = share-limit w.soak.high k.soak j.soak-in i.soak-in.limit;
      running-limit = share-limit w.running.high k.running j.running-in i.running-in.limit;
    }
