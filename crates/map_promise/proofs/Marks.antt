-- The cells of a row of an accepted sheet hold its exact shares.
use Rattle.std.proofs.Common.{Ok}
use mathlib.Core.List.{List}
use mathlib.Core.Path.{refl, sym}
use Prim.Native.Nat.{ℕ, ◌≤◌}
use Rattle.report_words.specs.Promise.{RowPromise}
use Rattle.map_shares.specs.ExactShares.{InWords}
use Rattle.map_rows.proofs.Promised.{promised}
use Rattle.map_promise.specs.Marker.{row_words, exact_masses, MarkedTheorem}

-- each exact mass lies in its two words
in_words : {s words : List ℕ} {i : ℕ} → RowPromise s words i → (n : ℕ) → 40 ≤ n → InWords (row_words words i) (exact_masses n s i)
in_words p n h = record {
  diurnal-in = record { above = p.diurnal-band.above n h; below = p.diurnal-band.below n h };
  soak-in = record { above = p.soak-band.above n h; below = p.soak-band.below n h };
  running-in = record { above = p.running-band.above n h; below = p.running-band.below n h };
}

pub marked : MarkedTheorem
marked s old words r a z i row t v e =
    let p = in_words ((a.promise z).each_row i row) in
    let c = (promised (row_words words i) t (Ok v) (sym e)).cells v refl in
    record {
      urban = λ n h. c.urban.holds (exact_masses n s i) (p n h);
      rural = λ n h. c.rural.holds (exact_masses n s i) (p n h);
      highway = λ n h. c.highway.holds (exact_masses n s i) (p n h);
    }
