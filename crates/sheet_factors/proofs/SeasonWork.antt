-- What a season and a row of an accepted sheet give to the calculation of their factors.
use mathlib.Core.List.{List}
use mathlib.Core.Path.{◌≡◌}
use Prim.Native.Nat.{ℕ, ◌≤◌, ◌<◌}
use native.Mathlib.Decide.{dec_le}
use native.Mathlib.Omega.{arith}
use Rattle.exact.specs.declared.Season.{Season}
use Rattle.exact.specs.declared.Row.{Row}
use Rattle.sheet.specs.Limits.{mileage_limit}
use Rattle.refusals.specs.Check.{Pass}
use Rattle.sheet.specs.Sheet.{sheet_check}
use Rattle.sheet.specs.Range.{halves}
use Rattle.sheet.specs.Versions.{version_of}
use Rattle.sheet.specs.Bytes.{seasons_of, rows_of, season_at, row_at}
use Rattle.sheet.proofs.Accepted.{Bytes, Accepted, accepted}
use Rattle.sheet.proofs.InRange.{row-in-range}
use Rattle.parking.specs.declared.season_list.SeasonList.{SeasonList}
use Rattle.parking.specs.SeasonList.{ListReady}
use Rattle.row_factors.specs.declared.season.Prepared.{Prepared}
use Rattle.row_factors.specs.Season.{rises_of, SeasonReady, RowReady}
use Rattle.row_factors.specs.Seven.{seven_units}
use Rattle.masses.specs.Use.{UseInRange}
use Rattle.sheet_factors.specs.Ready.{SeasonOf}

-- the shares and trips of row i
pub use-in-range : {s : List ℕ} → Accepted s → {i : ℕ} → i < rows_of s → UseInRange (row_at s i)
use-in-range a {i} there =
    let r = a.row i there in
    record { carburettor-most = r.carburettor-most; hot-most = r.hot-most; trips-most = r.trips-most }

-- its mileage, of which there is none before version 3
pub mileage-within : {s : List ℕ} → Accepted s → {i : ℕ} → i < rows_of s → (row_at s i).mileage ≤ mileage_limit
mileage-within {s} a {i} there =
    let r = a.row i there in
    elim (dec_le 3 (version_of s)) [ yes new ↦ (r.mileage new).0 | no old ↦ omega (arith, r.no-mileage (omega arith)) ]

-- season j of the sheet, made ready for its rows
pub season-of : {s counts : List ℕ} {made : Prepared} {j : ℕ} → Bytes s → sheet_check s ≡ Pass → made.at.season ≡ season_at s j
    → SeasonReady counts made.at → made.rises ≡ rises_of made.at.season → j < seasons_of s → SeasonOf s counts j made
season-of {s} bytes passes e ready rises there = record {
  season-is = e;
  ready = ready;
  rises-are = rises;
  rows_in = λ i row. rw e (row-in-range bytes (accepted s passes) row there);
}

-- so row i is ready, with the list of its parkings
pub row-ready : {s counts : List ℕ} {made : Prepared} {list : SeasonList} {row : Row} {j i : ℕ} → SeasonOf s counts j made
    → (0 < halves row.canister → ListReady counts made.rises list) → i < rows_of s → row ≡ row_at s i → RowReady counts list made.at.season row
row-ready o listed there e = record {
  row_in = rw e (o.rows_in _ there);
  list-ready = λ some. rw o.rises-are at (listed some);
}

-- equal seasons, rows and cells have equal factors
pub alike : {x y : Season} {r t : Row} {cells counts : List ℕ} → x ≡ y → r ≡ t → cells ≡ counts → seven_units x r cells ≡ seven_units y t counts
alike e f g = rw (e, f, g)
