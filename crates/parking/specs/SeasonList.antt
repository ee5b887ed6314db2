-- Need not be believed: the list of a season's parkings that the program adds up for a row with a canister.
use Rattle.std.specs.Prelude.{false, List, ◌≡◌, ◌≢◌, ◌⊎◌, ℕ, ◌*◌, ◌^◌, ◌≤◌, ◌<◌, get_or}
use Rattle.numbers.specs.Lists.{at, sum}
use Rattle.numbers.specs.Bounded.{AllAtMost}
use Rattle.parking.specs.Grid.{apart_of}
use Rattle.parking.specs.declared.season_list.Entry.{Entry}
use Rattle.parking.specs.declared.season_list.Kind.{Kind}
use Rattle.parking.specs.declared.season_list.SeasonList.{SeasonList}

-- what the first n cells give, of a value by the start's distance from 14:00 and by the rise
abbrev pub by_cell : List ℕ → List ℕ → (ℕ → ℕ → ℕ) → ℕ → ℕ
by_cell cells rises f n = sum (λ (cell : ℕ). at cells cell * f (apart_of false cell) (at rises cell)) n

-- an entry, and the one that stands for none
abbrev pub none : Entry
none = record { kind = record { start = 0; rise = 0 }; count = 0 }

abbrev pub entry_at : List Entry → ℕ → Entry
entry_at entries k = get_or entries k none

-- a place of a kind: an entry of that kind, or the one behind the last
abbrev pub IsPlace : List Entry → Kind → ℕ → ℕ → ℕ → Type 0
IsPlace entries kind entry length place = ((place ≡ entry) × ((entry_at entries entry).kind ≡ kind)) ⊎ (place ≡ length)

-- the one place of a kind that the program takes: the entry that is looked at where it is of that kind, and only where it is of another the one
-- behind the last
abbrev pub IsOnlyPlace : List Entry → Kind → ℕ → ℕ → ℕ → Type 0
IsOnlyPlace entries kind entry length place =
    ((place ≡ entry) × ((entry_at entries entry).kind ≡ kind)) ⊎ ((place ≡ length) × ((entry_at entries entry).kind ≢ kind))

-- what an entry gives
abbrev pub part : (ℕ → ℕ → ℕ) → List Entry → ℕ → ℕ
part f entries k = (entry_at entries k).count * f (entry_at entries k).kind.start (entry_at entries k).kind.rise

-- what those of a list give
abbrev pub by_entry : SeasonList → (ℕ → ℕ → ℕ) → ℕ
by_entry list f = sum (part f list.entries) list.length

-- how large its values are
pub record ListFits (bound : ℕ) (list : SeasonList) : Type 0 where
  pub length-most : list.length ≤ 576
  pub starts-below : (k : ℕ) → k < 576 → (entry_at list.entries k).kind.start < 25
  pub rises-most : (k : ℕ) → k < 576 → (entry_at list.entries k).kind.rise ≤ bound
  pub counts-most : sum (λ (k : ℕ). (entry_at list.entries k).count) list.length ≤ 10 ^ 6

-- For every value by start and rise that is 0 where the rise is, the entries give what the cells give.
pub record ListReady (cells rises : List ℕ) (list : SeasonList) : Type 0 where
  pub fits : (bound : ℕ) → AllAtMost bound rises → ListFits bound list
  pub sum_is : (f : ℕ → ℕ → ℕ) → ((start : ℕ) → start < 25 → f start 0 ≡ 0) → by_entry list f ≡ by_cell cells rises f 576

-- an entry is of cells that count something and whose parkings rise
abbrev pub Breathes : Entry → Type 0
Breathes entry = (0 < entry.count) × (0 < entry.kind.rise)

-- So is each entry of the list that the program makes: cells without rise or with a count of 0 are no entries. The factors of a row ask for
-- `ListReady` alone.
pub record ListBreathes (cells rises : List ℕ) (list : SeasonList) : Type 0 where
  pub ready : ListReady cells rises list
  pub each : (k : ℕ) → k < list.length → Breathes (entry_at list.entries k)
