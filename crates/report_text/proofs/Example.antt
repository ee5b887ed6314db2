-- The example of document 01, from the 136 bytes of its sheet to the 108 bytes that are printed.
-- Assumes nothing.
use mathlib.Core.List.{List, [], ◌∷◌, ◌++◌}
use mathlib.Core.Path.{◌≡◌, refl, ◌∙◌, ap}
use Prim.Native.Nat.{ℕ, ◌≤◌}
use borrow.Author.Tests.{le-ltb}
use lib.ListN.{length, replicate}
use Rattle.numbers.specs.Lists.{tab}
use Rattle.exact.proofs.Open.{definitions}
use Rattle.refusals.specs.Check.{Check, Pass, refuse, ◌then◌, each}
use Rattle.sheet.specs.Versions.{seasons_start, rows_most}
use Rattle.sheet.specs.Bytes.{rows_of, counts_at, duration_counts, hour_counts, grid_counts, cells_of, season_from, season_at, season_list}
use Rattle.sheet.specs.Bytes.{equipment_at, fitted_canister, fitted_tank, canister_of, tank_of, row_from, row_at}
use Rattle.sheet.specs.Sheet.{outside, letters_missing, mark_check, numbers_check, head_check, length_check}
use Rattle.sheet.specs.RunningSums.{vehicles_before}
use Rattle.sheet.specs.Sheet.{parking_check, temperatures_wrong}
use Rattle.sheet.specs.RunningSums.{days_before}
use Rattle.sheet.specs.Sheet.{season_check, is_absent, code_wrong, percent_wrong, load_wrong, saturation_above, some_season, row_check, sheet_check}
use Rattle.masses.proofs.MassWidth.{no-vehicles}
use Rattle.report_words.specs.Report.{words_of, row_words}
use Rattle.report_words.specs.Categories.{report_length, car, light_duty, two_wheeler, any_class, counted}
use Rattle.report_words.specs.Report.{subtotal, subtotals, grand_total, report}
use Rattle.inventory.specs.ReportAnswers.{report_check}
use Rattle.text.specs.Ascii.{bytes}
use Rattle.text.specs.Lines.{report_lines}
use Rattle.text.proofs.Example.{zeros-printed}
use Rattle.report_text.specs.Text.{text_of, report_text}

-- "S = R = 1; first count of each list 1, the rest 0; days 1, both temperatures 100, vp 600; class 1, technology 0,
-- canister 255, all else 0"
abbrev pub sheet : List ℕ
sheet =
    (0x45 ∷ 0x56 ∷ 0x50 ∷ 1 ∷ 0 ∷ 1 ∷ 1 ∷ 0 ∷ []) ++ (1 ∷ replicate 47 0) ++ (1 ∷ replicate 47 0) ++
    (1 ∷ 0 ∷ 100 ∷ 0 ∷ 100 ∷ 0 ∷ 88 ∷ 2 ∷ []) ++
    (1 ∷ 0 ∷ 255 ∷ replicate 21 0)

abbrev pub lines : List ℕ
lines = bytes "EVP 1 rows 1\nrow 1 0 0 0 0 0 0\ncars 0 0 0 0 0 0\nlight 0 0 0 0 0 0\ntwo 0 0 0 0 0 0\nall 0 0 0 0 0 0\ntotal 0 0\n"

pub sheet-length : length sheet ≡ 136
sheet-length = refl

pub lines-length : length lines ≡ 108
lines-length = refl

-- Opens the definitions that read a sheet, and those that check it, so that antt computes with them.
unfoldable reading : ℕ
unfolding definitions rows_of rows_most seasons_start counts_at duration_counts hour_counts grid_counts season_from season_at
    equipment_at fitted_canister fitted_tank canister_of tank_of row_from row_at
reading = 0

unfoldable checking : ℕ
unfolding reading refuse ◌then◌ each outside letters_missing mark_check numbers_check head_check length_check parking_check
    days_before temperatures_wrong season_check
    is_absent code_wrong percent_wrong load_wrong saturation_above some_season vehicles_before row_check sheet_check
checking = 0

-- every condition of the table is computed
passes : sheet_check sheet ≡ Pass
unfolding checking
passes = refl

-- "A row without vehicles has six zeros."
six-zeros : words_of sheet 0 ≡ 0 ∷ 0 ∷ 0 ∷ 0 ∷ 0 ∷ 0 ∷ []
unfolding words_of reading
six-zeros = no-vehicles (cells_of sheet) (season_list sheet) (row_at sheet 0) refl

zeros : report sheet ≡ replicate 32 0
unfolding report row_words subtotals subtotal counted grand_total tab car light_duty two_wheeler any_class reading
zeros = rw six-zeros refl

-- 32 words are lent at least
room-there : (room : ℕ) → 32 ≤ room → report_check sheet room ≡ Pass
unfolding report_check report_length refuse ◌then◌ rows_of
room-there room h = rw (passes, le-ltb room 32 h)

pub example : (room : ℕ) → 32 ≤ room → report_text sheet room ≡ lines
unfolding report_text text_of rows_of
example room h = ap (λ (check : Check). text_of check sheet) (room-there room h) ∙ ap (report_lines 1 1) zeros ∙ zeros-printed
