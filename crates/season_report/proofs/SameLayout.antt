-- A report has the sums of a season's block over its own rows, and the block of the only season is the report.
use mathlib.Core.Bool.{Bool}
use mathlib.Core.List.{List}
use mathlib.Core.Path.{◌≡◌, refl, sym, ◌∙◌, ap}
use Prim.Native.Nat.{ℕ, suc, zero, ◌+◌, ◌*◌, ◌-◌, ◌/◌, ◌%◌, ◌≤◌, ◌<◌}
use native.Mathlib.Decide.{dec_le}
use native.Mathlib.Omega.{arith}
use lib.ListN.{length, get_or}
use lib.Seq.{ext_get_or}
use Rattle.numbers.specs.Lists.{tab, at}
use Rattle.numbers.proofs.Lists.{tab-length, get_d-tab, tab-ext}
use Rattle.sheet.specs.Bytes.{seasons_of, rows_of, seasons_from, season_list}
use Rattle.report_words.specs.Categories.{report_length, category}
use Rattle.report_words.specs.Report.{words_of, subtotal, grand_total, report}
use Rattle.report_words.proofs.ReportPlaces.{report-length, row-word-at, category-word-at, total-at}
use Rattle.report_sums.specs.Sums.{buffer_sum}
use Rattle.season_report.specs.Seasons.{season_word, sums_of, total_of, with_sums, season_report}
use Rattle.season_report.specs.Year.{LayoutTheorem, OneSeasonTheorem}
use Rattle.season_report.proofs.BlockSums.{sums_at}
use Rattle.season_report.proofs.SeasonsPromise.{with-length, row_word, category-word, total-word}

module _ (s : List ℕ) where
  -- the words of the report's rows
  abbrev rows : List ℕ
  rows = tab (at (report s)) (6 * rows_of s)

  -- summed
  sum_is : (f : ℕ → Bool) (n m : ℕ) → n ≤ rows_of s → m < 6 → buffer_sum s rows f n m ≡ subtotal s f n m
  unfolding buffer_sum subtotal
  sum_is f zero m l h = refl
  sum_is f (suc n) m l h =
      let word : at rows (6 * n + m) ≡ get_or (words_of s n) m 0 =
      get_d-tab (at (report s)) (6 * rows_of s) (6 * n + m) (omega arith) ∙ row-word-at s n m l h in
      cc (sum_is f n m (omega arith) h)

  all-rows : (m k : ℕ) → m < 6 → k ≡ 18 + m → at (sums_of s rows) k ≡ subtotal s (category 3) (rows_of s) m
  all-rows m k h e =
      let which : k / 6 ≡ 3 = omega arith in
      let word : k % 6 ≡ m = omega arith in
      sums_at s rows k (omega arith) ∙ rw (which, word) (sum_is (category 3) (rows_of s) m (omega arith) h)

  total-is : (m : ℕ) → m < 2 → total_of (sums_of s rows) m ≡ grand_total s m
  unfolding grand_total category
  total-is m h =
      rw (
        all-rows m (18 + m) (omega arith) refl,
        all-rows (2 + m) (20 + m) (omega arith) (omega arith),
        all-rows (4 + m) (22 + m) (omega arith) (omega arith),
      ) refl

  -- word k
  word-is : (k : ℕ) → k < 6 * rows_of s + 26 → at (report s) k ≡ at (with_sums s rows) k
  word-is k h =
      let long = tab-length (at (report s)) (6 * rows_of s) in
      elim (dec_le (6 * rows_of s) k) [
        | no in_rows ↦ sym (row_word s rows long k (omega arith) ∙ get_d-tab (at (report s)) (6 * rows_of s) k (omega arith))
        | yes past ↦
            elim (dec_le (6 * rows_of s + 24) k) [
              | no in-sums ↦
                  let c : ℕ = (k - 6 * rows_of s) / 6 in
                  let m : ℕ = (k - 6 * rows_of s) % 6 in
                  let place : k ≡ 6 * (rows_of s + c) + m = omega arith in
                  ap (at (report s)) place ∙ category-word-at s c m (omega arith) (omega arith) ∙
                  sym (category-word s rows long k c m (omega arith) (omega arith) place ∙
                  sum_is (category c) (rows_of s) m (omega arith) (omega arith))
              | yes in-totals ↦
                  let m : ℕ = k - (6 * rows_of s + 24) in
                  let place : k ≡ 6 * rows_of s + 24 + m = omega arith in
                  ap (at (report s)) place ∙ total-at s m (omega arith) ∙
                  sym (total-word s rows long k m (omega arith) place ∙ total-is m (omega arith))
            ]
      ]

pub same_layout : LayoutTheorem
unfolding report_length
same_layout s =
    let size : length (report s) ≡ 6 * rows_of s + 26 = report-length s in
    ext_get_or 0 (report s) (with_sums s (rows s)) (size ∙ sym (with-length s (rows s) (tab-length _ (6 * rows_of s))))
    (λ k h. word-is s k (rw size at h))

-- the only season
only : (s : List ℕ) (k : ℕ) → seasons_of s ≡ 1 → k < 6 * rows_of s → season_word s 0 k ≡ at (report s) k
unfolding season_word season_list seasons_from words_of
only s k one h =
    let place : k ≡ 6 * (k / 6) + k % 6 = omega arith in
    sym (ap (at (report s)) place ∙ row-word-at s (k / 6) (k % 6) (omega arith) (omega arith) ∙ rw one refl)

pub one-season : OneSeasonTheorem
unfolding season_report
one-season s one = ap (with_sums s) (tab-ext (6 * rows_of s) (λ k h. only s k one h)) ∙ sym (same_layout s)
