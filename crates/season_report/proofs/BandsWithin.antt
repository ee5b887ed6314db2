-- The band of the year lies within the sums of the seasons' bands, word by word: rounded once, a sum is no lower than its parts rounded down
-- and no higher than its parts rounded up.
use mathlib.Core.Bool.{Bool, true, false}
use mathlib.Core.List.{List}
use mathlib.Core.Path.{◌≡◌, refl, sym, ◌∙◌, ap}
use Prim.Native.Nat.{ℕ, suc, zero, ◌+◌, ◌*◌, ◌-◌, ◌/◌, ◌%◌, ◌^◌, ◌≤◌, ◌<◌}
use native.Mathlib.Decide.{dec_le}
use native.Mathlib.Omega.{arith}
use lib.ListN.{get_or}
use Rattle.numbers.specs.Lists.{tab, at, sum}
use Rattle.numbers.proofs.Lists.{tab-length, get_d-tab, sum-le, sum-ext}
use Rattle.sheet.specs.Bytes.{seasons_of, rows_of, row_at}
use Rattle.report_words.specs.Categories.{report_length, counted, category}
use Rattle.report_words.specs.Report.{words_of, subtotal, grand_total, report}
use Rattle.report_words.specs.Years.{season_figure}
use Rattle.report_words.proofs.ReportPlaces.{row-word-at, category-word-at, total-at}
use Rattle.report_words.proofs.YearWords.{word-from-year}
use Rattle.report_sums.specs.Sums.{buffer_sum}
use Rattle.season_report.specs.Seasons.{season_word, sums_of, total_of, season_report}
use Rattle.season_report.specs.Year.{seasons_sum, BandTheorem}
use Rattle.season_report.proofs.BlockSums.{sums_at}
use Rattle.season_report.proofs.SeasonBlocks.{word-from-season}
use Rattle.season_report.proofs.SeasonsPromise.{row_word, category-word, total-word}

-- of lows, 0, the seasons' sum is at most the year's; of highs, 1, the year's at most the seasons' sum
record Within (side seasons year : ℕ) : Type 0 where
  low : side ≡ 0 → seasons ≤ year
  high : 0 < side → year ≤ seasons

-- it holds of 0, of sums, and of what counts or not
within-zero : (p : ℕ) → Within p 0 0
within-zero p = record { low = λ e. omega arith; high = λ g. omega arith }

within-add : {p a b c d : ℕ} → Within p a b → Within p c d → Within p (a + c) (b + d)
within-add h l = record { low = λ e. omega (arith, h.low e, l.low e); high = λ g. omega (arith, h.high g, l.high g) }

within-counted : {p : ℕ} (b : Bool) {x y : ℕ} → Within p x y → Within p (counted b x) (counted b y)
unfolding counted
within-counted true h = h
within-counted {p} false h = within-zero p

-- Sums over the seasons. std has no law for a sum of two functions.
sum-plus : (f g : ℕ → ℕ) (n : ℕ) → sum (λ (j : ℕ). f j + g j) n ≡ sum f n + sum g n
unfolding sum
sum-plus f g zero = refl
sum-plus f g (suc n) = omega (arith, sum-plus f g n)

sum-counted : (b : Bool) (f : ℕ → ℕ) (n : ℕ) → sum (λ (j : ℕ). counted b (f j)) n ≡ counted b (sum f n)
unfolding sum counted
sum-counted true f n = refl
sum-counted false f zero = refl
sum-counted false f (suc n) = omega (arith, sum-counted false f n)

-- parts rounded down one by one, and their sum rounded down once
lows : (f : ℕ → ℕ) (v n : ℕ) → sum (λ (j : ℕ). (f j * v + 0 * (10 ^ 9 - 1)) / 10 ^ 9) n ≤ (sum f n * v + 0 * (10 ^ 9 - 1)) / 10 ^ 9
unfolding sum
lows f v zero = omega arith
lows f v (suc n) = omega (arith, lows f v n)

-- and rounded up
highs : (f : ℕ → ℕ) (v n : ℕ) → (sum f n * v + 1 * (10 ^ 9 - 1)) / 10 ^ 9 ≤ sum (λ (j : ℕ). (f j * v + 1 * (10 ^ 9 - 1)) / 10 ^ 9) n
unfolding sum
highs f v zero = omega arith
highs f v (suc n) = omega (arith, highs f v n)

-- on either side
rounding : (p : ℕ) (f : ℕ → ℕ) (v n : ℕ) → p < 2
    → Within p (sum (λ (j : ℕ). (f j * v + p * (10 ^ 9 - 1)) / 10 ^ 9) n) ((sum f n * v + p * (10 ^ 9 - 1)) / 10 ^ 9)
rounding p f v n l = record { low = λ e. rw e (lows f v n); high = λ g. let one : p ≡ 1 = omega arith in rw one (highs f v n) }

-- nothing added up
nothing : (n : ℕ) → sum (λ (j : ℕ). 0) n ≡ 0
nothing n = omega (arith, sum-le (λ (j : ℕ). 0) 0 n (λ k l. omega arith))

module _ (s : List ℕ) where
  -- the rows' words of season j
  abbrev rows : ℕ → List ℕ
  rows j = tab (season_word s j) (6 * rows_of s)

  -- a word of the rows
  rows-within : (k : ℕ) → k < 6 * rows_of s → Within (k % 2) (sum (λ (j : ℕ). at (rows j) k) (seasons_of s)) (at (report s) k)
  unfolding season_word
  rows-within k h =
      let i : ℕ = k / 6 in
      let m : ℕ = k % 6 in
      let parity : k % 2 ≡ k % 6 % 2 = omega arith in
      let place : k ≡ 6 * (k / 6) + k % 6 = omega arith in
      let each : sum (λ (j : ℕ). at (rows j) k) (seasons_of s)
      ≡ sum (λ (j : ℕ). (season_figure s i m j * (row_at s i).vehicles + m % 2 * (10 ^ 9 - 1)) / 10 ^ 9) (seasons_of s) =
      sum-ext (seasons_of s) (λ j l. get_d-tab (season_word s j) (6 * rows_of s) k h ∙ sym (word-from-season s j i m (omega arith))) in
      let year : at (report s) k ≡ (sum (season_figure s i m) (seasons_of s) * (row_at s i).vehicles + m % 2 * (10 ^ 9 - 1)) / 10 ^ 9 =
      ap (at (report s)) place ∙ row-word-at s i m (omega arith) (omega arith) ∙ sym (word-from-year s i m (omega arith)) in
      rw (each, year, parity) (rounding (m % 2) (season_figure s i m) (row_at s i).vehicles (seasons_of s) (omega arith))

  -- a word of a category, over the first n rows
  sums-within : (f : ℕ → Bool) (n m : ℕ) → n ≤ rows_of s → m < 6
      → Within (m % 2) (sum (λ (j : ℕ). buffer_sum s (rows j) f n m) (seasons_of s)) (subtotal s f n m)
  unfolding buffer_sum subtotal
  sums-within f zero m l h = rw (nothing (seasons_of s)) (within-zero (m % 2))
  sums-within f (suc n) m l h =
      let b : Bool = f (row_at s n).class in
      let parity : (6 * n + m) % 2 ≡ m % 2 = omega arith in
      let row : Within (m % 2) (sum (λ (j : ℕ). at (rows j) (6 * n + m)) (seasons_of s)) (get_or (words_of s n) m 0) =
      rw (parity, row-word-at s n m l h) at (rows-within (6 * n + m) (omega arith)) in
      rw (
        sum-plus (λ (j : ℕ). buffer_sum s (rows j) f n m) (λ (j : ℕ). counted b (at (rows j) (6 * n + m))) (seasons_of s),
        sum-counted b (λ (j : ℕ). at (rows j) (6 * n + m)) (seasons_of s),
      )
      (within-add (sums-within f n m (omega arith) h) (within-counted b row))

  -- the words for all rows among the subtotals of a season
  all-rows : (j m k : ℕ) → m < 6 → k ≡ 18 + m → at (sums_of s (rows j)) k ≡ buffer_sum s (rows j) (category 3) (rows_of s) m
  all-rows j m k h e =
      let which : k / 6 ≡ 3 = omega arith in
      let word : k % 6 ≡ m = omega arith in
      sums_at s (rows j) k (omega arith) ∙ rw (which, word) refl

  -- the grand total
  totals-within : (m : ℕ) → m < 2 → Within (m % 2) (sum (λ (j : ℕ). total_of (sums_of s (rows j)) m) (seasons_of s)) (grand_total s m)
  unfolding grand_total category
  totals-within m h =
      let word : ℕ → ℕ → ℕ = λ t j. buffer_sum s (rows j) (category 3) (rows_of s) t in
      let each : sum (λ (j : ℕ). total_of (sums_of s (rows j)) m) (seasons_of s)
      ≡ sum (λ (j : ℕ). word m j + word (2 + m) j + word (4 + m) j) (seasons_of s) =
      sum-ext (seasons_of s) (λ j l.
      rw (
        all-rows j m (18 + m) (omega arith) refl,
        all-rows j (2 + m) (20 + m) (omega arith) (omega arith),
        all-rows j (4 + m) (22 + m) (omega arith) (omega arith),
      ) refl) in
      let second : (2 + m) % 2 ≡ m % 2 = omega arith in
      let third : (4 + m) % 2 ≡ m % 2 = omega arith in
      rw (each, sum-plus (λ (j : ℕ). word m j + word (2 + m) j) (word (4 + m)) (seasons_of s), sum-plus (word m) (word (2 + m)) (seasons_of s))
      (within-add
      (within-add (sums-within (category 3) (rows_of s) m (omega arith) (omega arith))
      (rw second at (sums-within (category 3) (rows_of s) (2 + m) (omega arith) (omega arith))))
      (rw third at (sums-within (category 3) (rows_of s) (4 + m) (omega arith) (omega arith))))

  -- every word of a report
  words-within : (k : ℕ) → k < 6 * rows_of s + 26 → Within (k % 2) (seasons_sum s k) (at (report s) k)
  unfolding season_report
  words-within k h =
      elim (dec_le (6 * rows_of s) k) [
        | no in_rows ↦
            rw (sum-ext (seasons_of s) (λ j l. row_word s (rows j) (tab-length _ (6 * rows_of s)) k (omega arith))) (rows-within k (omega arith))
        | yes past ↦
            elim (dec_le (6 * rows_of s + 24) k) [
              | no in-sums ↦
                  let c : ℕ = (k - 6 * rows_of s) / 6 in
                  let m : ℕ = (k - 6 * rows_of s) % 6 in
                  let place : k ≡ 6 * (rows_of s + c) + m = omega arith in
                  let parity : k % 2 ≡ m % 2 = omega arith in
                  let year : at (report s) k ≡ subtotal s (category c) (rows_of s) m =
                  ap (at (report s)) place ∙ category-word-at s c m (omega arith) (omega arith) in
                  rw (
                    sum-ext (seasons_of s) (λ j l. category-word s (rows j) (tab-length _ (6 * rows_of s)) k c m (omega arith) (omega arith) place),
                    year,
                    parity,
                  )
                  (sums-within (category c) (rows_of s) m (omega arith) (omega arith))
              | yes in-totals ↦
                  let m : ℕ = k - (6 * rows_of s + 24) in
                  let place : k ≡ 6 * rows_of s + 24 + m = omega arith in
                  let parity : k % 2 ≡ m % 2 = omega arith in
                  let year : at (report s) k ≡ grand_total s m = ap (at (report s)) place ∙ total-at s m (omega arith) in
                  rw (sum-ext (seasons_of s) (λ j l. total-word s (rows j) (tab-length _ (6 * rows_of s)) k m (omega arith) place), year, parity)
                  (totals-within m (omega arith))
            ]
      ]

pub bands-within : BandTheorem
unfolding report_length
bands-within s m h = ((words-within s (2 * m) (omega arith)).low (omega arith), (words-within s (2 * m + 1) (omega arith)).high (omega arith))
