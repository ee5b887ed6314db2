-- The call for the report of each season: where each block stands, and what is promised of the buffer.
use mathlib.Core.List.{List, [], ◌∷◌, ◌++◌}
use mathlib.Core.Path.{◌≡◌, refl, sym, ◌∙◌, ap}
use Prim.Native.Nat.{ℕ, suc, zero, ◌+◌, ◌*◌, ◌/◌, ◌%◌, ◌<◌}
use native.Mathlib.Nat.{mul-le-mul_left}
use native.Mathlib.Omega.{arith}
use lib.ListN.{length, get_or, drop, length-append, get_or-append}
use lib.Seq.{get_or-drop}
use Rattle.std.specs.Fork.{slice_chunk}
use Rattle.numbers.specs.Lists.{tab, at}
use Rattle.numbers.proofs.Lists.{tab-length, past}
use Rattle.blocks.specs.Blocks.{blocks}
use Rattle.blocks.proofs.Blocks.{blocks-length, blocks_at}
use Rattle.blocks.proofs.Parts.{blocks-made}
use Rattle.exact.specs.Masses.{diurnal, soak, running}
use Rattle.refusals.specs.Check.{Check, Pass}
use Rattle.sheet.specs.Bytes.{seasons_of, rows_of, cells_of, row_at}
use Rattle.sheet.proofs.Accepted.{Bytes, Accepted, accepted}
use Rattle.masses.specs.Figures.{row_figures}
use Rattle.masses.proofs.MassWidth.{mass-band, no-vehicles}
use Rattle.sheet_factors.proofs.AcceptedRange.{row-shares, enclosed}
use Rattle.report_words.specs.Categories.{report_length, category}
use Rattle.report_words.specs.Promise.{rows_sum, category_word}
use Rattle.report_words.proofs.Promised.{zeros, summed, grand, sums-hold}
use Rattle.report_sums.specs.Sums.{buffer_sum}
use Rattle.inventory.specs.ReportCall.{written}
use Rattle.inventory.proofs.CallConditions.{room-says, room-accepted}
use Rattle.inventory.proofs.Written.{written-first}
use Rattle.season_report.specs.Seasons.{alone, season_word, sums_of, total_of, with_sums, season_report, report_seasons}
use Rattle.season_report.specs.Seasons.{seasons_length, seasons_check, SeasonRowPromise, SeasonPromise, SeasonsCall}
use Rattle.season_report.proofs.BlockSums.{sums-length, sums_at, front, subtotal_at}
use Rattle.season_report.proofs.SeasonBlocks.{season-word-at}

-- Where the words of a block stand.
module _ (s rows : List ℕ) (long : length rows ≡ 6 * rows_of s) where
  pub with-length : length (with_sums s rows) ≡ 6 * rows_of s + 26
  unfolding with_sums
  with-length = simp length-append (omega (arith, sums-length s rows))

  pub row_word : (k : ℕ) → k < 6 * rows_of s → at (with_sums s rows) k ≡ at rows k
  unfolding with_sums
  row_word k h =
      get_or-append (rows ++ sums_of s rows) _ 0 k (omega (arith, front s rows long)) ∙
      get_or-append rows (sums_of s rows) 0 k (omega arith)

  pub sum-word : (k m : ℕ) → m < 24 → k ≡ 6 * rows_of s + m → at (with_sums s rows) k ≡ at (sums_of s rows) m
  unfolding with_sums
  sum-word k m h e = subtotal_at s rows long _ k m h e

  pub total-word : (k j : ℕ) → j < 2 → k ≡ 6 * rows_of s + 24 + j → at (with_sums s rows) k ≡ total_of (sums_of s rows) j
  unfolding with_sums
  total-word k j h e = past (rows ++ sums_of s rows) _ (6 * rows_of s + 24) j k (front s rows long) e ∙ two j h
    where
      two : (j : ℕ) → j < 2 → get_or (total_of (sums_of s rows) 0 ∷ total_of (sums_of s rows) 1 ∷ []) j 0 ≡ total_of (sums_of s rows) j
      two zero l = refl
      two (suc zero) l = refl
      two (suc (suc j)) l = absurd (omega arith)

  -- a category's word
  pub category-word : (k c j : ℕ) → c < 4 → j < 6 → k ≡ 6 * (rows_of s + c) + j
      → at (with_sums s rows) k ≡ buffer_sum s rows (category c) (rows_of s) j
  category-word k c j h l e =
      let which : (6 * c + j) / 6 ≡ c = omega arith in
      let word : (6 * c + j) % 6 ≡ j = omega arith in
      sum-word k (6 * c + j) (omega arith) (omega arith) ∙ sums_at s rows (6 * c + j) (omega arith) ∙ rw (which, word) refl

-- a block of so many words
pub block-length : (s : List ℕ) (j : ℕ) → length (season_report s j) ≡ 6 * rows_of s + 26
unfolding season_report
block-length s j = with-length s (tab (season_word s j) (6 * rows_of s)) (tab-length _ (6 * rows_of s))

-- a buffer whose parts are the blocks, and beyond them as it was
pub all-filled : (s old words : List ℕ) → ((j : ℕ) → j < seasons_of s → slice_chunk words (6 * rows_of s + 26) j ≡ season_report s j)
    → drop (seasons_of s * (6 * rows_of s + 26)) words ≡ drop (seasons_of s * (6 * rows_of s + 26)) old
    → words ≡ written Pass (report_seasons s) old
unfolding written report_seasons
all-filled s old words seasons beyond =
    let long = blocks-length (season_report s) (6 * rows_of s + 26) (block-length s) (seasons_of s) in
    blocks-made (6 * rows_of s + 26) words (season_report s) (seasons_of s) old seasons beyond ∙
    ap (λ (k : ℕ). blocks (season_report s) (seasons_of s) ++ drop k old) (sym long)

-- word k of season j
seasons-at : (s : List ℕ) (j k : ℕ) → j < seasons_of s → k < 6 * rows_of s + 26
    → at (report_seasons s) ((6 * rows_of s + 26) * j + k) ≡ at (season_report s j) k
unfolding report_seasons
seasons-at s j k h l = blocks_at (season_report s) (6 * rows_of s + 26) (block-length s) (seasons_of s) j k h l

-- A buffer whose first words are those of a season's block.
module _ {s : List ℕ} (bytes : Bytes s) (a : Accepted s) (j : ℕ) (there : j < seasons_of s) (words : List ℕ)
    (holds : (k : ℕ) → k < 6 * rows_of s + 26 → at words k ≡ at (season_report s j) k) where
  -- word m of row i
  row-at : (i m : ℕ) → i < rows_of s → m < 6 → at words (6 * i + m) ≡ at (row_figures (cells_of s) (alone s j) (row_at s i)) m
  unfolding season_report
  row-at i m row h =
      holds (6 * i + m) (omega arith) ∙
      row_word s (tab (season_word s j) (6 * rows_of s)) (tab-length _ (6 * rows_of s)) (6 * i + m) (omega arith) ∙
      season-word-at bytes a j there i m row h

  row-promise : (i : ℕ) → i < rows_of s → SeasonRowPromise s j words i
  unfolding row_figures
  row-promise i row =
      let band = mass-band (cells_of s) (row-shares (a.row i row)) (alone s j) (enclosed bytes a row there, tt) in
      let first : at words (6 * i) ≡ at (row_figures (cells_of s) (alone s j) (row_at s i)) 0 =
      ap (at words) {x = 6 * i} {y = 6 * i + 0} (omega arith) ∙ row-at i 0 row (omega arith) in
      record {
        diurnal-band = rw (first, row-at i 1 row (omega arith)) (band diurnal);
        soak-band = rw (row-at i 2 row (omega arith), row-at i 3 row (omega arith)) (band soak);
        running-band = rw (row-at i 4 row (omega arith), row-at i 5 row (omega arith)) (band running);
        no-vehicles = λ none m l. row-at i m row l ∙ zeros (no-vehicles (cells_of s) (alone s j) (row_at s i) none) m;
      }

  abbrev rows : List ℕ
  rows = tab (season_word s j) (6 * rows_of s)

  -- a word of the buffer's rows is that of the block
  same_row : (i m : ℕ) → i < rows_of s → m < 6 → at words (6 * i + m) ≡ at rows (6 * i + m)
  same_row i m row h = row-at i m row h ∙ sym (season-word-at bytes a j there i m row h)

  -- so the words of a category are sums of the buffer's words
  category-sum : (c m : ℕ) → c < 4 → m < 6 → category_word s words c m ≡ rows_sum s words (category c) m
  unfolding season_report buffer_sum
  category-sum c m l h =
      holds (6 * (rows_of s + c) + m) (omega arith) ∙
      category-word s rows (tab-length _ (6 * rows_of s)) (6 * (rows_of s + c) + m) c m l h refl ∙
      summed s words (category c) m (λ (n : ℕ). buffer_sum s rows (category c) n m) (λ (i : ℕ). at rows (6 * i + m)) refl (λ _. refl)
      (rows_of s) (λ i row. same_row i m row h)

  -- the six words for all rows
  abbrev all : ℕ → ℕ
  all m = at (sums_of s rows) (18 + m)

  whole_word : (m : ℕ) → m < 6 → category_word s words 3 m ≡ all m
  unfolding season_report
  whole_word m h =
      holds (6 * (rows_of s + 3) + m) (omega arith) ∙
      sum-word s rows (tab-length _ (6 * rows_of s)) (6 * (rows_of s + 3) + m) (18 + m) (omega arith) (omega arith)

  -- the grand total
  grand-word : (m : ℕ) → m < 2 → category_word s words 4 m ≡ all m + all (2 + m) + all (4 + m)
  unfolding season_report
  grand-word m h =
      let second : 18 + (2 + m) ≡ 20 + m = omega arith in
      let third : 18 + (4 + m) ≡ 22 + m = omega arith in
      rw (second, third)
      (holds (6 * (rows_of s + 4) + m) (omega arith) ∙
      total-word s rows (tab-length _ (6 * rows_of s)) (6 * (rows_of s + 4) + m) m h (omega arith))

  pub season-promise : SeasonPromise s j words
  season-promise = record { each_row = row-promise; sums = sums-hold a category-sum (grand s words all whole_word grand-word) }

-- What holds after the call.
pub seasons-answer : {s old words : List ℕ} {r : Check} → Bytes s → r ≡ seasons_check s (length old)
    → words ≡ written r (report_seasons s) old → SeasonsCall s old words r
unfolding report_length report_seasons seasons_check
seasons-answer {s} {old} {words} {r} bytes e w = record {
  answer-is = e;
  words_are = w;
  says = room-says seasons_length s (length old) e;
  promise = λ zero j there.
      let (passed, all) = room-accepted seasons_length s (report_seasons s) old e w zero in
      let long = blocks-length (season_report s) (6 * rows_of s + 26) (block-length s) (seasons_of s) in
      season-promise bytes (accepted s passed) j there (drop ((6 * rows_of s + 26) * j) words)
      (λ k l.
      get_or-drop ((6 * rows_of s + 26) * j) words k 0 ∙
      rw all (written-first (report_seasons s) old ((6 * rows_of s + 26) * j + k) (omega (arith, mul-le-mul_left (6 * rows_of s + 26) there))) ∙
      seasons-at s j k there l);
}
