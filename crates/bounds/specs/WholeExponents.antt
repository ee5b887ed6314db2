-- Need not be believed: two tables of E at whole exponents, in units of 2⁻³⁰. E lies between them for every n from 40 upward.
use Rattle.std.specs.Prelude.{List, [], ◌∷◌, ℕ, ◌^◌}
use Rattle.numbers.specs.Fraction.{Fraction, ratio}
use Rattle.bounds.specs.Series.{two_pos}

-- 2³⁰·E(c) from below, for c from 0 to 14 and every n from 40 upward
unfoldable pub far : List ℕ
far =
    1073741824 ∷ 2918732888 ∷ 7933938573 ∷ 21566681051 ∷ 58624317203 ∷ 159357416160 ∷ 433178368579 ∷ 1177500887789 ∷
    3200779266273 ∷ 8700620116419 ∷ 23650737558785 ∷ 64289370135495 ∷ 174756626595083 ∷ 475037762280381 ∷ 1291286512936591 ∷ []

-- 2³⁰·E(c) from above, for c from 0 to 14 and every n from 40 upward
unfoldable pub far_above : List ℕ
far_above =
    1073741824 ∷ 2918732889 ∷ 7933938574 ∷ 21566681052 ∷ 58624317204 ∷ 159357416161 ∷ 433178368580 ∷ 1177500887790 ∷
    3200779266274 ∷ 8700620116420 ∷ 23650737558790 ∷ 64289370135714 ∷ 174756626603088 ∷ 475037762501068 ∷ 1291286517713430 ∷ []

-- t·2⁻³⁰
abbrev pub far_units : ℕ → Fraction
far_units t = ratio t (2 ^ 30) (two_pos 30)
