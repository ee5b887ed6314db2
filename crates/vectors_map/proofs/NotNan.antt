-- A double that equals itself is no NaN.
use mathlib.Core.Path.{◌≡◌}
use mathlib.Core.Bool.{true, not, false≢true}
use lib.Dec.{T}
use lib.Ieee.{Float, nan, inf, fin, eq, is_nan}

pub not-nan : (x : Float) → eq x x ≡ true → T (not (is_nan x))
unfolding eq is_nan
not-nan nan e = absurd (false≢true e)
not-nan (inf s) e = tt
not-nan (fin s m e') e = tt
