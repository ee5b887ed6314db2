-- Seven bands, made one by one.
use mathlib.Core.List.{List, map}
use mathlib.Core.Path.{◌≡◌, sym, ◌∙◌}
use Prim.Native.Nat.{ℕ}
use native.Mathlib.Omega.{arith}
use denote.Param.Members.{Mut, Called}
use lib.ListN.{length, get_or-map, length-map}
use Rattle.std.specs.Array.{IsFromFnResult}
use Rattle.std.proofs.lemmas.List.{ext_get_or}
use Rattle.numbers.specs.Lists.{at}
use Rattle.numbers.proofs.Made.{made_from}
use Rattle.inventory.specs.declared.Band.{Band}
use Rattle.inventory.specs.FactorAnswers.{band}

-- what std's `from_fn` gives where it is given the band of the factor at each place
pub made : {P : Type 0} (g : Mut P (ℕ × Unit {0}) Band) (p : P) (units : List ℕ) {ys : List Band}
    → ((k : ℕ) (y : Band) (q : P) → Called g p (k, tt) y q → (y ≡ band (at units k)) × (q ≡ p)) → IsFromFnResult g p ys 7 → length units ≡ 7
    → ys ≡ map band units
made g p units {ys} gives w long =
    ext_get_or (band 0) ys (map band units) (w.long ∙ sym (length-map units band ∙ long))
    (λ k l. made_from g p _ gives ys 0 7 w.each (band 0) k (omega arith) (rw w.long at l) ∙ sym (get_or-map band units k 0))
