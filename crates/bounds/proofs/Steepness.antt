-- How steep E is, and what that makes of an exponent that is known within a width: E is its own slope. With it the short exponential
-- encloses E at an exponent that is held within w.
-- Assumes nothing.
use Prim.Native.Nat.{ℕ, ◌+◌, ◌*◌, ◌^◌, ◌/◌, ◌≤◌, ◌<◌}
use native.Mathlib.Omega.{arith}
use Rattle.numbers.specs.Fraction.{Fraction, ◌≤ᶠ◌, ◌≈ᶠ◌, ◌+ᶠ◌, ◌-ᶠ◌, ◌*ᶠ◌, whole, ◌/10^◌}
use Rattle.numbers.proofs.Order.{NonNegative, positive→NonNegative, NonNegative-up, ≤-refl, ≤_trans, ≈-trans, ≈→≤, ≈→≥}
use Rattle.numbers.proofs.Order.{+-mono, +_comm, sub-add, sub-NonNegative, ≤-sub, *-mono, ratio}
use Rattle.bounds.specs.Series.{E, two_pos}
use Rattle.bounds.specs.Enclosure.{Within}
use Rattle.bounds.specs.Short.{short_exponent, short, short_limit, short_error}
use Rattle.bounds.specs.Line.{Held}
use Rattle.bounds.proofs.Exponential.{E-mono, E-positive, E-tangent}
use Rattle.bounds.proofs.Sums.{E-most-1}
use Rattle.bounds.proofs.Ends.{E-to-3}
use Rattle.bounds.proofs.ShortBound.{short-within, short_error-0, short_error-3}
use Rattle.bounds.proofs.Line.{within-between}
use Rattle.bounds.proofs.ShortLine.{exponent-most-0, exponent-most-3, held-above, held_below}
use Rattle.bounds.proofs.Within.{widen, within-cross, whole-within, +-within}

-- E(y) ≤ E(x) + d·steepest where x ≤ y ≤ x + d and E(y) is at most steepest
pub climb-to : {x y : Fraction} (n : ℕ) (d steepest : Fraction) → x ≤ᶠ y → y ≤ᶠ x +ᶠ d → E n y ≤ᶠ steepest → E n y ≤ᶠ E n x +ᶠ d *ᶠ steepest
climb-to {x} {y} n d steepest l h k =
    let e : Fraction = y -ᶠ x in
    let same : x +ᶠ e ≈ᶠ y = ≈-trans (+_comm x e) (sub-add y x) in
    let small : e ≤ᶠ d = ≤-sub x d h in
    let e0 : NonNegative e = sub-NonNegative l in
    ≤_trans (E-mono n (≈→≥ same))
    (≤_trans (E-tangent n x e e0)
    (+-mono (≤-refl (E n x))
    (*-mono (NonNegative-up small e0) (positive→NonNegative (E-positive n (x +ᶠ e))) small (≤_trans (E-mono n (≈→≤ same)) k))))

-- E up to 3
written-3 : whole 3 ≤ᶠ 3 /10^ 0
unfolding whole ◌/10^◌
written-3 = omega arith

steep-3 : (n : ℕ) → 40 ≤ n → {z : Fraction} → z ≤ᶠ whole 3 → E n z ≤ᶠ 201 /10^ 1
steep-3 n n40 h = E-to-3 n n40 (≤_trans h written-3)

-- How steep E is up to an exponent, with the short exponential.
record Steepness : Type 0 where
  -- exponents up to this one, as a fraction and as it is held
  top : Fraction
  last : ℕ
  held : (x : ℕ) → short_exponent x ≤ᶠ top → x ≤ last
  last_fits : last < short_limit
  -- E there, which is its own slope
  steepest : Fraction
  steep : (n : ℕ) → 40 ≤ n → {z : Fraction} → z ≤ᶠ top → E n z ≤ᶠ steepest
  -- how far E can be above the computed one
  error : ℕ
  error-most : (x : ℕ) → x ≤ last → short_error x ≤ error
  -- by how many units of 2⁻³⁶ E moves where the exponent moves by w units of 2⁻⁵³
  moved : ℕ → ℕ
  moves : (w : ℕ) → Within (2 ^ 36) 0 (moved w) (ratio w (2 ^ 53) (two_pos 53) *ᶠ steepest)

moves-3 : (w : ℕ) → Within (2 ^ 36) 0 (201 * w / 1310720 + 1) (ratio w (2 ^ 53) (two_pos 53) *ᶠ 201 /10^ 1)
unfolding ratio ◌*ᶠ◌ ◌/10^◌
moves-3 w = omega arith

-- up to 3: E is at most 20.1
abbrev up_to3 : Steepness
up_to3 = record {
  top = whole 3;
  last = 19 * 2 ^ 53;
  held = exponent-most-3;
  last_fits = omega arith;
  steepest = 201 /10^ 1;
  steep = steep-3;
  error = 5797;
  error-most = λ x h. short_error-3 x (omega arith);
  moved = λ (w : ℕ). 201 * w / 1310720 + 1;
  moves = moves-3;
}

moves-0 : (w : ℕ) → Within (2 ^ 36) 0 (w / 2 ^ 17 + 1) (ratio w (2 ^ 53) (two_pos 53) *ᶠ whole 1)
unfolding ratio ◌*ᶠ◌ whole
moves-0 w = omega arith

-- up to 0: E is at most 1
abbrev up_to0 : Steepness
up_to0 = record {
  top = whole 0;
  last = 16 * 2 ^ 53;
  held = exponent-most-0;
  last_fits = omega arith;
  steepest = whole 1;
  steep = λ n n40 h. E-most-1 n h;
  error = 1047;
  error-most = short_error-0;
  moved = λ (w : ℕ). w / 2 ^ 17 + 1;
  moves = moves-0;
}

-- an exponent of at most 0
at-most-0 : (x : ℕ) → x ≤ 16 * 2 ^ 53 → short_exponent x ≤ᶠ whole 0
unfolding whole
at-most-0 x h = omega arith

-- the computed E is at most 1 there
pub short-most-1 : (x : ℕ) → x ≤ 16 * 2 ^ 53 → short x ≤ 2 ^ 36
short-most-1 x h = within-cross ((short-within x (omega arith)).at 40 (omega arith)) (whole-within (2 ^ 36) 1) (E-most-1 40 (at-most-0 x h))

module _ {x w : ℕ} {z : Fraction} (a : Held x w z) where
  -- E(z), where z is at most the top
  held-within : (sl : Steepness) → z ≤ᶠ sl.top → (n : ℕ) → 40 ≤ n → Within (2 ^ 36) (short x) (sl.error + sl.moved w) (E n z)
  held-within sl t n n40 =
      let most : x ≤ sl.last = sl.held x (≤_trans (held-above a) t) in
      let fits : x < short_limit = omega (arith, most, sl.last_fits) in
      let e = widen ((short-within x fits).at n n40) (sl.error-most x most) in
      within-between (omega arith) e (+-within e (sl.moves w)) (E-mono n (held-above a))
      (climb-to n (ratio w (2 ^ 53) (two_pos 53)) sl.steepest (held-above a) (held_below a) (sl.steep n n40 t))
      (omega arith)

  -- up to 0
  pub held-to-0 : z ≤ᶠ whole 0 → (n : ℕ) → 40 ≤ n → Within (2 ^ 36) (short x) (1047 + (w / 2 ^ 17 + 1)) (E n z)
  held-to-0 t n n40 = held-within up_to0 t n n40

  -- up to 3
  pub held-to-3 : z ≤ᶠ whole 3 → (n : ℕ) → 40 ≤ n → Within (2 ^ 36) (short x) (5797 + (201 * w / 1310720 + 1)) (E n z)
  held-to-3 t n n40 = held-within up_to3 t n n40
