-- All of them hold. A crate above may cite just the laws that are named here, and the calculus of enclosures, which does not speak of E or of
-- the root: tools/check has a check of it.
-- Assumes nothing.
use native.Mathlib.Omega.{arith}
use Rattle.numbers.specs.Fraction.{Fraction, ◌<ᶠ◌, whole}
use Rattle.numbers.proofs.Order.{Positive, non_negative, NonNegative→≤}
use Rattle.bounds.specs.Laws.{SeriesLaws, EndLaws, WholeLaws, ExponentialLaws, ShortLaws, ThetaLaws}
use Rattle.bounds.specs.Laws.{PowerLaws, WeightLaws, Laws}
pub use Rattle.bounds.proofs.Exponential.{E-cong, E-mono, E-zero, E-positive}
pub use Rattle.bounds.proofs.Sums.{E-most-1, E-product-above, E-product-below, one-plus}
pub use Rattle.bounds.proofs.Ends.{E-to-0_44, E-to-2_255, E-to-2_8201, E-to-3, E-to-3_58, E-to-4_0096, E-at-2_78, E-at-minus-7_75}
pub use Rattle.bounds.proofs.ExponentialBound.{exponential-within, exponential_error-1_41}
pub use Rattle.bounds.proofs.ExponentialBound.{exponential_error-2_3, exponential_error-3_6, exponential_error-4_1}
pub use Rattle.bounds.proofs.ExponentialBound.{exponential-size-1_41, exponential-at-0, exponential-at-1_41}
pub use Rattle.bounds.proofs.ShortBound.{short-within, short-size}
pub use Rattle.bounds.proofs.Growth.{exponential-mono}
pub use Rattle.bounds.proofs.Products.{product-least, product-most}
pub use Rattle.bounds.proofs.Steepness.{climb-to, short-most-1, held-to-0, held-to-3}
pub use Rattle.bounds.proofs.ThetaTable.{theta-least, theta-near, theta-most, theta-rounded}
pub use Rattle.bounds.proofs.WholeExponents.{far-below, far-above, far-gap, far-triple, far-2, far-14}
use Rattle.bounds.proofs.WholeExponents.{far-size}
pub use Rattle.bounds.proofs.PowerBound.{power-within, power_size}
pub use Rattle.bounds.proofs.Root.{power2_5-NonNegative, power2_5-above, power2_5-below, cut_root-is, root-square-cut, cut_root-multiple}
pub use Rattle.bounds.proofs.Weights.{w-most, rises-where, apart-most, apart-alike}

above-0 : {x : Fraction} → Positive x → whole 0 <ᶠ x
unfolding whole
above-0 h = record { cross = omega (arith, h.gt) }

series : SeriesLaws
series = record {
  same = E-cong;
  grows = E-mono;
  positive = λ n x. above-0 (E-positive n x);
  at-0 = E-zero;
  to-0 = E-most-1;
  product-above = λ n h k. E-product-above n (non_negative h) (non_negative k);
  product-below = λ n m h k. E-product-below n m (non_negative h) (non_negative k);
  sum-least = λ n z y h k. product-least n z y h (non_negative k);
  sum-most = λ n z y h k. product-most n z y h (non_negative k);
  slope = climb-to;
  one-plus = λ x h. one-plus x (non_negative h);
}

ends : EndLaws
ends = record {
  to-0_44 = E-to-0_44;
  to-2_255 = E-to-2_255;
  to-2_8201 = E-to-2_8201;
  to-3 = E-to-3;
  to-3_58 = E-to-3_58;
  to-4_0096 = E-to-4_0096;
  at-2_78 = E-at-2_78;
  at-minus-7_75 = E-at-minus-7_75;
}

wholes : WholeLaws
wholes = record {
  below = far-below;
  above = far-above;
  gap = far-gap;
  triple = far-triple;
  fits = far-size;
  at-2 = far-2;
  at-14 = far-14;
}

computed : ExponentialLaws
computed = record {
  encloses = exponential-within;
  error-1_41 = exponential_error-1_41;
  error-2_3 = exponential_error-2_3;
  error-3_6 = exponential_error-3_6;
  error-4_1 = exponential_error-4_1;
  grows = exponential-mono;
  fits-1_41 = exponential-size-1_41;
  at-0 = exponential-at-0;
  at-1_41 = exponential-at-1_41;
}

shorter : ShortLaws
shorter = record {
  encloses = short-within;
  fits = short-size;
  most-1 = short-most-1;
  held-to-0 = held-to-0;
  held-to-3 = held-to-3;
}

thetas : ThetaLaws
thetas = record { least = theta-least; near = theta-near; most = theta-most; rounded = theta-rounded }

powers : PowerLaws
powers = record {
  encloses = power-within;
  fits = power_size;
  least = λ n t. NonNegative→≤ (power2_5-NonNegative n t);
  from-0 = power2_5-above;
  below-0 = power2_5-below;
  root_is = cut_root-is;
  root-of-square = root-square-cut;
  root-multiple = cut_root-multiple;
}

hourly : WeightLaws
hourly = record { most = w-most; rises = rises-where; near = apart-most; alike = apart-alike }

pub laws : Laws
laws = record {
  series = series;
  ends = ends;
  wholes = wholes;
  exponential = computed;
  short = shorter;
  theta = thetas;
  power = powers;
  weights = hourly;
}
