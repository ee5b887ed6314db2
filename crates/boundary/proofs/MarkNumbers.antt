-- The numbers of a mark that leave the library say what the verdict says.
use Rattle.std.proofs.Common.{Some, None}
use mathlib.Core.Path.{◌≡◌, refl}
use Prim.Native.Nat.{ℕ, ◌<◌}
use native.Mathlib.Omega.{arith}
use borrow.Author.Tests.{ne_eqb}
use Rattle.marking.specs.declared.Unit.{Unit}
use Rattle.marking.specs.declared.Filed.{Filed}
use Rattle.marking.specs.declared.Verdict.{Verdict}
use Rattle.marking.specs.declared.Verdict.TheVariants.{Agrees, Fits, Low, High, Unreadable}
use Rattle.marking.specs.Meaning.{Marked}
use Rattle.marking.proofs.Verdicts.{verdict-means}
use Rattle.boundary.specs.declared.EvpFiled.{EvpFiled}
use Rattle.boundary.specs.declared.EvpVerdict.{EvpVerdict}
use Rattle.boundary.specs.MarkExport.{unit_handed, figure, handed_verdict, verdict_numbers, NumbersMark, MarkNumbers}

-- of each verdict the numbers say the same
numbers-mark : (f : Filed) (low high : ℕ) (v : Verdict) → Marked f low high v → NumbersMark f low high (verdict_numbers v)
unfolding verdict_numbers
numbers-mark f low high Agrees m = record {
  every = λ x i. record { agrees = λ e. (m.every x i).agrees refl; low = λ e. absurd (omega arith); high = λ e. absurd (omega arith) };
  far-low = λ e. absurd (omega arith);
  far-high = λ e. absurd (omega arith);
  fits = λ e. absurd (omega arith);
  read = λ n. m.read (λ e. let z : ◌≡◌ {A = ℕ} 0 1 = cc in absurd (omega arith));
  unread = λ e. absurd (omega arith);
}
numbers-mark f low high Fits m = record {
  every = λ x i. record { agrees = λ e. absurd (omega arith); low = λ e. absurd (omega arith); high = λ e. absurd (omega arith) };
  far-low = λ e. absurd (omega arith);
  far-high = λ e. absurd (omega arith);
  fits = λ e. m.fits refl;
  read = λ n. m.read (λ e. let z : ◌≡◌ {A = ℕ} 0 1 = cc in absurd (omega arith));
  unread = λ e. absurd (omega arith);
}
numbers-mark f low high (Low d) m = record {
  every = λ x i. record { agrees = λ e. absurd (omega arith); low = λ e. (m.every x i).low d refl; high = λ e. absurd (omega arith) };
  far-low = λ e. m.far-low d refl;
  far-high = λ e. absurd (omega arith);
  fits = λ e. absurd (omega arith);
  read = λ n. m.read (λ e. let z : ◌≡◌ {A = ℕ} 0 1 = cc in absurd (omega arith));
  unread = λ e. absurd (omega arith);
}
numbers-mark f low high (High d) m = record {
  every = λ x i. record { agrees = λ e. absurd (omega arith); low = λ e. absurd (omega arith); high = λ e. (m.every x i).high d refl };
  far-low = λ e. absurd (omega arith);
  far-high = λ e. m.far-high d refl;
  fits = λ e. absurd (omega arith);
  read = λ n. m.read (λ e. let z : ◌≡◌ {A = ℕ} 0 1 = cc in absurd (omega arith));
  unread = λ e. absurd (omega arith);
}
numbers-mark f low high Unreadable m = record {
  every = λ x i. record { agrees = λ e. absurd (omega arith); low = λ e. absurd (omega arith); high = λ e. absurd (omega arith) };
  far-low = λ e. absurd (omega arith);
  far-high = λ e. absurd (omega arith);
  fits = λ e. absurd (omega arith);
  read = λ n. absurd (n refl);
  unread = λ e. m.unread refl;
}

named : (digits places low high u : ℕ) (x : Unit) → unit_handed u ≡ Some x
    → NumbersMark (figure digits places x) low high (verdict_numbers (handed_verdict digits places (unit_handed u) low high))
unfolding handed_verdict
named digits places low high u x e = rw e (numbers-mark _ low high _ (verdict-means _ low high))

-- from 4 on a number names no unit
unit-none : (u : ℕ) → 3 < u → unit_handed u ≡ None
unfolding unit_handed
unit-none u h = rw (
  ne_eqb u 0 (λ e. omega arith),
  ne_eqb u 1 (λ e. omega arith),
  ne_eqb u 2 (λ e. omega arith),
  ne_eqb u 3 (λ e. omega arith),
)

unread : (digits places low high u : ℕ) → 3 < u → (verdict_numbers (handed_verdict digits places (unit_handed u) low high)).verdict ≡ 4
unfolding handed_verdict verdict_numbers
unread digits places low high u h = rw (unit-none u h)

pub mark-numbers : (f : EvpFiled) (low high : ℕ) {r : EvpVerdict}
    → r ≡ verdict_numbers (handed_verdict f.digits f.places (unit_handed f.unit) low high) → MarkNumbers f low high r
mark-numbers f low high e =
    rw e
    (record {
      answer-is = refl;
      marked = λ u h. named f.digits f.places low high f.unit u h;
      no-unit = λ h. unread f.digits f.places low high f.unit h;
    })
