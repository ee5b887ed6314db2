-- `masses::figures::UsedRow::trip_figure` meets its contract: what is mixed by shares fits 64 bits, for all trips of the day too.
-- Assumes nothing.
use native.Mathlib.Omega.{arith}
use Rattle.masses.specs.Figures.{blended}
use Rattle.masses.proofs.FigureSizes.{mixed-fits, blend-fits, trips-fit}
use Rattle.masses.proofs.figures.UsedRow.trip_figure.Goals as goal

pub overflow_mul-result-3 : goal.overflow_mul-result-3
unfolding blended
overflow_mul-result-3 c =
    let u = c.args.self.now.in_range in
    let p = c.requires in
    record { fits = omega (arith, trips-fit u p.0 p.1 p.2) }

pub overflow_mul-carburettor : goal.overflow_mul-carburettor
overflow_mul-carburettor c = let u = c.args.self.now.in_range in let p = c.requires in record { fits = omega (arith, mixed-fits u p.0 p.1 p.2) }

pub overflow_mul-carburettor-2 : goal.overflow_mul-carburettor-2
overflow_mul-carburettor-2 c = let u = c.args.self.now.in_range in let p = c.requires in record { fits = omega (arith, mixed-fits u p.0 p.1 p.2) }

pub overflow_add-carburettor : goal.overflow_add-carburettor
overflow_add-carburettor c = let u = c.args.self.now.in_range in let p = c.requires in record { fits = omega (arith, mixed-fits u p.0 p.1 p.2) }

pub overflow_mul-carburettor-3 : goal.overflow_mul-carburettor-3
overflow_mul-carburettor-3 c = let u = c.args.self.now.in_range in let p = c.requires in record { fits = omega (arith, blend-fits u p.0 p.1 p.2) }

pub overflow_mul-result-2 : goal.overflow_mul-result-2
overflow_mul-result-2 c = let u = c.args.self.now.in_range in let p = c.requires in record { fits = omega (arith, blend-fits u p.0 p.1 p.2) }

pub overflow_add-result : goal.overflow_add-result
overflow_add-result c = let u = c.args.self.now.in_range in let p = c.requires in record { fits = omega (arith, blend-fits u p.0 p.1 p.2) }
