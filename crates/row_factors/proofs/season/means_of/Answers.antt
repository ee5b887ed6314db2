-- `row_factors::season::means_of` meets its contract: each mean is the one of its definition.
use mathlib.Core.Bool.{true, false}
use Rattle.std.proofs.Common.{◌∙◌, ap, ℕ, ◌/◌, arith}
use Rattle.parking.proofs.Weighted.{mean-tab, mean-ext, mean-marks}
use Rattle.row_factors.proofs.Escaping.{raises-alike, rates-alike, rate-list-most, rate-list-fits, rates-in, rises-most}
use Rattle.row_factors.proofs.season.means_of.Goals as goal

pub returns : goal.returns
returns c =
    let a = c.requires.0 in
    record {
      rise-is = c.mean_by_cell.ensures ∙ mean-tab _ _ c.args.grid.now.cells.in_range.length-is c.requires.1;
      permeation-is = c.permeation_mean.ensures ∙ mean-ext _ (λ cell. ap (λ (x : ℕ). x / 2) (rates-in c.args.checked.in_range a.rate-is cell));
      soak-is = c.mean_by_distance.ensures ∙ mean-marks _ false _ (rates-alike _ 110) a.soak-is;
      run_is = c.mean_by_distance-2.ensures ∙ mean-marks _ true _ (rates-alike _ 150) a.run_is;
      end10-is = c.mean_by_distance-3.ensures ∙ mean-marks _ true _ (raises-alike _ 10) a.raises-are.raise10-is;
      start15-is = c.mean_by_distance-4.ensures ∙ mean-marks _ false _ (raises-alike _ 15) a.raises-are.raise15-is;
      end25-is = c.mean_by_distance-5.ensures ∙ mean-marks _ true _ (raises-alike _ 25) a.raises-are.raise25-is;
      start35-is = c.mean_by_distance-6.ensures ∙ mean-marks _ false _ (raises-alike _ 35) a.raises-are.raise35-is;
      start45-is = c.mean_by_distance-7.ensures ∙ mean-marks _ false _ (raises-alike _ 45) a.raises-are.raise45-is;
      end50-is = c.mean_by_distance-8.ensures ∙ mean-marks _ true _ (raises-alike _ 50) a.raise50-is;
      start60-is = c.mean_by_distance-9.ensures ∙ mean-marks _ false _ (raises-alike _ 60) a.raises-are.raise60-is;
    }

pub mean_by_cell-requires : goal.mean_by_cell-requires
mean_by_cell-requires c = record { at_most = λ k. omega (arith, (rises-most c.args.checked.in_range c.requires.1).at_most k) }

pub permeation_mean-requires : goal.permeation_mean-requires
permeation_mean-requires c = rate-list-most c.args.checked.in_range c.requires.0.rate-is

pub mean_by_distance-requires : goal.mean_by_distance-requires
mean_by_distance-requires c = rate-list-fits c.args.checked.in_range 110 (omega arith) c.requires.0.soak-is

pub mean_by_distance-requires-2 : goal.mean_by_distance-requires-2
mean_by_distance-requires-2 c = rate-list-fits c.args.checked.in_range 150 (omega arith) c.requires.0.run_is
