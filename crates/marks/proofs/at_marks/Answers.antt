-- `marks::at_marks` meets its contract: each list is the one of its definition, from the temperatures and the exponentials at the distances.
use Rattle.std.proofs.Common.{◌∙◌, ℕ, add-zero}
use Rattle.sheet.specs.Range.{mark_warmth}
use Rattle.marks.specs.Marks.{tenths}
use Rattle.marks.proofs.SameColumns.{few-at, few-are, heats-are, steps-are, rates-are, at-marks-by, rates-by-distance, raises-by-distance}
use Rattle.marks.proofs.at_marks.Goals as goal

pub returns : goal.returns
returns c =
    let season = c.args.checked.season in
    let few = c.of_marks-warmths.result.by_distance in
    let there = few-at season c.season_temperatures-temperature.ensures.0 c.of_marks-warmths.ensures in
    let are = few-are season c.season_temperatures-temperature.ensures.0 c.of_marks-warmths.ensures in
    let g = c.heats-heats.ensures in
    let f = c.pressure_factor-pressure.ensures.0 in
    let θ : ℕ → ℕ = mark_warmth season in
    record {
      marks-of = record {
        temperature-is = c.season_temperatures-temperature.ensures.0;
        exponential-is = heats-are θ few there g c.by_mark-exponential.ensures;
      };
      warmths-are = are;
      step_is = c.steps-step.ensures ∙ steps-are θ few there g c.by_mark-exponential.ensures;
      rate-is = simp add-zero at (at-marks-by _ c.rates-hourly.ensures c.by_mark.ensures ∙ rates-are θ few there _ _ 0 f);
      soak-is = c.rates.ensures ∙ rates-by-distance θ are _ _ (tenths 110) f;
      run_is = c.rates-2.ensures ∙ rates-by-distance θ are _ _ (tenths 150) f;
      raises-are = record {
        raise10-is = c.raises.ensures ∙ raises-by-distance θ are g (tenths 10);
        raise15-is = c.raises-2.ensures ∙ raises-by-distance θ are g (tenths 15);
        raise25-is = c.raises-3.ensures ∙ raises-by-distance θ are g (tenths 25);
        raise35-is = c.raises-4.ensures ∙ raises-by-distance θ are g (tenths 35);
        raise45-is = c.raises-5.ensures ∙ raises-by-distance θ are g (tenths 45);
        raise60-is = c.raises-6.ensures ∙ raises-by-distance θ are g (tenths 60);
      };
      raise50-is = c.raises-7.ensures ∙ raises-by-distance θ are g (tenths 50);
    }
