-- `explanation::explain` meets its contract.
-- Assumes nothing.
use mathlib.Core.Path.{◌≡◌, sym, ap, ◌∙◌}
use borrow.Author.Rules.{rules}
use Rattle.findings.specs.declared.Finding.{Finding}
use Rattle.findings.specs.Lines.{nothing, finding_in}
use Rattle.findings.proofs.Explained.{explained}
use Rattle.explanation.proofs.explain.Goals as goal

-- a finding of zeros alone
zeros : (f : Finding) → (f.number ≡ 0) × ((f.place ≡ 0) × ((f.reason ≡ 0) × ((f.index ≡ 0) × ((f.season ≡ 0)
    × ((f.at ≡ 0) × ((f.bytes ≡ 0) × ((f.value ≡ 0) × ((f.least ≡ 0) × (f.most ≡ 0))))))))) → f ≡ nothing
zeros f (a, (b, (c, (d, (e, (g, (h, (i, (j, k))))))))) =
    let all : ◌≡◌ {A = Finding} (record {
      number = f.number;
      place = f.place;
      reason = f.reason;
      index = f.index;
      season = f.season;
      at = f.at;
      bytes = f.bytes;
      value = f.value;
      least = f.least;
      most = f.most;
    }) nothing = rw (a, b, c, d, e, g, h, i, j, k) in
    all

pub returns-in-Ok : goal.returns-in-Ok
returns-in-Ok c =
    explained (record { byte = λ k. search rules }) (zeros _ c.default.ensures ∙ sym (ap finding_in (sym c.stages.ensures ∙ c.in-Ok.is)))

pub returns-in-Err : goal.returns-in-Err
returns-in-Err c =
    explained (record { byte = λ k. search rules }) (c.from.ensures ∙ sym (ap finding_in (sym c.stages.ensures ∙ c.in-Err.is)))
