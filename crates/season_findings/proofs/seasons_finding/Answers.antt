-- `season_findings::seasons_finding` meets its contract: nothing is found in the seasons before i, and `before` is the sum of their days.
-- Assumes nothing.
use mathlib.Core.Path.{◌≡◌, refl}
use native.Mathlib.Numerals.{add-one}
use borrow.Author.Rules.{rules}
use native.Mathlib.Omega.{arith}
use Rattle.sheet.specs.RunningSums.{days_before}
use Rattle.sheet.specs.Bytes.{seasons_of}
use Rattle.sheet.proofs.Accepted.{Bytes}
use Rattle.sheet.proofs.InRange.{seasons-in-range}
use Rattle.sheet.proofs.Versions.{start_between}
use Rattle.findings.proofs.Explained.{seasons-passed}
use Rattle.findings.proofs.Steps.{each_none, each_more}
use Rattle.season_findings.proofs.seasons_finding.Goals as goal

pub loop-i-init : goal.loop-i-init
unfolding days_before
loop-i-init c = (each_none _, refl, search rules)

pub loop-i-preserved : goal.loop-i-preserved
unfolding days_before
loop-i-preserved c =
    let l = c.loop-i in (
      each_more _ l.i l.invariant.0 c.season_finding.ensures c.in_ok-season_finding.was,
      rw (add-one, l.invariant.1, c.season_at-before.ensures.0),
      search rules,
    )

pub seasons_of-i-end-requires : goal.seasons_of-i-end-requires
seasons_of-i-end-requires c = omega (arith, start_between c.args.s.now)

pub invariant_of-result-clause-in_range : goal.invariant_of-result-clause-in_range
invariant_of-result-clause-in_range c =
    let l = c.loop-i in
    let bytes : Bytes c.args.s.now = record { byte = λ k. search rules } in
    let all : l.i ≡ seasons_of c.args.s.now = omega arith in
    seasons-in-range c.args.s.now bytes (seasons-passed c.args.s.now bytes (rw all at l.invariant.0))
