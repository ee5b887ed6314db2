-- `evaporation::species::write_species` meets its contract: a short buffer is left, and one with room gets the masses.
-- Assumes nothing.
use Rattle.std.proofs.Common.{◌≡◌, ℕ, ◌≤◌, Bool, true, false, List, length, ltb, Err, refl, sym, ◌∙◌, arith, ltb-false}
use Rattle.std.proofs.lemmas.Result.{err_from_is_err_and}
use Rattle.refusals.specs.declared.Refusal.{Refusal}
use Rattle.refusals.specs.declared.Rule.TheVariants as rule
use Rattle.refusals.specs.Check.{Pass, refuse}
use Rattle.inventory.specs.ReportCall.{written}
use Rattle.boundary.specs.SpeciesCall.{species_check}
use Rattle.evaporation.proofs.species.write_species.Goals as goal

-- what a refusal and an accepted call leave in the buffer
short : (old masses : List ℕ) {why : Refusal} → species_check (length old) ≡ Err why → old ≡ written (species_check (length old)) masses old
unfolding written
short old masses e = rw e

filled : (old new masses : List ℕ) → species_check (length old) ≡ Pass → new ≡ written Pass masses old
    → new ≡ written (species_check (length old)) masses old
filled old new masses e w = rw e w

-- a buffer that passes has room
room : (n : ℕ) → species_check n ≡ Pass → 29 ≤ n
unfolding species_check refuse
room n e = go (ltb n 29) (ltb-false n 29) e
  where
    go : (b : Bool) → (b ≡ false → 29 ≤ n) → refuse b rule.Room 0 ≡ Pass → 29 ≤ n
    go false f e = f refl
    go true f e = let clash : ◌≡◌ {A = ℕ} 0 1 = cc in absurd (omega arith)

pub returns-in_err-refuse-clause-answer : goal.returns-in_err-refuse-clause-answer
unfolding species_check
returns-in_err-refuse-clause-answer c =
    let p = err_from_is_err_and c.from_residual.result c.from_residual.ensures.1 in
    rw (p.1, p.2) (sym c.in_err-refuse.was ∙ c.refuse.ensures)

pub returns-in_err-refuse-clause-words : goal.returns-in_err-refuse-clause-words
unfolding species_check
returns-in_err-refuse-clause-words c = short _ _ (sym c.refuse.ensures ∙ c.in_err-refuse.was)

pub write_masses-requires : goal.write_masses-requires
unfolding species_check
write_masses-requires c = room _ (sym c.refuse.ensures ∙ c.in_ok-refuse.was)

pub returns-clause-answer : goal.returns-clause-answer
unfolding species_check
returns-clause-answer c = sym c.in_ok-refuse.was ∙ c.refuse.ensures

pub returns-clause-words : goal.returns-clause-words
unfolding species_check
returns-clause-words c = filled _ _ _ (sym c.refuse.ensures ∙ c.in_ok-refuse.was) c.write_masses.ensures
