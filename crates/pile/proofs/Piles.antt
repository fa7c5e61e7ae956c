-- A pile, step by step.
use Rattle.std.proofs.Common.{◌≡◌, ℕ, ◌+◌, ◌<◌, List, [], ◌∷◌, Err, Result, IsErrAnd, get_or, length, drop, refl, ap, ◌∙◌, inl, inr, ⊎_elim}
use Rattle.std.proofs.lemmas.List.{at_drop_more}
use Rattle.std.proofs.lemmas.Result.{err_from_is_err_and}
use Rattle.program.specs.Meanings.{Meaning, overfull}
use Rattle.program.specs.Tables.{Loads}
use Rattle.program.specs.declared.refusal.Refusal.{Refusal}
use Rattle.program.specs.declared.table.RuleTable.{RuleTable}
use Rattle.pile.specs.declared.step.Step.{Step}
use Rattle.pile.specs.declared.step.Step.TheVariants.{Offset, Select}
use Rattle.pile.specs.Steps.{piled, stepped}

-- what is overfull stays so
stepped_overfull : (s : Step) → stepped s overfull ≡ overfull
stepped_overfull (Offset d) = refl
stepped_overfull (Select s) = refl

piled_overfull : (steps : List Step) → piled steps overfull ≡ overfull
piled_overfull [] = refl
piled_overfull (s ∷ ss) = ap (piled ss) (stepped_overfull s) ∙ piled_overfull ss

-- what refuses a pile refuses it after more steps too
pub refused : (rest : List Step) (m : Meaning) (e : Refusal) (r : Result RuleTable Refusal) → IsErrAnd r (λ y. y ≡ e) → Loads m (Err e) → Loads (piled rest m) r
refused rest m e r is h =
    let p = err_from_is_err_and r is in
    rw (p.1, p.2) (⊎_elim (λ o. inl (ap (piled rest) o.0 ∙ piled_overfull rest, o.1)) (λ o. inr o) h)

-- and so does what refuses a step of it
pub refused_step : (steps : List Step) (i : ℕ) (pile whole : Meaning) (s : Step) (e : Refusal) (r : Result RuleTable Refusal) → i < length steps → s ≡ get_or steps i s
    → piled (drop i steps) pile ≡ whole → IsErrAnd r (λ y. y ≡ e) → Loads (stepped s pile) (Err e) → Loads whole r
refused_step steps i pile whole s e r l at left is h =
    let more = at_drop_more (λ (ss : List Step). piled ss pile) steps i s l in
    rw (← left, more, ← at) (refused (drop (i + 1) steps) (stepped s pile) e r is h)
