-- One verdict for each list of words.
use Rattle.std.proofs.Common.{◌≡◌, ℕ, ◌<◌, ◌⊎◌, List, Some, Ok, Err, Option, Result, sym, ◌∙◌, subst, inl, inr, arith, MatchResult}
use Rattle.std.proofs.lemmas.Bool.{cases_order}
use Rattle.program.specs.declared.refusal.Refusal.{Refusal}
use Rattle.word_format.specs.Checks.{Clear, fault_after, front_fault, Lawful, Refused}
use Rattle.word_format.specs.Reading.{meaning}
use Rattle.word_format.specs.Writing.{Reads}
use Rattle.word_format.proofs.Law.{write_meaning, meaning_written, lawful_written}

not_clear : (o : Option Refusal) (r : Refusal) → o ≡ Some r → Clear o → ⊥
not_clear o r e f = grind arith

same_some : (o : Option Refusal) (r s : Refusal) → o ≡ Some r → o ≡ Some s → r ≡ s
same_some o r s e f = cc

pub lawful_not_refused : (ws : List ℕ) (r : Refusal) → Lawful ws → Refused ws r → ⊥
lawful_not_refused ws r a b = grind (arith, not_clear)

pub one_refusal : (ws : List ℕ) (r s : Refusal) → Refused ws r → Refused ws s → r ≡ s
one_refusal ws r s (inl f) (inl g) = same_some (front_fault ws) r s f g
one_refusal ws r s (inl f) (inr (inl (j, m, clean, g))) = absurd (not_clear (front_fault ws) r f clean.0)
one_refusal ws r s (inl f) (inr (inr (clean, g, e))) = absurd (not_clear (front_fault ws) r f clean.0)
one_refusal ws r s (inr (inl (i, l, clean, f))) (inl g) = absurd (not_clear (front_fault ws) s g clean.0)
one_refusal ws r s (inr (inr (clean, f, e))) (inl g) = absurd (not_clear (front_fault ws) s g clean.0)
one_refusal ws r s (inr (inl (i, l, clean, f))) (inr (inl (j, m, clean', g))) = go (cases_order i j)
  where
    go : (i ≡ j) ⊎ ((i < j) ⊎ (j < i)) → r ≡ s
    go (inl e) = same_some (fault_after ws j) r s (subst (λ (k : ℕ). fault_after ws k ≡ Some r) e f) g
    go (inr (inl b)) = absurd (not_clear (fault_after ws i) r f (clean'.1 i b))
    go (inr (inr b)) = absurd (not_clear (fault_after ws j) s g (clean.1 j b))
one_refusal ws r s (inr (inl (i, l, clean, f))) (inr (inr (clean', g, e))) = absurd (not_clear (fault_after ws i) r f (clean'.1 i (omega arith)))
one_refusal ws r s (inr (inr (clean, f, e))) (inr (inl (j, m, clean', g))) = absurd (not_clear (fault_after ws j) s g (clean.1 j (omega arith)))
one_refusal ws r s (inr (inr (clean, f, e))) (inr (inr (clean', g, e'))) = e ∙ sym e'

pub only_refusal : (ws : List ℕ) (r : Result (Unit {0}) Refusal) → MatchResult r (λ _. Lawful ws) (λ e. Refused ws e) → (e : Refusal) → Refused ws e → r ≡ Err e
only_refusal ws (Ok u) law e f = absurd (lawful_not_refused ws e law f)
only_refusal ws (Err d) f e g = let q = one_refusal ws d e f g in cc

pub reads : (ws : List ℕ) (r : Result (Unit {0}) Refusal) → MatchResult r (λ _. Lawful ws) (λ e. Refused ws e) → Reads ws r
reads ws (Ok u) law = let m = write_meaning ws law in (m.0, m.1, λ P b e. subst (λ (xs : List ℕ). meaning xs ≡ P) e (meaning_written P b))
reads ws (Err d) f = λ P b e. lawful_not_refused ws d (subst Lawful e (lawful_written P b)) f
