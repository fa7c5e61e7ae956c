-- The account of a file with no steps.
use Rattle.std.proofs.Common.{◌≡◌, ℕ, ◌⊎◌, List, [], subst, ap, ◌∙◌, inl, inr, ⊎_elim}
use Rattle.program.specs.Meanings.{Meaning, overfull, program}
use Rattle.program.specs.declared.refusal.Refusal.{Refusal}
use Rattle.program.specs.declared.refusal.Refusal.TheVariants.{OutOfMemory}
use Rattle.word_format.specs.Bytes.{RefusedBytes, words_of_bytes}
use Rattle.word_format.proofs.Law.{write_meaning}
use Rattle.account.specs.Inspecting.{Accepted, Accounted, RefusedPile, pile_of}
use Rattle.account.specs.Lines.{account_of}

abbrev IsProgram : Meaning → Type 0
IsProgram overfull = ⊥
IsProgram (program P) = Unit {0}

pub same_account : (bs text : List ℕ) → Accepted bs → Accounted (pile_of bs []) text → text ≡ account_of (words_of_bytes bs)
same_account bs text a h = h ∙ ap account_of (write_meaning (words_of_bytes bs) a.1).1

pub same_refusal : (bs : List ℕ) (e : Refusal) → RefusedPile bs [] e → RefusedBytes bs e ⊎ (e ≡ OutOfMemory)
same_refusal bs e h = ⊎_elim inl (⊎_elim (λ x. absurd (subst IsProgram x.1 tt)) inr) h
