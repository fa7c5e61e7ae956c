-- What is answered of a file's bytes and the steps that make a pile of it.
use Rattle.std.specs.Prelude.{◌≡◌, ℕ, ◌⊎◌, List}
use Rattle.program.specs.declared.refusal.Refusal.{Refusal}
use Rattle.program.specs.declared.refusal.Refusal.TheVariants.{Overfull, OutOfMemory}
use Rattle.program.specs.Programs.{Program}
use Rattle.program.specs.Meanings.{Meaning, overfull, program, atom_count, rules_of}
use Rattle.pile.specs.declared.step.Step.{Step}
use Rattle.pile.specs.Steps.{piled}
use Rattle.word_format.specs.Bytes.{RefusedBytes, bytes_fault, words_of_bytes}
use Rattle.word_format.specs.Checks.{Clear, Lawful}
use Rattle.word_format.specs.Reading.{meaning}
use Rattle.word_format.specs.Writing.{written}
use Rattle.account.specs.Lines.{account_of}

-- the program of the file, after the steps
abbrev pub pile_of : List ℕ → List Step → Meaning
pile_of bs steps = piled steps (program (meaning (words_of_bytes bs)))

-- the program that a source means; an overfull one means none, and has the program with no atoms and rules
abbrev pub program_of : Meaning → Program
program_of m = record { atoms = atom_count m; rules = rules_of m }

-- the words of that program
abbrev pub written_words : Meaning → List ℕ
written_words m = written (program_of m)

-- The text is the account of a program, which is that of its writing in words.
abbrev pub Accounted : Meaning → List ℕ → Type 0
Accounted overfull text = ⊥
Accounted (program P) text = text ≡ account_of (written P)

-- why there is no account of a source
abbrev pub RefusedAccount : Meaning → Refusal → Type 0
RefusedAccount overfull e = e ≡ Overfull
RefusedAccount (program P) e = e ≡ OutOfMemory

abbrev pub Accepted : List ℕ → Type 0
Accepted bs = Clear (bytes_fault bs) × Lawful (words_of_bytes bs)

-- why there is no account: the refusal of the file, or that the pile is overfull, or that memory lacks
abbrev pub RefusedPile : List ℕ → List Step → Refusal → Type 0
RefusedPile bs steps e = RefusedBytes bs e ⊎ ((Accepted bs × (pile_of bs steps ≡ overfull) × (e ≡ Overfull)) ⊎ (e ≡ OutOfMemory))
