-- What a word program holds, and what opening does to it.
use Rattle.std.specs.Prelude.{◌≡◌, ℕ, ◌⊎◌, List, Ok, Err, vec_items, Result}
use Rattle.program.specs.declared.refusal.Refusal.{Refusal}
use Rattle.program.specs.declared.refusal.Refusal.TheVariants.{OutOfMemory}
use Rattle.word_format.specs.declared.words.WordProgram.{WordProgram}
use Rattle.word_format.specs.Checks.{Lawful, Refused}
use Rattle.program.specs.Programs.{Program}
use Rattle.word_format.specs.Reading.{meaning}
use Rattle.word_format.specs.Writing.{Reads}

abbrev pub contents : WordProgram → List ℕ
contents p = vec_items p.words

abbrev pub program_of : WordProgram → Program
program_of p = meaning (contents p)

-- Lawful words are held from then on, unless memory lacks. A refusal leaves the place as it was.
abbrev pub Opens : List ℕ → WordProgram → Result (Unit {0}) Refusal → WordProgram → Type 0
Opens ws before (Ok u) after = Lawful ws × (contents after ≡ ws) × Reads ws (Ok u)
Opens ws before (Err e) after = (after ≡ before) × ((Refused ws e × Reads ws (Err e)) ⊎ (Lawful ws × (e ≡ OutOfMemory)))
