-- How a program is written in words, and which programs can be.
use Rattle.std.specs.Prelude.{◌≡◌, ℕ, zero, suc, ◌+◌, ◌*◌, ◌^◌, ◌≤◌, if◌then◌else◌, List, [], ◌∷◌, ◌++◌, length, Ok, Err, Result, ◌≢◌}
use Rattle.std.specs.List.{flat_map, AllByRecursion}
use Rattle.atoms.specs.Sets.{Atoms}
use Rattle.program.specs.declared.refusal.Refusal.{Refusal}
use Rattle.word_format.specs.declared.word.Kind.{Kind}
use Rattle.word_format.specs.declared.word.Kind.TheVariants.{Head, Need, Bar, End}
use Rattle.word_format.specs.Words.{rank}
use Rattle.program.specs.Programs.{Rule, Over, Program}
use Rattle.word_format.specs.Reading.{meaning}

-- the word of this kind and number
abbrev pub word_of : Kind → ℕ → ℕ
word_of k i = rank k * 2 ^ 30 + i

-- a word of this kind for each atom of X below n, rising
abbrev pub words_of : Kind → Atoms → ℕ → List ℕ
words_of k X zero = []
words_of k X (suc n) = words_of k X n ++ (if X n then word_of k n ∷ [] else [])

-- heads, needs, bars, end
abbrev pub write_rule : ℕ → Rule → List ℕ
write_rule n r = words_of Head r.heads n ++ (words_of Need r.needs n ++ (words_of Bar r.bars n ++ word_of End 0 ∷ []))

-- the header, and then the rules in order
abbrev pub written : Program → List ℕ
written P = word_of End P.atoms ∷ flat_map (write_rule P.atoms) P.rules

-- the programs that have a writing
pub record InBounds (P : Program) : Type 0 where
  pub few_atoms : P.atoms ≤ 256
  pub few_rules : length P.rules ≤ 1024
  pub few_words : length (written P) ≤ 16384
  pub over : AllByRecursion (Over P.atoms) P.rules

-- Words are accepted exactly when they are the writing of a program within the bounds, and that program is what they mean.
abbrev pub Reads : List ℕ → Result (Unit {0}) Refusal → Type 0
Reads ws (Ok _) = InBounds (meaning ws) × (written (meaning ws) ≡ ws) × ((P : Program) → InBounds P → written P ≡ ws → meaning ws ≡ P)
Reads ws (Err _) = (P : Program) → InBounds P → written P ≢ ws
