-- What a source of rules means, and what it answers.
use Rattle.std.specs.Prelude.{ℕ, List, [], length}
use Rattle.program.specs.Programs.{Rule, Program, Limited}

pub data Meaning : Type 0 where
  -- there would be too many atoms or rules
  overfull : Meaning
  -- a number of atoms and a list of rules
  program : Program → Meaning

-- the answers to the three questions
abbrev pub atom_count : Meaning → ℕ
atom_count overfull = 0
atom_count (program P) = P.atoms

abbrev pub rule_count : Meaning → ℕ
rule_count overfull = 1025
rule_count (program P) = length P.rules

abbrev pub rules_of : Meaning → List Rule
rules_of overfull = []
rules_of (program P) = P.rules

-- a program keeps the limits
abbrev pub Small : Meaning → Type 0
Small overfull = Unit {0}
Small (program P) = Limited P
