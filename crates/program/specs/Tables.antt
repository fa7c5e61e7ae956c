-- What a table of rules means, and what loading answers.
use Rattle.std.specs.Prelude.{◌≡◌, ◌⊎◌, map, Ok, Err, Result, vec_items}
use Rattle.program.specs.Programs.{Program, Limited}
use Rattle.program.specs.Rules.{as_rule}
use Rattle.program.specs.Meanings.{Meaning, overfull, program, Small}
use Rattle.program.specs.declared.refusal.Refusal.{Refusal}
use Rattle.program.specs.declared.refusal.Refusal.TheVariants.{Overfull, OutOfMemory}
use Rattle.program.specs.declared.table.RuleTable.{RuleTable}

abbrev pub tabled : RuleTable → Program
tabled t = record { atoms = t.atoms; rules = map as_rule (vec_items t.rules) }

pub table_limits : (t : RuleTable) → Limited (tabled t)
table_limits t = t.limited

-- what an answer of loading means as a source, where memory was not wanting: what its table means, and overfull where there is none
abbrev pub loaded_meaning : Result RuleTable Refusal → Meaning
loaded_meaning (Ok t) = program (tabled t)
loaded_meaning (Err e) = overfull

pub loaded_small : (r : Result RuleTable Refusal) → Small (loaded_meaning r)
loaded_small (Ok t) = table_limits t
loaded_small (Err e) = tt

-- the table of what is meant, or that it is overfull, or that memory lacks
abbrev pub Loads : Meaning → Result RuleTable Refusal → Type 0
Loads m (Ok t) = program (tabled t) ≡ m
Loads m (Err e) = ((m ≡ overfull) × (e ≡ Overfull)) ⊎ (e ≡ OutOfMemory)
