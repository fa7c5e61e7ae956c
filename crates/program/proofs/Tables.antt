-- The rules of a source, gathered.
use Rattle.std.proofs.Common.{◌≡◌, ℕ, List, [], ◌++◌, map, refl}
use Rattle.program.specs.Programs.{Rule, Limited}
use Rattle.program.specs.Rules.{as_rule}
use Rattle.program.specs.declared.rule.Rule.{Rule as RuleValue}
use Rattle.program.specs.Meanings.{Meaning, overfull, program, atom_count, rules_of, Small}

pub gathered_limits : (m : Meaning) → Small m → (m ≡ overfull → ⊥) → (n : ℕ) (rs : List Rule) → n ≡ atom_count m → rs ≡ rules_of m → Limited (record { atoms = n; rules = rs })
gathered_limits overfull s some n rs a e = absurd (some refl)
gathered_limits (program P) s some n rs a e = rw (a, e) s

-- what an empty vector holds, once these are put to it
pub gathered_items : (old new given : List RuleValue) (all : List Rule) → new ≡ old ++ given → old ≡ [] → map as_rule given ≡ all → map as_rule new ≡ all
gathered_items old new given all more none e = rw (more, none) e
