-- The rule that a value of the type `Rule` holds: its three sets, by membership.
use Rattle.std.specs.Prelude.{◌≡◌, ℕ, ◌-◌, ◌&&◌, nat_le, nat_lt}
use Rattle.atoms.specs.Member.{has}
use Rattle.atoms.specs.Sets.{Atoms}
use Rattle.program.specs.Programs.{Rule}
use Rattle.program.specs.declared.rule.Rule.{Rule as RuleValue}

abbrev pub as_rule : RuleValue → Rule
as_rule r = record { heads = has r.heads; needs = has r.needs; bars = has r.bars }

-- the value holds the rule R, atom by atom
abbrev pub Holds : RuleValue → Rule → Type 0
Holds r R = (i : ℕ) → (has r.heads i ≡ R.heads i) × (has r.needs i ≡ R.needs i) × (has r.bars i ≡ R.bars i)

-- the atoms i + d for each atom i of X, without those that pass 255
abbrev pub shifted_set : ℕ → Atoms → Atoms
shifted_set d X i = nat_le d i && (nat_lt i 256 && X (i - d))
