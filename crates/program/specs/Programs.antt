-- Ground disjunctive programs.
use Rattle.std.specs.Prelude.{ℕ, ◌≤◌, List, length, slice_index_or}
use Rattle.atoms.specs.Sets.{Atoms, none, Within}

-- If the needs are in and the bars are out, at least one of the heads is in.
pub record Rule : Type 0 where
  pub heads : Atoms
  pub needs : Atoms
  pub bars : Atoms

-- the rule with no atoms
abbrev pub no_rule : Rule
no_rule = record { heads = none; needs = none; bars = none }

-- every atom of the rule is below n
abbrev pub Over : ℕ → Rule → Type 0
Over n r = Within n r.heads × Within n r.needs × Within n r.bars

-- the atoms are the numbers below `atoms`
pub record Program : Type 0 where
  pub atoms : ℕ
  pub rules : List Rule

-- rule k, and the rule with no atoms past the end
abbrev pub rule_at : List Rule → ℕ → Rule
rule_at rs k = slice_index_or rs k no_rule

-- the limits that every program keeps: on its atoms, on its rules, and that every rule is over its atoms
abbrev pub Limited : Program → Type 0
Limited P = (P.atoms ≤ 256) × (length P.rules ≤ 1024) × ((k : ℕ) → Over P.atoms (rule_at P.rules k))
