-- What a value of the type `Rule` holds.
use Rattle.std.proofs.Common.{◌≡◌, ℕ}
use mathlib.Core.Path.{fun_ext}
use Rattle.program.specs.Programs.{Rule}
use Rattle.program.specs.Rules.{as_rule, Holds}
use Rattle.program.specs.declared.rule.Rule.{Rule as RuleValue}

-- rules with the same atoms are the same
pub same_rule : (R S : Rule) → ((i : ℕ) → R.heads i ≡ S.heads i) → ((i : ℕ) → R.needs i ≡ S.needs i) → ((i : ℕ) → R.bars i ≡ S.bars i) → R ≡ S
same_rule R S h n b = λ t. record { heads = fun_ext h t; needs = fun_ext n t; bars = fun_ext b t }

pub held : (r : RuleValue) (R : Rule) → Holds r R → as_rule r ≡ R
held r R h = same_rule (as_rule r) R (λ i. (h i).0) (λ i. (h i).1) (λ i. (h i).2)
