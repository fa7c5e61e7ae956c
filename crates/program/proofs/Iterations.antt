-- What a loop over the rules of a source was given.
use Rattle.std.proofs.Common.{◌≡◌, ◌<◌, List, Option, Some, None, length, ◌∙◌}
use Rattle.std.proofs.lemmas.Iterator.Consumers.{YieldsList-from_first, YieldsList-turn, YieldsList-end}
use Rattle.std.proofs.lemmas.List.{get_or_default}
use Rattle.std.specs.Iterator.{Yields, YieldsFirstBy}
use Rattle.program.specs.Iterated.{rules_left}
use Rattle.program.specs.Meanings.{Meaning}
use Rattle.program.specs.Programs.{Rule, no_rule, rule_at}
use Rattle.program.specs.Rules.{as_rule}
use Rattle.program.specs.declared.rule.Rule.{Rule as RuleValue}
use Rattle.program.specs.declared.rules.Rules.{Rules}

-- all rules were left at first; then these were given, and then the answer r
module _ {S : Type 0} (meaning : S → Meaning) (s t u : Rules S) (all : List Rule) (first : rules_left meaning s ≡ all) (given : List RuleValue)
    (way : Yields (YieldsFirstBy as_rule (rules_left meaning)) s given t) (r : Option RuleValue) (step : YieldsFirstBy as_rule (rules_left meaning) t r u) where
  -- a rule that is given is the one at the number of those before
  pub rule_given : (x : RuleValue) → r ≡ Some x → (length given < length all) × (as_rule x ≡ rule_at all (length given))
  rule_given x is =
      let h = YieldsList-turn (YieldsList-from_first as_rule (rules_left meaning) all first) given t way r u x is step in
      (h.0, h.1 ∙ get_or_default all (length given) (as_rule x) no_rule h.0)

  -- at the end all were given
  pub all_given : r ≡ None → length given ≡ length all
  all_given is = (YieldsList-end (YieldsList-from_first as_rule (rules_left meaning) all first) given t way r u is step).1
