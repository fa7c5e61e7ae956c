use Rattle.account.proofs.RuleParts.{sets_spelled}
use Rattle.account.proofs.text.RuleText.of_sets.Goals as goal

pub returns : goal.returns
returns c = λ n small over. sets_spelled n c.args.rule.now c.is_empty.result small over c.is_empty.ensures
