use Rattle.word_format.specs.Held.{contents}
use Rattle.word_format.proofs.RuleFetched.{spells}
use Rattle.word_format.proofs.words.source.WordProgramRuleSource.rule.Goals as goal

pub rule_of-requires : goal.rule_of-requires
rule_of-requires c =
    let s = c.args.self.now in
    let at = c.in-Some.span in
    spells (contents s) c.deref.result.now s.lawful s.limited.0 c.args.k at.start at.end c.in-Some.ensures c.deref.ensures.value
