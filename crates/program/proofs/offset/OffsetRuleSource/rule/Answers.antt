use Rattle.std.proofs.Common.{rules, sym, length}
use Rattle.std.proofs.lemmas.Bool.{ltb-true}
use Rattle.program.specs.Rules.{as_rule}
use Rattle.program.specs.Meanings.{rules_of}
use Rattle.program.proofs.Offsets.{offset_rule}
use Rattle.program.proofs.offset.OffsetRuleSource.rule.Goals as goal

pub returns-clause-after : goal.returns-clause-after
returns-clause-after g c =
    let s = c.args.self.now.source in
    offset_rule c.args.self.now.by (g.S.RuleSource.meaning s) (g.S.RuleSource.small s) (search rules) c.args.k (as_rule c.args.place.now) c.rule.new.place
    c.shifted.result (ltb-true c.args.k (length (rules_of (g.S.RuleSource.meaning s))) (sym c.if-not-rule.ensures.test)) c.rule.ensures.after (c.shifted.ensures.heads, c.shifted.ensures.needs, c.shifted.ensures.bars)
