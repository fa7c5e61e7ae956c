use Rattle.std.proofs.Common.{length, sym, subst, ap, ◌∙◌}
use Rattle.std.proofs.lemmas.List.{length_push}
use Rattle.program.proofs.Iterations.{rule_given, all_given}
use Rattle.program.specs.Programs.{Rule, Over}
use Rattle.word_format.specs.Showing.{form_of}
use Rattle.word_format.specs.Writing.{write_rule}
use Rattle.account.specs.Inspecting.{program_of}
use Rattle.account.proofs.Accounts.{program_limits, tallied_more, tallied_all}
use Rattle.account.proofs.report.count_forms.Goals as goal

pub loop-rule-preserved : goal.loop-rule-preserved
loop-rule-preserved g c =
    let m = g.S.RuleSource.meaning c.args.source.now in
    let P = program_of m in
    let limits = program_limits m (g.S.RuleSource.small c.args.source.now) in
    let given = c.loop-rule.yielded in
    let (there, same) = rule_given g.S.RuleSource.meaning _ _ c.next.new.self P.rules (cc) given c.loop-rule.yielded_by _ c.next.ensures.steps c.in-Some.rule c.in-Some.is in
    let over = subst (λ (r : Rule). Over P.atoms r) (sym same) (limits.2 (length given)) in
    rw (length_push given c.in-Some.rule) (
    tallied_more P limits (length given) c.form_of.result there (c.form_of.ensures P.atoms limits.0 over ∙ ap (λ (r : Rule). form_of (write_rule P.atoms r)) same)
    c.loop-rule.counts c.with-counts.result c.loop-rule.invariant c.with-counts.ensures.facts c.with-counts.ensures.bodies c.with-counts.ensures.constraints
    )

pub returns : goal.returns
returns g c =
    let m = g.S.RuleSource.meaning c.args.source.now in
    let P = program_of m in
    let given = c.loop-rule.yielded in
    let all = all_given g.S.RuleSource.meaning _ _ c.next.new.self P.rules (cc) given c.loop-rule.yielded_by _ c.next.ensures.steps c.in-None.is in
    tallied_all P (program_limits m (g.S.RuleSource.small c.args.source.now)) (length given) c.loop-rule.counts all c.loop-rule.invariant
