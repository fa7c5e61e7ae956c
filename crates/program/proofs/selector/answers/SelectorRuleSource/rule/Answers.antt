use Rattle.program.specs.Rules.{as_rule}
use Rattle.program.specs.Selectors.{some_outlet, exclusion, exclusions_in}
use Rattle.program.proofs.Outlets.{first_rule, later_rule}
use Rattle.program.proofs.selector.answers.SelectorRuleSource.rule.Goals as goal

pub returns-then-k-eq0-clause-after : goal.returns-then-k-eq0-clause-after
returns-then-k-eq0-clause-after c =
    let s = c.args.self.now in
    first_rule (some_outlet s.box_atom s.first s.last) (exclusions_in s) (as_rule c.args.place.now) c.args.k c.some_outlet.result c.if-k-eq0.true
    c.some_outlet.ensures

pub returns-in-Some-clause-after : goal.returns-in-Some-clause-after
returns-in-Some-clause-after c =
    let s = c.args.self.now in
    let p = c.in-Some.pair in
    later_rule (some_outlet s.box_atom s.first s.last) (exclusions_in s) (as_rule c.args.place.now) c.args.k (exclusion p.low p.high) c.exclusion.result
    c.if-k-eq0.false c.in-Some.ensures.some c.exclusion.ensures
