use Rattle.std.proofs.Common.{◌≡◌, OnOk, drop, map, ap, subst}
use Rattle.std.proofs.lemmas.Iterator.Adapters.{fact_from_extend}
use Rattle.std.proofs.lemmas.Iterator.Consumers.{YieldsList-from_first}
use Rattle.program.specs.Meanings.{rules_of}
use Rattle.program.specs.Rules.{as_rule}
use Rattle.program.specs.declared.load.Counted.{Counted}
use Rattle.program.proofs.Tables.{gathered_items}
use Rattle.program.proofs.load.gather.Goals as goal

pub returns : goal.returns
returns g c =
    let all = rules_of (g.S.RuleSource.meaning c.args.source.now) in
    let left = λ (s : Counted _ _). drop s.next (rules_of (g.S.RuleSource.meaning s.source.now)) in
    let gathered : OnOk c.extend.result (map as_rule c.extend.new.self.items ≡ all) =
    fact_from_extend as_rule c.extend.result c.extend.ensures.ran (λ it b. YieldsList-from_first as_rule left all (ap left b))
    (λ xs e h. gathered_items c.in_ok-rules.rules.items c.extend.new.self.items xs all h.0 c.in_ok-rules.ensures.items e) in
    subst (λ r. OnOk r (map as_rule c.extend.new.self.items ≡ all)) c.in_ok-extend.was gathered
