use Rattle.std.proofs.Common.{map, rules, vec_items}
use Rattle.program.specs.Rules.{as_rule}
use Rattle.program.proofs.Tables.{gathered_limits}
use Rattle.program.proofs.load.load.Goals as goal

pub invariant_of-result : goal.invariant_of-result
invariant_of-result g c =
    let source = c.args.source.now in
    let held = map as_rule (vec_items c.in_ok-gather.field-0) in
    record {
      limited = gathered_limits (g.S.RuleSource.meaning source) (g.S.RuleSource.small source) (search rules) c.atom_count.result held c.atom_count.ensures c.in_ok-gather.ensures;
    }
