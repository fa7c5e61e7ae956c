use Rattle.program.specs.Meanings.{program}
use Rattle.program.specs.Tables.{tabled}
use Rattle.pile.specs.Steps.{piled}
use Rattle.pile.proofs.Piles.{refused, refused_step}
use Rattle.pile.proofs.assemble.assemble.Goals as goal

pub returns-in_err-pile : goal.returns-in_err-pile
returns-in_err-pile g c =
    refused c.args.steps.now (g.S.RuleSource.meaning c.args.source.now) c.in_err-pile.field-0.0 c.from_residual.result c.from_residual.ensures.1
    c.in_err-pile.ensures.loads

pub returns-in_err-pile-2 : goal.returns-in_err-pile-2
returns-in_err-pile-2 g c =
    refused_step c.args.steps.now c.loop-step.step-index (program (tabled c.loop-step.pile)) (piled c.args.steps.now (g.S.RuleSource.meaning c.args.source.now))
    c.step-item.result c.in_err-pile-2.field-0.0 c.from_residual-in_err-pile-2.result c.loop-step-test.true c.step-item.is
    c.loop-step.invariant c.from_residual-in_err-pile-2.ensures.1 c.in_err-pile-2.ensures
