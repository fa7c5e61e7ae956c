use Rattle.std.proofs.Common.{◌≡◌, drop}
use Rattle.program.specs.Meanings.{program}
use Rattle.program.specs.Tables.{tabled}
use Rattle.pile.specs.Steps.{piled}
use Rattle.pile.proofs.assemble.assemble.Given as goal

-- what is left to do makes the whole pile
abbrev pub invariant-loop-step : goal.invariant-loop-step
invariant-loop-step g l = piled (drop l.step-index l.steps) (program (tabled l.pile)) ≡ piled l.steps (g.S.RuleSource.meaning l.source)
