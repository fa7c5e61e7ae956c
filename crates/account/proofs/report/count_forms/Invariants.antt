use Rattle.std.proofs.Common.{length}
use Rattle.account.specs.Inspecting.{program_of}
use Rattle.account.proofs.Accounts.{Tallied}
use Rattle.account.proofs.report.count_forms.Given as goal

abbrev pub invariant-loop-rule : goal.invariant-loop-rule
invariant-loop-rule g l = Tallied (program_of (g.S.RuleSource.meaning l.source)) (length l.yielded) l.counts
