use Rattle.std.proofs.Common.{◌≡◌, length, string_bytes}
use Rattle.account.specs.Inspecting.{program_of}
use Rattle.account.proofs.Accounts.{Listed, Tallied}
use Rattle.account.proofs.report.push_lines.Given as goal

abbrev pub invariant-loop-number : goal.invariant-loop-number
invariant-loop-number g l = record {
  counted : l.number ≡ length l.yielded;
  listed : Listed (program_of (g.S.RuleSource.meaning l.source)) (length l.yielded) (string_bytes l.initial.text) (string_bytes l.text) l.position;
  tallied : Tallied (program_of (g.S.RuleSource.meaning l.source)) (length l.yielded) l.tally;
}
