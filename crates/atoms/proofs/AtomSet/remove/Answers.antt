use Rattle.std.proofs.Common.{arith}
use Rattle.atoms.proofs.Words.{removed}
use Rattle.atoms.proofs.AtomSet.remove.Goals as goal

pub returns : goal.returns
returns c = removed c.args.self.now.words c.args.i c.without_digit.result (omega arith) c.args.self.now.long c.without_digit.ensures
