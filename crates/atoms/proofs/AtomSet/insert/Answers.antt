use Rattle.std.proofs.Common.{arith}
use Rattle.atoms.proofs.Words.{inserted}
use Rattle.atoms.proofs.AtomSet.insert.Goals as goal

pub returns : goal.returns
returns c = inserted c.args.self.now.words c.args.i c.with_digit.result (omega arith) c.args.self.now.long c.with_digit.ensures
