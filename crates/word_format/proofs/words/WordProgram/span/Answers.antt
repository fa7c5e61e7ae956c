use Rattle.std.proofs.Common.{arith}
use Rattle.word_format.proofs.Begins.{spans}
use Rattle.word_format.proofs.words.WordProgram.span.Goals as goal

pub returns : goal.returns
returns c = spans c.args.self.now c.args.k c.index.result.now c.index-2.result.now (omega arith) c.index.ensures c.index-2.ensures
