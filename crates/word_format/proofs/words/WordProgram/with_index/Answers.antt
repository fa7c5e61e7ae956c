use Rattle.std.proofs.Common.{vec_items}
use Rattle.word_format.proofs.Law.{limited_meaning, write_meaning}
use Rattle.word_format.proofs.words.WordProgram.with_index.Goals as goal

pub invariant_of-result-clause-limited : goal.invariant_of-result-clause-limited
invariant_of-result-clause-limited c = limited_meaning (vec_items c.args.words) c.requires.lawful

pub invariant_of-result-clause-as_written : goal.invariant_of-result-clause-as_written
invariant_of-result-clause-as_written c = (write_meaning (vec_items c.args.words) c.requires.lawful).1
