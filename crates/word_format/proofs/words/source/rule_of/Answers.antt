use Rattle.word_format.proofs.RuleSpelled.{rule_more}
use Rattle.word_format.proofs.words.source.rule_of.Goals as goal

pub loop-word-preserved : goal.loop-word-preserved
loop-word-preserved c =
    rule_more c.args.words.now c.loop-word.word-index c.loop-word-test.true c.loop-word.rule c.add_word.new.rule c.loop-word.invariant c.add_word.ensures.heads
    c.add_word.ensures.needs c.add_word.ensures.bars
