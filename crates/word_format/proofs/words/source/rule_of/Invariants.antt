use Rattle.std.proofs.Common.{◌≡◌, take}
use Rattle.program.specs.Rules.{as_rule}
use Rattle.word_format.specs.Reading.{rule_of}
use Rattle.word_format.proofs.words.source.rule_of.Given as goal

abbrev pub invariant-loop-word : goal.invariant-loop-word
invariant-loop-word l = as_rule l.rule ≡ rule_of (take l.word-index l.words)
