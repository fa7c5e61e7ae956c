use Rattle.std.proofs.Common.{◌≡◌, ◌++◌, map, vec_items}
use Rattle.atoms.specs.Member.{has}
use Rattle.word_format.specs.Writing.{word_of, words_of}
use Rattle.word_format.proofs.write.push_part.Given as goal

-- what is written, with the words of the atoms that are left, is all
abbrev pub invariant-loop-atom : goal.invariant-loop-atom
invariant-loop-atom l = vec_items l.words ++ map (word_of l.kind) l.atom-iterator ≡ vec_items l.initial.words ++ words_of l.kind (has l.part) l.n
