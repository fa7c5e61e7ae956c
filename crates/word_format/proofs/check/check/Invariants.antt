use Rattle.std.proofs.Common.{◌<◌, ◌≤◌, length}
use Rattle.word_format.specs.Walk.{Walked}
use Rattle.word_format.proofs.check.check.Given as goal

abbrev pub invariant-loop-i : goal.invariant-loop-i
invariant-loop-i l = record { some : 0 < length l.words; short : length l.words ≤ 16384; walked : Walked l.words l.i l.check }
