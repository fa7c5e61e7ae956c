-- The rules that an iterator has still to give.
use Rattle.std.specs.Prelude.{List, drop}
use Rattle.program.specs.Programs.{Rule}
use Rattle.program.specs.Meanings.{Meaning, rules_of}
use Rattle.program.specs.declared.rules.Rules.{Rules}

abbrev pub rules_left : {S : Type 0} → (S → Meaning) → Rules S → List Rule
rules_left meaning s = drop s.next (rules_of (meaning s.source.now))
