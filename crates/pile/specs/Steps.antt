-- What a source means after steps.
use Rattle.std.specs.Prelude.{List, [], ◌∷◌}
use Rattle.program.specs.Combined.{united, offset_by}
use Rattle.program.specs.Meanings.{Meaning}
use Rattle.program.specs.Selectors.{selector_meaning}
use Rattle.pile.specs.declared.step.Step.{Step}
use Rattle.pile.specs.declared.step.Step.TheVariants.{Offset, Select}

abbrev pub stepped : Step → Meaning → Meaning
stepped (Offset d) m = offset_by d m
stepped (Select s) m = united m (selector_meaning s)

-- the steps in order, the first one first
abbrev pub piled : List Step → Meaning → Meaning
piled [] m = m
piled (s ∷ ss) m = piled ss (stepped s m)
