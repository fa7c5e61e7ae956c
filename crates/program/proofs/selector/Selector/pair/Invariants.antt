use Rattle.std.proofs.Common.{◌≡◌, ◌+◌, ◌-◌, slice_get}
use Rattle.program.specs.Selectors.{exclusions, exclusions_in}
use Rattle.program.proofs.selector.Selector.pair.Given as goal

-- what is asked of all pairs is asked of those from `low` on
abbrev pub invariant-loop-low : goal.invariant-loop-low
invariant-loop-low l = slice_get (exclusions_in l.self) l.k ≡ slice_get (exclusions l.low (l.self.last + 1 - l.low)) l.rest
