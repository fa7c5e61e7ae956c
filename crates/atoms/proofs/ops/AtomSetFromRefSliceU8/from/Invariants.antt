use Rattle.std.proofs.Common.{◌≡◌, ℕ, ◌==◌, take}
use Rattle.std.specs.List.{list_any}
use Rattle.atoms.specs.Member.{has}
use Rattle.atoms.proofs.ops.AtomSetFromRefSliceU8.from.Given as goal

-- what the atoms so far say
abbrev pub invariant-loop-i : goal.invariant-loop-i
invariant-loop-i l = (j : ℕ) → has l.s j ≡ list_any (λ k. j == k) (take l.i-index l.atoms)
