-- The words of a set, for the functions that make a set word by word.
use Rattle.std.specs.Prelude.{◌≡◌, ℕ, ◌+◌, ◌*◌, ◌<◌}
use Rattle.atoms.specs.Sets.{Atoms}
use Rattle.atoms.specs.Member.{bit}

-- the digits of w are what X says of the atoms 64 j to 64 j + 63
pub record IsWord (X : Atoms) (j w : ℕ) : Type 0 where
  pub at : (k : ℕ) → k < 64 → bit w k ≡ X (64 * j + k)
