-- Which atoms an `AtomSet` holds.
use Rattle.std.specs.Prelude.{◌≡◌, ℕ, zero, suc, ◌+◌, ◌/◌, ◌%◌, ◌^◌, ◌<◌, Bool, true, false, List, [], ◌∷◌, ◌++◌, if◌then◌else◌, not, ◌&&◌, ◌||◌, ◌==◌, map, slice_index}
use Rattle.std.specs.declared.cmp.Ordering.{Ordering}
use Rattle.std.specs.declared.cmp.Ordering.TheVariants.{Equal}
use Rattle.std.specs.Ordering.{bool_cmp, ordering_then}
use Rattle.atoms.specs.Sets.{Atoms}
use Rattle.atoms.specs.declared.AtomSet.{AtomSet}

-- whether the digit k of w is set
abbrev pub bit : ℕ → ℕ → Bool
bit w k = w / 2 ^ k % 2 == 1

-- whether the atom i is in the set: the digit i % 64 of the word i / 64
abbrev pub has : AtomSet → Atoms
has s i = bit (slice_index s.words (i / 64)) (i % 64)

-- how many numbers below n are in X
unfoldable pub tally : Atoms → ℕ → ℕ
tally X zero = 0
tally X (suc n) = tally X n + (if X n then 1 else 0)

-- how many atoms a set has
abbrev pub size : AtomSet → ℕ
size s = tally (has s) 256

-- the numbers below n that are in X, rising
unfoldable pub members_below : Atoms → ℕ → List ℕ
members_below X zero = []
members_below X (suc n) = members_below X n ++ (if X n then n ∷ [] else [])

-- the atoms of a set, rising
abbrev pub members : AtomSet → List ℕ
members s = members_below (has s) 256

-- what is left of a set in which a word is begun: the atom n + k for each digit k of the word w that is set, and then those of s
unfoldable pub left : ℕ → ℕ → AtomSet → List ℕ
left n w s = map (λ k. n + k) (members_below (bit w) 64) ++ members s

-- i is in X, and no smaller number is
abbrev pub Lowest : Atoms → ℕ → Type 0
Lowest X i = (X i ≡ true) × ((j : ℕ) → j < i → X j ≡ false)

-- whether two tests differ
abbrev pub differ : Bool → Bool → Bool
differ x y = (x && not y) || (y && not x)

-- X against Y at the m atoms from i on: at the lowest one in which they differ, the set that lacks it is less
unfoldable pub cmp_from : ℕ → ℕ → Atoms → Atoms → Ordering
cmp_from zero i X Y = Equal
cmp_from (suc m) i X Y = ordering_then (bool_cmp (X i) (Y i)) (cmp_from m (suc i) X Y)

-- what `cmp` answers
abbrev pub set_cmp : AtomSet → AtomSet → Ordering
set_cmp s t = cmp_from 256 0 (has s) (has t)
