-- The laws of the order of sets, and of lists of sets in that order.
use Rattle.std.specs.Prelude.{◌≡◌, ℕ, ◌<◌, ◌⊎◌, List, ◌++◌, length, slice_index_or}
use Rattle.std.specs.List.{ContainsAt as Has, AllByRecursion}
use Rattle.std.specs.Ordering.{MatchOrdering}
use Rattle.atoms.specs.declared.AtomSet.{AtomSet}
use Rattle.atoms.specs.Member.{has, set_cmp}
use Rattle.atoms.specs.Sets.{Atoms, none, Within, Precedes, Rising, Lists, Position, UpTo, After, PositionWithin, NotAfter}

pub record OrderLaws : Type 0 where
  -- no set precedes itself
  pub irreflexive : (X : Atoms) → Precedes X X → ⊥
  -- what precedes a set precedes what comes after that set
  pub transitive : (X Y Z : Atoms) → Precedes X Y → Precedes Y Z → Precedes X Z
  -- two sets within n are equal, or one precedes the other
  pub total : (n : ℕ) (X Y : Atoms) → Within n X → Within n Y → (X ≡ Y) ⊎ (Precedes X Y ⊎ Precedes Y X)

-- what the comparison answers of two values: which of them precedes, or that they are the same
abbrev pub CmpLaw : Type 0
CmpLaw = (s t : AtomSet) → MatchOrdering (set_cmp s t) (Precedes (has s) (has t)) (s ≡ t) (Precedes (has t) (has s))

-- A property of sets is given here by a list K, in any order, of the sets that have it.
-- So it is said of every property of which there is a list at all.
pub record ListLaws : Type 0 where
  -- a rising list has each set once
  pub once : (L : List Atoms) → Rising L → (i j : ℕ) → i < length L → j < length L → slice_index_or L i none ≡ slice_index_or L j none → i ≡ j
  -- two lists of the same sets are equal
  pub unique : (K L M : List Atoms) → Lists (Has K) L → Lists (Has K) M → L ≡ M
  -- what is up to p, followed by what is after p and up to q, is what is up to q
  pub append : (n : ℕ) (K : List Atoms) (p q : Position) (L M : List Atoms) → AllByRecursion (Within n) K → PositionWithin n p → NotAfter p q
      → Lists (λ X. Has K X × UpTo p X) L → Lists (λ X. Has K X × (After p X × UpTo q X)) M → Lists (λ X. Has K X × UpTo q X) (L ++ M)
