-- Sets of atoms, by membership, and their order.
use Rattle.std.specs.Prelude.{◌≡◌, ℕ, ◌<◌, Bool, true, false, not, ◌&&◌, ◌⊎◌, List, [], ◌∷◌}
use Rattle.std.specs.List.{ContainsAt as Has, AllByRecursion}

-- a set says of each number whether it is in
abbrev pub Atoms : Type 0
Atoms = ℕ → Bool

abbrev pub none : Atoms
none i = false

abbrev pub Sub : Atoms → Atoms → Type 0
Sub X Y = (i : ℕ) → X i ≡ true → Y i ≡ true

-- no atom is in both
abbrev pub Apart : Atoms → Atoms → Type 0
Apart X Y = (i : ℕ) → X i ≡ true → Y i ≡ false

-- some atom is in both
abbrev pub Meets : Atoms → Atoms → Type 0
Meets X Y = (i : ℕ) × (X i ≡ true) × (Y i ≡ true)

-- Y is a subset of X that lacks some atom of X
abbrev pub Proper : Atoms → Atoms → Type 0
Proper Y X = Sub Y X × ((i : ℕ) × (X i ≡ true) × (Y i ≡ false))

-- every atom of X is below n
abbrev pub Within : ℕ → Atoms → Type 0
Within n X = (i : ℕ) → X i ≡ true → i < n

abbrev pub without : Atoms → Atoms → Atoms
without X Y i = X i && not (Y i)

-- X lacks the lowest atom in which the two differ, and Y has it
abbrev pub Precedes : Atoms → Atoms → Type 0
Precedes X Y = (i : ℕ) × ((j : ℕ) → j < i → X j ≡ Y j) × (X i ≡ false) × (Y i ≡ true)

-- X has the property, and no set that has it precedes X
abbrev pub First : (Atoms → Type 0) → Atoms → Type 0
First Q X = Q X × ((Y : Atoms) → Q Y → Precedes Y X → ⊥)

-- each element comes before all later ones, in the order R
abbrev pub Ascending : {X : Type 0} → (X → X → Type 0) → List X → Type 0
Ascending R [] = Unit {0}
Ascending R (x ∷ xs) = AllByRecursion (R x) xs × Ascending R xs

-- each set precedes all that come after it
abbrev pub Rising : List Atoms → Type 0
Rising L = Ascending Precedes L

-- L lists the sets of which Q holds: those and no others, in order, each once
pub record Lists (Q : Atoms → Type 0) (L : List Atoms) : Type 0 where
  pub rising : Rising L
  pub sound : AllByRecursion Q L
  pub whole : (X : Atoms) → Q X → Has L X

-- a position in the order: before every set, at a set, after all
pub data Position : Type 0 where
  start : Position
  at : Atoms → Position
  end : Position

abbrev pub UpTo : Position → Atoms → Type 0
UpTo start X = ⊥
UpTo (at Y) X = Precedes X Y ⊎ (X ≡ Y)
UpTo end X = Unit {0}

abbrev pub After : Position → Atoms → Type 0
After start X = Unit {0}
After (at Y) X = Precedes Y X
After end X = ⊥

-- the position is at no set, or at a set within n
abbrev pub PositionWithin : ℕ → Position → Type 0
PositionWithin n start = Unit {0}
PositionWithin n (at X) = Within n X
PositionWithin n end = Unit {0}

-- p comes before q, or is q: what is up to p is up to q
abbrev pub NotAfter : Position → Position → Type 0
NotAfter p q = (X : Atoms) → UpTo p X → UpTo q X
