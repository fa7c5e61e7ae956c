-- Selectors: while the box is on, exactly one of its outlets is on.
use Rattle.std.specs.Prelude.{ℕ, zero, suc, ◌+◌, ◌-◌, max, if◌then◌else◌, ◌&&◌, ◌||◌, List, [], ◌∷◌, ◌++◌, Some, None, Option, ◌==◌, nat_le, nat_lt}
use Rattle.atoms.specs.Sets.{Atoms, none}
use Rattle.program.specs.declared.refusal.Refusal.{Refusal}
use Rattle.program.specs.declared.refusal.Refusal.TheVariants.{AtomTooHigh, BadOutlets, BoxAmongOutlets}
use Rattle.program.specs.declared.selector.Selector.{Selector}
use Rattle.program.specs.Programs.{Rule}
use Rattle.program.specs.Meanings.{Meaning, program}

-- the fault of the box b with the outlets f to l: the first test that fails
abbrev pub selector_fault : ℕ → ℕ → ℕ → Option Refusal
selector_fault b f l =
    if nat_lt 255 b || (nat_lt 255 f || nat_lt 255 l) then Some AtomTooHigh
    else (if nat_lt l f || nat_lt 32 (l + 1 - f) then Some BadOutlets
    else (if nat_le f b && nat_le b l then Some BoxAmongOutlets else None))

-- the atoms from f to l
abbrev pub span : ℕ → ℕ → Atoms
span f l i = nat_le f i && nat_le i l

-- if the box is on, some outlet is
abbrev pub some_outlet : ℕ → ℕ → ℕ → Rule
some_outlet b f l = record { heads = span f l; needs = λ i. (i == b); bars = none }

-- i and j are not both on
abbrev pub exclusion : ℕ → ℕ → Rule
exclusion i j = record { heads = none; needs = λ a. (a == i) || (a == j); bars = none }

-- i with each of the m outlets from j on
abbrev pub exclusions_of : ℕ → ℕ → ℕ → List Rule
exclusions_of i j zero = []
exclusions_of i j (suc m) = exclusion i j ∷ exclusions_of i (suc j) m

-- each two of the m outlets from i on, ordered by the lower and then by the higher
abbrev pub exclusions : ℕ → ℕ → List Rule
exclusions i zero = []
exclusions i (suc m) = exclusions_of i (suc i) m ++ exclusions (suc i) m

-- no two outlets are on together
abbrev pub exclusions_in : Selector → List Rule
exclusions_in s = exclusions s.first (s.last + 1 - s.first)

abbrev pub selector_meaning : Selector → Meaning
selector_meaning s = program (record { atoms = max s.box_atom s.last + 1; rules = some_outlet s.box_atom s.first s.last ∷ exclusions_in s })
