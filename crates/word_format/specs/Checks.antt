-- When a list of words is lawful, and else the refusal that it gets: the first test that fails.
use Rattle.std.specs.Prelude.{◌≡◌, ℕ, ◌+◌, ◌-◌, ◌^◌, ◌<◌, Bool, true, false, if◌then◌else◌, ◌&&◌, ◌||◌, ◌⊎◌, List, [], ◌∷◌, length, take, drop, is_some, Some, None, Option, ◌==◌, nat_le, nat_lt, slice_index}
use Rattle.program.specs.declared.refusal.Refusal.{Refusal}
use Rattle.program.specs.declared.refusal.Refusal.TheVariants.{BadHeader, TooManyAtoms, NoSuchAtom, OutOfOrder, BadEnd, Unfinished, TooManyRules, TooLong}
use Rattle.word_format.specs.Words.{kind_of, number_of, rank, is_end}

-- how many end words there are
abbrev pub ends : List ℕ → ℕ
ends [] = 0
ends (w ∷ ws) = (if is_end w then 1 else 0) + ends ws

-- w may stand after p: p ends a rule or is the header, or w is of a later kind, or of the same kind with a higher number
abbrev pub follows : ℕ → ℕ → Bool
follows p w = is_end p || (nat_lt (rank (kind_of p)) (rank (kind_of w)) || (rank (kind_of p) == rank (kind_of w) && nat_lt (number_of p) (number_of w)))

-- the fault of a head, need or bar w after the word p, where there are n atoms
abbrev pub atom_fault : ℕ → ℕ → ℕ → Option Refusal
atom_fault n p w = if nat_le 256 (number_of w) || nat_le n (number_of w) then Some NoSuchAtom else (if follows p w then None else Some OutOfOrder)

-- the fault of an end word w after e others, the header aside
abbrev pub end_fault : ℕ → ℕ → Option Refusal
end_fault e w = if number_of w == 0 then (if nat_lt e 1024 then None else Some TooManyRules) else Some BadEnd

-- the fault of a word w after the header: n atoms, p the word before it, e end words before it
abbrev pub fault : ℕ → ℕ → ℕ → ℕ → Option Refusal
fault n p e w = if is_end w then end_fault e w else atom_fault n p w

-- the fault of the word after the one at position i
abbrev pub fault_after : List ℕ → ℕ → Option Refusal
fault_after ws i = fault (number_of (slice_index ws 0)) (slice_index ws i) (ends (take i (drop 1 ws))) (slice_index ws (i + 1))

-- the fault of the first word
abbrev pub header_fault : ℕ → Option Refusal
header_fault w = if is_end w then (if nat_lt 256 (number_of w) then Some TooManyAtoms else None) else Some BadHeader

-- the fault of the whole: its length, that there is a first word, and the first word
abbrev pub front_fault : List ℕ → Option Refusal
front_fault [] = Some BadHeader
front_fault (w ∷ ws) = if nat_lt 16384 (length (w ∷ ws)) then Some TooLong else header_fault w

-- the last word ends a rule or is the header
abbrev pub finished : List ℕ → Bool
finished ws = is_end (slice_index ws (length ws - 1))

-- there is no fault
abbrev pub Clear : Option Refusal → Type 0
Clear o = is_some o ≡ false

-- no word up to the one at position i has a fault
abbrev pub ClearUpTo : List ℕ → ℕ → Type 0
ClearUpTo ws i = Clear (front_fault ws) × ((j : ℕ) → j < i → Clear (fault_after ws j))

-- no fault in front or on any word, a finished last rule, and words of 32 bits
abbrev pub Lawful : List ℕ → Type 0
Lawful ws = Clear (front_fault ws) × ((i : ℕ) → i + 1 < length ws → Clear (fault_after ws i)) × (finished ws ≡ true) × ((i : ℕ) → slice_index ws i < 2 ^ 32)

-- The front has this fault; or some word after the header has it and no word before has one; or only the end is missing.
abbrev pub Refused : List ℕ → Refusal → Type 0
Refused ws r =
    (front_fault ws ≡ Some r)
    ⊎ (((i : ℕ) × (i + 1 < length ws) × ClearUpTo ws i × (fault_after ws i ≡ Some r))
    ⊎ (ClearUpTo ws (length ws - 1) × (finished ws ≡ false) × (r ≡ Unfinished)))
