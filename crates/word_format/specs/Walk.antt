-- What the check knows of the words that it has passed. Only the contracts of its private steps cite this file.
use Rattle.std.specs.Prelude.{◌≡◌, ℕ, zero, suc, ◌+◌, ◌<◌, if◌then◌else◌, List, take, drop, Some, None, Ok, Err, Result, slice_index}
use Rattle.program.specs.declared.refusal.Refusal.{Refusal}
use Rattle.word_format.specs.declared.word.Kind.{Kind}
use Rattle.word_format.specs.declared.word.Kind.TheVariants.{Head, Need, Bar, End}
use Rattle.word_format.specs.declared.check.Phase.{Phase}
use Rattle.word_format.specs.declared.check.Phase.TheVariants.{Heads, Needs, Bars}
use Rattle.word_format.specs.declared.check.Checker.{Checker}
use Rattle.word_format.specs.Words.{kind_of, number_of, is_end}
use Rattle.word_format.specs.Checks.{ends, fault, fault_after, header_fault}

-- the phase after a word of this kind
abbrev pub phase_after : Kind → Phase
phase_after Head = Heads
phase_after Need = Needs
phase_after Bar = Bars
phase_after End = Heads

-- the least number that the same kind may have after the word p
abbrev pub floor_after : ℕ → ℕ
floor_after p = if is_end p then 0 else number_of p + 1

-- n atoms, p the word before, e end words so far
abbrev pub Stands : ℕ → ℕ → ℕ → Checker → Type 0
Stands n p e c = (c.phase ≡ phase_after (kind_of p)) × (c.floor ≡ floor_after p) × (c.atoms ≡ n) × (c.rules ≡ e)

-- what taking the word w does after the header
abbrev pub Takes : ℕ → ℕ → ℕ → ℕ → Result (Unit {0}) Refusal → Checker → Type 0
Takes n p e w (Ok _) c = (fault n p e w ≡ None) × Stands n w (e + (if is_end w then 1 else 0)) c
Takes n p e w (Err r) c = fault n p e w ≡ Some r

-- the same from wherever the check stands
abbrev pub TakesFrom : Checker → ℕ → Result (Unit {0}) Refusal → Checker → Type 0
TakesFrom c w r c' = (n p e : ℕ) → Stands n p e c → Takes n p e w r c'

-- what the header w begins
abbrev pub Begins : ℕ → Result Checker Refusal → Type 0
Begins w (Ok c) = (header_fault w ≡ None) × Stands (number_of w) w 0 c
Begins w (Err r) = header_fault w ≡ Some r

-- the first i words, the header among them, have no fault, and the check stands after them
abbrev pub Walked : List ℕ → ℕ → Checker → Type 0
Walked ws zero c = ⊥
Walked ws (suc i) c =
    (header_fault (slice_index ws 0) ≡ None)
    × Stands (number_of (slice_index ws 0)) (slice_index ws i) (ends (take i (drop 1 ws))) c
    × ((j : ℕ) → j < i → fault_after ws j ≡ None)
