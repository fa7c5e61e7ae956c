-- A file's bytes: four make a word, the most significant first.
use Rattle.std.specs.Prelude.{◌≡◌, ℕ, ◌+◌, ◌*◌, ◌%◌, ◌^◌, if◌then◌else◌, ◌⊎◌, List, [], ◌∷◌, length, Some, None, Ok, Err, Option, Result, ◌==◌, nat_lt}
use Rattle.program.specs.declared.refusal.Refusal.{Refusal}
use Rattle.program.specs.declared.refusal.Refusal.TheVariants.{TooLong, PartialWord, OutOfMemory}
use Rattle.word_format.specs.declared.words.WordProgram.{WordProgram}
use Rattle.word_format.specs.Checks.{Clear, Refused}
use Rattle.word_format.specs.Held.{Opens}

abbrev pub words_of_bytes : List ℕ → List ℕ
words_of_bytes [] = []
words_of_bytes (a ∷ []) = []
words_of_bytes (a ∷ b ∷ []) = []
words_of_bytes (a ∷ b ∷ c ∷ []) = []
words_of_bytes (a ∷ b ∷ c ∷ d ∷ bs) = (a * 2 ^ 24 + b * 2 ^ 16 + c * 2 ^ 8 + d) ∷ words_of_bytes bs

-- the fault of the bytes as such, tested before the words
abbrev pub bytes_fault : List ℕ → Option Refusal
bytes_fault bs = if nat_lt 65536 (length bs) then Some TooLong else (if length bs % 4 == 0 then None else Some PartialWord)

-- the refusal of a file: of its bytes, or else of its words
abbrev pub RefusedBytes : List ℕ → Refusal → Type 0
RefusedBytes bs e = (bytes_fault bs ≡ Some e) ⊎ (Clear (bytes_fault bs) × Refused (words_of_bytes bs) e)

-- as opening the words, once the bytes are found good
abbrev pub OpensBytes : List ℕ → WordProgram → Result (Unit {0}) Refusal → WordProgram → Type 0
OpensBytes bs before (Ok u) after = Clear (bytes_fault bs) × Opens (words_of_bytes bs) before (Ok u) after
OpensBytes bs before (Err e) after = (after ≡ before) × (RefusedBytes bs e ⊎ (Clear (bytes_fault bs) × (e ≡ OutOfMemory)))
