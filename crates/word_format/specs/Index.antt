-- Where the rules begin.
use Rattle.std.specs.Prelude.{◌≡◌, ℕ, ◌+◌, ◌<◌, ◌≤◌, if◌then◌else◌, List, [], ◌∷◌, length, drop, slice_index, slice_index_or, slice_range}
use Rattle.word_format.specs.Words.{is_end}
use Rattle.word_format.specs.Reading.{segments, meaning}

-- the positions just after the end words, where the first word stands at position i
abbrev pub past_ends : ℕ → List ℕ → List ℕ
past_ends i [] = []
past_ends i (w ∷ ws) = if is_end w then (i + 1) ∷ past_ends (i + 1) ws else past_ends (i + 1) ws

-- rule k begins just after end word k, the header being end word 0; the last entry is the length
abbrev pub starts : List ℕ → List ℕ
starts ws = past_ends 0 ws

-- the words of rule k, its end word included
abbrev pub rule_words : List ℕ → ℕ → List ℕ
rule_words ws k = slice_index_or (segments (drop 1 ws)) k []

-- rule k stands from the one position up to the other
pub record Spans (ws : List ℕ) (k from to : ℕ) : Type 0 where
  pub some : k < length (meaning ws).rules
  pub start : from ≡ slice_index (starts ws) k
  pub order : from ≤ to
  pub high : to ≤ length ws
  pub words : rule_words ws k ≡ slice_range ws from to
