-- What a list of words means.
use Rattle.std.specs.Prelude.{ℕ, false, if◌then◌else◌, ◌&&◌, ◌||◌, List, [], ◌∷◌, map, drop, ◌==◌, slice_index}
use Rattle.atoms.specs.Sets.{Atoms}
use Rattle.word_format.specs.declared.word.Kind.{Kind}
use Rattle.word_format.specs.declared.word.Kind.TheVariants.{Head, Need, Bar}
use Rattle.word_format.specs.Words.{number_of, is_end, is_kind}
use Rattle.program.specs.Programs.{Rule, Program}

-- the atoms that stand in words of this kind
abbrev pub holds : Kind → List ℕ → Atoms
holds k [] i = false
holds k (w ∷ ws) i = (is_kind k w && number_of w == i) || holds k ws i

abbrev pub rule_of : List ℕ → Rule
rule_of ws = record { heads = holds Head ws; needs = holds Need ws; bars = holds Bar ws }

-- a word in front of the first part
abbrev pub onto : ℕ → List (List ℕ) → List (List ℕ)
onto w [] = []
onto w (s ∷ ss) = (w ∷ s) ∷ ss

-- the words cut after each end word: one part for each rule, its end word last
abbrev pub segments : List ℕ → List (List ℕ)
segments [] = []
segments (w ∷ ws) = if is_end w then (w ∷ []) ∷ segments ws else onto w (segments ws)

-- the header's number, and the rules after the header
abbrev pub meaning : List ℕ → Program
meaning ws = record { atoms = number_of (slice_index ws 0); rules = map rule_of (segments (drop 1 ws)) }
