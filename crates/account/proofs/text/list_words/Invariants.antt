use Rattle.std.proofs.Common.{◌≡◌, ℕ, List, ◌++◌, drop}
use Rattle.std.specs.Fmt.{HasWritten, IsPlainFormatter}
use denote.Text.{Utf8}
use denote.Shadow.{shadow}
use Rattle.account.specs.Lines.{atoms_text, numbers}
use Rattle.account.proofs.text.list_words.Given as goal

-- what is written, and the atoms to come, are the whole text
abbrev pub invariant-loop-word : goal.invariant-loop-word
invariant-loop-word g l =
    shadow (Utf8 l.lead)
    × (IsPlainFormatter l.initial.f → (done : List ℕ) × HasWritten g.W.Write.write_str_gives l.initial.f done l.f
    × (done ++ atoms_text l.lead l.later (numbers l.kind (drop l.word-index l.words))
    ≡ atoms_text l.first l.later (numbers l.kind l.words)))
