use Rattle.std.proofs.Common.{◌≡◌, List, ℕ, ◌++◌}
use Rattle.std.specs.Fmt.{HasWritten, IsPlainFormatter}
use denote.Text.{Utf8}
use denote.Shadow.{shadow}
use Rattle.atoms.specs.Member.{members}
use Rattle.account.specs.Lines.{atoms_text}
use Rattle.account.proofs.text.list_set.Given as goal

-- what is written, and the atoms to come, are the whole text
abbrev pub invariant-loop-atom : goal.invariant-loop-atom
invariant-loop-atom g l =
    shadow (Utf8 l.lead)
    × (IsPlainFormatter l.initial.f → (done : List ℕ) × HasWritten g.W.Write.write_str_gives l.initial.f done l.f
    × (done ++ atoms_text l.lead l.later l.atom-iterator ≡ atoms_text l.first l.later (members l.fn.set)))
