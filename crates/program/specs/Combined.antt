-- What sources mean that are made of others.
use Rattle.std.specs.Prelude.{ℕ, ◌+◌, ◌-◌, max, if◌then◌else◌, ◌&&◌, ◌++◌, map, length, nat_le}
use Rattle.atoms.specs.Sets.{Atoms}
use Rattle.program.specs.Programs.{Rule, Program}
use Rattle.program.specs.Meanings.{Meaning, overfull, program}

-- the rules of P, and then those of Q
abbrev pub joint : Program → Program → Program
joint P Q = record { atoms = max P.atoms Q.atoms; rules = P.rules ++ Q.rules }

-- overfull if one of the two is, or if there are more than 1,024 rules together
abbrev pub united : Meaning → Meaning → Meaning
united overfull b = overfull
united (program P) overfull = overfull
united (program P) (program Q) = if nat_le (length P.rules + length Q.rules) 1024 then program (joint P Q) else overfull

-- the atoms i + d for each atom i of X
abbrev pub raised : ℕ → Atoms → Atoms
raised d X i = nat_le d i && X (i - d)

abbrev pub raised_rule : ℕ → Rule → Rule
raised_rule d r = record { heads = raised d r.heads; needs = raised d r.needs; bars = raised d r.bars }

abbrev pub raised_program : ℕ → Program → Program
raised_program d P = record { atoms = P.atoms + d; rules = map (raised_rule d) P.rules }

-- overfull if the source is, or if there are more than 256 atoms then
abbrev pub offset_by : ℕ → Meaning → Meaning
offset_by d overfull = overfull
offset_by d (program P) = if nat_le (P.atoms + d) 256 then program (raised_program d P) else overfull
