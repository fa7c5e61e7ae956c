-- What counts tell, and what a source says past its end.
use Rattle.std.proofs.Common.{◌≡◌, ℕ, ◌<◌, ◌≤◌, false, List, length, get_or, sym, refl, subst, ltb, arith}
use Rattle.std.proofs.lemmas.Bool.{le-ltb}
use Rattle.std.proofs.lemmas.List.{get_or_default, get_or_past}
use Rattle.program.specs.Programs.{Rule, no_rule, Over}
use Rattle.program.specs.Meanings.{Meaning, overfull, program, atom_count, rule_count, rules_of, Small}

pub over : (m : Meaning) → Small m → 1024 < rule_count m → m ≡ overfull
over overfull s l = refl
over (program P) s l = absurd (omega (arith, s.1))

pub over_at : (m : Meaning) → Small m → (k : ℕ) (d : Rule) → k < length (rules_of m) → Over (atom_count m) (get_or (rules_of m) k d)
over_at overfull s k d l = absurd (omega arith)
over_at (program P) s k d l = subst (Over P.atoms) (get_or_default P.rules k no_rule d l) (s.2 k)

-- a source that says no
pub no_rule_lem : {X : Type 0} (rs : List X) (k : ℕ) (p : X) → length rs ≤ k → (false ≡ ltb k (length rs)) × (p ≡ get_or rs k p)
no_rule_lem rs k p l = (sym (le-ltb k (length rs) l), sym (get_or_past rs k p l))
