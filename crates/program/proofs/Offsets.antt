-- What an offset source answers.
use Rattle.std.proofs.Common.{◌≡◌, ℕ, ◌+◌, ◌-◌, ◌<◌, ◌≤◌, true, leb, length, get_or, sym, ◌∙◌, subst, arith}
use Rattle.std.proofs.lemmas.List.{get_or-map}
use Rattle.std.proofs.lemmas.Bool.{le-leb}
use Rattle.std.proofs.lemmas.Bool.Decides.{nat_tests}
use Rattle.atoms.specs.Member.{has}
use Rattle.atoms.specs.Sets.{Atoms, Within}
use Rattle.program.specs.Programs.{Rule, Over}
use Rattle.program.specs.Rules.{as_rule, shifted_set}
use Rattle.program.specs.Meanings.{Meaning, overfull, program, atom_count, rules_of, Small}
use Rattle.program.specs.Combined.{raised, raised_rule, offset_by}
use Rattle.program.specs.declared.rule.Rule.{Rule as RuleValue}
use Rattle.program.proofs.Held.{same_rule}
use Rattle.program.proofs.Meant.{over_at}

-- a set within n, moved up by d, loses nothing
shifted_raised : (d n : ℕ) (X : Atoms) → Within n X → n + d ≤ 256 → (i : ℕ) → shifted_set d X i ≡ raised d X i
shifted_raised d n X w l i = let k = w (i - d) in grind (arith, nat_tests, k)

-- the sets of s are those of r, moved up by d
abbrev pub Shifted : ℕ → RuleValue → RuleValue → Type 0
Shifted d r s = ((i : ℕ) → has s.heads i ≡ shifted_set d (has r.heads) i) × ((i : ℕ) → has s.needs i ≡ shifted_set d (has r.needs) i) × ((i : ℕ) → has s.bars i ≡ shifted_set d (has r.bars) i)

shifted_rule : (d n : ℕ) (r s : RuleValue) → Over n (as_rule r) → n + d ≤ 256 → Shifted d r s → as_rule s ≡ raised_rule d (as_rule r)
shifted_rule d n r s o l (h, m, b) =
    same_rule (as_rule s) (raised_rule d (as_rule r)) (λ i. h i ∙ shifted_raised d n (has r.heads) o.0 l i) (λ i. m i ∙ shifted_raised d n (has r.needs) o.1 l i)
    (λ i. b i ∙ shifted_raised d n (has r.bars) o.2 l i)

-- rule k moved, where there are not too many atoms
pub offset_rule : (d : ℕ) (m : Meaning) → Small m → atom_count m + d ≤ 256 → (k : ℕ) (p : Rule) (r s : RuleValue) → k < length (rules_of m) → as_rule r ≡ get_or (rules_of m) k p → Shifted d r s
    → as_rule s ≡ get_or (rules_of (offset_by d m)) k p
offset_rule d overfull small l k p r s t e moved = absurd (omega arith)
offset_rule d (program P) small l k p r s t e moved =
    let over = subst (Over P.atoms) (sym e) (over_at (program P) small k p t) in
    let fits : leb (P.atoms + d) 256 ≡ true = le-leb (P.atoms + d) 256 l in
    rw (fits, get_or-map (raised_rule d) P.rules k p p t, ← e) (shifted_rule d P.atoms r s over l moved)
