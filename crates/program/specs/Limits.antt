-- Sources that are made of others keep the limits. These are proofs: they stand here since what a source gives as
-- its member `small` may cite this folder only.
use Rattle.std.specs.Prelude.{ℕ, zero, suc, ◌+◌, ◌-◌, ◌≤◌, max, List, [], ◌∷◌, ◌++◌, map, length, nat_le}
use Rattle.std.proofs.Common.{arith}
use Rattle.std.specs.List.{AllByRecursion}
use Rattle.std.proofs.ByRecursion.{All-append, All-weaker}
use Rattle.std.proofs.lemmas.List.{length-append, length-map}
use Rattle.std.proofs.lemmas.Bool.{leb-true, cond_both, and_parts, false≢true}
use Rattle.atoms.specs.Sets.{Atoms, Within}
use Rattle.program.specs.Programs.{Rule, no_rule, Over, rule_at}
use Rattle.program.specs.Meanings.{Meaning, overfull, program, Small}
use Rattle.program.specs.Combined.{united, joint, raised, raised_rule, raised_program, offset_by}

-- every rule of a list is over the atoms below n
no_rule_over : (n : ℕ) → Over n no_rule
no_rule_over n = (λ i h. absurd (false≢true h), λ i h. absurd (false≢true h), λ i h. absurd (false≢true h))

pub over_each : (n : ℕ) (rs : List Rule) → AllByRecursion (Over n) rs → (k : ℕ) → Over n (rule_at rs k)
over_each n [] h k = no_rule_over n
over_each n (r ∷ rs) (o, h) zero = o
over_each n (r ∷ rs) (o, h) (suc k) = over_each n rs h k

pub over_all : (n : ℕ) (rs : List Rule) → ((k : ℕ) → Over n (rule_at rs k)) → AllByRecursion (Over n) rs
over_all n [] h = tt
over_all n (r ∷ rs) h = (h 0, over_all n rs (λ k. h (suc k)))

over_more : (n m : ℕ) → n ≤ m → (r : Rule) → Over n r → Over m r
over_more n m l r o = (λ i h. let k = o.0 i h in omega arith, λ i h. let k = o.1 i h in omega arith, λ i h. let k = o.2 i h in omega arith)

pub united_small : (a b : Meaning) → Small a → Small b → Small (united a b)
united_small overfull b sa sb = tt
united_small (program P) overfull sa sb = tt
united_small (program P) (program Q) sa sb =
    cond_both (nat_le (length P.rules + length Q.rules) 1024) (program (joint P Q)) overfull Small
    (λ e.
    let n = max P.atoms Q.atoms in (
      omega (arith, sa.0, sb.0),
      omega (arith, length-append P.rules Q.rules, leb-true _ _ e),
      over_each n (P.rules ++ Q.rules)
          (All-append (Over n) P.rules Q.rules (All-weaker (Over P.atoms) (Over n) (over_more P.atoms n (omega arith)) P.rules (over_all P.atoms P.rules sa.2))
          (All-weaker (Over Q.atoms) (Over n) (over_more Q.atoms n (omega arith)) Q.rules (over_all Q.atoms Q.rules sb.2))),
    ))
    (λ e. tt)

raised_within : (d n : ℕ) (X : Atoms) → Within n X → Within (n + d) (raised d X)
raised_within d n X w i h = let p = and_parts (nat_le d i) (X (i - d)) h in let l = leb-true d i p.0 in let k = w (i - d) p.1 in omega arith

raised_over : (d n : ℕ) (rs : List Rule) → AllByRecursion (Over n) rs → AllByRecursion (Over (n + d)) (map (raised_rule d) rs)
raised_over d n [] h = tt
raised_over d n (r ∷ rs) (o, h) = ((raised_within d n r.heads o.0, raised_within d n r.needs o.1, raised_within d n r.bars o.2), raised_over d n rs h)

pub offset_small : (d : ℕ) (m : Meaning) → Small m → Small (offset_by d m)
offset_small d overfull s = tt
offset_small d (program P) s =
    cond_both (nat_le (P.atoms + d) 256) (program (raised_program d P)) overfull Small
    (λ e. (leb-true _ _ e, omega (arith, s.1, length-map P.rules (raised_rule d)), over_each (P.atoms + d) (map (raised_rule d) P.rules) (raised_over d P.atoms P.rules (over_all P.atoms P.rules s.2))))
    (λ e. tt)
