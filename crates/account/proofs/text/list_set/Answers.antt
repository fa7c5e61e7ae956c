use Rattle.std.proofs.Common.{rules, ◌≡◌, [], ◌∷◌, List, ℕ, ◌++◌, decimal, ap, ◌∙◌, sym, append_assoc}
use Rattle.std.proofs.Output.{has_written_append}
use Rattle.account.specs.Lines.{atoms_text}
use Rattle.account.proofs.text.list_set.Goals as goal

pub loop-atom-preserved : goal.loop-atom-preserved
loop-atom-preserved g c = (
  search rules,
  λ plain.
      let so_far = c.loop-atom.invariant.1 plain in
      let lead = c.loop-atom.lead.now in
      let later = c.args.later.now in
      let next : c.loop-atom.atom-iterator ≡ c.in-Some.atom ∷ c.next.new.self = search rules in
      let rest = atoms_text later later c.next.new.self in (
        so_far.0 ++ (lead ++ decimal c.in-Some.atom),
        has_written_append _ _ _ _ _ _ so_far.1 (search rules),
        append_assoc so_far.0 (lead ++ decimal c.in-Some.atom) rest
            ∙ ap (λ (x : List ℕ). so_far.0 ++ x) (append_assoc lead (decimal c.in-Some.atom) rest)
            ∙ ap (λ (x : List ℕ). so_far.0 ++ atoms_text lead later x) (sym next) ∙ so_far.2,
      ),
)

pub loop-atom-init : goal.loop-atom-init
loop-atom-init g c = (search rules, λ plain. ([], search (rules, plain), ap (atoms_text c.args.first.now c.args.later.now) c.into_iter-atom-iterator.ensures.into_iter_gives))
