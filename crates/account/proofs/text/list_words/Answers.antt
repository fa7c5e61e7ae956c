use Rattle.std.proofs.Common.{rules, ◌++◌, decimal, refl, sym, ◌∙◌}
use Rattle.std.proofs.Output.{has_written_append, has_written_of_eq}
use Rattle.account.specs.Lines.{atoms_text, numbers}
use Rattle.account.proofs.Texts.{atoms_step, atoms_skip, atoms_end}
use Rattle.account.proofs.text.list_words.Goals as goal
use Rattle.account.proofs.text.list_words.Goals.{then-is_kind+in_ok-write, else-is_kind}

pub loop-word-preserved : goal.loop-word-preserved
loop-word-preserved g c =
    let ws = c.args.words.now in
    let kind = c.args.kind in
    let i = c.loop-word.word-index in
    let lead = c.loop-word.lead.now in
    let all = atoms_text c.args.first.now c.args.later.now (numbers kind ws) in
    elim c.if-is_kind.branch [
      | then-is_kind+in_ok-write w ↦
          rw (w.f-is, w.lead-is) (
            search rules,
            λ plain.
                let so_far = c.loop-word.invariant.1 plain in (
                  so_far.0 ++ (lead ++ decimal w.number_of-atom.result.0),
                  has_written_append _ _ _ _ _ _ so_far.1 (search rules),
                  atoms_step kind ws i lead c.args.later.now so_far.0 all _ w.number_of-atom.result.0 c.loop-word-test.true
                      (sym c.is_kind.ensures ∙ w.if-is_kind.true) w.number_of-atom.ensures refl so_far.2,
                ),
          )
      | else-is_kind w ↦
          rw (w.f-is, w.lead-is) (
            c.loop-word.invariant.0,
            λ plain.
                let so_far = c.loop-word.invariant.1 plain in (
                  so_far.0,
                  so_far.1,
                  atoms_skip kind ws i lead c.args.later.now so_far.0 all c.loop-word-test.true (sym c.is_kind.ensures ∙ w.if-is_kind.false) so_far.2,
                ),
          )
    ]

pub returns : goal.returns
returns g c = λ plain _.
    let so_far = c.loop-word.invariant.1 plain in
    has_written_of_eq _ _ _ _ _
    (atoms_end c.args.kind c.args.words.now c.loop-word.word-index c.loop-word.lead.now c.args.later.now so_far.0 _ c.loop-word-test.false so_far.2) so_far.1
