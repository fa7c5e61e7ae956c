use Rattle.std.proofs.Common.{◌*◌, ◌/◌, length, ap, ◌∙◌, refl}
use Rattle.std.specs.List.{list_any}
use Rattle.word_format.specs.Showing.{has_kind}
use Rattle.word_format.specs.Words.{is_kind}
use Rattle.word_format.proofs.Parts.{found_first, found_later}
use Rattle.word_format.proofs.shown.has_kind.Goals as goal

pub returns-then-some_part : goal.returns-then-some_part
returns-then-some_part c =
    let ws = c.args.words.now in
    let k = length ws / 16 in
    let parts = c.some_part.ensures ∙ ap (list_any (has_kind c.args.kind)) c.as_chunks.ensures.front in
    found_first (is_kind c.args.kind) 16 k (k * 16) ws refl c.some_part.result parts c.if-some_part.true

pub returns-else-some_part : goal.returns-else-some_part
returns-else-some_part c =
    let ws = c.args.words.now in
    let k = length ws / 16 in
    let parts = c.some_part.ensures ∙ ap (list_any (has_kind c.args.kind)) c.as_chunks.ensures.front in
    c.part_has.ensures ∙ ap (has_kind c.args.kind) c.as_chunks.ensures.back ∙ found_later (is_kind c.args.kind) 16 k (k * 16) ws refl c.some_part.result parts c.if-some_part.false
