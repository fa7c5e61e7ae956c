use Rattle.std.proofs.Common.{Bool, ℕ, false, ◌||◌, ◌∙◌, rules}
use Rattle.std.proofs.lemmas.Iterator.{YieldsList-from_slice}
use Rattle.std.proofs.lemmas.Iterator.Consumers.{fold_from_yields_List}
use borrow.Author.Tests.{tests}
use Rattle.word_format.specs.Words.{is_kind}
use Rattle.word_format.proofs.Parts.{fold_any}
use Rattle.word_format.proofs.shown.part_has.Goals as goal

pub returns : goal.returns
returns c =
    let folded = fold_from_yields_List _ (λ (found : Bool) (word : ℕ). found || is_kind c.args.kind word) false c.fold.result c.fold.ensures.ran (YieldsList-from_slice c.args.words.now cc) (λ a x b q k. search (rules, tests)) in
    folded ∙ fold_any (is_kind c.args.kind) false c.args.words.now
