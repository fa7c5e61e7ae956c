use Rattle.std.proofs.Common.{ℕ, ◌+◌, rules, tests}
use Rattle.std.proofs.lemmas.Iterator.{items_from_collect, YieldsList-from_map, YieldsList-from_slice}
use Rattle.std.proofs.lemmas.Iterator.Consumers.{YieldsList-from_enumerate, YieldsList-from_filter}
use Rattle.word_format.specs.Words.{is_end}
use Rattle.word_format.proofs.Begins.{starts_lem}
use Rattle.word_format.proofs.words.open.index.Goals as goal

pub returns : goal.returns
returns c =
    rw (starts_lem c.args.words.now)
    (items_from_collect _ c.collect.ensures.ran
    (YieldsList-from_map _ (λ (p : ℕ × ℕ). p.0 + 1)
    (YieldsList-from_filter _ (λ (p : ℕ × ℕ). is_end p.1) (YieldsList-from_enumerate (YieldsList-from_slice c.args.words.now cc) cc) c.filter.ensures.closure (λ x b q k. search (rules, tests)))
    c.map.ensures.closure (λ x r q k. search (rules, tests))))
