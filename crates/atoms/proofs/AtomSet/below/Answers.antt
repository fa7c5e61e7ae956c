use Rattle.std.proofs.Common.{ℕ, ltb, get_or, ◌∙◌, rules}
use mathlib.Core.Bool.{and_comm}
use Rattle.atoms.specs.Words.{IsWord}
use Rattle.atoms.proofs.Words.{at_places, words_of, low_word}
use Rattle.atoms.proofs.AtomSet.below.Goals as goal

pub returns : goal.returns
returns c i =
    let n = c.args.n in
    words_of (λ i. ltb i n) c.map.result (search rules)
    (at_places (λ (j : ℕ). IsWord (λ i. ltb i n) j (get_or c.map.result j 0)) (search (rules, low_word)) (search (rules, low_word)) (search (rules, low_word)) (search (rules, low_word))) i
    ∙ and_comm (ltb i 256) (ltb i n)
