use Rattle.std.proofs.Common.{◌≡◌, ◌-◌, Bool, true, false, ◌&&◌, ltb, leb, refl, ◌∙◌, rules}
use Rattle.atoms.specs.Member.{has}
use Rattle.atoms.proofs.Words.{words_of, word_like}
use Rattle.atoms.proofs.AtomSet.shifted.Goals as goal

regroup : (x y z : Bool) → (x && (y && z)) ≡ (y && (x && z))
regroup true y z = refl
regroup false true z = refl
regroup false false z = refl

pub returns : goal.returns
returns c i =
    let d = c.args.d in
    let s = c.args.self.now in
    words_of (λ i. leb d i && has s (i - d)) c.words_from.result (search rules) (λ j l. search (word_like, c.words_from.ensures j l)) i
    ∙ regroup (ltb i 256) (leb d i) (has s (i - d))
