use Rattle.std.proofs.Common.{◌-◌, ◌^◌, Bool, not, ◌&&◌, bit_and, refl, ap, ◌∙◌, rules}
use Rattle.atoms.specs.Member.{bit}
use Rattle.atoms.proofs.Digits.{bit_of_and, bit_not}
use Rattle.atoms.proofs.Words.{by_place}
use Rattle.atoms.proofs.AtomSet.minus.Goals as goal

pub returns : goal.returns
returns c =
    by_place (λ x y. bit_and x (2 ^ 64 - 1 - y)) (λ a b. a && not b) refl
    (λ x y k h l. bit_of_and x (2 ^ 64 - 1 - y) k ∙ ap (λ (b : Bool). bit x k && b) (bit_not y k h l)) c.args.self.now c.args.other.now c.zip_words.result (search rules) c.zip_words.ensures
