use Rattle.std.proofs.Common.{◌||◌, bit_or, refl, rules}
use Rattle.atoms.proofs.Digits.{bit_of_or}
use Rattle.atoms.proofs.Words.{by_place}
use Rattle.atoms.proofs.AtomSet.union.Goals as goal

pub returns : goal.returns
returns c = by_place bit_or ◌||◌ refl (λ x y k h l. bit_of_or x y k) c.args.self.now c.args.other.now c.zip_words.result (search rules) c.zip_words.ensures
