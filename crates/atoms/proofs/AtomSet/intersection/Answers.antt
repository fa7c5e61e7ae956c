use Rattle.std.proofs.Common.{◌&&◌, bit_and, refl, rules}
use Rattle.atoms.proofs.Digits.{bit_of_and}
use Rattle.atoms.proofs.Words.{by_place}
use Rattle.atoms.proofs.AtomSet.intersection.Goals as goal

pub returns : goal.returns
returns c = by_place bit_and ◌&&◌ refl (λ x y k h l. bit_of_and x y k) c.args.self.now c.args.other.now c.zip_words.result (search rules) c.zip_words.ensures
