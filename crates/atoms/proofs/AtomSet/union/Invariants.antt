use Rattle.std.proofs.Common.{bit_or}
use Rattle.atoms.proofs.AtomSet.union.Given as goal

abbrev pub ghost-zip_words : goal.ghost-zip_words
ghost-zip_words a = bit_or
