use Rattle.std.proofs.Common.{bit_and}
use Rattle.atoms.proofs.AtomSet.intersection.Given as goal

abbrev pub ghost-zip_words : goal.ghost-zip_words
ghost-zip_words a = bit_and
