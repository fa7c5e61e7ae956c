use Rattle.std.proofs.Common.{◌-◌, ◌^◌, bit_and}
use Rattle.atoms.proofs.AtomSet.minus.Given as goal

abbrev pub ghost-zip_words : goal.ghost-zip_words
ghost-zip_words a x y = bit_and x (2 ^ 64 - 1 - y)
