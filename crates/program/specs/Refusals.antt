-- The number of each refusal.
use Rattle.std.specs.Prelude.{ℕ, List, ◌++◌, codes, decimal}
use Rattle.program.specs.declared.refusal.Refusal.{Refusal}
use Rattle.program.specs.declared.refusal.Refusal.TheVariants.{BadHeader, TooManyAtoms, NoSuchAtom, OutOfOrder, BadEnd, Unfinished, TooManyRules, TooLong, Overfull, PartialWord, AtomTooHigh, BadOutlets, BoxAmongOutlets, OutOfMemory}

abbrev pub code_of : Refusal → ℕ
code_of BadHeader = 11
code_of TooManyAtoms = 12
code_of NoSuchAtom = 13
code_of OutOfOrder = 14
code_of BadEnd = 15
code_of Unfinished = 16
code_of TooManyRules = 17
code_of TooLong = 18
code_of Overfull = 21
code_of PartialWord = 31
code_of AtomTooHigh = 41
code_of BadOutlets = 42
code_of BoxAmongOutlets = 43
code_of OutOfMemory = 99

-- what is printed of a refusal
abbrev pub refused_text : Refusal → List ℕ
refused_text e = codes "refused " ++ decimal (code_of e)
