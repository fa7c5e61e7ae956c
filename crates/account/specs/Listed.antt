-- The text of a rule whose atoms stand in words or in sets; private contracts cite this.
use Rattle.std.specs.Prelude.{ℕ, List}
use Rattle.atoms.specs.Member.{members}
use Rattle.account.specs.Lines.{numbers, parts_text}
use Rattle.account.specs.declared.text.Numbers.{Numbers}
use Rattle.account.specs.declared.text.Numbers.TheVariants.{Words, Set}
use Rattle.account.specs.declared.text.RuleText.{RuleText}

-- the atoms of one list
abbrev pub listed : Numbers → List ℕ
listed (Words ws k) = numbers k ws.now
listed (Set s) = members s.now

abbrev pub text_of : RuleText → List ℕ
text_of r = parts_text (listed r.heads) (listed r.needs) (listed r.bars) r.some_need
