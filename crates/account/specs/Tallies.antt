-- How many rules there are of each form.
use Rattle.std.specs.Prelude.{◌≡◌, ℕ, List}
use Rattle.word_format.specs.declared.shown.Form.TheVariants.{Fact, Rule, Constraint}
use Rattle.account.specs.Lines.{form_count}
use Rattle.account.specs.declared.report.Counts.{Counts}

-- the counts of rules with these words
abbrev pub Counted : List (List ℕ) → Counts → Type 0
Counted ss c = (c.facts ≡ form_count Fact ss) × (c.bodies ≡ form_count Rule ss) × (c.constraints ≡ form_count Constraint ss)
