-- What is shown of a rule.
use Rattle.std.specs.Prelude.{◌≡◌, ℕ, ◌<◌, ◌≤◌, Bool, true, false, if◌then◌else◌, ◌||◌, List, length, slice_index, Some, None, Option}
use Rattle.std.specs.List.{list_any}
use Rattle.word_format.specs.declared.word.Kind.{Kind}
use Rattle.word_format.specs.declared.word.Kind.TheVariants.{Head, Need, Bar}
use Rattle.word_format.specs.declared.shown.Form.{Form}
use Rattle.word_format.specs.declared.shown.Form.TheVariants as form
use Rattle.word_format.specs.declared.shown.Shown.{Shown}
use Rattle.word_format.specs.declared.shown.Shown.TheVariants.{Fact, Rule, Constraint, PastEnd}
use Rattle.word_format.specs.Words.{is_kind}
use Rattle.program.specs.Programs.{Rule as RuleOf}
use Rattle.word_format.specs.Reading.{rule_of, meaning}
use Rattle.word_format.specs.Index.{starts, rule_words}

-- some word is of this kind
abbrev pub has_kind : Kind → List ℕ → Bool
has_kind k ws = list_any (is_kind k) ws

-- a fact has heads only, a rule has heads and a body, a constraint has no heads
abbrev pub form_of : List ℕ → Form
form_of ws = if has_kind Head ws then (if has_kind Need ws || has_kind Bar ws then form.Rule else form.Fact) else form.Constraint

abbrev pub same_form : Form → Form → Bool
same_form form.Fact form.Fact = true
same_form form.Fact form.Rule = false
same_form form.Fact form.Constraint = false
same_form form.Rule form.Fact = false
same_form form.Rule form.Rule = true
same_form form.Rule form.Constraint = false
same_form form.Constraint form.Fact = false
same_form form.Constraint form.Rule = false
same_form form.Constraint form.Constraint = true

-- the words of rule k, of this form, and the position of the first of them
abbrev pub Part : List ℕ → ℕ → Form → List ℕ → ℕ → Type 0
Part ws k f part position = (k < length (meaning ws).rules) × (part ≡ rule_words ws k) × (position ≡ slice_index (starts ws) k) × (form_of part ≡ f)

abbrev pub Shows : List ℕ → ℕ → Shown → Type 0
Shows ws k (Fact part position) = Part ws k form.Fact part.now position
Shows ws k (Rule part position) = Part ws k form.Rule part.now position
Shows ws k (Constraint part position) = Part ws k form.Constraint part.now position
Shows ws k PastEnd = length (meaning ws).rules ≤ k

-- the form of what is shown, and none past the end
abbrev pub shown_form : Shown → Option Form
shown_form (Fact part position) = Some form.Fact
shown_form (Rule part position) = Some form.Rule
shown_form (Constraint part position) = Some form.Constraint
shown_form PastEnd = None

-- What a source answers of rule k, and leaves in the place, is the rule that is shown.
abbrev pub AsShown : Shown → Bool → RuleOf → RuleOf → Type 0
AsShown (Fact part position) r before after = (r ≡ true) × (after ≡ rule_of part.now)
AsShown (Rule part position) r before after = (r ≡ true) × (after ≡ rule_of part.now)
AsShown (Constraint part position) r before after = (r ≡ true) × (after ≡ rule_of part.now)
AsShown PastEnd r before after = (r ≡ false) × (after ≡ before)
