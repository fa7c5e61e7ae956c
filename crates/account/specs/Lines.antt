-- The text of an account, byte by byte.
use Rattle.std.specs.Prelude.{ℕ, Bool, zero, suc, ◌+◌, if◌then◌else◌, List, [], ◌∷◌, ◌++◌, length, drop, codes, decimal, slice_index}
use Rattle.word_format.specs.declared.word.Kind.{Kind}
use Rattle.word_format.specs.declared.word.Kind.TheVariants.{Head, Need, Bar}
use Rattle.word_format.specs.declared.shown.Form.{Form}
use Rattle.word_format.specs.declared.shown.Form.TheVariants.{Fact, Rule, Constraint}
use Rattle.word_format.specs.declared.shown.Shown.{Shown}
use Rattle.word_format.specs.declared.shown.Shown.TheVariants as shown
use Rattle.word_format.specs.Words.{is_kind, number_of}
use Rattle.word_format.specs.Reading.{meaning, segments}
use Rattle.word_format.specs.Showing.{has_kind, form_of, same_form}
use Rattle.word_format.specs.Index.{starts, rule_words}

-- the numbers of the words of this kind, in order
abbrev pub numbers : Kind → List ℕ → List ℕ
numbers k [] = []
numbers k (w ∷ ws) = if is_kind k w then number_of w ∷ numbers k ws else numbers k ws

-- atoms in decimal: the first with one lead, the others with another
abbrev pub atoms_text : List ℕ → List ℕ → List ℕ → List ℕ
atoms_text first later [] = []
atoms_text first later (i ∷ is) = first ++ (decimal i ++ atoms_text later later is)

-- as ` 0 | 1 <- 2, not 3`, from the heads, the needs and the bars, and whether there is a need
abbrev pub parts_text : List ℕ → List ℕ → List ℕ → Bool → List ℕ
parts_text hs ns bs some_need =
    atoms_text (codes " ") (codes " | ") hs
    ++ (codes " <-"
    ++ (atoms_text (codes " ") (codes ", ") ns
    ++ atoms_text (if some_need then codes ", not " else codes " not ") (codes ", not ") bs))

abbrev pub rule_text : List ℕ → List ℕ
rule_text ws = parts_text (numbers Head ws) (numbers Need ws) (numbers Bar ws) (has_kind Need ws)

-- as `rule 4 at 17: 0 | 1 <- 2, not 3`, with a newline, from the text of the rule
abbrev pub line_text : ℕ → ℕ → List ℕ → List ℕ
line_text k position t = codes "rule " ++ (decimal k ++ (codes " at " ++ (decimal position ++ (codes ":" ++ (t ++ codes "\n")))))

abbrev pub rule_line : ℕ → ℕ → List ℕ → List ℕ
rule_line k position ws = line_text k position (rule_text ws)

-- the line of what is shown as rule k
abbrev pub shown_line : ℕ → Shown → List ℕ
shown_line k (shown.Fact part position) = rule_line k position part.now
shown_line k (shown.Rule part position) = rule_line k position part.now
shown_line k (shown.Constraint part position) = rule_line k position part.now
shown_line k shown.PastEnd = []

-- how many rules are of this form
abbrev pub form_count : Form → List (List ℕ) → ℕ
form_count f [] = 0
form_count f (s ∷ ss) = (if same_form (form_of s) f then 1 else 0) + form_count f ss

-- the counts, on two lines
abbrev pub summary : ℕ → ℕ → ℕ → ℕ → ℕ → List ℕ
summary atoms rules facts bodies constraints =
    codes "atoms " ++ (decimal atoms ++ (codes "\nrules " ++ (decimal rules ++ (codes ": facts " ++ (decimal facts ++ (codes ", with a body " ++ (decimal bodies ++ (codes ", constraints " ++ (decimal constraints ++ codes "\n")))))))))

unfoldable pub summary_of : List ℕ → List ℕ
summary_of ws =
    let ss : List (List ℕ) = segments (drop 1 ws) in
    summary (meaning ws).atoms (length (meaning ws).rules) (form_count Fact ss) (form_count Rule ss) (form_count Constraint ss)

-- the lines of the first k rules
abbrev pub rule_lines : List ℕ → ℕ → List ℕ
rule_lines ws zero = []
rule_lines ws (suc k) = rule_lines ws k ++ rule_line k (slice_index (starts ws) k) (rule_words ws k)

unfoldable pub lines_of : List ℕ → List ℕ
lines_of ws = rule_lines ws (length (meaning ws).rules)

abbrev pub account_of : List ℕ → List ℕ
account_of ws = summary_of ws ++ lines_of ws
