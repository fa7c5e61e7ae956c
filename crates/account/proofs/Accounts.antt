-- The account of a source, rule by rule.
use Rattle.std.proofs.Common.{◌≡◌, ℕ, ◌+◌, ◌*◌, ◌<◌, ◌≤◌, cond, List, [], ◌∷◌, ◌++◌, length, get_or, take, drop, sym, refl, ap, ◌∙◌, subst, ap₂, append_assoc, add-one, arith}
use Rattle.std.proofs.lemmas.List.{take_more, take_all, length-map}
use Rattle.std.proofs.lemmas.Bool.{false≢true}
use Rattle.program.specs.Meanings.{Meaning, overfull, program, Small, atom_count, rule_count, rules_of}
use Rattle.program.specs.Programs.{Program, Limited, rule_at}
use Rattle.program.specs.declared.refusal.Refusal.{Refusal}
use Rattle.program.specs.declared.refusal.Refusal.TheVariants.{Overfull, OutOfMemory}
use Rattle.word_format.specs.declared.shown.Form.{Form}
use Rattle.word_format.specs.declared.shown.Form.TheVariants as form
use Rattle.word_format.specs.declared.word.Kind.TheVariants.{End}
use Rattle.word_format.specs.Index.{starts}
use Rattle.word_format.specs.Reading.{rule_of, meaning, segments}
use Rattle.word_format.specs.Showing.{form_of, same_form, Part}
use Rattle.word_format.specs.Writing.{write_rule, written}
use Rattle.word_format.proofs.Numbers.{number_of_word}
use Rattle.word_format.proofs.ProgramWritten.{rule_few, written_count, written_next, written_words}
use Rattle.account.specs.Inspecting.{Accounted, RefusedAccount, program_of}
use Rattle.account.specs.Lines.{form_count, rule_line, rule_lines, summary, summary_of, lines_of, account_of}
use Rattle.account.specs.Tallies.{Counted}
use Rattle.account.specs.declared.report.Counts.{Counts}

-- what a source means keeps the limits, also as a program
pub program_limits : (m : Meaning) → Small m → Limited (program_of m)
program_limits overfull s =
    (omega arith, omega arith, λ k. (λ i h. absurd (false≢true h), λ i h. absurd (false≢true h), λ i h. absurd (false≢true h)))
program_limits (program P) s = s

pub all_counted : (m : Meaning) → (m ≡ overfull → ⊥) → rule_count m ≡ length (rules_of m)
all_counted overfull l = absurd (l refl)
all_counted (program P) l = omega arith

pub no_account : (m : Meaning) → m ≡ overfull → RefusedAccount m Overfull
no_account m e = subst (λ (m : Meaning). RefusedAccount m Overfull) (sym e) refl

pub no_memory : (m : Meaning) (e : Refusal) → (m ≡ overfull → ⊥) → e ≡ OutOfMemory → RefusedAccount m e
no_memory overfull e l h = absurd (l refl)
no_memory (program P) e l h = h

pub accounted : (m : Meaning) (text : List ℕ) → (m ≡ overfull → ⊥) → text ≡ account_of (written (program_of m)) → Accounted m text
accounted overfull text l h = absurd (l refl)
accounted (program P) text l h = h

count_append : (g : Form) (xs ys : List (List ℕ)) → form_count g (xs ++ ys) ≡ form_count g xs + form_count g ys
count_append g [] ys = omega arith
count_append g (x ∷ xs) ys = let h = count_append g xs ys in omega arith

-- one rule more, with the words s
pub count_next : (g : Form) (ss : List (List ℕ)) (k : ℕ) (s : List ℕ) → k < length ss → get_or ss k [] ≡ s → form_count g (take (k + 1) ss) ≡ form_count g (take k ss) + cond (same_form (form_of s) g) 1 0
count_next g ss k s l e =
    ap (form_count g) (take_more ss k [] l) ∙ count_append g (take k ss) (get_or ss k [] ∷ [])
    ∙ ap (λ (x : List ℕ). form_count g (take k ss) + form_count g (x ∷ [])) e ∙ omega arith

-- one rule more, as it is shown
pub count_more : (ws : List ℕ) (k : ℕ) (f : Form) (part : List ℕ) (position : ℕ) → Part ws k f part position → (g : Form) → form_count g (take (k + 1) (segments (drop 1 ws))) ≡ form_count g (take k (segments (drop 1 ws))) + cond (same_form f g) 1 0
count_more ws k f part position (l, e, p, q) g =
    let ss = segments (drop 1 ws) in
    let m = length-map ss rule_of in
    count_next g ss k part (omega (arith, m)) (sym e) ∙ ap (λ (x : Form). form_count g (take k ss) + cond (same_form x g) 1 0) q

-- The first k rules are counted.
pub record Tallied (P : Program) (k : ℕ) (counts : Counts) : Type 0 where
  pub counted : Counted (take k (segments (drop 1 (written P)))) counts
  pub few : counts.facts + counts.bodies + counts.constraints ≤ k

-- The lines of the first k rules are written after `start`, and the next rule begins at `position`.
pub record Listed (P : Program) (k : ℕ) (start text : List ℕ) (position : ℕ) : Type 0 where
  pub lines : text ≡ start ++ rule_lines (written P) k
  pub here : position ≡ get_or (starts (written P)) k 0
  pub low : position ≤ 1 + 769 * k
  pub few : k ≤ 1024

module _ (P : Program) (limits : Limited P) where
  pub rules_few : length (segments (drop 1 (written P))) ≡ length P.rules
  rules_few = sym (length-map (segments (drop 1 (written P))) rule_of) ∙ written_count P limits

  pub tallied_more : (k : ℕ) (f : Form) → k < length P.rules → f ≡ form_of (write_rule P.atoms (rule_at P.rules k)) → (counts next : Counts) → Tallied P k counts
      → next.facts ≡ counts.facts + cond (same_form f form.Fact) 1 0 → next.bodies ≡ counts.bodies + cond (same_form f form.Rule) 1 0
      → next.constraints ≡ counts.constraints + cond (same_form f form.Constraint) 1 0 → Tallied P (k + 1) next
  tallied_more k f l e counts next h x y z = record {
    counted = (one form.Fact x h.counted.0, one form.Rule y h.counted.1, one form.Constraint z h.counted.2);
    few = few f x y z h.few;
  }
    where
      one : (g : Form) {a b : ℕ} → b ≡ a + cond (same_form f g) 1 0 → a ≡ form_count g (take k (segments (drop 1 (written P)))) → b ≡ form_count g (take (k + 1) (segments (drop 1 (written P))))
      one g p q =
          let ss = segments (drop 1 (written P)) in
          p ∙ ap (λ (x : ℕ). x + cond (same_form f g) 1 0) q ∙ ap (λ (x : Form). form_count g (take k ss) + cond (same_form x g) 1 0) e
          ∙ sym (count_next g ss k (write_rule P.atoms (rule_at P.rules k)) (omega (arith, rules_few)) (sym (written_words P limits k l)))

      few : (g : Form) → next.facts ≡ counts.facts + cond (same_form g form.Fact) 1 0 → next.bodies ≡ counts.bodies + cond (same_form g form.Rule) 1 0 → next.constraints ≡ counts.constraints + cond (same_form g form.Constraint) 1 0
          → counts.facts + counts.bodies + counts.constraints ≤ k → next.facts + next.bodies + next.constraints ≤ k + 1
      few form.Fact x y z l = omega arith
      few form.Rule x y z l = omega arith
      few form.Constraint x y z l = omega arith

  -- when all rules are counted, the counts are the program's
  pub tallied_all : (k : ℕ) (counts : Counts) → k ≡ length P.rules → Tallied P k counts → Counted (segments (drop 1 (written P))) counts
  tallied_all k counts e h =
      let all : take k (segments (drop 1 (written P))) ≡ segments (drop 1 (written P)) = take_all k (segments (drop 1 (written P))) (omega (arith, rules_few)) in
      (h.counted.0 ∙ ap (form_count form.Fact) all, h.counted.1 ∙ ap (form_count form.Rule) all, h.counted.2 ∙ ap (form_count form.Constraint) all)

  pub listed_fits : (k : ℕ) (words start text : List ℕ) (position : ℕ) → words ≡ write_rule P.atoms (rule_at P.rules k) → Listed P k start text position → position + length words ≤ 1 + 769 * (k + 1)
  listed_fits k words start text position is h = omega (arith, h.low, ap length is, rule_few P.atoms (rule_at P.rules k), limits.0)

  pub listed_more : (k : ℕ) → k < length P.rules → (words start text after : List ℕ) (position : ℕ) → words ≡ write_rule P.atoms (rule_at P.rules k) → Listed P k start text position
      → after ≡ text ++ rule_line k position words → Listed P (k + 1) start after (position + length words)
  listed_more k l words start text after position is h a = record {
    lines =
        a ∙ ap (λ (x : List ℕ). x ++ rule_line k position words) h.lines ∙ append_assoc start (rule_lines (written P) k) (rule_line k position words)
        ∙ ap (λ (x : List ℕ). start ++ x)
        (ap₂ (λ (x : ℕ) (y : List ℕ). rule_lines (written P) k ++ rule_line k x y) h.here (is ∙ written_words P limits k l) ∙ ap (rule_lines (written P)) (sym (add-one k)));
    here = ap₂ (λ (x y : ℕ). x + y) h.here (ap length is) ∙ written_next P limits k l;
    low = listed_fits k words start text position is h;
    few = omega (arith, l, limits.1);
  }

  pub listed_all : (k : ℕ) (start text : List ℕ) (position : ℕ) → k ≡ length P.rules → Listed P k start text position → text ≡ start ++ lines_of (written P)
  unfolding lines_of
  listed_all k start text position e h = h.lines ∙ ap (λ (x : ℕ). start ++ rule_lines (written P) x) (e ∙ sym (written_count P limits))

  -- the counts, and then the lines
  pub account_whole : (atoms rules : ℕ) (counts : Counts) (front text : List ℕ) → atoms ≡ P.atoms → rules ≡ length P.rules → Counted (segments (drop 1 (written P))) counts
      → front ≡ summary atoms rules counts.facts counts.bodies counts.constraints → text ≡ front ++ lines_of (written P) → text ≡ account_of (written P)
  unfolding summary_of
  account_whole atoms rules counts front text a r (f, b, c) s t =
      let ss = segments (drop 1 (written P)) in
      let n : atoms ≡ (meaning (written P)).atoms = a ∙ sym (number_of_word End P.atoms (omega (arith, limits.0))) in
      let m : rules ≡ length (meaning (written P)).rules = r ∙ sym (written_count P limits) in
      let same : summary atoms rules counts.facts counts.bodies counts.constraints ≡ summary_of (written P) =
      ap₂ (λ (x y : ℕ). summary x y counts.facts counts.bodies counts.constraints) n m
      ∙ ap₂ (λ (x y : ℕ). summary (meaning (written P)).atoms (length (meaning (written P)).rules) x y counts.constraints) f b
      ∙ ap (summary (meaning (written P)).atoms (length (meaning (written P)).rules) (form_count form.Fact ss) (form_count form.Rule ss)) c in
      t ∙ ap (λ (x : List ℕ). x ++ lines_of (written P)) (s ∙ same)

pub accounted_all : (m : Meaning) → Small m → (m ≡ overfull → ⊥) → (atoms rules : ℕ) (counts : Counts) (front text : List ℕ) → atoms ≡ atom_count m → rules ≡ rule_count m → Counted (segments (drop 1 (written (program_of m)))) counts
    → front ≡ summary atoms rules counts.facts counts.bodies counts.constraints → text ≡ front ++ lines_of (written (program_of m)) → Accounted m text
accounted_all m s fits atoms rules counts front text a r c f t =
    accounted m text fits (account_whole (program_of m) (program_limits m s) atoms rules counts front text a (omega (arith, all_counted m fits)) c f t)
