-- The form of a rule by its parts, and by its words.
use Rattle.std.proofs.Common.{◌≡◌, ℕ, ◌≤◌, Bool, true, false, not, List, [], ◌∷◌, sym, refl, ap, ◌∙◌}
use Rattle.std.proofs.lemmas.Bool.{false≢true, eq-eqb}
use Rattle.atoms.specs.Sets.{Atoms}
use Rattle.program.specs.Programs.{Rule, Over}
use Rattle.word_format.specs.declared.word.Kind.{Kind}
use Rattle.word_format.specs.declared.shown.Form.TheVariants as form
use Rattle.word_format.specs.declared.word.Kind.TheVariants.{Head, Need, Bar}
use Rattle.word_format.specs.Words.{is_kind, number_of}
use Rattle.word_format.specs.Reading.{holds, rule_of}
use Rattle.word_format.specs.Showing.{has_kind, form_of}
use Rattle.word_format.specs.Writing.{write_rule}
use Rattle.word_format.proofs.RuleWords.{read_rule}

absent : (k : Kind) (ws : List ℕ) → ((i : ℕ) → holds k ws i ≡ false) → has_kind k ws ≡ false
absent k [] h = refl
absent k (w ∷ ws) h = go (is_kind k w) refl (absent k ws)
  where
    go : (b : Bool) → is_kind k w ≡ b → (((i : ℕ) → holds k ws i ≡ false) → has_kind k ws ≡ false) → has_kind k (w ∷ ws) ≡ false
    go true e rest = absurd (false≢true (sym (h (number_of w)) ∙ (rw e (rw (eq-eqb (number_of w) (number_of w) refl) refl))))
    go false e rest = rw e (rest (λ i. rw e at (h i)))

present : (k : Kind) (ws : List ℕ) → has_kind k ws ≡ false → (i : ℕ) → holds k ws i ≡ false
present k [] h i = refl
present k (w ∷ ws) h i = go (is_kind k w) refl (λ t. present k ws t i)
  where
    go : (b : Bool) → is_kind k w ≡ b → (has_kind k ws ≡ false → holds k ws i ≡ false) → holds k (w ∷ ws) i ≡ false
    go true e rest = absurd (false≢true (sym h ∙ (rw e refl)))
    go false e rest = rw e (rest (rw e at h))

-- the words of a rule over few atoms
module _ (n : ℕ) (r : Rule) (small : n ≤ 256) (over : Over n r) where
  back : rule_of (write_rule n r) ≡ r
  back = read_rule n r small over

  none : (k : Kind) (X : Atoms) → holds k (write_rule n r) ≡ X → ((i : ℕ) → X i ≡ false) → has_kind k (write_rule n r) ≡ false
  none k X e h = absent k (write_rule n r) (λ i. ap (λ (Y : Atoms). Y i) e ∙ h i)

  some : (k : Kind) (X : Atoms) → holds k (write_rule n r) ≡ X → (((i : ℕ) → X i ≡ false) → ⊥) → has_kind k (write_rule n r) ≡ true
  some k X e h = go (has_kind k (write_rule n r)) refl
    where
      go : (b : Bool) → has_kind k (write_rule n r) ≡ b → b ≡ true
      go true t = refl
      go false t = absurd (h (λ i. sym (ap (λ (Y : Atoms). Y i) e) ∙ present k (write_rule n r) t i))

  heads : holds Head (write_rule n r) ≡ r.heads
  heads = ap (λ (x : Rule). x.heads) back

  needs : holds Need (write_rule n r) ≡ r.needs
  needs = ap (λ (x : Rule). x.needs) back

  bars : holds Bar (write_rule n r) ≡ r.bars
  bars = ap (λ (x : Rule). x.bars) back

  -- whether a need stands in the words
  pub need_told : (empty : Bool) → (empty ≡ true → (i : ℕ) → r.needs i ≡ false) → (empty ≡ false → ((i : ℕ) → r.needs i ≡ false) → ⊥) → not empty ≡ has_kind Need (write_rule n r)
  need_told true h f = sym (none Need r.needs needs (h refl))
  need_told false h f = sym (some Need r.needs needs (f refl))

  pub no_heads : ((i : ℕ) → r.heads i ≡ false) → form.Constraint ≡ form_of (write_rule n r)
  no_heads h = rw (none Head r.heads heads h) refl

  pub no_body : (((i : ℕ) → r.heads i ≡ false) → ⊥) → ((i : ℕ) → r.needs i ≡ false) → ((i : ℕ) → r.bars i ≡ false) → form.Fact ≡ form_of (write_rule n r)
  no_body h p q = rw (some Head r.heads heads h, none Need r.needs needs p, none Bar r.bars bars q) refl

  pub some_need : (((i : ℕ) → r.heads i ≡ false) → ⊥) → (((i : ℕ) → r.needs i ≡ false) → ⊥) → form.Rule ≡ form_of (write_rule n r)
  some_need h p = rw (some Head r.heads heads h, some Need r.needs needs p) refl

  pub some_bar : (((i : ℕ) → r.heads i ≡ false) → ⊥) → (((i : ℕ) → r.bars i ≡ false) → ⊥) → form.Rule ≡ form_of (write_rule n r)
  some_bar h p = go (has_kind Need (write_rule n r)) refl
    where
      go : (b : Bool) → has_kind Need (write_rule n r) ≡ b → form.Rule ≡ form_of (write_rule n r)
      go true t = rw (some Head r.heads heads h, t) refl
      go false t = rw (some Head r.heads heads h, t, some Bar r.bars bars p) refl
