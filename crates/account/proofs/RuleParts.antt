-- The numbers in the writing of a rule are the atoms of its sets.
use Rattle.std.proofs.Common.{◌≡◌, ◌↔◌, IsTrue, rules, not, ℕ, zero, suc, ◌+◌, ◌<◌, ◌≤◌, Bool, true, false, cond, ◌&&◌, eqb, ltb, List, [], ◌∷◌, ◌++◌, length, sym, refl, ap, ◌∙◌, ap₂, arith}
use Rattle.std.proofs.lemmas.List.{append-nil, length-append, length-map}
use Rattle.std.proofs.lemmas.Bool.{lt-ltb, eq-eqb}
use Rattle.atoms.specs.Member.{has, members, members_below, size}
use Rattle.atoms.specs.Sets.{Atoms, Within}
use Rattle.atoms.specs.declared.AtomSet.{AtomSet}
use Rattle.atoms.proofs.MembersListed.{members_cut, length_members}
use Rattle.program.specs.Programs.{Over}
use Rattle.program.specs.Rules.{as_rule}
use Rattle.program.specs.declared.rule.Rule.{Rule}
use Rattle.word_format.specs.declared.word.Kind.{Kind}
use Rattle.word_format.specs.declared.word.Kind.TheVariants.{Head, Need, Bar, End}
use Rattle.word_format.specs.Words.{is_kind, number_of, rank}
use Rattle.word_format.specs.Writing.{word_of, words_of, write_rule}
use Rattle.word_format.proofs.Numbers.{is_kind_word, number_of_word}
use Rattle.word_format.proofs.PartsWritten.{part_words}
use Rattle.account.specs.Lines.{numbers, parts_text, rule_text}
use Rattle.account.proofs.Forms.{need_told}

numbers_append : (k : Kind) (xs ys : List ℕ) → numbers k (xs ++ ys) ≡ numbers k xs ++ numbers k ys
numbers_append k [] ys = refl
numbers_append k (x ∷ xs) ys = go (is_kind k x) (numbers_append k xs ys)
  where
    go : (b : Bool) → numbers k (xs ++ ys) ≡ numbers k xs ++ numbers k ys → cond b (number_of x ∷ numbers k (xs ++ ys)) (numbers k (xs ++ ys)) ≡ cond b (number_of x ∷ numbers k xs) (numbers k xs) ++ numbers k ys
    go true h = ap (λ (zs : List ℕ). number_of x ∷ zs) h
    go false h = h

-- of words of the kind itself, all atoms
own_kind : (k : Kind) (X : Atoms) (n : ℕ) → n ≤ 256 → numbers k (words_of k X n) ≡ members_below X n
unfolding members_below
own_kind k X zero l = refl
own_kind k X (suc n) l = numbers_append k (words_of k X n) (cond (X n) (word_of k n ∷ []) []) ∙ ap₂ ◌++◌ (own_kind k X n (omega arith)) (one (X n))
  where
    one : (b : Bool) → numbers k (cond b (word_of k n ∷ []) []) ≡ cond b (n ∷ []) []
    one true = rw (is_kind_word k k n (omega arith), eq-eqb (rank k) (rank k) refl, number_of_word k n (omega arith)) refl
    one false = refl

-- of words of another kind, none
other_kind : (j k : Kind) (X : Atoms) (n : ℕ) → n ≤ 256 → eqb (rank k) (rank j) ≡ false → numbers j (words_of k X n) ≡ []
other_kind j k X zero l e = refl
other_kind j k X (suc n) l e = numbers_append j (words_of k X n) (cond (X n) (word_of k n ∷ []) []) ∙ ap₂ ◌++◌ (other_kind j k X n (omega arith) e) (one (X n))
  where
    one : (b : Bool) → numbers j (cond b (word_of k n ∷ []) []) ≡ []
    one true = rw (is_kind_word j k n (omega arith), e) refl
    one false = refl

within_cut : (s : AtomSet) (n : ℕ) → n ≤ 256 → Within n (has s) → (i : ℕ) → has s i ≡ (has s i && (ltb i n && ltb i 256))
within_cut s n small w i = go (has s i) (w i)
  where
    go : (b : Bool) → (b ≡ true → i < n) → b ≡ (b && (ltb i n && ltb i 256))
    go true l = let h = l refl in rw (lt-ltb i n h, lt-ltb i 256 (omega arith)) refl
    go false l = refl

module _ (n : ℕ) (r : Rule) (small : n ≤ 256) (over : Over n (as_rule r)) where
  kept : (s : AtomSet) → Within n (has s) → members_below (has s) n ≡ members s
  kept s w = sym (members_cut s s n (within_cut s n small w))

  parted : (k : Kind) → numbers k (write_rule n (as_rule r)) ≡ numbers k (words_of Head (has r.heads) n) ++ (numbers k (words_of Need (has r.needs) n) ++ (numbers k (words_of Bar (has r.bars) n) ++ numbers k (word_of End 0 ∷ [])))
  parted k =
      let hs = words_of Head (has r.heads) n in
      let ns = words_of Need (has r.needs) n in
      let bs = words_of Bar (has r.bars) n in
      let end = word_of End 0 ∷ [] in
      numbers_append k hs (ns ++ (bs ++ end)) ∙ ap (λ (x : List ℕ). numbers k hs ++ x) (numbers_append k ns (bs ++ end) ∙ ap (λ (x : List ℕ). numbers k ns ++ x) (numbers_append k bs end))

  pub heads_written : numbers Head (write_rule n (as_rule r)) ≡ members r.heads
  heads_written =
      parted Head ∙ rw (own_kind Head (has r.heads) n small, other_kind Head Need (has r.needs) n small refl, other_kind Head Bar (has r.bars) n small refl) (append-nil (members_below (has r.heads) n))
      ∙ kept r.heads over.0

  pub needs_written : numbers Need (write_rule n (as_rule r)) ≡ members r.needs
  needs_written =
      parted Need ∙ rw (other_kind Need Head (has r.heads) n small refl, own_kind Need (has r.needs) n small, other_kind Need Bar (has r.bars) n small refl) (append-nil (members_below (has r.needs) n))
      ∙ kept r.needs over.1

  pub bars_written : numbers Bar (write_rule n (as_rule r)) ≡ members r.bars
  bars_written =
      parted Bar ∙ rw (other_kind Bar Head (has r.heads) n small refl, other_kind Bar Need (has r.needs) n small refl, own_kind Bar (has r.bars) n small) (append-nil (members_below (has r.bars) n))
      ∙ kept r.bars over.2

  counted : (k : Kind) (s : AtomSet) → Within n (has s) → length (words_of k (has s) n) ≡ size s
  counted k s w = ap length (sym (part_words k s s n (within_cut s n small w))) ∙ length-map (members s) (word_of k) ∙ length_members s

  pub length_written : length (write_rule n (as_rule r)) ≡ size r.heads + size r.needs + size r.bars + 1
  length_written =
      let hs = words_of Head (has r.heads) n in
      let ns = words_of Need (has r.needs) n in
      let bs = words_of Bar (has r.bars) n in
      let end = word_of End 0 ∷ [] in
      omega (arith, length-append hs (ns ++ (bs ++ end)), length-append ns (bs ++ end), length-append bs end, counted Head r.heads over.0, counted Need r.needs over.1, counted Bar r.bars over.2)

-- the text of a rule by its sets is that of its words
pub sets_spelled : (n : ℕ) (r : Rule) (empty : Bool) → n ≤ 256 → Over n (as_rule r) → (IsTrue empty ↔ ((i : ℕ) → has r.needs i ≡ false))
    → parts_text (members r.heads) (members r.needs) (members r.bars) (not empty) ≡ rule_text (write_rule n (as_rule r))
sets_spelled n r empty small over told =
    let lead = need_told n (as_rule r) small over empty (λ e. search rules) (λ e. search rules) in
    rw (heads_written n r small over, needs_written n r small over, bars_written n r small over, lead) refl
