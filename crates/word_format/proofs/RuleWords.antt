-- The words of one rule: written and read back, and read and written back.
use Rattle.std.proofs.Common.{◌≡◌, ℕ, ◌<◌, ◌≤◌, true, ◌⊎◌, List, [], ◌∷◌, ◌++◌, sym, refl, ap, ◌∙◌, subst, ap₂, inl, inr, ⊎_elim, append_assoc, arith}
use mathlib.Core.Path.{fun_ext}
use Rattle.std.specs.List.{ContainsAt as Has, AllByRecursion}
use Rattle.std.proofs.lemmas.Bool.{ne_eqb, eqb-false}
use Rattle.atoms.specs.Sets.{Atoms, none, Within, Ascending}
use Rattle.word_format.specs.declared.word.Kind.{Kind}
use Rattle.word_format.specs.declared.word.Kind.TheVariants.{Head, Need, Bar, End}
use Rattle.word_format.specs.Words.{kind_of, number_of, rank, is_end}
use Rattle.program.specs.Programs.{Rule, Over}
use Rattle.word_format.specs.Reading.{holds, rule_of}
use Rattle.word_format.specs.Writing.{word_of, words_of, write_rule}
use Rattle.atoms.proofs.Ascents.{has_single, has_append_cases, all_from_has, ascending_append, same_ascending}
use Rattle.std.proofs.ByRecursion.{all-has, has_append_left, has_append_right}
use Rattle.word_format.proofs.Numbers.{atom_below, same_rank, rank_lt, kind_of_word, number_of_word, word_of_parts, is_kind_word, end_word}
use Rattle.word_format.proofs.Segments.{AtomWord, Rest, fronts}
use Rattle.word_format.proofs.Written.{from_words, to_words, words_up, from_holds, to_holds, same_bool}

-- the part of a rule that words of this kind write
abbrev pub part : Kind → Rule → Atoms
part Head r = r.heads
part Need r = r.needs
part Bar r = r.bars
part End r = none

-- the words of a rule before its end word
abbrev pub parts : ℕ → Rule → List ℕ
parts n r = words_of Head r.heads n ++ (words_of Need r.needs n ++ words_of Bar r.bars n)

pub write_parts : (n : ℕ) (r : Rule) → write_rule n r ≡ parts n r ++ end_word ∷ []
write_parts n r = simp append_assoc

-- x is the word of an atom of the rule
abbrev pub PartWord : ℕ → Rule → ℕ → Type 0
PartWord n r x = (k : Kind) × (i : ℕ) × (rank k < 3) × (i < n) × (part k r i ≡ true) × (x ≡ word_of k i)

module _ (n : ℕ) (r : Rule) where
  from_kind : (k : Kind) (x : ℕ) → rank k < 3 → Has (words_of k (part k r) n) x → PartWord n r x
  from_kind k x l h = let f = from_words k (part k r) n x h in (k, f.0, l, f.1, f.2, f.3)

  pub from_parts : (x : ℕ) → Has (parts n r) x → PartWord n r x
  from_parts x h =
      ⊎_elim (from_kind Head x (omega arith)) (λ m. ⊎_elim (from_kind Need x (omega arith)) (from_kind Bar x (omega arith)) (has_append_cases (words_of Need r.needs n) (words_of Bar r.bars n) x m))
      (has_append_cases (words_of Head r.heads n) (words_of Need r.needs n ++ words_of Bar r.bars n) x h)

  pub to_parts : (k : Kind) (i : ℕ) → rank k < 3 → i < n → part k r i ≡ true → Has (parts n r) (word_of k i)
  to_parts Head i l m t = has_append_left (words_of Head r.heads n) (words_of Need r.needs n ++ words_of Bar r.bars n) (word_of Head i) (to_words Head r.heads n i m t)
  to_parts Need i l m t = has_append_right (words_of Head r.heads n) (words_of Need r.needs n ++ words_of Bar r.bars n) (word_of Need i) (has_append_left (words_of Need r.needs n) (words_of Bar r.bars n) (word_of Need i) (to_words Need r.needs n i m t))
  to_parts Bar i l m t = has_append_right (words_of Head r.heads n) (words_of Need r.needs n ++ words_of Bar r.bars n) (word_of Bar i) (has_append_right (words_of Need r.needs n) (words_of Bar r.bars n) (word_of Bar i) (to_words Bar r.bars n i m t))
  to_parts End i l m t = absurd (omega arith)

  before : (j k : Kind) → rank j < rank k → n ≤ 256 → (x y : ℕ) → Has (words_of j (part j r) n) x → Has (words_of k (part k r) n) y → x < y
  before j k l small x y h m = let f = from_words j (part j r) n x h in let g = from_words k (part k r) n y m in omega arith

  pub parts_up : n ≤ 256 → Ascending ◌<◌ (parts n r)
  parts_up small =
      ascending_append ◌<◌ (words_of Head r.heads n) (words_of Need r.needs n ++ words_of Bar r.bars n) (words_up Head r.heads n)
      (ascending_append ◌<◌ (words_of Need r.needs n) (words_of Bar r.bars n) (words_up Need r.needs n) (words_up Bar r.bars n) (before Need Bar (omega arith) small))
      (λ x y h m. ⊎_elim (before Head Need (omega arith) small x y h) (before Head Bar (omega arith) small x y h) (has_append_cases (words_of Need r.needs n) (words_of Bar r.bars n) y m))

  pub parts_atoms : n ≤ 256 → AllByRecursion (AtomWord n) (parts n r)
  parts_atoms small = all_from_has (AtomWord n) (parts n r) (λ x h. atom x (from_parts x h))
    where
      atom : (x : ℕ) → PartWord n r x → AtomWord n x
      atom x (k, i, l, m, t, e) = (
        ap is_end e ∙ is_kind_word End k i (omega arith) ∙ ne_eqb (rank k) 3 (λ q. omega arith),
        subst (λ (y : ℕ). y < n) (sym (ap number_of e ∙ number_of_word k i (omega arith))) m,
      )

  -- Reading what was written.
  pub read_rule : n ≤ 256 → Over n r → rule_of (write_rule n r) ≡ r
  read_rule small over = λ t. record { heads = fun_ext (read Head (omega arith) over.0) t; needs = fun_ext (read Need (omega arith) over.1) t; bars = fun_ext (read Bar (omega arith) over.2) t }
    where
      to : (k : Kind) → rank k < 3 → (i w : ℕ) → rank (kind_of w) ≡ rank k → number_of w ≡ i → PartWord n r w ⊎ Has (end_word ∷ []) w → part k r i ≡ true
      to k l i w q e (inl (j, h, lj, m, t, d)) =
          let same : j ≡ k = same_rank j k (sym (ap rank (kind_of_word j h (omega arith))) ∙ ap (λ (x : ℕ). rank (kind_of x)) (sym d) ∙ q) in
          let at : h ≡ i = sym (number_of_word j h (omega arith)) ∙ ap number_of (sym d) ∙ e in
          subst (λ (x : Kind). part x r i ≡ true) same (subst (λ (y : ℕ). part j r y ≡ true) at t)
      to k l i w q e (inr h) = let z : 3 ≡ rank (kind_of w) = ap (λ (x : ℕ). rank (kind_of x)) (has_single end_word w h) in absurd (omega arith)

      read : (k : Kind) → rank k < 3 → Within n (part k r) → (i : ℕ) → holds k (write_rule n r) i ≡ part k r i
      read k l within i =
          same_bool (holds k (write_rule n r) i) (part k r i)
          (λ h. let f = from_holds k (write_rule n r) i h in to k l i f.0 f.2 f.3 (⊎_elim (λ m. inl (from_parts f.0 m)) inr (has_append_cases (parts n r) (end_word ∷ []) f.0 (subst (λ (l : List ℕ). Has l f.0) (write_parts n r) f.1))))
          (λ t.
          let m = within i t in
          let at = has_append_left (parts n r) (end_word ∷ []) (word_of k i) (to_parts k i l m t) in
          let h = to_holds k (write_rule n r) (word_of k i) (subst (λ (l : List ℕ). Has l (word_of k i)) (sym (write_parts n r)) at) (ap rank (kind_of_word k i (omega arith))) in
          subst (λ (j : ℕ). holds k (write_rule n r) j ≡ true) (number_of_word k i (omega arith)) h)

part_holds : (k : Kind) (s : List ℕ) → rank k < 3 → part k (rule_of s) ≡ holds k s
part_holds k s l = grind arith

-- Writing what was read.
pub write_back : (n : ℕ) → n ≤ 256 → (s : List ℕ) → Rest n end_word s → (write_rule n (rule_of s) ≡ s) × Over n (rule_of s)
write_back n small s rest = go (fronts n end_word s rest)
  where
    go : (t : List ℕ) × (s ≡ t ++ end_word ∷ []) × AllByRecursion (AtomWord n) t × Ascending ◌<◌ t × ((is_end end_word ≡ true) ⊎ AllByRecursion (λ x. end_word < x) t) → (write_rule n (rule_of s) ≡ s) × Over n (rule_of s)
    go (t, e, atoms, up, _) = (write_parts n (rule_of s) ∙ ap (λ (x : List ℕ). x ++ end_word ∷ []) same ∙ sym e, (within Head (omega arith), within Need (omega arith), within Bar (omega arith)))
      where
        -- a held atom stands in a word of t
        held : (k : Kind) (i : ℕ) → rank k < 3 → holds k s i ≡ true → (i < n) × Has t (word_of k i)
        held k i l h =
            let f = from_holds k s i h in
            ⊎_elim
            (λ m.
            let a = all-has (AtomWord n) t f.0 atoms m in
            let b = atom_below f.0 a.0 in
            let w : word_of k i ≡ f.0 = ap₂ word_of (sym (same_rank (kind_of f.0) k f.2)) (sym f.3) ∙ word_of_parts f.0 (omega arith) in
            (subst (λ (x : ℕ). x < n) f.3 a.1, subst (λ (x : ℕ). Has t x) (sym w) m))
            (λ m. let z : 3 ≡ rank (kind_of f.0) = ap (λ (x : ℕ). rank (kind_of x)) (has_single end_word f.0 m) in let y = f.2 in absurd (omega arith))
            (has_append_cases t (end_word ∷ []) f.0 (subst (λ (l : List ℕ). Has l f.0) e f.1))

        within : (k : Kind) → rank k < 3 → Within n (holds k s)
        within k l i h = (held k i l h).0

        to : (x : ℕ) → Has (parts n (rule_of s)) x → Has t x
        to x h =
            let p = from_parts n (rule_of s) x h in
            let at : holds p.0 s p.1 ≡ true = subst (λ (X : Atoms). X p.1 ≡ true) (part_holds p.0 s p.2) p.4 in
            subst (λ (y : ℕ). Has t y) (sym p.5) (held p.0 p.1 p.2 at).1

        from : (x : ℕ) → Has t x → Has (parts n (rule_of s)) x
        from x m =
            let a = all-has (AtomWord n) t x atoms m in
            let b = atom_below x a.0 in
            let l : rank (kind_of x) < 3 = omega (arith, rank_lt (kind_of x), eqb-false (rank (kind_of x)) 3 a.0) in
            let h = to_holds (kind_of x) s x (subst (λ (l : List ℕ). Has l x) (sym e) (has_append_left t (end_word ∷ []) x m)) refl in
            let at : part (kind_of x) (rule_of s) (number_of x) ≡ true = subst (λ (X : Atoms). X (number_of x) ≡ true) (sym (part_holds (kind_of x) s l)) h in
            subst (λ (y : ℕ). Has (parts n (rule_of s)) y) (word_of_parts x (omega arith)) (to_parts n (rule_of s) (kind_of x) (number_of x) l a.1 at)

        same : parts n (rule_of s) ≡ t
        same = same_ascending ◌<◌ (λ x y p q. omega arith) (parts n (rule_of s)) t (parts_up n (rule_of s) small) up to from
