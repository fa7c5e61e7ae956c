-- Words are lawful exactly when they are the writing of a program within the bounds, and that program is what they mean.
use Rattle.std.proofs.Common.{◌≡◌, ℕ, suc, ◌+◌, ◌-◌, ◌^◌, ◌<◌, ◌≤◌, true, false, cond, ltb, ◌⊎◌, List, [], ◌∷◌, ◌++◌, map, length, get_or, take, None, sym, refl, ap, ◌∙◌, subst, ap₂, inl, inr, ⊎_elim, append_assoc, zero-add, add-one, arith}
use Rattle.std.specs.List.{flat_map, AllByRecursion}
use Rattle.std.proofs.ByRecursion.{All-append, All-get_or, All-from_get_or, All-weaker}
use Rattle.std.proofs.lemmas.List.{length-map, get_or_past}
use Rattle.std.proofs.lemmas.Bool.Decides.{nat_tests}
use Rattle.std.proofs.lemmas.Bool.{both_ways, le-ltb}
use Rattle.word_format.specs.declared.word.Kind.{Kind}
use Rattle.word_format.specs.declared.word.Kind.TheVariants.{End}
use Rattle.word_format.specs.Words.{kind_of, number_of, rank, is_end}
use Rattle.word_format.specs.Checks.{ends, fault, fault_after, front_fault, Lawful}
use Rattle.program.specs.Limits.{over_each}
use Rattle.program.specs.Programs.{Rule, Over, Program, Limited}
use Rattle.word_format.specs.Reading.{rule_of, segments, meaning}
use Rattle.word_format.specs.Writing.{word_of, write_rule, written, InBounds}
use Rattle.word_format.proofs.ProgramWritten.{segments_written}
use Rattle.word_format.proofs.RuleWords.{parts, write_parts, parts_atoms, parts_up, read_rule, write_back}
use Rattle.atoms.specs.Sets.{Ascending}
use Rattle.word_format.proofs.Numbers.{clear_none, none_clear, atom_below, same_rank, number_of_word, word_below, word_of_parts, is_kind_word, lt_follows, end_follows, atom_faultless, end_faultless, end_word}
use Rattle.word_format.proofs.Segments.{Clean, clean_from, clean_to, closed, closed_last, clean_ends, count_segments, AtomWord, Rest, Shape, shapes, join_segments}

module _ (n : ℕ) (small : n ≤ 256) where
  pub read_rules : (rs : List Rule) → AllByRecursion (Over n) rs → map rule_of (segments (flat_map (write_rule n) rs)) ≡ rs
  read_rules rs over = ap (map rule_of) (segments_written n small rs) ∙ read_each rs over
    where
      read_each : (rs : List Rule) → AllByRecursion (Over n) rs → map rule_of (map (write_rule n) rs) ≡ rs
      read_each [] over = refl
      read_each (r ∷ rs) (o, over) = ap₂ (λ (x : Rule) (xs : List Rule). x ∷ xs) (read_rule n r small o) (read_each rs over)

  -- The words of rules after an end word are faultless.
  clean_parts : (t rest : List ℕ) (p e : ℕ) → AllByRecursion (AtomWord n) t → Ascending ◌<◌ t → (is_end p ≡ true) ⊎ AllByRecursion (λ x. p < x) t → e < 1024 → Clean n end_word (e + 1) rest → Clean n p e (t ++ end_word ∷ rest)
  clean_parts [] rest p e a u after l c = (end_faultless n p e end_word refl refl l, c)
  clean_parts (w ∷ t) rest p e (aw, a) (lt, u) after l c = (
    atom_faultless n p e w aw.0 aw.1 small (⊎_elim (λ q. end_follows p w q) (λ m. lt_follows p w m.0 aw.0) after),
    let z : e + cond (is_end w) 1 0 ≡ e = rw aw.0 (omega arith) in
        rw z (clean_parts t rest w e a u (inr lt) l c),
  )

  pub clean_rules : (rs : List Rule) (p e : ℕ) → is_end p ≡ true → e + length rs ≤ 1024 → Clean n p e (flat_map (write_rule n) rs)
  clean_rules [] p e q l = tt
  clean_rules (r ∷ rs) p e q l =
      let c = clean_parts (parts n r) (flat_map (write_rule n) rs) p e (parts_atoms n r small) (parts_up n r small) (inl q) (omega arith) (clean_rules rs end_word (e + 1) refl (omega arith)) in
      subst (Clean n p e) (sym (append_assoc (parts n r) (end_word ∷ []) (flat_map (write_rule n) rs)) ∙ ap (λ (x : List ℕ). x ++ flat_map (write_rule n) rs) (sym (write_parts n r))) c

  closed_parts : (t rest : List ℕ) (p : ℕ) → closed end_word rest ≡ true → closed p (t ++ end_word ∷ rest) ≡ true
  closed_parts [] rest p c = c
  closed_parts (w ∷ t) rest p c = closed_parts t rest w c

  pub closed_rules : (rs : List Rule) (p : ℕ) → is_end p ≡ true → closed p (flat_map (write_rule n) rs) ≡ true
  closed_rules [] p q = q
  closed_rules (r ∷ rs) p q =
      subst (λ (x : List ℕ). closed p x ≡ true) (sym (append_assoc (parts n r) (end_word ∷ []) (flat_map (write_rule n) rs)) ∙ ap (λ (x : List ℕ). x ++ flat_map (write_rule n) rs) (sym (write_parts n r)))
      (closed_parts (parts n r) (flat_map (write_rule n) rs) p (closed_rules rs end_word refl))

  pub small_rules : (rs : List Rule) → AllByRecursion (λ w. w < 2 ^ 32) (flat_map (write_rule n) rs)
  small_rules [] = tt
  small_rules (r ∷ rs) =
      All-append (λ w. w < 2 ^ 32) (write_rule n r) (flat_map (write_rule n) rs)
      (subst (AllByRecursion (λ w. w < 2 ^ 32)) (sym (write_parts n r)) (All-append (λ w. w < 2 ^ 32) (parts n r) (end_word ∷ []) (All-weaker (AtomWord n) (λ w. w < 2 ^ 32) (λ w a. let b = atom_below w a.0 in omega arith) (parts n r) (parts_atoms n r small)) (omega arith, tt)))
      (small_rules rs)

  -- All the rules, written back.
  pub write_all : (ss : List (List ℕ)) → AllByRecursion (Rest n end_word) ss → flat_map (write_rule n) (map rule_of ss) ≡ flat_map (λ (s : List ℕ). s) ss
  write_all [] h = refl
  write_all (s ∷ ss) (r, h) = ap₂ (λ (x y : List ℕ). x ++ y) (write_back n small s r).0 (write_all ss h)

  pub rules_over : (ss : List (List ℕ)) → AllByRecursion (Rest n end_word) ss → AllByRecursion (Over n) (map rule_of ss)
  rules_over [] h = tt
  rules_over (s ∷ ss) (r, h) = ((write_back n small s r).1, rules_over ss h)

-- a list whose every word is small
small_at : (ws : List ℕ) → AllByRecursion (λ w. w < 2 ^ 32) ws → (i : ℕ) → get_or ws i 0 < 2 ^ 32
small_at ws a i = grind (arith, All-get_or, get_or_past)

-- what the front of lawful words tells
front_tells : (h : ℕ) (b : List ℕ) → front_fault (h ∷ b) ≡ None → (length (h ∷ b) ≤ 16384) × (is_end h ≡ true) × (number_of h ≤ 256)
front_tells h b f = grind (arith, nat_tests)

body_clean : (h : ℕ) (b : List ℕ) → Lawful (h ∷ b) → Clean (number_of h) h 0 b
body_clean h b law = clean_from (number_of h) h 0 b (λ i l. ap₂ (λ (e w : ℕ). fault (number_of h) (get_or (h ∷ b) i 0) e w) (zero-add (ends (take i b))) (ap (λ (k : ℕ). get_or (h ∷ b) k 0) (sym (add-one i))) ∙ clear_none (fault_after (h ∷ b) i) (law.1 i (omega arith)))

pub header_end : (h : ℕ) (b : List ℕ) → Lawful (h ∷ b) → is_end h ≡ true
header_end h b law = grind (arith, front_tells, clear_none)

pub body_closed : (h : ℕ) (b : List ℕ) → Lawful (h ∷ b) → closed h b ≡ true
body_closed h b law = let e : length b ≡ length (h ∷ b) - 1 = omega arith in closed_last h b ∙ ap (λ (k : ℕ). is_end (get_or (h ∷ b) k 0)) e ∙ law.2

-- Lawful words are the writing of what they mean.
pub write_meaning : (ws : List ℕ) → Lawful ws → InBounds (meaning ws) × (written (meaning ws) ≡ ws)
write_meaning [] law = absurd (both_ways true law.0 refl)
write_meaning (h ∷ b) law = (
  record {
    few_atoms = front.2;
    few_rules = let e = length-map (segments b) rule_of in let c = count_segments b h cl in let m = clean_ends (number_of h) h 0 b clean (omega arith) in omega arith;
    few_words = let e = ap length same in let f = front.0 in omega arith;
    over = rules_over (number_of h) front.2 (segments b) rests;
  },
  same,
)
  where
    front : (length (h ∷ b) ≤ 16384) × (is_end h ≡ true) × (number_of h ≤ 256)
    front = front_tells h b (clear_none (front_fault (h ∷ b)) law.0)

    clean : Clean (number_of h) h 0 b
    clean = body_clean h b law

    cl : closed h b ≡ true
    cl = body_closed h b law

    small : (i : ℕ) → get_or (h ∷ b) i 0 < 2 ^ 32
    small = law.3

    shape : (ss : List (List ℕ)) → Shape (number_of h) h ss → AllByRecursion (Rest (number_of h) end_word) ss
    shape [] s = tt
    shape (s ∷ ss) (r, rs) = (after_end s r, rs)
      where
        -- after any end word a rule begins alike
        after_end : (s : List ℕ) → Rest (number_of h) h s → Rest (number_of h) end_word s
        after_end [] r = r
        after_end (w ∷ s) (inl e) = inl e
        after_end (w ∷ s) (inr (a, after, r)) = inr (a, inl refl, r)

    rests : AllByRecursion (Rest (number_of h) end_word) (segments b)
    rests = shape (segments b) (shapes (number_of h) h 0 b clean cl (All-from_get_or (λ w. w < 2 ^ 32) b 0 (λ i l. small (suc i))))

    header : word_of End (number_of h) ≡ h
    header = ap (λ (k : Kind). word_of k (number_of h)) (sym (same_rank (kind_of h) End (end_rank front.1))) ∙ word_of_parts h (small 0)
      where
        end_rank : is_end h ≡ true → rank (kind_of h) ≡ 3
        end_rank e = grind (arith, nat_tests)

    same : written (meaning (h ∷ b)) ≡ h ∷ b
    same = ap₂ (λ (x : ℕ) (y : List ℕ). x ∷ y) header (write_all (number_of h) front.2 (segments b) rests ∙ join_segments h b cl)

-- and what they mean keeps the limits
pub limited_meaning : (ws : List ℕ) → Lawful ws → Limited (meaning ws)
limited_meaning ws law = let b = (write_meaning ws law).0 in (b.few_atoms, b.few_rules, over_each (meaning ws).atoms (meaning ws).rules b.over)

-- A program within the bounds is what its writing means.
pub meaning_written : (P : Program) → InBounds P → meaning (written P) ≡ P
meaning_written P b = λ t. record { atoms = number_of_word End P.atoms (let l = b.few_atoms in omega arith) t; rules = read_rules P.atoms b.few_atoms P.rules b.over t }

-- The writing of a program within the bounds is lawful.
pub lawful_written : (P : Program) → InBounds P → Lawful (written P)
lawful_written P b = (
  none_clear (front_fault (h ∷ body)) front,
  λ i l. none_clear (fault_after (h ∷ body) i) (ap₂ (λ (e w : ℕ). fault (number_of h) (get_or (h ∷ body) i 0) e w) (sym (zero-add (ends (take i body)))) (ap (λ (k : ℕ). get_or (h ∷ body) k 0) (add-one i)) ∙ clean_to (number_of h) h 0 body clean i (omega arith)),
  let e : length (h ∷ body) - 1 ≡ length body = omega arith in ap (λ (k : ℕ). is_end (get_or (h ∷ body) k 0)) e ∙ sym (closed_last h body) ∙ closed_rules n b.few_atoms P.rules h end,
  small_at (h ∷ body) (word_below End n (omega (arith, b.few_atoms)), small_rules n b.few_atoms P.rules),
)
  where
    n : ℕ
    n = P.atoms

    h : ℕ
    h = word_of End n

    body : List ℕ
    body = flat_map (write_rule n) P.rules

    number : number_of h ≡ n
    number = number_of_word End n (omega (arith, b.few_atoms))

    end : is_end h ≡ true
    end = is_kind_word End End n (omega (arith, b.few_atoms))

    clean : Clean (number_of h) h 0 body
    clean = subst (λ (m : ℕ). Clean m h 0 body) (sym number) (clean_rules n b.few_atoms P.rules h 0 end (omega (arith, b.few_rules)))

    front : front_fault (h ∷ body) ≡ None
    front = let few : ltb 256 (number_of h) ≡ false = le-ltb 256 (number_of h) (omega (arith, number, b.few_atoms)) in let short : ltb 16384 (length (h ∷ body)) ≡ false = le-ltb 16384 (length (h ∷ body)) b.few_words in rw (short, end, few)
