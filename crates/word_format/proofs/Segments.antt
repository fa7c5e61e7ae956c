-- Faultless words fall into parts, one for each rule, that rise and end in the end word.
use Rattle.std.proofs.Common.{◌≡◌, ℕ, zero, suc, ◌+◌, ◌^◌, ◌<◌, ◌≤◌, Bool, true, false, cond, ◌⊎◌, List, [], ◌∷◌, ◌++◌, length, get_or, take, None, sym, refl, ap, ◌∙◌, subst, ap₂, inl, inr, ⊎_elim, add-zero, add_assoc, arith}
use Rattle.std.specs.List.{flat_map, AllByRecursion}
use Rattle.std.proofs.ByRecursion.{All-weaker}
use Rattle.std.proofs.lemmas.Bool.{both_ways}
use Rattle.word_format.specs.Words.{number_of, is_end}
use Rattle.word_format.specs.Checks.{ends, fault}
use Rattle.word_format.specs.Reading.{onto, segments}
use Rattle.atoms.specs.Sets.{Ascending}
use Rattle.word_format.proofs.Numbers.{follows_lt, fault_atom, fault_end, end_word, end_is}

-- no word has a fault, after the word p and e end words
abbrev pub Clean : ℕ → ℕ → ℕ → List ℕ → Type 0
Clean n p e [] = Unit {0}
Clean n p e (w ∷ ws) = (fault n p e w ≡ None) × Clean n w (e + cond (is_end w) 1 0) ws

pub clean_from : (n p e : ℕ) (b : List ℕ) → ((i : ℕ) → i < length b → fault n (get_or (p ∷ b) i 0) (e + ends (take i b)) (get_or b i 0) ≡ None) → Clean n p e b
clean_from n p e [] each = tt
clean_from n p e (w ∷ b) each = (
  ap (λ (x : ℕ). fault n p x w) (sym (add-zero e)) ∙ each 0 (omega arith),
  clean_from n w (e + cond (is_end w) 1 0) b (λ i l. ap (λ (x : ℕ). fault n (get_or (w ∷ b) i 0) x (get_or b i 0)) (add_assoc e (cond (is_end w) 1 0) (ends (take i b))) ∙ each (suc i) (omega arith)),
)

pub clean_to : (n p e : ℕ) (b : List ℕ) → Clean n p e b → (i : ℕ) → i < length b → fault n (get_or (p ∷ b) i 0) (e + ends (take i b)) (get_or b i 0) ≡ None
clean_to n p e [] c i l = absurd (omega arith)
clean_to n p e (w ∷ b) (f, c) zero l = ap (λ (x : ℕ). fault n p x w) (add-zero e) ∙ f
clean_to n p e (w ∷ b) (f, c) (suc i) l = ap (λ (x : ℕ). fault n (get_or (w ∷ b) i 0) x (get_or b i 0)) (sym (add_assoc e (cond (is_end w) 1 0) (ends (take i b)))) ∙ clean_to n w (e + cond (is_end w) 1 0) b c i (omega arith)

-- the last word, or p, is of the kind end
abbrev pub closed : ℕ → List ℕ → Bool
closed p [] = is_end p
closed p (w ∷ ws) = closed w ws

pub closed_last : (p : ℕ) (b : List ℕ) → closed p b ≡ is_end (get_or (p ∷ b) (length b) 0)
closed_last p [] = refl
closed_last p (w ∷ b) = closed_last w b

-- the number of rules
pub clean_ends : (n p e : ℕ) (b : List ℕ) → Clean n p e b → e ≤ 1024 → e + ends b ≤ 1024
clean_ends n p e [] c l = omega arith
clean_ends n p e (w ∷ b) (f, c) l = let h = clean_ends n w (e + cond (is_end w) 1 0) b c in let k = fault_end n p e w in grind arith

pub count_segments : (b : List ℕ) (p : ℕ) → closed p b ≡ true → length (segments b) ≡ ends b
count_segments [] p c = refl
count_segments (w ∷ b) p c = let h = count_segments b w c in grind arith

-- a head, need or bar with an atom below n
abbrev pub AtomWord : ℕ → ℕ → Type 0
AtomWord n w = (is_end w ≡ false) × (number_of w < n)

-- the rest of a rule after the word p
abbrev pub Rest : ℕ → ℕ → List ℕ → Type 0
Rest n p [] = ⊥
Rest n p (w ∷ ws) = ((w ≡ end_word) × (ws ≡ [])) ⊎ (AtomWord n w × ((is_end p ≡ true) ⊎ (p < w)) × Rest n w ws)

abbrev pub Shape : ℕ → ℕ → List (List ℕ) → Type 0
Shape n p [] = is_end p ≡ true
Shape n p (s ∷ ss) = Rest n p s × AllByRecursion (Rest n end_word) ss

pub shapes : (n p e : ℕ) (b : List ℕ) → Clean n p e b → closed p b ≡ true → AllByRecursion (λ w. w < 2 ^ 32) b → Shape n p (segments b)
shapes n p e [] c cl small = cl
shapes n p e (w ∷ b) (f, c) cl (lw, small) = go (is_end w) refl (segments b) (shapes n w (e + cond (is_end w) 1 0) b c cl small)
  where
    after : (t : Bool) → is_end p ≡ t → is_end w ≡ false → (is_end p ≡ true) ⊎ (p < w)
    after true t ew = inl t
    after false t ew = inr (follows_lt p w t ew (fault_atom n p e w ew f).1)

    all : (ss : List (List ℕ)) → w ≡ end_word → Shape n w ss → AllByRecursion (Rest n end_word) ss
    all [] ew h = tt
    all (s ∷ ss) ew (r, h) = (subst (λ (x : ℕ). Rest n x s) ew r, h)

    go : (t : Bool) → is_end w ≡ t → (ss : List (List ℕ)) → Shape n w ss → Shape n p (cond (is_end w) ((w ∷ []) ∷ ss) (onto w ss))
    go true t ss h = let ew = end_is w lw t (fault_end n p e w t f).0 in rw t (inl (ew, refl), all ss ew h)
    go false t [] h = absurd (both_ways (is_end w) t h)
    go false t (s ∷ ss) (r, h) = rw t (inr ((t, (fault_atom n p e w t f).0), after (is_end p) refl t, r), h)

-- an unfinished part has an end after it
some_segment : (b : List ℕ) (p : ℕ) → is_end p ≡ false → closed p b ≡ true → segments b ≡ [] → ⊥
some_segment [] p t c e = both_ways (is_end p) t c
some_segment (w ∷ b) p t c e = let h = some_segment b w in grind arith

pub join_segments : (p : ℕ) (b : List ℕ) → closed p b ≡ true → flat_map (λ (s : List ℕ). s) (segments b) ≡ b
join_segments p [] c = refl
join_segments p (w ∷ b) c = let h = join_segments w b c in let k = some_segment b w in grind arith

-- the words before the end word: they rise, and are all of a rule's parts
pub fronts : (n p : ℕ) (s : List ℕ) → Rest n p s → (t : List ℕ) × (s ≡ t ++ end_word ∷ []) × AllByRecursion (AtomWord n) t × Ascending ◌<◌ t × ((is_end p ≡ true) ⊎ AllByRecursion (λ x. p < x) t)
fronts n p [] h = absurd h
fronts n p (w ∷ s) (inl (e, q)) = ([], ap₂ (λ (x : ℕ) (y : List ℕ). x ∷ y) e q, tt, tt, inr tt)
fronts n p (w ∷ s) (inr (a, after, r)) = go (fronts n w s r)
  where
    go : (t : List ℕ) × (s ≡ t ++ end_word ∷ []) × AllByRecursion (AtomWord n) t × Ascending ◌<◌ t × ((is_end w ≡ true) ⊎ AllByRecursion (λ x. w < x) t)
        → (t : List ℕ) × (w ∷ s ≡ t ++ end_word ∷ []) × AllByRecursion (AtomWord n) t × Ascending ◌<◌ t × ((is_end p ≡ true) ⊎ AllByRecursion (λ x. p < x) t)
    go (t, q, each, u, inl e) = absurd (both_ways (is_end w) a.0 e)
    go (t, q, each, u, inr lt) = (
      w ∷ t,
      ap (λ (x : List ℕ). w ∷ x) q,
      (a, each),
      (lt, u),
      ⊎_elim inl (λ (l : p < w). inr (l, All-weaker (λ x. w < x) (λ x. p < x) (λ x m. omega arith) t lt)) after,
    )

-- the parts of written rules
pub segments_cons : (n : ℕ) (t rest : List ℕ) → AllByRecursion (AtomWord n) t → is_end end_word ≡ true → segments (t ++ end_word ∷ rest) ≡ (t ++ end_word ∷ []) ∷ segments rest
segments_cons n [] rest a e = refl
segments_cons n (w ∷ t) rest ((ew, lw), a) e = let h = segments_cons n t rest a e in grind arith
