-- The order of `AtomSet`: what a test of the lowest difference tells, and that the order is total.
use Rattle.std.proofs.Common.{◌≡◌, ◌≢◌, ℕ, zero, suc, ◌+◌, ◌<◌, Bool, true, false, eqb, List, [], ◌∷◌, map, drop, ◌⊎◌, Decides, Ordering, Less, Equal, Greater, sym, refl, ap, ◌∙◌, subst, inl, inr, ⊎_elim, arith}
use Rattle.std.specs.Cmp.Lexicographic.{pointwise}
use Rattle.std.proofs.lemmas.Bool.Decides.{Decides-eqb}
use Rattle.std.proofs.lemmas.Slice.Eq.{slice_eq-Decides}
use Rattle.std.proofs.lemmas.Bool.{both_ways, cases_eq, cases_order, false_from_ne_true, and_parts, and_from, true≢false, false≢true}
use Rattle.std.specs.Bool.{one_answer}
use Rattle.std.specs.Cmp.{Equal-is, one_rank}
use Rattle.std.specs.Ordering.{MatchOrdering, bool_cmp, eq_by_cmp, is_eq, is_lt, ordering_then}
use Rattle.std.specs.List.{list_all, zip}
use Rattle.atoms.specs.declared.AtomSet.{AtomSet}
use Rattle.atoms.specs.Sets.{Atoms, Precedes, Rising}
use Rattle.atoms.specs.Member.{Lowest, cmp_from, differ, has, set_cmp}
use Rattle.atoms.proofs.Words.{made_same, member_below, same_sets}
use Rattle.atoms.proofs.SetOrder.{cases_precedes, precedes_irreflexive, precedes_transitive, same_below}
use Rattle.atoms.proofs.Listing.{rising_cons}

not_differ : (x y : Bool) → differ x y ≡ false → x ≡ y
not_differ true true e = refl
not_differ true false e = e
not_differ false true e = sym e
not_differ false false e = refl

same_not_differ : (x y : Bool) → x ≡ y → differ x y ≡ true → ⊥
same_not_differ true true e h = false≢true h
same_not_differ true false e h = true≢false e
same_not_differ false true e h = false≢true e
same_not_differ false false e h = false≢true h

differ_lacks : (x y : Bool) → differ x y ≡ true → y ≡ true → x ≡ false
differ_lacks true true e h = sym e
differ_lacks true false e h = sym h
differ_lacks false y e h = refl

-- at the lowest atom of D, in which X and Y differ, Y tells which comes first
pub first_differs : (X Y D : Atoms) → ((i : ℕ) → D i ≡ differ (X i) (Y i)) → (i : ℕ) → Lowest D i → (r : Bool) → r ≡ Y i → Decides r (Precedes X Y)
first_differs X Y D e i low r q =
    (λ t. (i, (λ j l. not_differ (X j) (Y j) (sym (e j) ∙ low.1 j l)), differ_lacks (X i) (Y i) (sym (e i) ∙ low.0) (sym q ∙ t), sym q ∙ t), back)
  where
    back : Precedes X Y → r ≡ true
    back (k, same, xk, yk) = go (cases_order k i)
      where
        go : (k ≡ i) ⊎ ((k < i) ⊎ (i < k)) → r ≡ true
        go (inl z) = q ∙ ap Y (sym z) ∙ yk
        go (inr (inl l)) = absurd (both_ways (X k) xk (not_differ (X k) (Y k) (sym (e k) ∙ low.1 k l) ∙ yk))
        go (inr (inr l)) = absurd (same_not_differ (X i) (Y i) (same i l) (sym (e i) ∙ low.0))

-- where X and Y nowhere differ, neither comes first
pub none_differs : (X Y D : Atoms) → ((i : ℕ) → D i ≡ differ (X i) (Y i)) → ((i : ℕ) → D i ≡ false) → Precedes X Y → ⊥
none_differs X Y D e no-atom (k, same, xk, yk) = both_ways (X k) xk (not_differ (X k) (Y k) (sym (e k) ∙ no-atom k) ∙ yk)

-- two sets are the same, or one precedes
pub cases_sets : (s t : AtomSet) → (s ≡ t) ⊎ (Precedes (has s) (has t) ⊎ Precedes (has t) (has s))
cases_sets s t = go (cases_precedes 256 (has s) (has t) (member_below s) (member_below t))
  where
    go : (has s ≡ has t) ⊎ (Precedes (has s) (has t) ⊎ Precedes (has t) (has s)) → (s ≡ t) ⊎ (Precedes (has s) (has t) ⊎ Precedes (has t) (has s))
    go (inl e) = inl (same_sets s t (λ i. ap (λ (X : Atoms). X i) e))
    go (inr p) = inr p

abbrev Rank : AtomSet → AtomSet → Ordering → Type 0
Rank s t o = MatchOrdering o (Precedes (has s) (has t)) (s ≡ t) (Precedes (has t) (has s))

-- what is compared from i on, where the two are the same below i
cmp_from_ranks : (m i : ℕ) (X Y : Atoms) → ((j : ℕ) → j < i → X j ≡ Y j)
    → MatchOrdering (cmp_from m i X Y) (Precedes X Y) ((j : ℕ) → j < i + m → X j ≡ Y j) (Precedes Y X)
unfolding cmp_from
cmp_from_ranks zero i X Y same = λ j l. same j (omega arith)
cmp_from_ranks (suc m) i X Y same = go (cmp_from_ranks m (suc i) X Y) (X i) (Y i) refl refl
  where
    more : X i ≡ Y i → (j : ℕ) → j < suc i → X j ≡ Y j
    more here j l = ⊎_elim (λ e. ap X e ∙ here ∙ ap Y (sym e)) (λ ne. same j (omega arith)) (cases_eq j i)

    length_is : (r : Ordering) → MatchOrdering r (Precedes X Y) ((j : ℕ) → j < suc i + m → X j ≡ Y j) (Precedes Y X) → MatchOrdering r (Precedes X Y) ((j : ℕ) → j < i + suc m → X j ≡ Y j) (Precedes Y X)
    length_is Less h = h
    length_is Equal h = λ j l. h j (omega arith)
    length_is Greater h = h

    go : (((j : ℕ) → j < suc i → X j ≡ Y j) → MatchOrdering (cmp_from m (suc i) X Y) (Precedes X Y) ((j : ℕ) → j < suc i + m → X j ≡ Y j) (Precedes Y X))
        → (x y : Bool) → X i ≡ x → Y i ≡ y → MatchOrdering (ordering_then (bool_cmp x y) (cmp_from m (suc i) X Y)) (Precedes X Y) ((j : ℕ) → j < i + suc m → X j ≡ Y j) (Precedes Y X)
    go rest true true x y = length_is (cmp_from m (suc i) X Y) (rest (more (x ∙ sym y)))
    go rest true false x y = (i, (λ j l. sym (same j l)), y, x)
    go rest false true x y = (i, same, x, y)
    go rest false false x y = length_is (cmp_from m (suc i) X Y) (rest (more (x ∙ sym y)))

pub ranked : (s t : AtomSet) → Rank s t (set_cmp s t)
ranked s t = go (set_cmp s t) (cmp_from_ranks 256 0 (has s) (has t) (λ j l. absurd (omega arith)))
  where
    go : (o : Ordering) → MatchOrdering o (Precedes (has s) (has t)) ((j : ℕ) → j < 0 + 256 → has s j ≡ has t j) (Precedes (has t) (has s)) → Rank s t o
    go Less h = h
    go Equal h = same_sets s t (λ i. ap (λ (X : Atoms). X i) (same_below 256 (has s) (has t) (member_below s) (member_below t) (λ j l. h j (omega arith))))
    go Greater h = h

-- there is one answer
pub cmp_is : (s t : AtomSet) (o : Ordering) → Rank s t o → o ≡ set_cmp s t
cmp_is s t o h =
    one_rank (λ (s t : AtomSet). Precedes (has s) (has t)) (λ s. precedes_irreflexive (has s)) (λ s t u. precedes_transitive (has s) (has t) (has u))
    s t o (set_cmp s t) h (ranked s t)

-- the answer from what holds, one lemma for each
pub less_is : (s t : AtomSet) → Precedes (has s) (has t) → Less ≡ set_cmp s t
less_is s t = cmp_is s t Less

pub greater_is : (s t : AtomSet) → Precedes (has t) (has s) → Greater ≡ set_cmp s t
greater_is s t = cmp_is s t Greater

-- a test that tells whether two sets are the same answers what `==` does
pub eq_is : (s t : AtomSet) (r : Bool) → Decides r (s ≡ t) → r ≡ eq_by_cmp set_cmp s t
eq_is s t r d = one_answer r (eq_by_cmp set_cmp s t) d (to, from)
  where
    to : is_eq (set_cmp s t) ≡ true → s ≡ t
    to e = subst (λ (o : Ordering). Rank s t o) ((Equal-is (set_cmp s t)).0 e) (ranked s t)

    from : s ≡ t → is_eq (set_cmp s t) ≡ true
    from e = ap is_eq (sym (cmp_is s t Equal e))

-- what `==` of the words tells
words_decide : (s t : AtomSet) → Decides (pointwise eqb s.words t.words) (s ≡ t)
words_decide s t =
    let d = slice_eq-Decides Decides-eqb s.words t.words (pointwise eqb s.words t.words) refl in
    (λ e. made_same s t (d.0 e), λ e. d.1 (ap (λ (u : AtomSet). u.words) e))

pub eq_value : (s t : AtomSet) → pointwise eqb s.words t.words ≡ eq_by_cmp set_cmp s t
eq_value s t = eq_is s t (pointwise eqb s.words t.words) (words_decide s t)

-- sets are the same, or some atom is in one of them only
pub eq_tells : (s t : AtomSet) → ((pointwise eqb s.words t.words ≡ true) × (s ≡ t)) ⊎ ((pointwise eqb s.words t.words ≡ false) × ((i : ℕ) × (has s i ≢ has t i)))
eq_tells s t = go (cases_sets s t)
  where
    apart : (i : ℕ) → has s i ≢ has t i → (pointwise eqb s.words t.words ≡ false) × ((i : ℕ) × (has s i ≢ has t i))
    apart i ne = (false_from_ne_true _ (λ e. ne (ap (λ (u : AtomSet). has u i) ((words_decide s t).0 e))), (i, ne))

    go : (s ≡ t) ⊎ (Precedes (has s) (has t) ⊎ Precedes (has t) (has s))
        → ((pointwise eqb s.words t.words ≡ true) × (s ≡ t)) ⊎ ((pointwise eqb s.words t.words ≡ false) × ((i : ℕ) × (has s i ≢ has t i)))
    go (inl e) = inl ((words_decide s t).1 e, e)
    go (inr (inl (i, same, x, y))) = inr (apart i (λ e. both_ways (has s i) x (e ∙ y)))
    go (inr (inr (i, same, y, x))) = inr (apart i (λ e. both_ways (has t i) y (sym e ∙ x)))

-- where neither precedes, they are the same
pub neither : (s t : AtomSet) → (Precedes (has s) (has t) → ⊥) → (Precedes (has t) (has s) → ⊥) → s ≡ t
neither s t p q = go (cases_sets s t)
  where
    go : (s ≡ t) ⊎ (Precedes (has s) (has t) ⊎ Precedes (has t) (has s)) → s ≡ t
    go (inl e) = e
    go (inr (inl b)) = absurd (p b)
    go (inr (inr b)) = absurd (q b)

-- `<` of two sets
pub less_tells : (s t : AtomSet) → Decides (is_lt (set_cmp s t)) (Precedes (has s) (has t))
less_tells s t = (go (set_cmp s t) (ranked s t), λ p. ap is_lt (sym (less_is s t p)))
  where
    go : (o : Ordering) → Rank s t o → is_lt o ≡ true → Precedes (has s) (has t)
    go Less h e = h
    go Equal h e = absurd (false≢true e)
    go Greater h e = absurd (false≢true e)

-- the test of each set against the next tells whether they rise
abbrev pub each_below_next : List AtomSet → Bool
each_below_next L = list_all (λ (p : AtomSet × AtomSet). is_lt (set_cmp p.0 p.1)) (zip L (drop 1 L))

pub each_below_next_rises : (L : List AtomSet) → each_below_next L ≡ true → Rising (map has L)
each_below_next_rises [] e = tt
each_below_next_rises (s ∷ []) e = (tt, tt)
each_below_next_rises (s ∷ t ∷ L) e =
    let parts = and_parts (is_lt (set_cmp s t)) (each_below_next (t ∷ L)) e in
    rising_cons (has s) (has t) (map has L) ((less_tells s t).0 parts.0) (each_below_next_rises (t ∷ L) parts.1)

pub rises_each_below_next : (L : List AtomSet) → Rising (map has L) → each_below_next L ≡ true
rises_each_below_next [] r = refl
rises_each_below_next (s ∷ []) r = refl
rises_each_below_next (s ∷ t ∷ L) r = and_from _ _ ((less_tells s t).1 r.0.0) (rises_each_below_next (t ∷ L) r.1)
