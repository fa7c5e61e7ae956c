-- The order of sets: irreflexive, transitive, and total on sets within n. The first set with a property is unique.
use Rattle.std.proofs.Common.{◌≡◌, ℕ, zero, suc, ◌<◌, ◌≤◌, true, false, ◌⊎◌, sym, ap, ◌∙◌, subst, inl, inr, ⊎_elim, arith}
use mathlib.Core.Path.{fun_ext}
use Rattle.std.proofs.lemmas.Bool.{both_ways, cases_Bool, cases_eq, cases_lt, cases_order}
use Rattle.atoms.specs.Sets.{Atoms, Sub, Within, Precedes, First, Position, start, at, end, UpTo, After, PositionWithin, NotAfter}
use Rattle.atoms.specs.Laws.{OrderLaws}

-- an atom outside what holds X is out
pub out_past : (n : ℕ) (X : Atoms) → Within n X → (i : ℕ) → n ≤ i → X i ≡ false
out_past n X within i ge = ⊎_elim (λ e. let lt : i < n = within i e in absurd (omega arith)) (λ e. e) (cases_Bool (X i))

pub within_subset : (n : ℕ) (X Y : Atoms) → Within n Y → Sub X Y → Within n X
within_subset n X Y within sub i e = within i (sub i e)

-- sets within n that are equal below n are equal
pub same_below : (n : ℕ) (X Y : Atoms) → Within n X → Within n Y → ((i : ℕ) → i < n → X i ≡ Y i) → X ≡ Y
same_below n X Y x y same = fun_ext (λ i. ⊎_elim (λ lt. same i lt) (λ ge. out_past n X x i ge ∙ sym (out_past n Y y i ge)) (cases_lt i n))

pub same_by_sub : (X Y : Atoms) → Sub X Y → Sub Y X → X ≡ Y
same_by_sub X Y xy yx =
    fun_ext
    (λ i. ⊎_elim (λ e. e ∙ sym (xy i e)) (λ e. ⊎_elim (λ y. absurd (both_ways (X i) e (yx i y))) (λ y. e ∙ sym y) (cases_Bool (Y i))) (cases_Bool (X i)))

pub precedes_irreflexive : (X : Atoms) → Precedes X X → ⊥
precedes_irreflexive X (i, same, out, is) = both_ways (X i) out is

pub precedes_transitive : (X Y Z : Atoms) → Precedes X Y → Precedes Y Z → Precedes X Z
precedes_transitive X Y Z (i, same, xi, yi) (j, same', yj, zj) = go (cases_order i j)
  where
    go : (i ≡ j) ⊎ ((i < j) ⊎ (j < i)) → Precedes X Z
    go (inl e) = absurd (both_ways (Y j) yj (subst (λ k. Y k ≡ true) e yi))
    go (inr (inl lt)) = (i, (λ k l. same k l ∙ same' k (omega arith)), xi, sym (same' i lt) ∙ yi)
    go (inr (inr gt)) = (j, (λ k l. same k (omega arith) ∙ same' k l), same j gt ∙ yj, zj)

pub precedes_asymmetric : (X Y : Atoms) → Precedes X Y → Precedes Y X → ⊥
precedes_asymmetric X Y a b = precedes_irreflexive X (precedes_transitive X Y X a b)

pub precedes_not_same : (X Y : Atoms) → Precedes X Y → X ≡ Y → ⊥
precedes_not_same X Y a e = precedes_irreflexive Y (subst (λ Z. Precedes Z Y) e a)

-- below n two sets are equal, or one precedes
compare_below : (X Y : Atoms) (n : ℕ) → ((i : ℕ) → i < n → X i ≡ Y i) ⊎ (Precedes X Y ⊎ Precedes Y X)
compare_below X Y zero = inl (λ i l. absurd (omega arith))
compare_below X Y (suc n) = go (compare_below X Y n) (cases_Bool (X n)) (cases_Bool (Y n))
  where
    more : ((i : ℕ) → i < n → X i ≡ Y i) → X n ≡ Y n → (i : ℕ) → i < suc n → X i ≡ Y i
    more below here i l = ⊎_elim (λ e. ap X e ∙ here ∙ ap Y (sym e)) (λ ne. below i (omega arith)) (cases_eq i n)

    go : ((i : ℕ) → i < n → X i ≡ Y i) ⊎ (Precedes X Y ⊎ Precedes Y X) → (X n ≡ true) ⊎ (X n ≡ false) → (Y n ≡ true) ⊎ (Y n ≡ false)
        → ((i : ℕ) → i < suc n → X i ≡ Y i) ⊎ (Precedes X Y ⊎ Precedes Y X)
    go (inr found) x y = inr found
    go (inl below) (inl x) (inl y) = inl (more below (x ∙ sym y))
    go (inl below) (inl x) (inr y) = inr (inr (n, (λ j l. sym (below j l)), y, x))
    go (inl below) (inr x) (inl y) = inr (inl (n, below, x, y))
    go (inl below) (inr x) (inr y) = inl (more below (x ∙ sym y))

-- two sets within n are equal, or one precedes
pub cases_precedes : (n : ℕ) (X Y : Atoms) → Within n X → Within n Y → (X ≡ Y) ⊎ (Precedes X Y ⊎ Precedes Y X)
cases_precedes n X Y x y = ⊎_elim (λ same. inl (same_below n X Y x y same)) inr (compare_below X Y n)

pub order_laws : OrderLaws
order_laws = record { irreflexive = precedes_irreflexive; transitive = precedes_transitive; total = cases_precedes }

-- a first set precedes every other
pub first_precedes : (n : ℕ) (Q : Atoms → Type 0) → ((X : Atoms) → Q X → Within n X) → (X Y : Atoms) → First Q X → Q Y → (X ≡ Y) ⊎ Precedes X Y
first_precedes n Q within X Y (x, least) y = go (cases_precedes n X Y (within X x) (within Y y))
  where
    go : (X ≡ Y) ⊎ (Precedes X Y ⊎ Precedes Y X) → (X ≡ Y) ⊎ Precedes X Y
    go (inl e) = inl e
    go (inr (inl a)) = inr a
    go (inr (inr b)) = absurd (least Y y b)

-- the first set with a property is unique, where all that have it are within n
pub first_unique : (n : ℕ) (Q : Atoms → Type 0) → ((X : Atoms) → Q X → Within n X) → (X Y : Atoms) → First Q X → First Q Y → X ≡ Y
first_unique n Q within X Y x y = ⊎_elim (λ e. e) (λ b. absurd (y.1 X x.0 b)) (first_precedes n Q within X Y x y.0)

-- a set within n is up to a position within n, or after it, and not both
pub upto_or_after : (n : ℕ) (p : Position) (X : Atoms) → PositionWithin n p → Within n X → UpTo p X ⊎ After p X
upto_or_after n start X p x = inr tt
upto_or_after n end X p x = inl tt
upto_or_after n (at Y) X p x = go (cases_precedes n X Y x p)
  where
    go : (X ≡ Y) ⊎ (Precedes X Y ⊎ Precedes Y X) → (Precedes X Y ⊎ (X ≡ Y)) ⊎ Precedes Y X
    go (inl e) = inl (inr e)
    go (inr (inl a)) = inl (inl a)
    go (inr (inr b)) = inr b

pub upto_not_after : (p : Position) (X : Atoms) → UpTo p X → After p X → ⊥
upto_not_after start X u a = u
upto_not_after end X u a = a
upto_not_after (at Y) X (inl b) a = precedes_asymmetric X Y b a
upto_not_after (at Y) X (inr e) a = precedes_not_same Y X a (sym e)

-- what is up to p precedes what is after p
pub upto_precedes_after : (p : Position) (X Y : Atoms) → UpTo p X → After p Y → Precedes X Y
upto_precedes_after start X Y u a = absurd u
upto_precedes_after end X Y u a = absurd a
upto_precedes_after (at Z) X Y (inl b) a = precedes_transitive X Z Y b a
upto_precedes_after (at Z) X Y (inr e) a = subst (λ W. Precedes W Y) (sym e) a

-- what precedes a set up to p is up to p
pub upto_down : (p : Position) (X Y : Atoms) → Precedes X Y → UpTo p Y → UpTo p X
upto_down start X Y b u = u
upto_down end X Y b u = tt
upto_down (at Z) X Y b (inl c) = inl (precedes_transitive X Y Z b c)
upto_down (at Z) X Y b (inr e) = inl (subst (λ W. Precedes X W) e b)

-- a position comes before a set that is after it, and before the end
pub not_after_at : (p : Position) (Z : Atoms) → After p Z → NotAfter p (at Z)
not_after_at p Z a X u = inl (upto_precedes_after p X Z u a)

pub not_after_end : (p : Position) → NotAfter p end
not_after_end p X u = tt
