-- Lists of sets in order: neighbours, no set twice, at most one list of a property, appending what comes after.
use Rattle.std.proofs.Common.{◌≡◌, ℕ, zero, suc, ◌<◌, ◌⊎◌, List, [], ◌∷◌, ◌++◌, length, get_or, sym, inl, inr, ⊎_elim, arith}
use Rattle.std.specs.List.{ContainsAt as Has}
use Rattle.std.proofs.ByRecursion.{All-append, All-get_or, all-has, All-weaker, has_append_left, has_append_right}
use Rattle.std.proofs.lemmas.Bool.{cases_order}
use Rattle.atoms.specs.Sets.{Atoms, none, Within, Precedes, First, Rising, Lists, Position, UpTo, After, NotAfter}
use Rattle.atoms.specs.Laws.{ListLaws}
use Rattle.atoms.proofs.Ascents.{has_nil, has_cons_cases, ascending_append, same_ascending}
use Rattle.atoms.proofs.SetOrder.{precedes_transitive, precedes_asymmetric, precedes_not_same, upto_or_after, upto_precedes_after}

-- in a rising list what stands earlier precedes, so no set stands at two places
pub rising_at : (L : List Atoms) → Rising L → (i j : ℕ) (d e : Atoms) → i < j → j < length L → Precedes (get_or L i d) (get_or L j e)
rising_at [] r i j d e lt h = absurd (omega arith)
rising_at (X ∷ L) r zero zero d e lt h = absurd (omega arith)
rising_at (X ∷ L) r (suc i) zero d e lt h = absurd (omega arith)
rising_at (X ∷ L) (first, r) zero (suc j) d e lt h = All-get_or (Precedes X) L j e (omega arith) first
rising_at (X ∷ L) (first, r) (suc i) (suc j) d e lt h = rising_at L r i j d e (omega arith) (omega arith)

pub rising_once : (L : List Atoms) → Rising L → (i j : ℕ) → i < length L → j < length L → get_or L i none ≡ get_or L j none → i ≡ j
rising_once L r i j li lj e = go (cases_order i j)
  where
    go : (i ≡ j) ⊎ ((i < j) ⊎ (j < i)) → i ≡ j
    go (inl same) = same
    go (inr (inl lt)) = absurd (precedes_not_same (get_or L i none) (get_or L j none) (rising_at L r i j none none lt lj) e)
    go (inr (inr gt)) = absurd (precedes_not_same (get_or L j none) (get_or L i none) (rising_at L r j i none none gt li) (sym e))

-- one set more before a rising list
pub rising_cons : (X Y : Atoms) (L : List Atoms) → Precedes X Y → Rising (Y ∷ L) → Rising (X ∷ Y ∷ L)
rising_cons X Y L here r = ((here, All-weaker (Precedes Y) (Precedes X) (λ Z. precedes_transitive X Y Z here) L r.0), r)

pub lists_unique : (Q : Atoms → Type 0) (L M : List Atoms) → Lists Q L → Lists Q M → L ≡ M
lists_unique Q L M l m = same_ascending Precedes precedes_asymmetric L M l.rising m.rising (λ X h. m.whole X (all-has Q L X l.sound h)) (λ X h. l.whole X (all-has Q M X m.sound h))

-- a list of a property is a list of an equivalent one
pub lists_like : (Q R : Atoms → Type 0) (L : List Atoms) → ((X : Atoms) → Q X → R X) → ((X : Atoms) → R X → Q X) → Lists Q L → Lists R L
lists_like Q R L to from l = record { rising = l.rising; sound = All-weaker Q R to L l.sound; whole = λ X r. l.whole X (from X r) }

pub lists_none : (Q : Atoms → Type 0) → ((X : Atoms) → Q X → ⊥) → Lists Q []
lists_none Q never = record { rising = tt; sound = tt; whole = λ X q. absurd (never X q) }

pub lists_nil : (Q : Atoms → Type 0) → Lists Q [] → (X : Atoms) → Q X → ⊥
lists_nil Q l X q = has_nil X (l.whole X q)

-- what is up to p, and then what is after p and up to q
pub lists_append : (Q : Atoms → Type 0) (p q : Position) (L M : List Atoms) → NotAfter p q → ((X : Atoms) → Q X → UpTo p X ⊎ After p X) → Lists (λ X. Q X × UpTo p X) L → Lists (λ X. Q X × (After p X × UpTo q X)) M → Lists (λ X. Q X × UpTo q X) (L ++ M)
lists_append Q p q L M before cases l m = record {
  rising = ascending_append Precedes L M l.rising m.rising (λ X Y x y. upto_precedes_after p X Y (all-has (λ Z. Q Z × UpTo p Z) L X l.sound x).1 (all-has (λ Z. Q Z × (After p Z × UpTo q Z)) M Y m.sound y).1.0);
  sound = All-append (λ X. Q X × UpTo q X) L M (All-weaker (λ X. Q X × UpTo p X) (λ X. Q X × UpTo q X) (λ X c. (c.0, before X c.1)) L l.sound) (All-weaker (λ X. Q X × (After p X × UpTo q X)) (λ X. Q X × UpTo q X) (λ X c. (c.0, c.1.1)) M m.sound);
  whole = λ X c. ⊎_elim (λ u. has_append_left L M X (l.whole X (c.0, u))) (λ a. has_append_right L M X (m.whole X (c.0, (a, c.1)))) (cases X c.0);
}

-- the head of a list is the first set with its property
pub lists_first : (Q : Atoms → Type 0) (X : Atoms) (L : List Atoms) → Lists Q (X ∷ L) → First Q X
lists_first Q X L l = (l.sound.0, λ Y y b. ⊎_elim (λ e. precedes_not_same Y X b (sym e)) (λ h. precedes_asymmetric X Y (all-has (Precedes X) L Y l.rising.0 h) b) (has_cons_cases X L Y (l.whole Y y)))

pub list_laws : ListLaws
list_laws = record {
  once = rising_once;
  unique = λ K. lists_unique (Has K);
  append = λ n K p q L M within pos before. lists_append (Has K) p q L M before (λ X h. upto_or_after n p X pos (all-has (Within n) K X within h));
}
