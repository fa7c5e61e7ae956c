-- The words of a set of atoms, and what such words hold.
use Rattle.std.proofs.Common.{◌≡◌, ℕ, zero, suc, ◌<◌, Bool, true, false, cond, ◌&&◌, eqb, List, [], ◌∷◌, ◌++◌, sym, refl, ap, ◌∙◌, subst, ⊎_elim, arith}
use Rattle.std.proofs.lemmas.Bool.{cases_eq, eqb-true, eq-eqb, and_parts, and_from, or_cases, or_left, or_right, both_ways}
use Rattle.atoms.specs.Sets.{Atoms, Ascending}
use Rattle.word_format.specs.declared.word.Kind.{Kind}
use Rattle.word_format.specs.Words.{kind_of, number_of, rank, is_kind}
use Rattle.word_format.specs.Reading.{holds}
use Rattle.word_format.specs.Writing.{word_of, words_of}
use Rattle.atoms.proofs.Ascents.{has_nil, has_here, has_there, has_cons_cases, has_single, has_append_cases, ascending_append}
use Rattle.std.specs.List.{ContainsAt as Has}
use Rattle.std.proofs.ByRecursion.{has_append_left, has_append_right}

-- the members of the words of a set
pub from_words : (k : Kind) (X : Atoms) (n x : ℕ) → Has (words_of k X n) x → (i : ℕ) × (i < n) × (X i ≡ true) × (x ≡ word_of k i)
from_words k X zero x h = absurd (has_nil x h)
from_words k X (suc n) x h = ⊎_elim (λ l. more (from_words k X n x l)) (λ r. one (X n) refl r) (has_append_cases (words_of k X n) (cond (X n) (word_of k n ∷ []) []) x h)
  where
    more : (i : ℕ) × (i < n) × (X i ≡ true) × (x ≡ word_of k i) → (i : ℕ) × (i < suc n) × (X i ≡ true) × (x ≡ word_of k i)
    more (i, l, m, e) = (i, omega arith, m, e)

    one : (b : Bool) → X n ≡ b → Has (cond (X n) (word_of k n ∷ []) []) x → (i : ℕ) × (i < suc n) × (X i ≡ true) × (x ≡ word_of k i)
    one true t m = (n, omega arith, t, sym (has_single (word_of k n) x (rw t at m)))
    one false t m = absurd (has_nil x (rw t at m))

pub to_words : (k : Kind) (X : Atoms) (n i : ℕ) → i < n → X i ≡ true → Has (words_of k X n) (word_of k i)
to_words k X zero i l m = absurd (omega arith)
to_words k X (suc n) i l m = ⊎_elim here (λ (ne : i ≡ n → ⊥). has_append_left (words_of k X n) (cond (X n) (word_of k n ∷ []) []) (word_of k i) (to_words k X n i (omega arith) m)) (cases_eq i n)
  where
    here : i ≡ n → Has (words_of k X n ++ cond (X n) (word_of k n ∷ []) []) (word_of k i)
    here e = let t : X n ≡ true = subst (λ (j : ℕ). X j ≡ true) e m in has_append_right (words_of k X n) (cond (X n) (word_of k n ∷ []) []) (word_of k i) (rw (t, e) (has_here (word_of k n) []))

pub words_up : (k : Kind) (X : Atoms) (n : ℕ) → Ascending ◌<◌ (words_of k X n)
words_up k X zero = tt
words_up k X (suc n) = ascending_append ◌<◌ (words_of k X n) (cond (X n) (word_of k n ∷ []) []) (words_up k X n) (one (X n)) before
  where
    one : (b : Bool) → Ascending ◌<◌ (cond b (word_of k n ∷ []) [])
    one true = (tt, tt)
    one false = tt

    is : (b : Bool) (y : ℕ) → Has (cond b (word_of k n ∷ []) []) y → y ≡ word_of k n
    is true y h = sym (has_single (word_of k n) y h)
    is false y h = absurd (has_nil y h)

    before : (x y : ℕ) → Has (words_of k X n) x → Has (cond (X n) (word_of k n ∷ []) []) y → x < y
    before x y h m = let f = from_words k X n x h in let e = is (X n) y m in omega arith

-- what is held is in a word, and what is in a word is held
pub from_holds : (k : Kind) (ws : List ℕ) (i : ℕ) → holds k ws i ≡ true → (w : ℕ) × Has ws w × (rank (kind_of w) ≡ rank k) × (number_of w ≡ i)
from_holds k [] i h = absurd (both_ways false refl h)
from_holds k (w ∷ ws) i h = ⊎_elim
    (λ l. let p = and_parts (is_kind k w) (eqb (number_of w) i) l in (w, has_here w ws, eqb-true (rank (kind_of w)) (rank k) p.0, eqb-true (number_of w) i p.1))
    (λ r. let f = from_holds k ws i r in (f.0, has_there w f.0 ws f.1, f.2, f.3))
    (or_cases (is_kind k w && eqb (number_of w) i) (holds k ws i) h)

pub to_holds : (k : Kind) (ws : List ℕ) (w : ℕ) → Has ws w → rank (kind_of w) ≡ rank k → holds k ws (number_of w) ≡ true
to_holds k [] w h e = absurd (has_nil w h)
to_holds k (x ∷ ws) w h e = ⊎_elim
    (λ q. or_left (is_kind k x && eqb (number_of x) (number_of w)) (holds k ws (number_of w)) (and_from (is_kind k x) (eqb (number_of x) (number_of w)) (eq-eqb (rank (kind_of x)) (rank k) (ap (λ (y : ℕ). rank (kind_of y)) q ∙ e)) (eq-eqb (number_of x) (number_of w) (ap number_of q))))
    (λ t. or_right (is_kind k x && eqb (number_of x) (number_of w)) (holds k ws (number_of w)) (to_holds k ws w t e))
    (has_cons_cases x ws w h)

pub same_bool : (a b : Bool) → (a ≡ true → b ≡ true) → (b ≡ true → a ≡ true) → a ≡ b
same_bool a b to from = grind arith
