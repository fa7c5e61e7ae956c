-- The list of the members of a set.
use Rattle.std.proofs.Common.{◌≡◌, ℕ, zero, suc, ◌+◌, ◌<◌, ◌≤◌, Bool, true, false, cond, not, ◌&&◌, eqb, ltb, ◌⊎◌, [], ◌∷◌, ◌++◌, length, sym, refl, ap, ◌∙◌, ap₂, inl, inr, ⊎_elim, arith}
use mathlib.Core.Bool.{and-true}
use Rattle.std.proofs.lemmas.List.{append-nil, length-append}
use Rattle.std.proofs.lemmas.Bool.{cases_eq, cases_lt, and_parts, false_from_ne_true, lt-ltb, ltb-true}
use Rattle.std.proofs.lemmas.Bool.Decides.{nat_tests}
use Rattle.atoms.specs.Sets.{Atoms, Within}
use Rattle.atoms.specs.Member.{Lowest, has, members, members_below, size, tally}
use Rattle.atoms.specs.declared.AtomSet.{AtomSet}
use Rattle.atoms.proofs.Words.{member_below}

-- the list has the numbers below its bound alone
pub listed_same : (X Y : Atoms) (n : ℕ) → ((k : ℕ) → k < n → X k ≡ Y k) → members_below X n ≡ members_below Y n
unfolding members_below
listed_same X Y zero e = refl
listed_same X Y (suc n) e = ap₂ (λ xs b. xs ++ cond b (n ∷ []) []) (listed_same X Y n (λ k l. e k (omega arith))) (e n (omega arith))

-- where there is no member nothing is listed
pub listed_none : (X : Atoms) (n : ℕ) → ((k : ℕ) → k < n → X k ≡ false) → members_below X n ≡ []
unfolding members_below
listed_none X zero e = refl
listed_none X (suc n) e = ap₂ (λ xs b. xs ++ cond b (n ∷ []) []) (listed_none X n (λ k l. e k (omega arith))) (e n (omega arith))

-- the lowest number stands first, before those of the set without it
pub listed_lowest : (X Y : Atoms) (i n : ℕ) → i < n → Lowest X i → ((j : ℕ) → Y j ≡ (not (eqb j i) && X j)) → members_below X n ≡ i ∷ members_below Y n
unfolding members_below
listed_lowest X Y i zero l low e = absurd (omega arith)
listed_lowest X Y i (suc n) l low e = go (cases_eq n i) (λ h. listed_lowest X Y i n h low e)
  where
    go : (n ≡ i) ⊎ (n ≡ i → ⊥) → (i < n → members_below X n ≡ i ∷ members_below Y n)
        → members_below X n ++ cond (X n) (n ∷ []) [] ≡ i ∷ (members_below Y n ++ cond (Y n) (n ∷ []) [])
    go (inl q) ih =
        let off : eqb n i ≡ true = grind (arith, nat_tests) in
        let out : Y n ≡ false = e n ∙ ap (λ b. not b && X n) off in
        let was : X n ≡ true = ap X q ∙ low.0 in
        let before : members_below X n ≡ [] = listed_none X n (λ k h. low.1 k (omega arith)) in
        let after : members_below Y n ≡ [] = listed_none Y n (λ k h. let o : eqb k i ≡ false = grind (arith, nat_tests) in e k ∙ ap (λ b. not b && X k) o ∙ low.1 k (omega arith)) in
        rw (out, was, before, after) (ap (λ k. k ∷ []) q)
    go (inr q) ih =
        let off : eqb n i ≡ false = grind (arith, nat_tests) in
        let kept : Y n ≡ X n = e n ∙ ap (λ b. not b && X n) off in
        rw kept (ap (λ xs. xs ++ cond (X n) (n ∷ []) []) (ih (omega arith)))

-- what is left of a set when its lowest atom is taken
pub members_step : (s t : AtomSet) (i : ℕ) → Lowest (has s) i → ((j : ℕ) → has t j ≡ (not (eqb j i) && has s j)) → members s ≡ i ∷ members t
members_step s t i low e = listed_lowest (has s) (has t) i 256 (member_below s i low.0) low e

pub members_none : (s : AtomSet) → ((i : ℕ) → has s i ≡ false) → members s ≡ []
members_none s e = listed_none (has s) 256 (λ k l. e k)

-- past the last member nothing more is listed
listed_above : (X : Atoms) (n m : ℕ) → Within n X → n ≤ m → members_below X m ≡ members_below X n
unfolding members_below
listed_above X n zero w l = let e : n ≡ 0 = omega arith in ap (members_below X) (sym e)
listed_above X n (suc m) w l = ⊎_elim (λ (e : n ≡ suc m). ap (members_below X) (sym e)) (λ (ne : n ≡ suc m → ⊥). more (omega arith) (listed_above X n m w)) (cases_eq n (suc m))
  where
    more : n ≤ m → (n ≤ m → members_below X m ≡ members_below X n) → members_below X m ++ cond (X m) (m ∷ []) [] ≡ members_below X n
    more h rest =
        let out : X m ≡ false = false_from_ne_true (X m) (λ t. let x = w m t in absurd (omega arith)) in
        rw out (append-nil (members_below X m) ∙ rest h)

-- the set of the members below n
pub members_cut : (s t : AtomSet) (n : ℕ) → ((i : ℕ) → has t i ≡ (has s i && (ltb i n && ltb i 256))) → members t ≡ members_below (has s) n
members_cut s t n e = ⊎_elim all some (cases_lt 256 n)
  where
    all : 256 < n → members t ≡ members_below (has s) n
    all l = listed_same (has t) (has s) 256 (λ k h. e k ∙ ap (λ b. has s k && (b && ltb k 256)) (lt-ltb k n (omega arith)) ∙ ap (λ b. has s k && b) (lt-ltb k 256 h) ∙ and-true (has s k)) ∙ sym (listed_above (has s) 256 n (member_below s) (omega arith))

    within : Within n (has t)
    within i h = let p = and_parts (has s i) (ltb i n && ltb i 256) (sym (e i) ∙ h) in ltb-true i n (and_parts (ltb i n) (ltb i 256) p.1).0

    some : n ≤ 256 → members t ≡ members_below (has s) n
    some l = listed_above (has t) n 256 within l ∙ listed_same (has t) (has s) n (λ k h. let below : k < 256 = omega arith in e k ∙ ap₂ (λ a b. has s k && (a && b)) (lt-ltb k n h) (lt-ltb k 256 below) ∙ and-true (has s k))

-- as many are listed as there are
pub listed_length : (X : Atoms) (n : ℕ) → length (members_below X n) ≡ tally X n
unfolding members_below tally
listed_length X zero = refl
listed_length X (suc n) = length-append (members_below X n) (cond (X n) (n ∷ []) []) ∙ ap₂ ◌+◌ (listed_length X n) (one (X n))
  where
    one : (b : Bool) → length (cond b (n ∷ []) []) ≡ cond b 1 0
    one true = refl
    one false = refl

pub length_members : (s : AtomSet) → length (members s) ≡ size s
length_members s = listed_length (has s) 256
