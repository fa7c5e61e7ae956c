-- The list of the members of a set, word by word.
use Rattle.std.proofs.Common.{◌≡◌, ℕ, zero, suc, ◌+◌, ◌-◌, ◌*◌, ◌/◌, ◌%◌, ◌^◌, ◌<◌, Bool, true, false, cond, not, ◌&&◌, eqb, ◌⊎◌, List, [], ◌∷◌, ◌++◌, length, map, get_or, set, sym, refl, ap, ◌∙◌, ap₂, inl, inr, subst, append_assoc, arith}
use mathlib.Core.Bool.{and-false}
use lib.Bits.{bit_and}
use lib.Count.{ones, count_trailing_zeros}
use Rattle.std.proofs.lemmas.List.{append-nil, length-append, length-map, map-append, get_or-set_same, get_or-set_other}
use Rattle.std.proofs.lemmas.Bool.{cases_eq}
use Rattle.std.proofs.lemmas.Bool.Decides.{nat_tests}
use Rattle.atoms.specs.Sets.{Atoms}
use Rattle.atoms.specs.Member.{Lowest, bit, has, left, members, members_below, size}
use Rattle.atoms.specs.declared.AtomSet.{AtomSet}
use Rattle.atoms.proofs.Digits.{bit_zero, bit_suc, bit_of_and, bit_of_zero, lowest_digit, ones_tally}
use Rattle.atoms.proofs.Words.{no_word_atom, word_at_lem}
use Rattle.atoms.proofs.MembersListed.{members_none, length_members, listed_length, listed_lowest, listed_none, listed_same}

-- the atoms that the digits of w stand for, the digit 0 for the atom n
abbrev word_atoms : ℕ → ℕ → List ℕ
word_atoms n w = map (λ k. n + k) (members_below (bit w) 64)

and_same : (b : Bool) → (b && b) ≡ b
and_same true = refl
and_same false = refl

-- w & (w - 1) is w without its lowest digit
lowest_cleared : (k w : ℕ) → Lowest (bit w) k → (j : ℕ) → bit (bit_and w (w - 1)) j ≡ (not (eqb j k) && bit w j)
lowest_cleared k w low j = bit_of_and w (w - 1) j ∙ go k w low j
  where
    go : (k w : ℕ) → Lowest (bit w) k → (j : ℕ) → (bit w j && bit (w - 1) j) ≡ (not (eqb j k) && bit w j)
    go zero w low zero = odd (sym (bit_zero w) ∙ low.0)
      where
        odd : eqb (w % 2) 1 ≡ true → (bit w 0 && bit (w - 1) 0) ≡ false
        odd e = let z : eqb ((w - 1) % 2) 1 ≡ false = grind (arith, nat_tests) in rw (bit_zero (w - 1), z) (and-false (bit w 0))
    go zero w low (suc j) =
        let e : eqb (w % 2) 1 ≡ true = sym (bit_zero w) ∙ low.0 in
        let h : (w - 1) / 2 ≡ w / 2 = grind (arith, nat_tests) in
        let t : eqb (suc j) 0 ≡ false = grind (arith, nat_tests) in
        ap (λ (b : Bool). bit w (suc j) && b) (bit_suc (w - 1) j ∙ ap (λ (x : ℕ). bit x j) h ∙ sym (bit_suc w j)) ∙ and_same (bit w (suc j))
        ∙ ap (λ (b : Bool). not b && bit w (suc j)) (sym t)
    go (suc k) w low zero = let e : bit w 0 ≡ false = low.1 0 (omega arith) in rw e (sym (and-false (not (eqb 0 (suc k)))))
    go (suc k) w low (suc j) =
        let e : eqb (w % 2) 1 ≡ false = sym (bit_zero w) ∙ low.1 0 (omega arith) in
        let h : (w - 1) / 2 ≡ w / 2 - 1 = grind (arith, nat_tests) in
        let t : eqb (suc j) (suc k) ≡ eqb j k = grind (arith, nat_tests) in
        let below : Lowest (bit (w / 2)) k = (sym (bit_suc w k) ∙ low.0, λ m l. sym (bit_suc w m) ∙ low.1 (suc m) (omega arith)) in
        ap₂ (λ (a b : Bool). a && b) (bit_suc w j) (bit_suc (w - 1) j ∙ ap (λ (x : ℕ). bit x j) h) ∙ go k (w / 2) below j
        ∙ ap₂ (λ (a b : Bool). not a && b) (sym t) (sym (bit_suc w j))

-- what is left of a word when its lowest digit is taken
word_step : (n w v : ℕ) → w < 2 ^ 64 → (w ≡ 0 → ⊥) → v ≡ bit_and w (w - 1) → word_atoms n w ≡ (n + count_trailing_zeros 64 w) ∷ word_atoms n v
word_step n w v fits ne e =
    let d = lowest_digit w fits ne in
    ap (map (λ k. n + k)) (listed_lowest (bit w) (bit v) (count_trailing_zeros 64 w) 64 d.0 d.1 (λ j. ap (λ (x : ℕ). bit x j) e ∙ lowest_cleared (count_trailing_zeros 64 w) w d.1 j))

word_none : (n : ℕ) → word_atoms n 0 ≡ []
word_none n = ap (map (λ k. n + k)) (listed_none (bit 0) 64 (λ k l. bit_of_zero k))

-- the numbers below a, and those from a on
listed_split : (X : Atoms) (a b : ℕ) → members_below X (a + b) ≡ members_below X a ++ map (λ k. a + k) (members_below (λ k. X (a + k)) b)
unfolding members_below
listed_split X a zero = let e : a + 0 ≡ a = omega arith in ap (members_below X) e ∙ sym (append-nil (members_below X a))
listed_split X a (suc b) =
    let e : a + suc b ≡ suc (a + b) = omega arith in
    ap (members_below X) e ∙
    ap (λ xs. xs ++ cond (X (a + b)) ((a + b) ∷ []) []) (listed_split X a b)
    ∙ append_assoc (members_below X a) (map (λ k. a + k) (members_below (λ k. X (a + k)) b)) (cond (X (a + b)) ((a + b) ∷ []) [])
    ∙ ap (λ xs. members_below X a ++ xs)
    (ap (λ xs. map (λ k. a + k) (members_below (λ k. X (a + k)) b) ++ xs) (one (X (a + b)))
    ∙ sym (map-append (λ k. a + k) (members_below (λ k. X (a + k)) b) (cond (X (a + b)) (b ∷ []) [])))
  where
    one : (t : Bool) → cond t ((a + b) ∷ []) [] ≡ map (λ k. a + k) (cond t (b ∷ []) [])
    one true = refl
    one false = refl

-- the members are those of the first word that is not 0, and those of the set without that word
first_word_listed : (s t : AtomSet) (k : ℕ) → k < 4 → ((j : ℕ) → j < k → get_or s.words j 0 ≡ 0) → t.words ≡ set s.words k 0 → members s ≡ word_atoms (64 * k) (get_or s.words k 0) ++ members t
first_word_listed s t k l zeros e =
    let w = get_or s.words k 0 in
    let a = 64 * k in
    let b = 192 - 64 * k in
    let whole : 256 ≡ a + 64 + b = omega arith in
    let none_s : members_below (has s) a ≡ [] = listed_none (has s) a (λ i h. ap (λ (x : ℕ). bit x (i % 64)) (zeros (i / 64) (omega arith)) ∙ bit_of_zero (i % 64)) in
    let word : members_below (λ i. has s (a + i)) 64 ≡ members_below (bit w) 64 = listed_same (λ i. has s (a + i)) (bit w) 64 (λ i h. sym ((word_at_lem s.words k).at i h)) in
    let none_t : members_below (has t) (a + 64) ≡ [] = listed_none (has t) (a + 64) (λ i h. low i h (cases_eq (i / 64) k)) in
    let rest : members_below (λ i. has t (a + 64 + i)) b ≡ members_below (λ i. has s (a + 64 + i)) b =
    listed_same (λ i. has t (a + 64 + i)) (λ i. has s (a + 64 + i)) b
    (λ i h. ap (λ (x : ℕ). bit x ((a + 64 + i) % 64)) (ap (λ (ws : List ℕ). get_or ws ((a + 64 + i) / 64) 0) e ∙ get_or-set_other s.words k ((a + 64 + i) / 64) 0 0 (omega arith)))
    in
    let high : List ℕ = map (λ i. a + 64 + i) (members_below (λ i. has s (a + 64 + i)) b) in
    ap (members_below (has s)) whole ∙ listed_split (has s) (a + 64) b
    ∙ ap (λ xs. xs ++ high) (listed_split (has s) a 64 ∙ ap₂ (λ xs ys. xs ++ map (λ i. a + i) ys) none_s word)
    ∙ ap (λ xs. word_atoms a w ++ xs) (sym (ap (members_below (has t)) whole ∙ listed_split (has t) (a + 64) b ∙ ap₂ (λ xs ys. xs ++ map (λ i. a + 64 + i) ys) none_t rest))
  where
    low : (i : ℕ) → i < 64 * k + 64 → (i / 64 ≡ k) ⊎ (i / 64 ≡ k → ⊥) → has t i ≡ false
    low i h (inl q) =
        ap (λ (x : ℕ). bit x (i % 64)) (ap₂ (λ (ws : List ℕ) (j : ℕ). get_or ws j 0) e q ∙ get_or-set_same s.words k 0 0 (subst (λ n. k < n) (sym s.long) l)) ∙ bit_of_zero (i % 64)
    low i h (inr q) =
        ap (λ (x : ℕ). bit x (i % 64)) (ap (λ (ws : List ℕ). get_or ws (i / 64) 0) e ∙ get_or-set_other s.words k (i / 64) 0 0 q ∙ zeros (i / 64) (omega arith)) ∙ bit_of_zero (i % 64)

word_done : (s : AtomSet) (n w : ℕ) → w ≡ 0 → left n w s ≡ members s
unfolding left
word_done s n w z = ap (λ xs. xs ++ members s) (ap (word_atoms n) z ∙ word_none n)

-- no word is begun
pub left_at_first : (s : AtomSet) → left 0 0 s ≡ members s
left_at_first s = word_done s 0 0 refl

-- the next word is begun, and there is none
pub left_begun : (s t : AtomSet) (n w k v : ℕ) → w ≡ 0 → k < 4 → get_or s.words k 0 ≡ v → ((j : ℕ) → j < k → get_or s.words j 0 ≡ 0) → t.words ≡ set s.words k 0
    → left n w s ≡ left (64 * k) v t
unfolding left
left_begun s t n w k v z l e zeros q = word_done s n w z ∙ first_word_listed s t k l zeros q ∙ ap (λ (x : ℕ). word_atoms (64 * k) x ++ members t) e

pub left_none : (s : AtomSet) (n w : ℕ) → w ≡ 0 → ((j : ℕ) → j < 4 → get_or s.words j 0 ≡ 0) → left n w s ≡ []
left_none s n w z zeros = word_done s n w z ∙ members_none s (no_word_atom s.words s.long zeros)

-- the lowest digit of the word is taken
pub left_step : (s : AtomSet) (n w v d : ℕ) → w < 2 ^ 64 → (w ≡ 0 → ⊥) → v ≡ bit_and w (w - 1) → d ≡ count_trailing_zeros 64 w → left n w s ≡ (n + d) ∷ left n v s
unfolding left
left_step s n w v d fits ne e q = ap (λ xs. xs ++ members s) (word_step n w v fits ne e ∙ ap (λ k. (n + k) ∷ word_atoms n v) (sym q))

-- as many are left as there are in the word and in the set
pub left_length : (s : AtomSet) (n w : ℕ) → w < 2 ^ 64 → length (left n w s) ≡ ones w + size s
unfolding left
left_length s n w fits =
    length-append (word_atoms n w) (members s) ∙ ap₂ ◌+◌ (length-map (members_below (bit w) 64) (λ k. n + k) ∙ listed_length (bit w) 64 ∙ sym (ones_tally 64 w fits)) (length_members s)
