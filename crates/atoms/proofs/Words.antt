-- The four words of a set.
use Rattle.std.proofs.Common.{◌≡◌, ℕ, zero, suc, ◌+◌, ◌-◌, ◌*◌, ◌/◌, ◌%◌, ◌^◌, ◌<◌, ◌≤◌, min, Bool, true, false, cond, not, ◌&&◌, ◌||◌, eqb, ltb, leb, ◌⊎◌, List, [], ◌∷◌, length, get_or, set, sym, refl, ap, ◌∙◌, ap₂, subst, inl, inr, ⊎_elim, arith, lit<}
use mathlib.Core.Bool.{or_comm, and_comm, or-false}
use mathlib.Core.HLevel.{is_prop→PathP, Π_prop}
use native.Mathlib.Bridge.{le_prop}
use native.Mathlib.Nat.{ℕ_set}
use lib.Bits.{bit_and, bit_or}
use lib.Count.{ones, count_trailing_zeros}
use Rattle.std.proofs.lemmas.Nat.{pow_below, shr-shr}
use Rattle.std.specs.List.{sum_by}
use Rattle.std.proofs.lemmas.List.Sums.{sum_by-cons}
use Rattle.std.proofs.lemmas.List.{get_or_past, get_or-set_same, get_or-set_other, ext_get_or}
use Rattle.std.proofs.lemmas.Bool.{cases_eq, cases_lt, both_ways, cond_both, lt-ltb, le-ltb, le-leb, lt-leb}
use Rattle.std.proofs.lemmas.Bool.Decides.{nat_tests}
use Rattle.atoms.specs.declared.AtomSet.{AtomSet}
use Rattle.atoms.specs.Sets.{Atoms, Within}
use Rattle.atoms.specs.Member.{Lowest, bit, has, size, tally}
use Rattle.atoms.specs.Words.{IsWord}
use Rattle.atoms.proofs.Sizes.{tally_none, tally_same, tally_split}
use Rattle.atoms.proofs.Digits.{bit_of_and, bit_of_or, bit_not, bit_of_zero, bit_ones, bit_past, bit_power, bit_of_shl, bit_of_shr, same_from_bits, ones_tally, lowest_digit}

-- `has` of the words alone
abbrev pub among : List ℕ → Atoms
among ws i = bit (get_or ws (i / 64) 0) (i % 64)

-- what the type of a set says of its words
abbrev pub Whole : List ℕ → Type 0
Whole ws = (length ws ≡ 4) × ((k : ℕ) → get_or ws k 0 < 2 ^ 64)

pub whole : (s : AtomSet) → Whole s.words
whole s = (s.long, s.fits)

-- each word of a list is the word of the set that it stands for
pub word_at_lem : (ws : List ℕ) (j : ℕ) → IsWord (among ws) j (get_or ws j 0)
word_at_lem ws j = record { at = at }
  where
    at : (k : ℕ) → k < 64 → bit (get_or ws j 0) k ≡ among ws (64 * j + k)
    at k l =
        let d : (64 * j + k) / 64 ≡ j = omega arith in
        let m : (64 * j + k) % 64 ≡ k = omega arith in
        rw (d, m)

-- sets with the same atoms are the same
same_words : (xs ys : List ℕ) → Whole xs → Whole ys → ((i : ℕ) → among xs i ≡ among ys i) → xs ≡ ys
same_words xs ys p q e =
    ext_get_or 0 xs ys (p.0 ∙ sym q.0)
    (λ j l. same_from_bits 64 (get_or xs j 0) (get_or ys j 0) (p.1 j) (q.1 j) (λ k h. (word_at_lem xs j).at k h ∙ e (64 * j + k) ∙ sym ((word_at_lem ys j).at k h)))

pub made_same : (s t : AtomSet) → s.words ≡ t.words → s ≡ t
made_same s t e = λ j. record {
  words = e j;
  long = is_prop→PathP (λ k. length (e k) ≡ 4) (λ k. ℕ_set _ _) s.long t.long j;
  fits = is_prop→PathP (λ k. (n : ℕ) → get_or (e k) n 0 < 2 ^ 64) (λ k. Π_prop (λ n. le_prop)) s.fits t.fits j;
}

pub same_sets : (s t : AtomSet) → ((i : ℕ) → has s i ≡ has t i) → s ≡ t
same_sets s t e = made_same s t (same_words s.words t.words (whole s) (whole t) e)

-- every member is below 256
past_end : (ws : List ℕ) → length ws ≡ 4 → (i : ℕ) → 256 ≤ i → among ws i ≡ false
past_end ws p i l = ap (λ (w : ℕ). bit w (i % 64)) (get_or_past ws (i / 64) 0 (omega arith)) ∙ bit_of_zero (i % 64)

pub member_below : (s : AtomSet) → Within 256 (has s)
member_below s i e = ⊎_elim (λ l. l) (λ l. absurd (both_ways (has s i) (past_end s.words s.long i l) e)) (cases_lt i 256)

-- a set whose words w makes place by place, where w does with each digit what g does
pub by_place : (w : ℕ → ℕ → ℕ) (g : Bool → Bool → Bool) → g false false ≡ false → ((x y k : ℕ) → y < 2 ^ 64 → k < 64 → bit (w x y) k ≡ g (bit x k) (bit y k))
    → (s t : AtomSet) (ws : List ℕ) → length ws ≡ 4 → ((j : ℕ) → j < 4 → get_or ws j 0 ≡ w (get_or s.words j 0) (get_or t.words j 0)) → (i : ℕ) → among ws i ≡ g (has s i) (has t i)
by_place w g none each s t ws p made i = ⊎_elim inside outside (cases_lt i 256)
  where
    inside : i < 256 → among ws i ≡ g (has s i) (has t i)
    inside l =
        ap (λ (x : ℕ). bit x (i % 64)) (made (i / 64) (omega arith))
        ∙ each (get_or s.words (i / 64) 0) (get_or t.words (i / 64) 0) (i % 64) (t.fits (i / 64)) (omega arith)

    outside : 256 ≤ i → among ws i ≡ g (has s i) (has t i)
    outside l = past_end ws p i l ∙ sym none ∙ ap₂ g (sym (past_end s.words s.long i l)) (sym (past_end t.words t.long i l))

pub word_like : (X : Atoms) (j w v : ℕ) → IsWord X j v → w ≡ v → IsWord X j w
word_like X j w v h e = subst (λ (u : ℕ). IsWord X j u) (sym e) h

-- a list of the four words of X
pub words_of : (X : Atoms) (ws : List ℕ) → length ws ≡ 4 → ((j : ℕ) → j < 4 → IsWord X j (get_or ws j 0)) → (i : ℕ) → among ws i ≡ (ltb i 256 && X i)
words_of X ws p word i = ⊎_elim inside outside (cases_lt i 256)
  where
    inside : i < 256 → among ws i ≡ (ltb i 256 && X i)
    inside l =
        let place : 64 * (i / 64) + i % 64 ≡ i = omega arith in
        (word (i / 64) (omega arith)).at (i % 64) (omega arith) ∙ ap X place ∙ ap (λ (b : Bool). b && X i) (sym (lt-ltb i 256 l))

    outside : 256 ≤ i → among ws i ≡ (ltb i 256 && X i)
    outside l = past_end ws p i l ∙ ap (λ (b : Bool). b && X i) (sym (le-ltb i 256 l))

-- what holds of the places 0 to 3
pub at_places : (P : ℕ → Type 0) → P 0 → P 1 → P 2 → P 3 → (j : ℕ) → j < 4 → P j
at_places P a b c d zero l = a
at_places P a b c d (suc zero) l = b
at_places P a b c d (suc (suc zero)) l = c
at_places P a b c d (suc (suc (suc zero))) l = d
at_places P a b c d (suc (suc (suc (suc j)))) l = absurd (omega arith)

-- the word j of the set of the atoms below n
pub low_word : (n j w : ℕ) → w ≡ 2 ^ min (n - 64 * j) 64 - 1 → IsWord (λ i. ltb i n) j w
low_word n j w e = record { at = λ k l. ap (λ (x : ℕ). bit x k) e ∙ bit_ones (min (n - 64 * j) 64) k ∙ grind (arith, nat_tests) }

-- a set whose words are 0 has no atom
pub no_word_atom : (ws : List ℕ) → length ws ≡ 4 → ((j : ℕ) → j < 4 → get_or ws j 0 ≡ 0) → (i : ℕ) → among ws i ≡ false
no_word_atom ws p z i =
    ap (λ (w : ℕ). bit w (i % 64)) (⊎_elim (λ l. z (i / 64) l) (λ l. get_or_past ws (i / 64) 0 (omega arith)) (cases_lt (i / 64) 4)) ∙ bit_of_zero (i % 64)

-- one word written, in which f changes the digit of the atom i alone
changed : (f : Bool → Bool → Bool) → ((b : Bool) → f false b ≡ b) → (ws : List ℕ) (i w : ℕ) → i < 256 → length ws ≡ 4
    → ((k : ℕ) → k < 64 → bit w k ≡ f (eqb k (i % 64)) (bit (get_or ws (i / 64) 0) k)) → (j : ℕ) → among (set ws (i / 64) w) j ≡ f (eqb j i) (among ws j)
changed f keeps ws i w l p h j = go (cases_eq (j / 64) (i / 64))
  where
    go : (j / 64 ≡ i / 64) ⊎ (j / 64 ≡ i / 64 → ⊥) → among (set ws (i / 64) w) j ≡ f (eqb j i) (among ws j)
    go (inl e) =
        let here : eqb (j % 64) (i % 64) ≡ eqb j i = grind (arith, nat_tests) in
        let written : get_or (set ws (i / 64) w) (j / 64) 0 ≡ w = ap (λ (k : ℕ). get_or (set ws (i / 64) w) k 0) e ∙ get_or-set_same ws (i / 64) w 0 (omega arith) in
        let old : get_or ws (i / 64) 0 ≡ get_or ws (j / 64) 0 = ap (λ (k : ℕ). get_or ws k 0) (sym e) in
        ap (λ (x : ℕ). bit x (j % 64)) written ∙ h (j % 64) (omega arith) ∙ ap₂ (λ (b : Bool) (x : ℕ). f b (bit x (j % 64))) here old
    go (inr ne) =
        let other : eqb j i ≡ false = grind (arith, nat_tests) in
        ap (λ (x : ℕ). bit x (j % 64)) (get_or-set_other ws (i / 64) (j / 64) w 0 ne) ∙ sym (keeps (among ws j)) ∙ ap (λ (b : Bool). f b (among ws j)) (sym other)

pub inserted : (ws : List ℕ) (i w : ℕ) → i < 256 → length ws ≡ 4 → w ≡ bit_or (get_or ws (i / 64) 0) (2 ^ (i % 64))
    → (j : ℕ) → among (set ws (i / 64) w) j ≡ (eqb j i || among ws j)
inserted ws i w l p e =
    let old = get_or ws (i / 64) 0 in
    changed ◌||◌ (λ b. refl) ws i w l p
    (λ k h. ap (λ (x : ℕ). bit x k) e ∙ bit_of_or old (2 ^ (i % 64)) k ∙ ap (λ (b : Bool). bit old k || b) (bit_power (i % 64) k) ∙ or_comm (bit old k) (eqb k (i % 64)))

pub removed : (ws : List ℕ) (i w : ℕ) → i < 256 → length ws ≡ 4 → w ≡ bit_and (get_or ws (i / 64) 0) (2 ^ 64 - 1 - 2 ^ (i % 64))
    → (j : ℕ) → among (set ws (i / 64) w) j ≡ (not (eqb j i) && among ws j)
removed ws i w l p e =
    let old = get_or ws (i / 64) 0 in
    changed (λ t b. not t && b) (λ b. refl) ws i w l p
    (λ k h. ap (λ (x : ℕ). bit x k) e ∙ bit_of_and old (2 ^ 64 - 1 - 2 ^ (i % 64)) k
    ∙ ap (λ (b : Bool). bit old k && b) (bit_not (2 ^ (i % 64)) k (pow_below (i % 64) 64 (omega arith)) h ∙ ap not (bit_power (i % 64) k))
    ∙ and_comm (bit old k) (not (eqb k (i % 64))))

-- the size, by words
words_size : (ws : List ℕ) → ((k : ℕ) → get_or ws k 0 < 2 ^ 64) → sum_by ones ws ≡ tally (among ws) (64 * length ws)
words_size [] fits = sym (tally_none (among []))
words_size (w ∷ ws) fits =
    let n = 64 * length ws in
    let many : 64 * suc (length ws) ≡ 64 + n = omega arith in
    let first : tally (among (w ∷ ws)) 64 ≡ ones w =
    tally_same (among (w ∷ ws)) (bit w) 64
    (λ k l.
    let d : k / 64 ≡ 0 = omega arith in
    let m : k % 64 ≡ k = omega arith in
    rw (d, m))
    ∙ sym (ones_tally 64 w (fits 0))
    in
    let rest : tally (λ k. among (w ∷ ws) (64 + k)) n ≡ tally (among ws) n =
    tally_same (λ k. among (w ∷ ws) (64 + k)) (among ws) n
    (λ k l.
    let d : (64 + k) / 64 ≡ suc (k / 64) = omega arith in
    let m : (64 + k) % 64 ≡ k % 64 = omega arith in
    rw (d, m))
    in
    sum_by-cons ones w ws ∙ ap₂ (λ (x y : ℕ). x + y) (sym first) (words_size ws (λ k. fits (suc k)) ∙ sym rest)
    ∙ sym (tally_split (among (w ∷ ws)) 64 n) ∙ ap (tally (among (w ∷ ws))) (sym many)

pub size_words : (s : AtomSet) → sum_by ones s.words ≡ size s
size_words s = words_size s.words s.fits ∙ ap (λ (n : ℕ). tally (has s) (64 * n)) s.long

-- the lowest atom is that of the lowest digit of the first word that is not 0
pub lowest_at : (ws : List ℕ) → Whole ws → (j : ℕ) → (get_or ws j 0 ≡ 0 → ⊥) → ((m : ℕ) → m < j → get_or ws m 0 ≡ 0)
    → (i : ℕ) → i ≡ 64 * j + count_trailing_zeros 64 (get_or ws j 0) → Lowest (among ws) i
lowest_at ws p j ne zeros i e = go (lowest_digit (get_or ws j 0) (p.1 j) ne)
  where
    go : (count_trailing_zeros 64 (get_or ws j 0) < 64) × Lowest (bit (get_or ws j 0)) (count_trailing_zeros 64 (get_or ws j 0)) → Lowest (among ws) i
    go d = (ap (among ws) e ∙ sym ((word_at_lem ws j).at (count_trailing_zeros 64 (get_or ws j 0)) d.0) ∙ d.1.0, λ m h. below m h (cases_eq (m / 64) j))
      where
        below : (m : ℕ) → m < i → (m / 64 ≡ j) ⊎ (m / 64 ≡ j → ⊥) → among ws m ≡ false
        below m h (inl q) = ap (λ (k : ℕ). bit (get_or ws k 0) (m % 64)) q ∙ d.1.1 (m % 64) (omega arith)
        below m h (inr q) = ap (λ (w : ℕ). bit w (m % 64)) (zeros (m / 64) (omega arith)) ∙ bit_of_zero (m % 64)

-- the word j of a set moved up by 64 q + p: digits of the word q places before it, moved up by p, and of the word before that one
abbrev before : List ℕ → ℕ → ℕ → ℕ
before ws j q = cond (leb q j) (get_or ws (j - q) 0) 0

before_fits : (ws : List ℕ) → Whole ws → (j q : ℕ) → before ws j q < 2 ^ 64
before_fits ws h j q = cond_both (leb q j) (get_or ws (j - q) 0) 0 (λ x. x < 2 ^ 64) (λ _. h.1 (j - q)) (λ _. lit< tt)

before_bit : (ws : List ℕ) (j q k i : ℕ) → k < 64 → (q ≤ j → i ≡ 64 * (j - q) + k) → bit (before ws j q) k ≡ (leb q j && among ws i)
before_bit ws j q k i l place = ⊎_elim missing found (cases_lt j q)
  where
    found : q ≤ j → bit (before ws j q) k ≡ (leb q j && among ws i)
    found h = let t : leb q j ≡ true = le-leb q j h in rw (t, place h) ((word_at_lem ws (j - q)).at k l)

    missing : j < q → bit (before ws j q) k ≡ (leb q j && among ws i)
    missing h = let t : leb q j ≡ false = lt-leb q j h in rw t (bit_of_zero k)

module _ (ws : List ℕ) (h : Whole ws) (d j k : ℕ) (l : k < 64) where
  low_half : k < d % 64 → (false || bit (before ws j (d / 64 + 1)) (1 + (63 - d % 64) + k)) ≡ (leb d (64 * j + k) && among ws (64 * j + k - d))
  low_half lt =
      let same : leb (d / 64 + 1) j ≡ leb d (64 * j + k) = grind (arith, nat_tests) in
      before_bit ws j (d / 64 + 1) (1 + (63 - d % 64) + k) (64 * j + k - d) (omega arith) (λ g. omega arith) ∙ ap (λ (b : Bool). b && among ws (64 * j + k - d)) same

  high_half : d % 64 ≤ k → (bit (before ws j (d / 64)) (k - d % 64) || false) ≡ (leb d (64 * j + k) && among ws (64 * j + k - d))
  high_half ge =
      let same : leb (d / 64) j ≡ leb d (64 * j + k) = grind (arith, nat_tests) in
      or-false (bit (before ws j (d / 64)) (k - d % 64)) ∙ before_bit ws j (d / 64) (k - d % 64) (64 * j + k - d) (omega arith) (λ g. omega arith)
      ∙ ap (λ (b : Bool). b && among ws (64 * j + k - d)) same

  pub shifted_word : bit (bit_or (before ws j (d / 64) * 2 ^ (d % 64) % 2 ^ 64) (before ws j (d / 64 + 1) / 2 / 2 ^ (63 - d % 64))) k
      ≡ (leb d (64 * j + k) && among ws (64 * j + k - d))
  shifted_word =
      let x = before ws j (d / 64) in
      let y = before ws j (d / 64 + 1) in
      let s = 1 + (63 - d % 64) in
      bit_of_or (x * 2 ^ (d % 64) % 2 ^ 64) (y / 2 / 2 ^ (63 - d % 64)) k
      ∙ ap₂ (λ (a b : Bool). a || b) (bit_of_shl 64 x (d % 64) k l) (ap (λ (z : ℕ). bit z k) (shr-shr y 1 (63 - d % 64)) ∙ bit_of_shr y s k)
      ∙ ⊎_elim
      (λ lt. ap (λ (b : Bool). (b && bit x (k - d % 64)) || bit y (s + k)) (lt-leb (d % 64) k lt) ∙ low_half lt)
      (λ ge. ap₂ (λ (b c : Bool). (b && bit x (k - d % 64)) || c) (le-leb (d % 64) k ge) (bit_past 64 y (s + k) (before_fits ws h j (d / 64 + 1)) (omega arith)) ∙ high_half ge)
      (cases_lt k (d % 64))
