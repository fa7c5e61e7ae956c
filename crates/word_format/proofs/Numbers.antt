-- The kind and the number of a word.
use Rattle.std.proofs.Common.{◌≡◌, ℕ, ◌/◌, ◌^◌, ◌<◌, ◌≤◌, true, false, eqb, is_some, None, Option, sym, ap, ◌∙◌, arith}
use Rattle.std.proofs.lemmas.Bool.Decides.{nat_tests}
use Rattle.word_format.specs.declared.word.Kind.{Kind}
use Rattle.word_format.specs.declared.word.Kind.TheVariants.{End}
use Rattle.program.specs.declared.refusal.Refusal.{Refusal}
use Rattle.word_format.specs.Words.{kind_numbered, kind_of, number_of, rank, is_kind, is_end}
use Rattle.word_format.specs.Checks.{Clear, follows, fault}
use Rattle.word_format.specs.Writing.{word_of}

pub clear_none : (o : Option Refusal) → Clear o → o ≡ None
clear_none o c = grind arith

pub none_clear : (o : Option Refusal) → o ≡ None → Clear o
none_clear o e = ap is_some e

rank_below : (q : ℕ) → q < 4 → rank (kind_numbered q) ≡ q
rank_below q l = grind arith

-- the kind's rank is the top two bits
pub rank_of : (w : ℕ) → w < 2 ^ 32 → rank (kind_of w) ≡ w / 2 ^ 30
rank_of w l = rank_below (w / 2 ^ 30) (omega arith)

rank_above : (q : ℕ) → 3 ≤ q → rank (kind_numbered q) ≡ 3
rank_above q l = grind arith

pub atom_below : (w : ℕ) → is_end w ≡ false → w < 3221225472
atom_below w e = grind (arith, nat_tests, rank_above)

pub end_above : (w : ℕ) → w < 2 ^ 32 → is_end w ≡ true → 3221225472 ≤ w
end_above w l e = grind (arith, nat_tests, rank_of)

kind_rank : (k : Kind) → kind_numbered (rank k) ≡ k
kind_rank k = grind arith

pub rank_lt : (k : Kind) → rank k < 4
rank_lt k = grind arith

pub same_rank : (j k : Kind) → rank j ≡ rank k → j ≡ k
same_rank j k e = sym (kind_rank j) ∙ ap kind_numbered e ∙ kind_rank k

pub kind_of_word : (k : Kind) (i : ℕ) → i < 2 ^ 30 → kind_of (word_of k i) ≡ k
kind_of_word k i l = let q : word_of k i / 2 ^ 30 ≡ rank k = omega arith in ap kind_numbered q ∙ kind_rank k

pub number_of_word : (k : Kind) (i : ℕ) → i < 2 ^ 30 → number_of (word_of k i) ≡ i
number_of_word k i l = omega arith

pub word_below : (k : Kind) (i : ℕ) → i < 2 ^ 30 → word_of k i < 2 ^ 32
word_below k i l = let r = rank_lt k in omega arith

pub word_of_parts : (w : ℕ) → w < 2 ^ 32 → word_of (kind_of w) (number_of w) ≡ w
word_of_parts w l = let r = rank_of w l in omega arith

pub is_kind_word : (j k : Kind) (i : ℕ) → i < 2 ^ 30 → is_kind j (word_of k i) ≡ eqb (rank k) (rank j)
is_kind_word j k i l = ap (λ (x : Kind). eqb (rank x) (rank j)) (kind_of_word k i l)

-- where both words are of a rule's parts, the later one is the larger number
pub follows_lt : (p w : ℕ) → is_end p ≡ false → is_end w ≡ false → follows p w ≡ true → p < w
follows_lt p w ep ew f = grind (arith, nat_tests, atom_below, rank_of)

pub lt_follows : (p w : ℕ) → p < w → is_end w ≡ false → follows p w ≡ true
lt_follows p w l ew = grind (arith, nat_tests, atom_below, rank_of)

pub end_follows : (p w : ℕ) → is_end p ≡ true → follows p w ≡ true
end_follows p w e = rw e

-- a word with no fault
pub fault_atom : (n p e w : ℕ) → is_end w ≡ false → fault n p e w ≡ None → (number_of w < n) × (follows p w ≡ true)
fault_atom n p e w ew f = grind (arith, nat_tests)

pub fault_end : (n p e w : ℕ) → is_end w ≡ true → fault n p e w ≡ None → (number_of w ≡ 0) × (e < 1024)
fault_end n p e w ew f = grind (arith, nat_tests)

pub atom_faultless : (n p e w : ℕ) → is_end w ≡ false → number_of w < n → n ≤ 256 → follows p w ≡ true → fault n p e w ≡ None
atom_faultless n p e w ew l m f = grind (arith, nat_tests)

pub end_faultless : (n p e w : ℕ) → is_end w ≡ true → number_of w ≡ 0 → e < 1024 → fault n p e w ≡ None
end_faultless n p e w ew z l = grind (arith, nat_tests)

-- the end word
abbrev pub end_word : ℕ
end_word = word_of End 0

-- an end word with no fault is the end word
pub end_is : (w : ℕ) → w < 2 ^ 32 → is_end w ≡ true → number_of w ≡ 0 → w ≡ end_word
end_is w l e z = grind (arith, end_above)
