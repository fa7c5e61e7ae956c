-- Four bytes to a word.
use Rattle.std.proofs.Common.{◌≡◌, ℕ, zero, suc, ◌+◌, ◌*◌, ◌/◌, ◌%◌, ◌^◌, ◌<◌, ◌≤◌, List, [], ◌∷◌, map, length, get_or, sym, refl, ap, ◌∙◌, ap₂, w32, arith}
use Rattle.std.specs.Int.{from_be_bytes}
use Rattle.std.specs.Simd.{first_chunks}
use Rattle.std.proofs.lemmas.Bool.Decides.{nat_tests}
use Rattle.word_format.specs.Checks.{Clear}
use Rattle.word_format.specs.Bytes.{words_of_bytes, bytes_fault}

-- the word of the bytes at i and after
abbrev pub word_at : List ℕ → ℕ → ℕ
word_at bs i = get_or bs i 0 * 2 ^ 24 + get_or bs (i + 1) 0 * 2 ^ 16 + get_or bs (i + 2) 0 * 2 ^ 8 + get_or bs (i + 3) 0

-- four places on
word_four : (a b c d : ℕ) (bs : List ℕ) (i : ℕ) → word_at (a ∷ b ∷ c ∷ d ∷ bs) (4 + i) ≡ word_at bs i
word_four a b c d bs i =
    let e0 : 4 + i ≡ suc (suc (suc (suc i))) = omega arith in
    let e1 : 4 + i + 1 ≡ suc (suc (suc (suc (i + 1)))) = omega arith in
    let e2 : 4 + i + 2 ≡ suc (suc (suc (suc (i + 2)))) = omega arith in
    let e3 : 4 + i + 3 ≡ suc (suc (suc (suc (i + 3)))) = omega arith in
    rw (e1, e2, e3, e0)

pub word_at_lem : (bs : List ℕ) (i : ℕ) → i < length bs / 4 → get_or (words_of_bytes bs) i 0 ≡ word_at bs (4 * i)
word_at_lem [] i l = absurd (omega arith)
word_at_lem (a ∷ []) i l = absurd (omega arith)
word_at_lem (a ∷ b ∷ []) i l = absurd (omega arith)
word_at_lem (a ∷ b ∷ c ∷ []) i l = absurd (omega arith)
word_at_lem (a ∷ b ∷ c ∷ d ∷ bs) zero l = refl
word_at_lem (a ∷ b ∷ c ∷ d ∷ bs) (suc i) l =
    let e : 4 * suc i ≡ 4 + 4 * i = omega arith in
    word_at_lem bs i (omega arith) ∙ sym (word_four a b c d bs (4 * i)) ∙ ap (word_at (a ∷ b ∷ c ∷ d ∷ bs)) (sym e)

pub words_of_fours : (bs : List ℕ) → map (from_be_bytes w32) (first_chunks 4 (length bs / 4) bs) ≡ words_of_bytes bs
words_of_fours [] = refl
words_of_fours (a ∷ []) = refl
words_of_fours (a ∷ b ∷ []) = refl
words_of_fours (a ∷ b ∷ c ∷ []) = refl
words_of_fours (a ∷ b ∷ c ∷ d ∷ bs) =
    let n : length (a ∷ b ∷ c ∷ d ∷ bs) / 4 ≡ suc (length bs / 4) = omega arith in
    rw n (ap₂ (λ (w : ℕ) (ws : List ℕ). w ∷ ws) (omega arith) (words_of_fours bs))

pub whole_words : (bs : List ℕ) → length bs ≤ 65536 → length bs % 4 ≡ 0 → Clear (bytes_fault bs)
whole_words bs l m = grind (arith, nat_tests)
