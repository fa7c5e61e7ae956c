-- The digits of a number: the laws of `&`, `|`, `!`, `<<`, `>>` and of powers of two, and that a number is its digits.
use Rattle.std.proofs.Common.{◌≡◌, ℕ, zero, suc, ◌+◌, ◌-◌, ◌*◌, ◌/◌, ◌%◌, ◌^◌, ◌<◌, ◌≤◌, min, max, w64, ⊎_elim, Bool, true, false, cond, not, ◌&&◌, ◌||◌, eqb, ltb, leb, sym, ap, ◌∙◌, ap₂, mul_assoc, pow-suc, one-add, arith, shr-shr}
use mathlib.Core.Bool.{and-true}
use lib.Bits.{bit_and, bit_or}
use lib.Count.{ones, ones_step, count_trailing_zeros}
use Rattle.std.specs.Int.{bit_at}
use Rattle.std.proofs.lemmas.Nat.{and_mask}
use Rattle.std.proofs.lemmas.Nat.Bits.{bit_at-lt, bit_at_and, bit_at_or, bit_at_not, bit_at-zero, bit_at_ones, bit_at_ones_above, bit_at-pow_same, bit_at-pow_other, bit_at_above, same_from_bits_below, bit_at-trailing_zeros}
use Rattle.std.proofs.lemmas.Bool.{cases_eq, cases_lt, lt-ltb, le-ltb, eq-eqb, ne_eqb}
use Rattle.std.proofs.lemmas.Bool.Decides.{nat_tests}
use Rattle.atoms.specs.Member.{bit, tally, Lowest}
use Rattle.atoms.proofs.Sizes.{tally_same, tally_split}

-- the digit 0, and the digit after k as the digit k of the half
pub bit_zero : (w : ℕ) → bit w 0 ≡ eqb (w % 2) 1
bit_zero w = let e : w / 1 ≡ w = omega arith in rw e

pub bit_suc : (w k : ℕ) → bit w (suc k) ≡ bit (w / 2) k
bit_suc w k = ap (λ (x : ℕ). eqb (x % 2) 1) (ap (λ (x : ℕ). w / 2 ^ x) (sym (one-add k)) ∙ sym (shr-shr w 1 k))

-- what the library says of the digits as the numbers 0 and 1
pub bit_of_and : (a b k : ℕ) → bit (bit_and a b) k ≡ (bit a k && bit b k)
bit_of_and a b k = both (bit_at a k) (bit_at b k) _ (bit_at-lt a k) (bit_at-lt b k) (bit_at_and a b k)
  where
    both : (x y z : ℕ) → x < 2 → y < 2 → z ≡ min x y → eqb z 1 ≡ (eqb x 1 && eqb y 1)
    both x y z p q e = grind (arith, nat_tests)

pub bit_of_or : (a b k : ℕ) → bit (bit_or a b) k ≡ (bit a k || bit b k)
bit_of_or a b k = either (bit_at a k) (bit_at b k) _ (bit_at-lt a k) (bit_at-lt b k) (bit_at_or a b k)
  where
    either : (x y z : ℕ) → x < 2 → y < 2 → z ≡ max x y → eqb z 1 ≡ (eqb x 1 || eqb y 1)
    either x y z p q e = grind (arith, nat_tests)

-- `!a`
pub bit_not : (a k : ℕ) → a < 2 ^ 64 → k < 64 → bit (2 ^ 64 - 1 - a) k ≡ not (bit a k)
bit_not a k h l = turned (bit_at a k) _ (bit_at-lt a k) (bit_at_not w64 a k h l)
  where
    turned : (x z : ℕ) → x < 2 → z ≡ 1 - x → eqb z 1 ≡ not (eqb x 1)
    turned x z p e = grind (arith, nat_tests)

-- no digit of 0 is set
pub bit_of_zero : (k : ℕ) → bit 0 k ≡ false
bit_of_zero k = ap (λ (x : ℕ). eqb x 1) (bit_at-zero k)

-- the digits below n are set
pub bit_ones : (n k : ℕ) → bit (2 ^ n - 1) k ≡ ltb k n
bit_ones n k =
    ⊎_elim (λ l. ap (λ (x : ℕ). eqb x 1) (bit_at_ones n k l) ∙ sym (lt-ltb k n l)) (λ l. ap (λ (x : ℕ). eqb x 1) (bit_at_ones_above n k l) ∙ sym (le-ltb k n l))
    (cases_lt k n)

-- one digit
pub bit_power : (n k : ℕ) → bit (2 ^ n) k ≡ eqb k n
bit_power n k =
    ⊎_elim (λ e. ap (bit (2 ^ n)) e ∙ ap (λ (x : ℕ). eqb x 1) (bit_at-pow_same n) ∙ sym (eq-eqb k n e))
    (λ ne. ap (λ (x : ℕ). eqb x 1) (bit_at-pow_other n k ne) ∙ sym (ne_eqb k n ne)) (cases_eq k n)

-- a number below 2 ^ n has no digit at n or above
pub bit_past : (n w k : ℕ) → w < 2 ^ n → n ≤ k → bit w k ≡ false
bit_past n w k h l = ap (λ (x : ℕ). eqb x 1) (bit_at_above w n k h l)

-- `w >> s`
pub bit_of_shr : (w s k : ℕ) → bit (w / 2 ^ s) k ≡ bit w (s + k)
bit_of_shr w s k = ap (λ (x : ℕ). eqb (x % 2) 1) (shr-shr w s k)

-- `w << s` at n digits
bit_mod : (n w k : ℕ) → k < n → bit (w % 2 ^ n) k ≡ bit w k
bit_mod n w k l =
    ap (λ (x : ℕ). bit x k) (sym (and_mask w n)) ∙ bit_of_and w (2 ^ n - 1) k ∙ ap (λ (b : Bool). bit w k && b) (bit_ones n k ∙ lt-ltb k n l) ∙ and-true (bit w k)

double : (w s : ℕ) → w * 2 ^ suc s ≡ w * 2 ^ s * 2
double w s = ap (λ (x : ℕ). w * x) (pow-suc 2 s) ∙ sym (mul_assoc w (2 ^ s) 2)

bit_mul : (w s k : ℕ) → bit (w * 2 ^ s) k ≡ (leb s k && bit w (k - s))
bit_mul w zero k =
    let e : w * 1 ≡ w = omega arith in
    let d : k - 0 ≡ k = omega arith in
    let t : leb 0 k ≡ true = grind (arith, nat_tests) in
    rw (e, d, t)
bit_mul w (suc s) zero =
    let e : w * 2 ^ s * 2 % 2 ≡ 0 = omega arith in
    let t : leb (suc s) 0 ≡ false = grind (arith, nat_tests) in
    ap (λ (x : ℕ). bit x 0) (double w s) ∙ bit_zero (w * 2 ^ s * 2) ∙ ap (λ (x : ℕ). eqb x 1) e ∙ ap (λ (b : Bool). b && bit w (0 - suc s)) (sym t)
bit_mul w (suc s) (suc k) =
    let e : w * 2 ^ s * 2 / 2 ≡ w * 2 ^ s = omega arith in
    let d : k - s ≡ suc k - suc s = omega arith in
    let t : leb s k ≡ leb (suc s) (suc k) = grind (arith, nat_tests) in
    ap (λ (x : ℕ). bit x (suc k)) (double w s) ∙ bit_suc (w * 2 ^ s * 2) k ∙ ap (λ (x : ℕ). bit x k) e ∙ bit_mul w s k
    ∙ ap₂ (λ (b : Bool) (x : ℕ). b && bit w x) t d

pub bit_of_shl : (n w s k : ℕ) → k < n → bit (w * 2 ^ s % 2 ^ n) k ≡ (leb s k && bit w (k - s))
bit_of_shl n w s k l = bit_mod n (w * 2 ^ s) k l ∙ bit_mul w s k

-- numbers with the same digits are equal
pub same_from_bits : (n a b : ℕ) → a < 2 ^ n → b < 2 ^ n → ((k : ℕ) → k < n → bit a k ≡ bit b k) → a ≡ b
same_from_bits n a b h g e = same_from_bits_below n a b h g (λ k l. same (bit_at a k) (bit_at b k) (bit_at-lt a k) (bit_at-lt b k) (e k l))
  where
    same : (x y : ℕ) → x < 2 → y < 2 → eqb x 1 ≡ eqb y 1 → x ≡ y
    same x y p q e = grind (arith, nat_tests)

-- the lowest digit that is set
pub lowest_digit : (w : ℕ) → w < 2 ^ 64 → (w ≡ 0 → ⊥) → (count_trailing_zeros 64 w < 64) × Lowest (bit w) (count_trailing_zeros 64 w)
lowest_digit w h p =
    let t = bit_at-trailing_zeros w64 w (omega arith) h in
    (t.0, (ap (λ (x : ℕ). eqb x 1) t.1, λ j l. ap (λ (x : ℕ). eqb x 1) (t.2 j l)))

-- how many digits are set
pub ones_tally : (n w : ℕ) → w < 2 ^ n → ones w ≡ tally (bit w) n
unfolding tally ones
ones_tally zero w h = let z : w ≡ 0 = omega arith in ap ones z
ones_tally (suc n) w h =
    let p = pow-suc 2 n in
    let first : tally (bit w) 1 ≡ w % 2 = ap (λ (b : Bool). 0 + cond b 1 0) (bit_zero w) ∙ grind (arith, nat_tests) in
    let rest : tally (λ k. bit w (1 + k)) n ≡ tally (bit (w / 2)) n =
    tally_same (λ k. bit w (1 + k)) (bit (w / 2)) n (λ k l. ap (bit w) (one-add k) ∙ bit_suc w k)
    in
    let ih : ones (w / 2) ≡ tally (bit (w / 2)) n = ones_tally n (w / 2) (omega arith) in
    ones_step w ∙ ap₂ (λ (x y : ℕ). x + y) (sym first) (ih ∙ sym rest) ∙ sym (tally_split (bit w) 1 n) ∙ ap (tally (bit w)) (one-add n)
