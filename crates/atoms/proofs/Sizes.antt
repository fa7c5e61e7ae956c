-- How many numbers below a bound are in a set.
use Rattle.std.proofs.Common.{◌≡◌, ℕ, zero, suc, ◌+◌, ◌<◌, ◌≤◌, Bool, true, false, cond, not, ◌&&◌, eqb, ◌⊎◌, sym, refl, ap, ◌∙◌, ap₂, inl, inr, add-zero, add_assoc, add-suc, arith}
use Rattle.std.proofs.lemmas.Bool.{cases_eq, cond_both}
use Rattle.std.proofs.lemmas.Bool.Decides.{nat_tests}
use Rattle.atoms.specs.Sets.{Atoms}
use Rattle.atoms.specs.Member.{tally}

-- a tally looks at the numbers below its bound alone
pub tally_same : (X Y : Atoms) (n : ℕ) → ((k : ℕ) → k < n → X k ≡ Y k) → tally X n ≡ tally Y n
unfolding tally
tally_same X Y zero e = refl
tally_same X Y (suc n) e = ap₂ (λ (x : ℕ) (b : Bool). x + cond b 1 0) (tally_same X Y n (λ k l. e k (omega arith))) (e n (omega arith))

pub tally_split : (X : Atoms) (m n : ℕ) → tally X (m + n) ≡ tally X m + tally (λ k. X (m + k)) n
unfolding tally
tally_split X m zero = ap (tally X) (add-zero m) ∙ sym (add-zero (tally X m))
tally_split X m (suc n) =
    ap (tally X) (add-suc m n) ∙ ap (λ (x : ℕ). x + cond (X (m + n)) 1 0) (tally_split X m n)
    ∙ add_assoc (tally X m) (tally (λ k. X (m + k)) n) (cond (X (m + n)) 1 0)

pub tally_none : (X : Atoms) → tally X 0 ≡ 0
unfolding tally
tally_none X = refl

pub tally_bound : (X : Atoms) (n : ℕ) → tally X n ≤ n
unfolding tally
tally_bound X zero = omega arith
tally_bound X (suc n) = cond_both (X n) 1 0 (λ x. tally X n + x ≤ suc n) (λ _. omega (arith, tally_bound X n)) (λ _. omega (arith, tally_bound X n))

-- a set that lost one atom has one less
pub tally_without : (X Y : Atoms) (i n : ℕ) → i < n → X i ≡ true → ((j : ℕ) → Y j ≡ (not (eqb j i) && X j)) → tally Y n + 1 ≡ tally X n
unfolding tally
tally_without X Y i zero l t e = absurd (omega arith)
tally_without X Y i (suc n) l t e = go (cases_eq n i) (λ h. tally_without X Y i n h t e)
  where
    go : (n ≡ i) ⊎ (n ≡ i → ⊥) → (i < n → tally Y n + 1 ≡ tally X n) → tally Y n + cond (Y n) 1 0 + 1 ≡ tally X n + cond (X n) 1 0
    go (inl q) ih =
        let off : eqb n i ≡ true = grind (arith, nat_tests) in
        let out : Y n ≡ false = e n ∙ ap (λ (b : Bool). not b && X n) off in
        let was : X n ≡ true = ap X q ∙ t in
        let same : tally Y n ≡ tally X n =
        tally_same Y X n (λ k h. let o : eqb k i ≡ false = grind (arith, nat_tests) in e k ∙ ap (λ (b : Bool). not b && X k) o)
        in
        ap₂ (λ (x : ℕ) (b : Bool). x + cond b 1 0 + 1) same out ∙ omega arith ∙ ap (λ (b : Bool). tally X n + cond b 1 0) (sym was)
    go (inr q) ih =
        let off : eqb n i ≡ false = grind (arith, nat_tests) in
        let kept : Y n ≡ X n = e n ∙ ap (λ (b : Bool). not b && X n) off in
        let h = ih (omega arith) in
        ap (λ (b : Bool). tally Y n + cond b 1 0 + 1) kept ∙ omega arith
