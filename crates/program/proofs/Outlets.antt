-- The rules of a selector.
use Rattle.std.proofs.Common.{◌≡◌, ℕ, zero, suc, ◌+◌, ◌-◌, ◌*◌, ◌/◌, ◌<◌, ◌≤◌, true, false, not, ◌&&◌, ltb, leb, List, ◌∷◌, ◌++◌, Some, None, length, slice_get, get_or, sym, refl, ap, ◌∙◌, suc-mul, mul-suc, add-one, arith}
use Rattle.std.proofs.lemmas.Grind.{common_steps}
use Rattle.std.proofs.lemmas.List.{length-append, get_or_past}
use Rattle.std.proofs.lemmas.Option.{gets, slice_get_within, get_or_from_slice_get}
use Rattle.std.proofs.lemmas.Bool.{lt-ltb, le-ltb}
use Rattle.std.proofs.lemmas.Bool.Decides.{nat_tests}
use Rattle.atoms.specs.Member.{has}
use Rattle.atoms.specs.declared.AtomSet.{AtomSet}
use Rattle.program.specs.Programs.{Rule}
use Rattle.program.specs.Rules.{as_rule, Holds}
use Rattle.program.specs.declared.rule.Rule.{Rule as RuleValue}
use Rattle.program.proofs.Held.{held}
use Rattle.program.specs.Selectors.{span, exclusion, exclusions_of, exclusions}
use Rattle.program.specs.SelectorLimits.{exclusions_of_length}

pub span_has : (f l : ℕ) (high low r : AtomSet) → l ≤ 255 → ((i : ℕ) → has high i ≡ (ltb i (l + 1) && ltb i 256)) → ((i : ℕ) → has low i ≡ (ltb i f && ltb i 256))
    → ((i : ℕ) → has r i ≡ (has high i && not (has low i))) → (i : ℕ) → has r i ≡ span f l i
span_has f l high low r k h g m i = m i ∙ rw (h i, g i) same
  where
    same : ((ltb i (l + 1) && ltb i 256) && not (ltb i f && ltb i 256)) ≡ (leb f i && leb i l)
    same = grind (arith, nat_tests)

-- m outlets make m (m - 1) / 2 pairs
exclusions_length : (i m : ℕ) → 2 * length (exclusions i m) + m ≡ m * m
exclusions_length i zero = refl
exclusions_length i (suc m) =
    let h = exclusions_length (suc i) m in
    let e = length-append (exclusions_of i (suc i) m) (exclusions (suc i) m) in
    let f = exclusions_of_length i (suc i) m in
    let p : suc m * suc m ≡ m * m + m + suc m = mul-suc (suc m) m ∙ ap (λ (x : ℕ). x + suc m) (suc-mul m m) in
    omega arith

pub pair_count : (f l n : ℕ) → f ≤ l → n ≡ (l - f + 1) * (l - f + 1 - 1) / 2 → 1 + n ≡ suc (length (exclusions f (l + 1 - f)))
pair_count f l n o e =
    let m = l - f in
    let q : l + 1 - f ≡ suc m = omega arith in
    let h = exclusions_length f (suc m) in
    let p : suc m * suc m ≡ suc m * m + suc m = mul-suc (suc m) m in
    let x : m + 1 - 1 ≡ m = omega arith in
    let y : n ≡ suc m * m / 2 = e ∙ rw (x, add-one m) in
    rw q (omega arith)

-- Rule k of the pairs with i, which come before others.
module _ (others : List Rule) where
  row_here : (i j m k : ℕ) → k < m → slice_get (exclusions_of i j m ++ others) k ≡ Some (exclusion i (j + k))
  row_here i j zero k l = absurd (omega arith)
  row_here i j (suc m) zero l = let e : j + 0 ≡ j = omega arith in rw e
  row_here i j (suc m) (suc k) l = let e : suc j + k ≡ j + suc k = omega arith in rw (← e) (row_here i (suc j) m k (omega arith))

  row_past : (i j m k : ℕ) → m ≤ k → slice_get (exclusions_of i j m ++ others) k ≡ slice_get others (k - m)
  row_past i j zero k l = let e : k - 0 ≡ k = omega arith in rw e
  row_past i j (suc m) zero l = absurd (omega arith)
  row_past i j (suc m) (suc k) l = let e : suc k - suc m ≡ k - m = omega arith in rw e (row_past i (suc j) m k (omega arith))

-- Rule `rest` of the pairs from `low` on.
module _ (low last rest : ℕ) where
  pub pair_here : low < last → rest < last - low → slice_get (exclusions low (last + 1 - low)) rest ≡ Some (exclusion low (low + 1 + rest))
  pair_here l r =
      let e : last + 1 - low ≡ suc (last - low) = omega arith in
      let f : low + 1 + rest ≡ suc low + rest = omega arith in
      rw (e, f) (row_here (exclusions (suc low) (last - low)) low (suc low) (last - low) rest r)

  pub pair_later : low < last → last - low ≤ rest → slice_get (exclusions low (last + 1 - low)) rest ≡ slice_get (exclusions (low + 1) (last + 1 - (low + 1))) (rest - (last - low))
  pair_later l r =
      let e : last + 1 - low ≡ suc (last - low) = omega arith in
      let f : last + 1 - (low + 1) ≡ last - low = omega arith in
      let g : low + 1 ≡ suc low = omega arith in
      rw (f, e, g) (row_past (exclusions (suc low) (last - low)) low (suc low) (last - low) rest r)

  pub pair_past : last ≤ low → slice_get (exclusions low (last + 1 - low)) rest ≡ None
  pair_past l = none (last + 1 - low) (omega arith)
    where
      none : (m : ℕ) → m ≤ 1 → slice_get (exclusions low m) rest ≡ None
      none zero h = refl
      none (suc zero) h = refl
      none (suc (suc m)) h = absurd (omega arith)

-- A first rule, and others after it.
module _ (first : Rule) (others : List Rule) (p : Rule) where
  pub first_rule : (k : ℕ) (r : RuleValue) → k ≡ 0 → Holds r first → as_rule r ≡ get_or (first ∷ others) k p
  first_rule k r z h = rw z (held r first h)

  pub later_test : (k : ℕ) (q : Rule) → (k ≡ 0 → ⊥) → slice_get others (k - 1) ≡ Some q → true ≡ ltb k (suc (length others))
  later_test zero q n at = absurd (n refl)
  later_test (suc k) q n at = let l = slice_get_within others (suc k - 1) q at in sym (lt-ltb (suc k) (suc (length others)) (omega arith))

  pub later_rule : (k : ℕ) (q : Rule) (r : RuleValue) → (k ≡ 0 → ⊥) → slice_get others (k - 1) ≡ Some q → Holds r q → as_rule r ≡ get_or (first ∷ others) k p
  later_rule zero q r n at h = absurd (n refl)
  later_rule (suc k) q r n at h = let e : suc k - 1 ≡ k = omega arith in held r q h ∙ sym (get_or_from_slice_get others k q p (rw e at at))

  long : (k : ℕ) → slice_get others k ≡ None → length others ≤ k
  long k at = grind (arith, common_steps, gets)

  pub past_test : (k : ℕ) → (k ≡ 0 → ⊥) → slice_get others (k - 1) ≡ None → false ≡ ltb k (suc (length others))
  past_test k n at = let l = long (k - 1) at in sym (le-ltb k (suc (length others)) (omega arith))

  pub past_rule : (k : ℕ) → (k ≡ 0 → ⊥) → slice_get others (k - 1) ≡ None → p ≡ get_or (first ∷ others) k p
  past_rule k n at = let l = long (k - 1) at in sym (get_or_past (first ∷ others) k p (omega arith))
