-- Selectors keep the limits. These are proofs, which stand here as those of `Limits` do.
use Rattle.std.specs.Prelude.{◌≡◌, ℕ, zero, suc, ◌+◌, ◌-◌, ◌*◌, ◌<◌, ◌≤◌, max, ◌∷◌, length, ◌==◌, nat_le, refl}
use Rattle.std.proofs.Common.{ap, ⊎_elim, arith}
use Rattle.std.specs.List.{AllByRecursion}
use Rattle.std.proofs.ByRecursion.{All-append}
use Rattle.std.proofs.lemmas.List.{length-append}
use Rattle.std.proofs.lemmas.Bool.{leb-true, eqb-true, and_parts, or_cases, false≢true}
use Rattle.program.specs.Limits.{over_each}
use Rattle.program.specs.Meanings.{Small}
use Rattle.program.specs.Programs.{Over}
use Rattle.program.specs.Selectors.{some_outlet, exclusion, exclusions_of, exclusions, selector_meaning}
use Rattle.program.specs.declared.selector.Selector.{Selector}

exclusion_over : (n i j : ℕ) → i < n → j < n → Over n (exclusion i j)
exclusion_over n i j l m = (λ a h. absurd (false≢true h), λ a h. ⊎_elim (λ t. let e = eqb-true a i t in omega arith) (λ t. let e = eqb-true a j t in omega arith) (or_cases (a == i) (a == j) h), λ a h. absurd (false≢true h))

exclusions_of_over : (n i j m : ℕ) → i < n → j + m ≤ n → AllByRecursion (Over n) (exclusions_of i j m)
exclusions_of_over n i j zero l k = tt
exclusions_of_over n i j (suc m) l k = (exclusion_over n i j l (omega arith), exclusions_of_over n i (suc j) m l (omega arith))

exclusions_over : (n i m : ℕ) → i + m ≤ n → AllByRecursion (Over n) (exclusions i m)
exclusions_over n i zero l = tt
exclusions_over n i (suc m) l = All-append (Over n) (exclusions_of i (suc i) m) (exclusions (suc i) m) (exclusions_of_over n i (suc i) m (omega arith) (omega arith)) (exclusions_over n (suc i) m (omega arith))

pub exclusions_of_length : (i j m : ℕ) → length (exclusions_of i j m) ≡ m
exclusions_of_length i j zero = refl
exclusions_of_length i j (suc m) = ap suc (exclusions_of_length i (suc j) m)

exclusions_few : (i m : ℕ) → m ≤ 32 → length (exclusions i m) ≤ 31 * m
exclusions_few i zero l = omega arith
exclusions_few i (suc m) l =
    omega (arith, length-append (exclusions_of i (suc i) m) (exclusions (suc i) m), exclusions_of_length i (suc i) m, exclusions_few (suc i) m (omega arith))

outlet_over : (n b f l : ℕ) → b < n → l < n → Over n (some_outlet b f l)
outlet_over n b f l h k = (λ i t. let p = leb-true i l (and_parts (nat_le f i) (nat_le i l) t).1 in omega arith, λ i t. let e = eqb-true i b t in omega arith, λ i t. absurd (false≢true t))

pub selector_small : (s : Selector) → Small (selector_meaning s)
selector_small s =
    let n = max s.box_atom s.last + 1 in
    let b = s.box_low in
    let l = s.last_low in
    let f = s.few in
    let o = s.order in (
      omega arith,
      omega (arith, exclusions_few s.first (s.last + 1 - s.first) (omega arith)),
      over_each n (some_outlet s.box_atom s.first s.last ∷ exclusions s.first (s.last + 1 - s.first))
          (outlet_over n s.box_atom s.first s.last (omega arith) (omega arith), exclusions_over n s.first (s.last + 1 - s.first) (omega arith)),
    )
