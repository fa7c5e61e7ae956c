-- Words that are looked through in parts.
use Rattle.std.proofs.Common.{◌≡◌, ℕ, zero, suc, ◌+◌, ◌*◌, Bool, true, false, ◌||◌, List, [], ◌∷◌, take, drop, ◌∙◌, sym, ap, refl, suc-mul, arith}
use Rattle.std.specs.List.{list_any, fold}
use Rattle.std.specs.Simd.{first_chunks}
use Rattle.std.proofs.lemmas.Bool.{false≢true}
use Rattle.std.proofs.lemmas.List.{drop-drop, take-append-drop}
use Rattle.std.proofs.lemmas.List.Folds.{list_any-append}

or_three : (a b c : Bool) → ((a || b) || c) ≡ (a || (b || c))
or_three true b c = refl
or_three false b c = refl

or_none : (a : Bool) → a ≡ (a || false)
or_none true = refl
or_none false = refl

-- a fold that has found something, or finds it
pub fold_any : {X : Type 0} (p : X → Bool) (found : Bool) (xs : List X) → fold (λ a x. a || p x) found xs ≡ (found || list_any p xs)
fold_any p found [] = or_none found
fold_any p found (x ∷ xs) = fold_any p (found || p x) xs ∙ or_three found (p x) (list_any p xs)

-- in k parts of n, and in what is left
pub any_parts : {X : Type 0} (p : X → Bool) (n k m : ℕ) (xs : List X) → m ≡ k * n → (list_any (λ part. list_any p part) (first_chunks n k xs) || list_any p (drop m xs)) ≡ list_any p xs
any_parts p n zero m xs e = let none : m ≡ 0 = omega arith in rw none refl
any_parts p n (suc k) m xs e =
    let here = list_any p (take n xs) in
    let later = list_any (λ part. list_any p part) (first_chunks n k (drop n xs)) in
    let h = suc-mul k n in
    let long : m ≡ n + k * n = omega arith in
    let far : drop m xs ≡ drop (k * n) (drop n xs) = ap (λ (i : ℕ). drop i xs) long ∙ sym (drop-drop (k * n) n xs) in
    or_three here later (list_any p (drop m xs)) ∙ rw far (ap (λ (b : Bool). here || b) (any_parts p n k (k * n) (drop n xs) refl)) ∙ sym (list_any-append p (take n xs) (drop n xs)) ∙ ap (list_any p) (take-append-drop n xs)

-- the answer r for the parts, where it is yes and where it is no
module _ {X : Type 0} (p : X → Bool) (n k m : ℕ) (xs : List X) (e : m ≡ k * n) where
  pub found_first : (r : Bool) → r ≡ list_any (λ part. list_any p part) (first_chunks n k xs) → r ≡ true → r ≡ list_any p xs
  found_first true is h = rw (← is) at (any_parts p n k m xs e)
  found_first false is h = absurd (false≢true h)

  pub found_later : (r : Bool) → r ≡ list_any (λ part. list_any p part) (first_chunks n k xs) → r ≡ false → list_any p (drop m xs) ≡ list_any p xs
  found_later true is h = absurd (false≢true (sym h))
  found_later false is h = rw (← is) at (any_parts p n k m xs e)
