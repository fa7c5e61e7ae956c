-- Lists in a strict order: what is in a list, lists that append, and that two with the same elements are equal.
use Rattle.std.proofs.Common.{◌≡◌, zero, suc, ◌⊎◌, List, [], ◌∷◌, ◌++◌, sym, refl, ◌∙◌, subst, ap₂, inl, inr, ⊎_elim, arith}
use Rattle.std.specs.List.{ContainsAt as Has, AllByRecursion}
use Rattle.std.proofs.ByRecursion.{All-append, all-has}
use Rattle.atoms.specs.Sets.{Ascending}

module _ {X : Type 0} where
  pub has_nil : (x : X) → Has [] x → ⊥
  has_nil x (k, lt, e) = omega arith

  pub has_here : (x : X) (xs : List X) → Has (x ∷ xs) x
  has_here x xs = (0, omega arith, λ d. refl)

  pub has_there : (y x : X) (xs : List X) → Has xs x → Has (y ∷ xs) x
  has_there y x xs (k, lt, e) = (suc k, omega arith, e)

  pub has_cons_cases : (y : X) (ys : List X) (x : X) → Has (y ∷ ys) x → (y ≡ x) ⊎ Has ys x
  has_cons_cases y ys x (zero, lt, e) = inl (e y)
  has_cons_cases y ys x (suc k, lt, e) = inr (k, omega arith, e)

  pub has_single : (y x : X) → Has (y ∷ []) x → y ≡ x
  has_single y x h = ⊎_elim (λ e. e) (λ n. absurd (has_nil x n)) (has_cons_cases y [] x h)

  pub has_append_cases : (xs ys : List X) (x : X) → Has (xs ++ ys) x → Has xs x ⊎ Has ys x
  has_append_cases [] ys x h = inr h
  has_append_cases (z ∷ xs) ys x h = ⊎_elim (λ e. inl (subst (λ w. Has (z ∷ xs) w) e (has_here z xs))) (λ t. ⊎_elim (λ l. inl (has_there z x xs l)) inr (has_append_cases xs ys x t)) (has_cons_cases z (xs ++ ys) x h)

  pub all_from_has : (Q : X → Type 0) (xs : List X) → ((x : X) → Has xs x → Q x) → AllByRecursion Q xs
  all_from_has Q [] h = tt
  all_from_has Q (x ∷ xs) h = (h x (has_here x xs), all_from_has Q xs (λ y m. h y (has_there x y xs m)))

module _ {X : Type 0} (R : X → X → Type 0) where
  pub ascending_append : (xs ys : List X) → Ascending R xs → Ascending R ys → ((x y : X) → Has xs x → Has ys y → R x y) → Ascending R (xs ++ ys)
  ascending_append [] ys u v before = v
  ascending_append (x ∷ xs) ys (first, u) v before = (
    All-append (R x) xs ys first (all_from_has (R x) ys (λ y h. before x y (has_here x xs) h)),
    ascending_append xs ys u v (λ z y m h. before z y (has_there x z xs m) h),
  )

  -- two lists in order with the same elements are equal
  pub same_ascending : ((x y : X) → R x y → R y x → ⊥) → (xs ys : List X) → Ascending R xs → Ascending R ys → ((x : X) → Has xs x → Has ys x) → ((x : X) → Has ys x → Has xs x) → xs ≡ ys
  same_ascending asym [] [] u v to from = refl
  same_ascending asym [] (y ∷ ys) u v to from = absurd (has_nil y (from y (has_here y ys)))
  same_ascending asym (x ∷ xs) [] u v to from = absurd (has_nil x (to x (has_here x xs)))
  same_ascending asym (x ∷ xs) (y ∷ ys) (a, u) (b, v) to from = ap₂ (λ (h : X) (t : List X). h ∷ t) same (same_ascending asym xs ys u v down up)
    where
      not_same : (w z : X) → R w z → w ≡ z → ⊥
      not_same w z r e = let s = subst (λ q. R q z) e r in asym z z s s

      heads : (y ≡ x) ⊎ Has ys x → (x ≡ y) ⊎ Has xs y → x ≡ y
      heads (inl e) q = sym e
      heads (inr p) (inl e) = e
      heads (inr p) (inr q) = absurd (asym x y (all-has (R x) xs y a q) (all-has (R y) ys x b p))

      same : x ≡ y
      same = heads (has_cons_cases y ys x (to x (has_here x xs))) (has_cons_cases x xs y (from y (has_here y ys)))

      down : (z : X) → Has xs z → Has ys z
      down z h = ⊎_elim (λ e. absurd (not_same x z (all-has (R x) xs z a h) (same ∙ e))) (λ t. t) (has_cons_cases y ys z (to z (has_there x z xs h)))

      up : (z : X) → Has ys z → Has xs z
      up z h = ⊎_elim (λ e. absurd (not_same y z (all-has (R y) ys z b h) (sym same ∙ e))) (λ t. t) (has_cons_cases x xs z (from z (has_there y z ys h)))
