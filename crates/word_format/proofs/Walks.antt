-- The walk of the check, word by word.
use Rattle.std.proofs.Common.{◌≡◌, ℕ, zero, suc, ◌+◌, ◌^◌, ◌<◌, ◌≤◌, Bool, true, false, cond, List, [], ◌∷◌, ◌++◌, length, get_or, take, drop, None, Ok, Err, Result, sym, refl, ap, ◌∙◌, subst, inl, inr, ⊎_elim, add-one, arith, MatchResult}
use Rattle.std.proofs.lemmas.List.{take_more, get_or-drop, length-drop, get_or_past}
use Rattle.std.proofs.lemmas.Bool.{cases_eq, cases_lt}
use Rattle.std.proofs.lemmas.Bool.Decides.{nat_tests}
use Rattle.program.specs.declared.refusal.Refusal.{Refusal}
use Rattle.program.specs.declared.refusal.Refusal.TheVariants.{Unfinished}
use Rattle.word_format.specs.declared.check.Checker.{Checker}
use Rattle.word_format.specs.Words.{number_of, is_end}
use Rattle.word_format.specs.Checks.{Clear, ends, fault, fault_after, header_fault, front_fault, finished, Lawful, Refused}
use Rattle.word_format.proofs.Numbers.{none_clear}
use Rattle.word_format.specs.Walk.{Stands, TakesFrom, Walked}

pub ends_append : (xs ys : List ℕ) → ends (xs ++ ys) ≡ ends xs + ends ys
ends_append [] ys = omega arith
ends_append (x ∷ xs) ys = let h = ends_append xs ys in omega arith

ends_one : (w : ℕ) → ends (w ∷ []) ≡ cond (is_end w) 1 0
ends_one w = omega arith

-- one end word more, or none
pub ends_more : (ws : List ℕ) (i : ℕ) → i + 1 < length ws → ends (take (i + 1) (drop 1 ws)) ≡ ends (take i (drop 1 ws)) + cond (is_end (get_or ws (i + 1) 0)) 1 0
ends_more ws i l =
    let long : i < length (drop 1 ws) = omega (arith, length-drop 1 ws) in
    let at : get_or (drop 1 ws) i 0 ≡ get_or ws (i + 1) 0 = get_or-drop 1 ws i 0 ∙ ap (λ (k : ℕ). get_or ws k 0) (omega arith) in
    ap ends (take_more (drop 1 ws) i 0 long) ∙ ends_append (take i (drop 1 ws)) (get_or (drop 1 ws) i 0 ∷ [])
    ∙ ap (λ (w : ℕ). ends (take i (drop 1 ws)) + ends (w ∷ [])) at ∙ ap (λ (m : ℕ). ends (take i (drop 1 ws)) + m) (ends_one (get_or ws (i + 1) 0))

pub front_fault_lem : (ws : List ℕ) → 0 < length ws → length ws ≤ 16384 → front_fault ws ≡ header_fault (get_or ws 0 0)
front_fault_lem ws p l = grind (arith, nat_tests)

module _ (ws : List ℕ) (short : length ws ≤ 16384) (c c' : Checker) where
  pub walked_more : (i : ℕ) → i < length ws → Walked ws i c → TakesFrom c (get_or ws i 0) (Ok tt) c' → Walked ws (i + 1) c'
  walked_more zero l h later = absurd h
  walked_more (suc i) l (header, stands, none) later =
      let t = later (number_of (get_or ws 0 0)) (get_or ws i 0) (ends (take i (drop 1 ws))) stands in
      let e : suc i + 1 ≡ suc (suc i) = add-one (suc i) in
      let one : i + 1 ≡ suc i = add-one i in
      let more = rw one at (ends_more ws i (omega arith)) in
      let here : fault_after ws i ≡ None = ap (λ (k : ℕ). fault (number_of (get_or ws 0 0)) (get_or ws i 0) (ends (take i (drop 1 ws))) (get_or ws k 0)) one ∙ t.0 in
      subst (λ (k : ℕ). Walked ws k c') (sym e) (
        header,
        (t.1.0, t.1.1, t.1.2, t.1.3 ∙ sym more),
        λ j m. ⊎_elim (λ (q : j ≡ i). subst (λ (k : ℕ). fault_after ws k ≡ None) (sym q) here) (λ (q : j ≡ i → ⊥). none j (omega arith)) (cases_eq j i),
      )

  pub walked_refused : (i : ℕ) (r : Refusal) → i < length ws → Walked ws i c → TakesFrom c (get_or ws i 0) (Err r) c' → Refused ws r
  walked_refused zero r l h later = absurd h
  walked_refused (suc i) r l (header, stands, none) later =
      let t = later (number_of (get_or ws 0 0)) (get_or ws i 0) (ends (take i (drop 1 ws))) stands in
      let one : i + 1 ≡ suc i = add-one i in
      inr (inl (i, omega arith, (none_clear (front_fault ws) (front_fault_lem ws (omega arith) short ∙ header), λ j m. none_clear (fault_after ws j) (none j m)), ap (λ (k : ℕ). fault (number_of (get_or ws 0 0)) (get_or ws i 0) (ends (take i (drop 1 ws))) (get_or ws k 0)) one ∙ t))

-- what the end of the walk tells
pub walked_all : (ws : List ℕ) (n : ℕ) (c : Checker) (r : Result (Unit {0}) Refusal) → n ≡ length ws → length ws ≤ 16384 → Walked ws n c → ((i : ℕ) → i < n → get_or ws i 0 < 2 ^ 32) → ((m p e : ℕ) → Stands m p e c → r ≡ cond (is_end p) (Ok tt) (Err Unfinished)) → MatchResult r (λ _. Lawful ws) (λ e. Refused ws e)
walked_all ws zero c r long short h small some = absurd h
walked_all ws (suc n) c r long short (header, stands, each) small some =
    subst (λ (r : Result (Unit {0}) Refusal). MatchResult r (λ _. Lawful ws) (λ e. Refused ws e)) (sym (some (number_of (get_or ws 0 0)) (get_or ws n 0) (ends (take n (drop 1 ws))) stands)) (go (is_end (get_or ws n 0)) refl)
  where
    front : Clear (front_fault ws)
    front = none_clear (front_fault ws) (front_fault_lem ws (omega arith) short ∙ header)

    clear : (i : ℕ) → i < n → Clear (fault_after ws i)
    clear i l = none_clear (fault_after ws i) (each i l)

    last : (b : Bool) → is_end (get_or ws n 0) ≡ b → finished ws ≡ b
    last b e = ap (λ (k : ℕ). is_end (get_or ws k 0)) (omega arith) ∙ e

    word : (i : ℕ) → get_or ws i 0 < 2 ^ 32
    word i = ⊎_elim (λ (l : i < suc n). small i l) (λ (l : suc n ≤ i). let e = get_or_past ws i 0 (omega arith) in omega arith) (cases_lt i (suc n))

    go : (b : Bool) → is_end (get_or ws n 0) ≡ b → MatchResult (cond {A = Result (Unit {0}) Refusal} b (Ok tt) (Err Unfinished)) (λ _. Lawful ws) (λ e. Refused ws e)
    go true e = (front, λ i l. clear i (omega arith), last true e, word)
    go false e = inr (inr ((front, λ j l. clear j (omega arith)), last false e, refl))
