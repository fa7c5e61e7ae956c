-- What arguments ask for.
use Rattle.std.proofs.Common.{◌≡◌, ℕ, ◌+◌, ◌-◌, ◌<◌, ◌≤◌, List, [], ◌∷◌, ◌++◌, set, length, slice_index, Ok, Err, codes, Result, refl, ◌∙◌, arith}
use Rattle.std.proofs.lemmas.List.{get_or-set_same, get_or-set_other}
use borrow.Author.Count.{below_more}
use Rattle.pile.specs.Arguments.{text_at, IsNumber, IsNoNumber, NumbersAt, StepAt, width, Asks, FirstWrong, NumbersAfter, ReadsStep, Selects}
use Rattle.pile.specs.declared.arguments.ArgumentFault.{ArgumentFault}
use Rattle.pile.specs.declared.arguments.ArgumentFault.TheVariants.{Unknown, Incomplete, NoNumber, Refused, OutOfMemory}
use Rattle.pile.specs.declared.step.Step.{Step}
use Rattle.pile.specs.declared.step.Step.TheVariants.{Offset, Select}

module _ (ts : List (List ℕ)) (i : ℕ) where
  number_at : (n : ℕ) (ns : List ℕ) → NumbersAfter ts i n ns → (k j : ℕ) → k < n → j ≡ i + 1 + k → IsNumber (text_at ts j) (slice_index ns k)
  number_at n ns h k j l e = rw e (h.each k l)

  -- one number more
  pub numbers_more : (k p : ℕ) (ns : List ℕ) (n : ℕ) → NumbersAfter ts i k ns → p ≡ i + 1 + k → k < length ns → IsNumber (text_at ts p) n → NumbersAfter ts i (k + 1) (set ns k n)
  numbers_more k p ns n h e l w = record {
    each = below_more (λ j. IsNumber (text_at ts (i + 1 + j)) (slice_index (set ns k n) j)) k (λ j a. rw (get_or-set_other ns k j n 0 (omega arith)) (h.each j a)) (rw (← e, get_or-set_same ns k n 0 l) w);
  }

  -- the first text that writes no number
  pub first_wrong : (k p : ℕ) (ns : List ℕ) → NumbersAfter ts i k ns → p ≡ i + 1 + k → IsNoNumber (text_at ts p) → FirstWrong ts i p
  first_wrong k p ns h e w = (omega arith, w, λ q a b. (slice_index ns (q - i - 1), number_at k ns h (q - i - 1) q (omega arith) (omega arith)))

  -- the step of the one number after an option
  pub offset_step : (ns : List ℕ) (j : ℕ) → text_at ts i ≡ codes "--offset" → NumbersAfter ts i 1 ns → j ≡ i + 2 → j ≤ length ts → ReadsStep ts i j (Ok (Offset (slice_index ns 0)))
  offset_step ns j t h e l = (((t, omega arith), number_at 1 ns h 0 (i + 1) (omega arith) (omega arith)), e)

  -- the step of the three numbers after an option
  module _ (ns : List ℕ) (j : ℕ) (t : text_at ts i ≡ codes "--select") (h : NumbersAfter ts i 3 ns) (e : j ≡ i + 4) (l : j ≤ length ts) where
    numbers : NumbersAt ts i (slice_index ns 0) (slice_index ns 1) (slice_index ns 2)
    numbers = (number_at 3 ns h 0 (i + 1) (omega arith) (omega arith), number_at 3 ns h 1 (i + 2) (omega arith) (omega arith), number_at 3 ns h 2 (i + 3) (omega arith) (omega arith))

    pub select_step : (r : Result Step ArgumentFault) → Selects i (slice_index ns 0) (slice_index ns 1) (slice_index ns 2) r → ReadsStep ts i j r
    select_step (Ok (Offset d)) k = absurd k
    select_step (Ok (Select s)) k = (((t, omega arith), ((numbers.0.0, k.0 ∙ numbers.0.1), (numbers.1.0, k.1 ∙ numbers.1.1), (numbers.2.0, k.2 ∙ numbers.2.1))), e)
    select_step (Err (Unknown p)) k = absurd k
    select_step (Err (Incomplete p)) k = absurd k
    select_step (Err (NoNumber p)) k = absurd k
    select_step (Err (Refused p f)) k = (k.0, (t, omega arith), (slice_index ns 0, slice_index ns 1, slice_index ns 2, numbers, k.1))
    select_step (Err OutOfMemory) k = absurd k

module _ (ts : List (List ℕ)) where
  pub asks_more : (i : ℕ) (ss : List Step) (j : ℕ) (s : Step) → Asks ts i ss j → StepAt ts j s → Asks ts i (ss ++ s ∷ []) (j + width s)
  asks_more i [] j s e h = rw e (h, refl)
  asks_more i (t ∷ ss) j s h k = (h.0, asks_more (i + width t) ss j s h.1 k)
