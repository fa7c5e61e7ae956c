-- The text of a rule, piece by piece.
use Rattle.std.proofs.Common.{◌≡◌, ℕ, ◌+◌, ◌<◌, ◌≤◌, true, false, List, [], ◌∷◌, ◌++◌, length, get_or, drop, decimal, sym, ap, ◌∙◌, append_assoc}
use Rattle.std.proofs.lemmas.List.{append-nil, at_drop_more, at_drop_all}
use Rattle.word_format.specs.declared.word.Kind.{Kind}
use Rattle.word_format.specs.Words.{is_kind, number_of}
use Rattle.account.specs.Lines.{numbers, atoms_text}

module _ (k : Kind) (ws : List ℕ) (i : ℕ) (first later before all : List ℕ) where
  -- one atom more
  pub atoms_step : (after : List ℕ) (atom : ℕ) → i < length ws → is_kind k (get_or ws i 0) ≡ true → atom ≡ number_of (get_or ws i 0)
      → after ≡ before ++ (first ++ decimal atom) → before ++ atoms_text first later (numbers k (drop i ws)) ≡ all → after ++ atoms_text later later (numbers k (drop (i + 1) ws)) ≡ all
  atoms_step after atom l t a p h =
      let rest = atoms_text later later (numbers k (drop (i + 1) ws)) in
      let e : numbers k (drop i ws) ≡ number_of (get_or ws i 0) ∷ numbers k (drop (i + 1) ws) = at_drop_more (numbers k) ws i 0 l ∙ rw t in
      ap (λ (x : List ℕ). x ++ rest) (p ∙ ap (λ (x : ℕ). before ++ (first ++ decimal x)) a) ∙ append_assoc before (first ++ decimal (number_of (get_or ws i 0))) rest
      ∙ ap (λ (x : List ℕ). before ++ x) (append_assoc first (decimal (number_of (get_or ws i 0))) rest ∙ sym (ap (atoms_text first later) e)) ∙ h

  pub atoms_skip : i < length ws → is_kind k (get_or ws i 0) ≡ false → before ++ atoms_text first later (numbers k (drop i ws)) ≡ all → before ++ atoms_text first later (numbers k (drop (i + 1) ws)) ≡ all
  atoms_skip l t h =
      let e : numbers k (drop i ws) ≡ numbers k (drop (i + 1) ws) = at_drop_more (numbers k) ws i 0 l ∙ rw t in
      ap (λ (x : List ℕ). before ++ atoms_text first later x) (sym e) ∙ h

  pub atoms_end : length ws ≤ i → before ++ atoms_text first later (numbers k (drop i ws)) ≡ all → before ≡ all
  atoms_end l h =
      let e : numbers k (drop i ws) ≡ [] = at_drop_all (numbers k) ws i l in
      sym (append-nil before) ∙ ap (λ (x : List ℕ). before ++ atoms_text first later x) (sym e) ∙ h
