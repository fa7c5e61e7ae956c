-- The words of rule k spell a rule.
use Rattle.std.proofs.Common.{◌≡◌, ℕ, ◌+◌, ◌-◌, ◌<◌, ◌≤◌, true, false, List, [], ◌∷◌, get_or, take, drop, sym, refl, ap, ◌∙◌, subst, add-one, arith}
use Rattle.std.specs.List.{AllByRecursion}
use Rattle.std.proofs.ByRecursion.{All-get_or, All-from_get_or}
use Rattle.std.proofs.lemmas.List.{get_or_past, length-map}
use Rattle.std.proofs.lemmas.Bool.{both_ways}
use Rattle.word_format.specs.Words.{number_of, is_end}
use Rattle.word_format.specs.Checks.{Lawful, fault_after, ends}
use Rattle.word_format.specs.Reading.{segments, rule_of, meaning}
use Rattle.word_format.specs.Index.{rule_words, Spans}
use Rattle.word_format.proofs.Numbers.{clear_none, fault_atom}

-- a head, need or bar is an atom of some set
abbrev pub Spells : ℕ → Type 0
Spells w = is_end w ≡ false → number_of w < 256

spells_body : (h : ℕ) (b : List ℕ) → Lawful (h ∷ b) → number_of h ≤ 256 → AllByRecursion Spells b
spells_body h b law small =
    All-from_get_or Spells b 0
    (λ i l e.
    let w : get_or (h ∷ b) (i + 1) 0 ≡ get_or b i 0 = ap (λ (j : ℕ). get_or (h ∷ b) j 0) (add-one i) in
    let n = (fault_atom (number_of h) (get_or (h ∷ b) i 0) (ends (take i b)) (get_or (h ∷ b) (i + 1) 0) (ap is_end w ∙ e) (clear_none (fault_after (h ∷ b) i) (law.1 i (omega arith)))).0 in
    let s : number_of (get_or (h ∷ b) (i + 1) 0) ≡ number_of (get_or b i 0) = ap number_of w in
    omega arith)

-- what holds of every word holds of the words of every part
segments_all : (P : ℕ → Type 0) (b : List ℕ) → AllByRecursion P b → AllByRecursion (AllByRecursion P) (segments b)
segments_all P [] a = tt
segments_all P (w ∷ b) (p, a) = let h = segments_all P b a in grind arith

spells_at : (xs : List ℕ) → AllByRecursion Spells xs → (i : ℕ) → Spells (get_or xs i 0)
spells_at xs a i = grind (arith, All-get_or, get_or_past)

pub spells : (ws vs : List ℕ) → Lawful ws → (meaning ws).atoms ≤ 256 → (k from to : ℕ) → Spans ws k from to → vs ≡ ws → (i : ℕ) → Spells (get_or (take (to - from) (drop from vs)) i 0)
spells [] vs law small k from to span e i = absurd (both_ways true law.0 refl)
spells (h ∷ b) vs law small k from to span e i =
    let all = segments_all Spells b (spells_body h b law small) in
    let m = length-map (segments b) rule_of in
    let part : AllByRecursion Spells (rule_words (h ∷ b) k) = All-get_or (AllByRecursion Spells) (segments b) k [] (let l = span.some in omega arith) all in
    subst (λ (xs : List ℕ). Spells (get_or xs i 0)) (span.words ∙ ap (λ (xs : List ℕ). take (to - from) (drop from xs)) (sym e)) (spells_at (rule_words (h ∷ b) k) part i)
