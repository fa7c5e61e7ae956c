-- The parts of a written program: one for each rule, each with its start.
use Rattle.std.proofs.Common.{◌≡◌, ℕ, zero, suc, ◌+◌, ◌*◌, ◌<◌, ◌≤◌, true, List, [], ◌∷◌, ◌++◌, map, length, get_or, sym, refl, ap, ◌∙◌, ap₂, append_assoc, add-one, arith}
use Rattle.std.specs.List.{flat_map, AllByRecursion}
use Rattle.std.proofs.lemmas.List.{length-append, length-map, get_or-map}
use Rattle.atoms.specs.Sets.{Atoms}
use Rattle.program.specs.Programs.{Rule, no_rule, rule_at, Program, Limited}
use Rattle.word_format.specs.declared.word.Kind.{Kind}
use Rattle.word_format.specs.declared.word.Kind.TheVariants.{Head, Need, Bar, End}
use Rattle.word_format.specs.Words.{is_end}
use Rattle.word_format.specs.Reading.{rule_of, segments, meaning}
use Rattle.word_format.specs.Writing.{word_of, words_of, write_rule, written}
use Rattle.word_format.specs.Index.{past_ends, starts, rule_words}
use Rattle.word_format.proofs.Numbers.{end_word, is_kind_word}
use Rattle.word_format.proofs.RuleWords.{parts, write_parts, parts_atoms}
use Rattle.word_format.proofs.Segments.{AtomWord, segments_cons}

words_few : (k : Kind) (X : Atoms) (n : ℕ) → length (words_of k X n) ≤ n
words_few k X zero = omega arith
words_few k X (suc n) = let h = words_few k X n in grind (arith, length-append)

pub rule_few : (n : ℕ) (r : Rule) → length (write_rule n r) ≤ 3 * n + 1
rule_few n r =
    let hs = words_of Head r.heads n in
    let ns = words_of Need r.needs n in
    let bs = words_of Bar r.bars n in
    let end = word_of End 0 ∷ [] in
    omega (arith, length-append hs (ns ++ (bs ++ end)), length-append ns (bs ++ end), length-append bs end, words_few Head r.heads n, words_few Need r.needs n, words_few Bar r.bars n)

module _ (n : ℕ) (small : n ≤ 256) where
  pub segments_written : (rs : List Rule) → segments (flat_map (write_rule n) rs) ≡ map (write_rule n) rs
  segments_written [] = refl
  segments_written (r ∷ rs) =
      ap (λ (x : List ℕ). segments (x ++ flat_map (write_rule n) rs)) (write_parts n r) ∙ ap segments (append_assoc (parts n r) (end_word ∷ []) (flat_map (write_rule n) rs))
      ∙ segments_cons n (parts n r) (flat_map (write_rule n) rs) (parts_atoms n r small) refl ∙ ap₂ (λ (x : List ℕ) (xs : List (List ℕ)). x ∷ xs) (sym (write_parts n r)) (segments_written rs)

  past_parts : (t rest : List ℕ) (i : ℕ) → AllByRecursion (AtomWord n) t → past_ends i (t ++ end_word ∷ rest) ≡ (i + (length t + 1)) ∷ past_ends (i + (length t + 1)) rest
  past_parts [] rest i a = refl
  past_parts (w ∷ t) rest i ((ew, lw), a) = let h = past_parts t rest (i + 1) a in grind arith

  past_rule : (r : Rule) (rs : List Rule) (i : ℕ) → past_ends i (flat_map (write_rule n) (r ∷ rs)) ≡ (i + length (write_rule n r)) ∷ past_ends (i + length (write_rule n r)) (flat_map (write_rule n) rs)
  past_rule r rs i =
      let long : length (parts n r) + 1 ≡ length (write_rule n r) = omega (arith, length-append (parts n r) (end_word ∷ []), ap length (write_parts n r)) in
      ap (λ (x : List ℕ). past_ends i (x ++ flat_map (write_rule n) rs)) (write_parts n r) ∙ ap (past_ends i) (append_assoc (parts n r) (end_word ∷ []) (flat_map (write_rule n) rs))
      ∙ past_parts (parts n r) (flat_map (write_rule n) rs) i (parts_atoms n r small) ∙ ap (λ (x : ℕ). (i + x) ∷ past_ends (i + x) (flat_map (write_rule n) rs)) long

  next_start : (rs : List Rule) (i k : ℕ) → k < length rs → get_or (past_ends i (flat_map (write_rule n) rs)) k 0 ≡ get_or (i ∷ past_ends i (flat_map (write_rule n) rs)) k 0 + length (write_rule n (rule_at rs k))
  next_start [] i k l = absurd (omega arith)
  next_start (r ∷ rs) i zero l = ap (λ (x : List ℕ). get_or x 0 0) (past_rule r rs i)
  next_start (r ∷ rs) i (suc k) l =
      let j = i + length (write_rule n r) in
      ap (λ (x : List ℕ). get_or x (suc k) 0) (past_rule r rs i) ∙ next_start rs j k (omega arith) ∙ ap (λ (x : List ℕ). get_or x k 0 + length (write_rule n (rule_at rs k))) (sym (past_rule r rs i))

-- rule by rule
module _ (P : Program) (limits : Limited P) where
  starts_written : starts (written P) ≡ 1 ∷ past_ends 1 (flat_map (write_rule P.atoms) P.rules)
  starts_written = let e : is_end (word_of End P.atoms) ≡ true = is_kind_word End End P.atoms (omega (arith, limits.0)) in rw e

  pub written_count : length (meaning (written P)).rules ≡ length P.rules
  written_count = length-map (segments (flat_map (write_rule P.atoms) P.rules)) rule_of ∙ ap length (segments_written P.atoms limits.0 P.rules) ∙ length-map P.rules (write_rule P.atoms)

  pub written_first : 1 ≡ get_or (starts (written P)) 0 0
  written_first = grind (arith, starts_written)

  pub written_next : (k : ℕ) → k < length P.rules → get_or (starts (written P)) k 0 + length (write_rule P.atoms (rule_at P.rules k)) ≡ get_or (starts (written P)) (k + 1) 0
  written_next k l =
      let body = flat_map (write_rule P.atoms) P.rules in
      ap (λ (x : List ℕ). get_or x k 0 + length (write_rule P.atoms (rule_at P.rules k))) starts_written ∙ sym (next_start P.atoms limits.0 P.rules 1 k l)
      ∙ ap (λ (j : ℕ). get_or (1 ∷ past_ends 1 body) j 0) (sym (add-one k)) ∙ ap (λ (x : List ℕ). get_or x (k + 1) 0) (sym starts_written)

  pub written_words : (k : ℕ) → k < length P.rules → write_rule P.atoms (rule_at P.rules k) ≡ rule_words (written P) k
  written_words k l = sym (ap (λ (x : List (List ℕ)). get_or x k []) (segments_written P.atoms limits.0 P.rules) ∙ get_or-map (write_rule P.atoms) P.rules k no_rule [] l)
