-- The index of rule starts.
use Rattle.std.proofs.Common.{◌≡◌, ℕ, zero, suc, ◌+◌, ◌-◌, ◌<◌, ◌≤◌, Bool, true, false, cond, List, [], ◌∷◌, length, get_or, map, take, drop, vec_items, sym, refl, ap, ◌∙◌, subst, add-one, arith}
use Rattle.std.specs.List.{filter, enumerate_from}
use Rattle.std.proofs.lemmas.List.{length-map, get_or_read}
use Rattle.std.proofs.lemmas.Bool.{both_ways}
use Rattle.word_format.specs.declared.words.WordProgram.{WordProgram}
use Rattle.word_format.specs.Held.{contents, program_of}
use Rattle.word_format.specs.Words.{is_end}
use Rattle.word_format.specs.Checks.{ends, Lawful}
use Rattle.word_format.specs.Reading.{onto, segments, rule_of, meaning}
use Rattle.word_format.specs.Index.{past_ends, starts, rule_words, Spans}
use Rattle.word_format.proofs.Segments.{count_segments}
use Rattle.word_format.proofs.Law.{body_closed, header_end}

-- the index by the numbered words
past_numbered : (i : ℕ) (ws : List ℕ) → past_ends i ws ≡ map (λ (p : ℕ × ℕ). p.0 + 1) (filter (λ (p : ℕ × ℕ). is_end p.1) (enumerate_from i ws))
past_numbered i [] = refl
past_numbered i (w ∷ ws) = let h = past_numbered (i + 1) ws in grind arith

pub starts_lem : (ws : List ℕ) → starts ws ≡ map (λ (p : ℕ × ℕ). p.0 + 1) (filter (λ (p : ℕ × ℕ). is_end p.1) (enumerate_from 0 ws))
starts_lem ws = past_numbered 0 ws

pub past_count : (i : ℕ) (b : List ℕ) → length (past_ends i b) ≡ ends b
past_count i [] = refl
past_count i (w ∷ b) = let h = past_count (i + 1) b in grind arith

-- Part k of b, of the parts ss, lies between two positions, where b begins at position i.
abbrev pub Span : ℕ → List ℕ → List (List ℕ) → ℕ → ℕ → ℕ → Type 0
Span i b ss k from to = (i ≤ from) × (from ≤ to) × (to ≤ i + length b) × (get_or ss k [] ≡ take (to - from) (drop (from - i) b))

-- one word further on
span_later : (i w : ℕ) (b : List ℕ) (ss rs : List (List ℕ)) (j k from to : ℕ) → get_or rs k [] ≡ get_or ss j [] → Span (i + 1) b ss j from to → Span i (w ∷ b) rs k from to
span_later i w b ss rs j k from to e (low, order, high, words) =
    let d : from - i ≡ suc (from - (i + 1)) = omega arith in
    (omega arith, order, omega arith, e ∙ words ∙ ap (λ (x : ℕ). take (to - from) (drop x (w ∷ b))) (sym d))

span_first : (i w : ℕ) (b s : List ℕ) (ss : List (List ℕ)) (to : ℕ) → Span (i + 1) b (s ∷ ss) 0 (i + 1) to → Span i (w ∷ b) ((w ∷ s) ∷ ss) 0 i to
span_first i w b s ss to (low, order, high, words) =
    let d : i - i ≡ 0 = omega arith in
    let q : i + 1 - (i + 1) ≡ 0 = omega arith in
    let t : to - i ≡ suc (to - (i + 1)) = omega arith in
    let h : s ≡ take (to - (i + 1)) b = rw q at words in
    (omega arith, omega arith, omega arith, rw (d, t) (ap (λ (x : List ℕ). w ∷ x) h))

pub span : (i : ℕ) (b : List ℕ) (k : ℕ) → k < length (segments b) → Span i b (segments b) k (get_or (i ∷ past_ends i b) k 0) (get_or (past_ends i b) k 0)
span i [] k l = absurd (omega arith)
span i (w ∷ b) k l = go (is_end w) (segments b) k l (λ j m. span (i + 1) b j m)
  where
    go : (t : Bool) (ss : List (List ℕ)) (k : ℕ) → k < length (cond t ((w ∷ []) ∷ ss) (onto w ss)) → ((j : ℕ) → j < length ss → Span (i + 1) b ss j (get_or ((i + 1) ∷ past_ends (i + 1) b) j 0) (get_or (past_ends (i + 1) b) j 0))
        → Span i (w ∷ b) (cond t ((w ∷ []) ∷ ss) (onto w ss)) k (get_or (i ∷ cond t ((i + 1) ∷ past_ends (i + 1) b) (past_ends (i + 1) b)) k 0) (get_or (cond t ((i + 1) ∷ past_ends (i + 1) b) (past_ends (i + 1) b)) k 0)
    go true ss zero l h = let d : i - i ≡ 0 = omega arith in let o : i + 1 - i ≡ 1 = omega arith in (omega arith, omega arith, omega arith, rw (d, o))
    go true ss (suc k) l h = span_later i w b ss ((w ∷ []) ∷ ss) k (suc k) (get_or ((i + 1) ∷ past_ends (i + 1) b) k 0) (get_or (past_ends (i + 1) b) k 0) refl (h k (omega arith))
    go false [] k l h = absurd (omega arith)
    go false (s ∷ ss) zero l h = span_first i w b s ss (get_or (past_ends (i + 1) b) 0 0) (h 0 (omega arith))
    go false (s ∷ ss) (suc k) l h = span_later i w b (s ∷ ss) ((w ∷ s) ∷ ss) (suc k) (suc k) (get_or (past_ends (i + 1) b) k 0) (get_or (past_ends (i + 1) b) (suc k) 0) refl (h (suc k) (omega arith))

-- What the index of lawful words tells.
pub count_starts : (ws : List ℕ) → Lawful ws → length (starts ws) ≡ length (meaning ws).rules + 1
count_starts [] law = absurd (both_ways true law.0 refl)
count_starts (h ∷ b) law =
    let e = header_end h b law in
    let m = length-map (segments b) rule_of in
    let c = count_segments b h (body_closed h b law) in
    let d = past_count 0 (h ∷ b) in
    let one : ◌≡◌ {A = ℕ} (cond (is_end h) 1 0) 1 = rw e in
    omega arith

rule_span : (ws : List ℕ) → Lawful ws → (k : ℕ) → k < length (meaning ws).rules → Spans ws k (get_or (starts ws) k 0) (get_or (starts ws) (k + 1) 0)
rule_span [] law k l = absurd (both_ways true law.0 refl)
rule_span (h ∷ b) law k l =
    let m = length-map (segments b) rule_of in
    let s = span 1 b k (omega arith) in
    let from = get_or (1 ∷ past_ends 1 b) k 0 in
    let to = get_or (past_ends 1 b) k 0 in
    let st : starts (h ∷ b) ≡ 1 ∷ past_ends 1 b = rw (header_end h b law) in
    let d : from ≡ suc (from - 1) = omega (arith, s.0) in
    let words : rule_words (h ∷ b) k ≡ take (to - from) (drop from (h ∷ b)) = s.3 ∙ ap (λ (x : ℕ). take (to - from) (drop x (h ∷ b))) (sym d) in
    let at : Spans (h ∷ b) k from to = record { some = l; start = ap (λ (x : List ℕ). get_or x k 0) (sym st); order = s.1; high = omega (arith, s.2); words = words } in
    subst (λ (x : ℕ). Spans (h ∷ b) k x (get_or (starts (h ∷ b)) (k + 1) 0)) (ap (λ (x : List ℕ). get_or x k 0) (sym st))
    (subst (Spans (h ∷ b) k from) (ap (λ (x : List ℕ). get_or x (suc k) 0) (sym st) ∙ ap (λ (x : ℕ). get_or (starts (h ∷ b)) x 0) (sym (add-one k))) at)

-- the index that a word program holds
pub begins_count : (p : WordProgram) → p.begins.len ≡ length (program_of p).rules + 1
begins_count p = omega (arith, count_starts (contents p) p.lawful, ap length p.indexed, p.begins.ok.0)

-- and what it tells at k and at k + 1
pub spans : (p : WordProgram) (k from to : ℕ) → k < length (program_of p).rules → from ≡ get_or (vec_items p.begins) k from → to ≡ get_or (vec_items p.begins) (k + 1) to → Spans (contents p) k from to
spans p k from to l f t =
    let ws = contents p in
    let bs = vec_items p.begins in
    let c = begins_count p in
    let n = p.begins.ok.0 in
    let f' : from ≡ get_or (starts ws) k 0 = get_or_read bs k from (omega arith) f 0 ∙ ap (λ (x : List ℕ). get_or x k 0) p.indexed in
    let t' : to ≡ get_or (starts ws) (k + 1) 0 = get_or_read bs (k + 1) to (omega arith) t 0 ∙ ap (λ (x : List ℕ). get_or x (k + 1) 0) p.indexed in
    subst (λ (x : ℕ). Spans ws k x to) (sym f') (subst (Spans ws k (get_or (starts ws) k 0)) (sym t') (rule_span ws p.lawful k l))
