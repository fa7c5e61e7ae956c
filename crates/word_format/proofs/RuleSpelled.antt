-- The rule that words spell, word by word.
use Rattle.std.proofs.Common.{◌≡◌, ℕ, ◌+◌, ◌<◌, ◌&&◌, ◌||◌, eqb, List, [], ◌∷◌, ◌++◌, length, get_or, take, ap, arith}
use mathlib.Core.Bool.{or-false}
use Rattle.std.proofs.lemmas.List.{take_more}
use Rattle.std.proofs.lemmas.Bool.Decides.{nat_tests}
use Rattle.atoms.specs.Member.{has}
use Rattle.atoms.specs.Sets.{Atoms}
use Rattle.program.specs.Programs.{Rule}
use Rattle.program.specs.Rules.{as_rule}
use Rattle.program.specs.declared.rule.Rule.{Rule as RuleValue}
use Rattle.program.proofs.Held.{same_rule}
use Rattle.word_format.specs.declared.word.Kind.{Kind}
use Rattle.word_format.specs.declared.word.Kind.TheVariants.{Head, Need, Bar}
use Rattle.word_format.specs.Words.{number_of, is_kind}
use Rattle.word_format.specs.Reading.{holds, rule_of}

holds_push : (k : Kind) (ws : List ℕ) (w i : ℕ) → holds k (ws ++ w ∷ []) i ≡ (holds k ws i || (is_kind k w && eqb (number_of w) i))
holds_push k [] w i = or-false (is_kind k w && eqb (number_of w) i)
holds_push k (x ∷ ws) w i = let h = holds_push k ws w i in grind arith

-- one word more
module _ (ws : List ℕ) (j : ℕ) (l : j < length ws) where
  holds_more : (k : Kind) (X Y : Atoms) → ((i : ℕ) → X i ≡ holds k (take j ws) i) → ((i : ℕ) → Y i ≡ ((is_kind k (get_or ws j 0) && eqb i (number_of (get_or ws j 0))) || X i)) → (i : ℕ) → Y i ≡ holds k (take (j + 1) ws) i
  holds_more k X Y x y i = let h = holds_push k (take j ws) (get_or ws j 0) i in grind (arith, nat_tests, take_more)

  pub rule_more : (r s : RuleValue) → as_rule r ≡ rule_of (take j ws)
      → ((i : ℕ) → has s.heads i ≡ ((is_kind Head (get_or ws j 0) && eqb i (number_of (get_or ws j 0))) || has r.heads i))
      → ((i : ℕ) → has s.needs i ≡ ((is_kind Need (get_or ws j 0) && eqb i (number_of (get_or ws j 0))) || has r.needs i))
      → ((i : ℕ) → has s.bars i ≡ ((is_kind Bar (get_or ws j 0) && eqb i (number_of (get_or ws j 0))) || has r.bars i))
      → as_rule s ≡ rule_of (take (j + 1) ws)
  rule_more r s e h n b =
      same_rule (as_rule s) (rule_of (take (j + 1) ws)) (holds_more Head (has r.heads) (has s.heads) (λ i. ap (λ (x : Rule). x.heads i) e) h)
      (holds_more Need (has r.needs) (has s.needs) (λ i. ap (λ (x : Rule). x.needs i) e) n)
      (holds_more Bar (has r.bars) (has s.bars) (λ i. ap (λ (x : Rule). x.bars i) e) b)
