-- Lists that grow at the end.
use Rattle.std.proofs.Common.{◌≡◌, ℕ, List, ◌++◌, ap, ◌∙◌, append_assoc}

-- pushes, one after the other
pub pushed_three : (t u v w a b c : List ℕ) → u ≡ t ++ a → v ≡ u ++ b → w ≡ v ++ c → w ≡ t ++ (a ++ (b ++ c))
pushed_three t u v w a b c p q r = r ∙ ap (λ (x : List ℕ). x ++ c) (q ∙ ap (λ (x : List ℕ). x ++ b) p) ∙ simp append_assoc

pub pushed_four : (t u v w x a b c d : List ℕ) → u ≡ t ++ a → v ≡ u ++ b → w ≡ v ++ c → x ≡ w ++ d → x ≡ t ++ (a ++ (b ++ (c ++ d)))
pushed_four t u v w x a b c d p q r s = s ∙ ap (λ (y : List ℕ). y ++ d) (pushed_three t u v w a b c p q r) ∙ simp append_assoc
