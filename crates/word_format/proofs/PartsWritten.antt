-- The words of a part of a rule from the list of its atoms.
use Rattle.std.proofs.Common.{◌≡◌, ℕ, zero, suc, Bool, true, false, cond, ◌&&◌, ltb, [], ◌∷◌, ◌++◌, map, refl, ap, ◌∙◌, ap₂}
use Rattle.std.proofs.lemmas.List.{map-append}
use Rattle.atoms.specs.Member.{has, members, members_below}
use Rattle.atoms.specs.Sets.{Atoms}
use Rattle.atoms.specs.declared.AtomSet.{AtomSet}
use Rattle.atoms.proofs.MembersListed.{members_cut}
use Rattle.word_format.specs.declared.word.Kind.{Kind}
use Rattle.word_format.specs.Writing.{word_of, words_of}

-- the words of a set are those of its list
words_listed : (k : Kind) (X : Atoms) (n : ℕ) → map (word_of k) (members_below X n) ≡ words_of k X n
unfolding members_below
words_listed k X zero = refl
words_listed k X (suc n) = map-append (word_of k) (members_below X n) (cond (X n) (n ∷ []) []) ∙ ap₂ ◌++◌ (words_listed k X n) (one (X n))
  where
    one : (b : Bool) → map (word_of k) (cond b (n ∷ []) []) ≡ cond b (word_of k n ∷ []) []
    one true = refl
    one false = refl

-- a word for each atom that is in the part and below n
pub part_words : (k : Kind) (s t : AtomSet) (n : ℕ) → ((i : ℕ) → has t i ≡ (has s i && (ltb i n && ltb i 256))) → map (word_of k) (members t) ≡ words_of k (has s) n
part_words k s t n e = ap (map (word_of k)) (members_cut s t n e) ∙ words_listed k (has s) n
