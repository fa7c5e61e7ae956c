use Rattle.std.proofs.Common.{ℕ, ◌-◌, ◌*◌, ◌/◌, ◌%◌, ◌^◌, ◌∙◌, ap₂}
use lib.Bits.{bit_or}
use Rattle.atoms.specs.Member.{bit}
use Rattle.atoms.proofs.Words.{shifted_word, whole}
use Rattle.atoms.proofs.AtomSet.shifted_word.Goals as goal

pub returns : goal.returns
returns c =
    let d = c.args.d in
    let s = c.args.self.now in
    record {
      at = λ k l.
          ap₂ (λ (x y : ℕ). bit (bit_or (x * 2 ^ (d % 64) % 2 ^ 64) (y / 2 / 2 ^ (63 - d % 64))) k) c.word_before.ensures c.word_before-2.ensures
          ∙ shifted_word s.words (whole s) d c.args.j k l;
    }
