use Rattle.std.proofs.Common.{◌+◌, ◌*◌, sym, ap, ◌∙◌}
use lib.Count.{count_trailing_zeros}
use Rattle.atoms.proofs.Words.{lowest_at, whole}
use Rattle.atoms.proofs.AtomSet.lowest.Goals as goal

pub returns : goal.returns
returns c =
    let s = c.args.self.now in
    let k = c.in_ok-k.k in
    let word = c.in_ok-k.ensures.1 in
    lowest_at s.words (whole s) k (λ zero. c.in_ok-k.ensures.2 (sym word ∙ zero)) c.in_ok-k.ensures.3 (64 * k + c.low_digit.result)
    (ap (λ n. 64 * k + n) (c.low_digit.ensures.value ∙ ap (count_trailing_zeros 64) (sym word)))
