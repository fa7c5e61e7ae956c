use Rattle.std.proofs.Common.{◌≡◌, length, ◌/◌, map, w32, ◌∙◌, arith, rules}
use Rattle.std.proofs.iter.runs.Made.{chains}
use Rattle.std.specs.Int.{from_be_bytes}
use Rattle.std.specs.Simd.{first_chunks}
use Rattle.word_format.proofs.Fours.{words_of_fours, whole_words}
use Rattle.word_format.proofs.bytes.words_from_bytes.Goals as goal

pub returns : goal.returns
returns c =
    let bs = c.args.bytes.now in
    let words : c.in_ok-words.words.items ≡ map (from_be_bytes w32) (first_chunks 4 (length bs / 4) bs) = search (rules, chains) in
    (whole_words bs (omega arith) (grind arith), words ∙ words_of_fours bs)
