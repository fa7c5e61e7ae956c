-- What is said of the writing of a word program's meaning is said of the words that it holds.
use Rattle.std.proofs.Common.{◌≡◌, List, ℕ, drop, subst, ap, ◌∙◌}
use Rattle.program.specs.Meanings.{program}
use Rattle.word_format.specs.Held.{contents, program_of}
use Rattle.word_format.specs.Reading.{segments}
use Rattle.word_format.specs.declared.words.WordProgram.{WordProgram}
use Rattle.account.specs.Inspecting.{Accounted, written_words}
use Rattle.account.specs.Lines.{account_of}
use Rattle.account.specs.Tallies.{Counted}
use Rattle.account.specs.declared.report.Counts.{Counts}

pub word_counts : (p : WordProgram) (c : Counts) → Counted (segments (drop 1 (written_words (program (program_of p))))) c → Counted (segments (drop 1 (contents p))) c
word_counts p c = subst (λ (ws : List ℕ). Counted (segments (drop 1 ws)) c) p.as_written

pub word_account : (p : WordProgram) (text : List ℕ) → Accounted (program (program_of p)) text → text ≡ account_of (contents p)
word_account p text h = h ∙ ap account_of p.as_written
