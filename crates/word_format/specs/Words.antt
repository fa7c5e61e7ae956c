-- A word is a number below 2 ^ 32: its top two bits are its kind, the other 30 its number.
use Rattle.std.specs.Prelude.{◌≡◌, ℕ, zero, suc, ◌/◌, ◌%◌, ◌^◌, Bool, true, false, ◌||◌, Ok, Err, Result, ◌==◌, nat_lt}
use Rattle.word_format.specs.declared.word.Kind.{Kind}
use Rattle.word_format.specs.declared.word.Kind.TheVariants.{Head, Need, Bar, End}
use Rattle.word_format.specs.declared.word.Token.{Token}
use Rattle.program.specs.declared.refusal.Refusal.{Refusal}
use Rattle.program.specs.declared.refusal.Refusal.TheVariants.{NoSuchAtom}

abbrev pub kind_numbered : ℕ → Kind
kind_numbered zero = Head
kind_numbered (suc zero) = Need
kind_numbered (suc (suc zero)) = Bar
kind_numbered (suc (suc (suc k))) = End

abbrev pub kind_of : ℕ → Kind
kind_of w = kind_numbered (w / 2 ^ 30)

abbrev pub number_of : ℕ → ℕ
number_of w = w % 2 ^ 30

-- the place of a kind among the kinds
abbrev pub rank : Kind → ℕ
rank Head = 0
rank Need = 1
rank Bar = 2
rank End = 3

-- whether a word is of this kind
abbrev pub is_kind : Kind → ℕ → Bool
is_kind k w = rank (kind_of w) == rank k

abbrev pub is_end : ℕ → Bool
is_end w = is_kind End w

-- a head, need or bar is numbered below 256
abbrev pub Splits : ℕ → Result Token Refusal → Type 0
Splits w (Ok t) = (t.kind ≡ kind_of w) × (t.number.0 ≡ number_of w) × ((is_end w || nat_lt (number_of w) 256) ≡ true)
Splits w (Err e) = (e ≡ NoSuchAtom) × ((is_end w || nat_lt (number_of w) 256) ≡ false)
