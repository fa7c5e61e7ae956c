-- Steps as arguments: each is `--offset D` or `--select BOX FIRST LAST`.
use Rattle.std.specs.Prelude.{◌≡◌, ℕ, ◌+◌, ◌-◌, ◌^◌, ◌<◌, ◌≤◌, min, ◌⊎◌, List, [], ◌∷◌, ◌++◌, length, Option, Some, None, Ok, Err, vec_items, codes, decimal, Result, Vec, ◌≢◌, slice_index, slice_index_or}
use Rattle.std.specs.Str.Parse.{ParsesUnsigned}
use Rattle.std.specs.declared.alloc.Global.{Global}
use Rattle.program.specs.Refusals.{refused_text}
use Rattle.program.specs.Selectors.{selector_fault}
use Rattle.program.specs.declared.refusal.Refusal.{Refusal}
use Rattle.program.specs.declared.refusal.Refusal.TheVariants as refusal
use Rattle.pile.specs.declared.arguments.ArgumentFault.{ArgumentFault}
use Rattle.pile.specs.declared.arguments.ArgumentFault.TheVariants.{Unknown, Incomplete, NoNumber, Refused, OutOfMemory}
use Rattle.pile.specs.declared.step.Step.{Step}
use Rattle.pile.specs.declared.step.Step.TheVariants.{Offset, Select}

-- the text at place i
abbrev pub text_at : List (List ℕ) → ℕ → List ℕ
text_at args i = slice_index_or args i []

-- t writes n in decimal, a plus may stand first, and n is below 2 ^ 64
abbrev pub IsNumber : List ℕ → ℕ → Type 0
IsNumber t n = ParsesUnsigned {E = Unit {0}} 64 10 t (Ok n)

-- t writes no such number
abbrev pub IsNoNumber : List ℕ → Type 0
IsNoNumber t = ParsesUnsigned {E = Unit {0}} 64 10 t (Err tt)

-- at place i stands an option with all its arguments
abbrev pub OffsetAt : List (List ℕ) → ℕ → Type 0
OffsetAt args i = (text_at args i ≡ codes "--offset") × (i + 1 < length args)

abbrev pub SelectAt : List (List ℕ) → ℕ → Type 0
SelectAt args i = (text_at args i ≡ codes "--select") × (i + 3 < length args)

-- the three texts after place i write these numbers
abbrev pub NumbersAt : List (List ℕ) → ℕ → ℕ → ℕ → ℕ → Type 0
NumbersAt args i b f l = IsNumber (text_at args (i + 1)) b × IsNumber (text_at args (i + 2)) f × IsNumber (text_at args (i + 3)) l

-- the step that stands at place i
abbrev pub StepAt : List (List ℕ) → ℕ → Step → Type 0
StepAt args i (Offset d) = OffsetAt args i × IsNumber (text_at args (i + 1)) d
StepAt args i (Select s) = SelectAt args i × NumbersAt args i s.box_atom s.first s.last

-- how many arguments a step takes
abbrev pub width : Step → ℕ
width (Offset d) = 2
width (Select s) = 4

-- the arguments from place i up to place j ask for these steps
abbrev pub Asks : List (List ℕ) → ℕ → List Step → ℕ → Type 0
Asks args i [] j = i ≡ j
Asks args i (s ∷ ss) j = StepAt args i s × Asks args (i + width s) ss j

-- p is the first place after i whose text writes no number
abbrev pub FirstWrong : List (List ℕ) → ℕ → ℕ → Type 0
FirstWrong args i p = (i < p) × IsNoNumber (text_at args p) × ((q : ℕ) → i < q → q < p → (n : ℕ) × IsNumber (text_at args q) n)

-- the fault at place i, where a step should stand
abbrev pub FaultAt : List (List ℕ) → ℕ → ArgumentFault → Type 0
FaultAt args i (Unknown p) =
    (p ≡ i) × (i < length args) × (text_at args i ≢ codes "--offset") × (text_at args i ≢ codes "--select")
FaultAt args i (Incomplete p) =
    (p ≡ i) × (i < length args)
    × (((text_at args i ≡ codes "--offset") × (length args ≤ i + 1)) ⊎ ((text_at args i ≡ codes "--select") × (length args ≤ i + 3)))
FaultAt args i (NoNumber p) = ((OffsetAt args i × (p ≤ i + 1)) ⊎ (SelectAt args i × (p ≤ i + 3))) × FirstWrong args i p
FaultAt args i (Refused p e) =
    (p ≡ i) × SelectAt args i × ((b : ℕ) × (f : ℕ) × (l : ℕ) × NumbersAt args i b f l × (selector_fault b f l ≡ Some e))
-- memory may be wanting at any place
FaultAt args i OutOfMemory = Unit {0}

-- what is read of the step at place i, where the reading ends at place j
abbrev pub ReadsStep : List (List ℕ) → ℕ → ℕ → Result Step ArgumentFault → Type 0
ReadsStep args i j (Ok s) = StepAt args i s × (j ≡ i + width s)
ReadsStep args i j (Err f) = FaultAt args i f

-- the same, or no step where no argument is left
abbrev pub ReadsNext : List (List ℕ) → ℕ → ℕ → Result (Option Step) ArgumentFault → Type 0
ReadsNext args i j (Ok None) = (i ≡ length args) × (j ≡ i)
ReadsNext args i j (Ok (Some s)) = ReadsStep args i j (Ok s)
ReadsNext args i j (Err f) = FaultAt args i f

-- the first n of these numbers stand after the option at place i
pub record NumbersAfter (args : List (List ℕ)) (i n : ℕ) (ns : List ℕ) : Type 0 where
  pub each : (k : ℕ) → k < n → IsNumber (text_at args (i + 1 + k)) (slice_index ns k)

-- why no n numbers stand after the option at place i
abbrev pub LacksNumbers : List (List ℕ) → ℕ → ℕ → ArgumentFault → Type 0
LacksNumbers args i n (Unknown p) = ⊥
LacksNumbers args i n (Incomplete p) = (p ≡ i) × (length args ≤ i + n)
LacksNumbers args i n (NoNumber p) = (i + n < length args) × (p ≤ i + n) × FirstWrong args i p
LacksNumbers args i n (Refused p e) = ⊥
LacksNumbers args i n OutOfMemory = ⊥

-- what is made of the three numbers after the option at place i
abbrev pub Selects : ℕ → ℕ → ℕ → ℕ → Result Step ArgumentFault → Type 0
Selects i b f l (Ok (Offset d)) = ⊥
Selects i b f l (Ok (Select s)) = (s.box_atom ≡ b) × (s.first ≡ f) × (s.last ≡ l)
Selects i b f l (Err (Unknown p)) = ⊥
Selects i b f l (Err (Incomplete p)) = ⊥
Selects i b f l (Err (NoNumber p)) = ⊥
Selects i b f l (Err (Refused p e)) = (p ≡ i) × (selector_fault b f l ≡ Some e)
Selects i b f l (Err OutOfMemory) = ⊥

-- what is read of all arguments: the steps, or the fault after the steps before it
abbrev pub ReadsSteps : List (List ℕ) → Result (Vec Step Global) ArgumentFault → Type 0
ReadsSteps args (Ok v) = Asks args 0 (vec_items v) (length args)
ReadsSteps args (Err f) = (ss : List Step) × (i : ℕ) × Asks args 0 ss i × FaultAt args i f

-- why a selector is refused, after the number
abbrev pub reason_text : Refusal → List ℕ
reason_text refusal.BadHeader = []
reason_text refusal.TooManyAtoms = []
reason_text refusal.NoSuchAtom = []
reason_text refusal.OutOfOrder = []
reason_text refusal.BadEnd = []
reason_text refusal.Unfinished = []
reason_text refusal.TooManyRules = []
reason_text refusal.TooLong = []
reason_text refusal.Overfull = []
reason_text refusal.PartialWord = []
reason_text refusal.AtomTooHigh = codes ", an atom above 255"
reason_text refusal.BadOutlets = codes ", the first outlet above the last or more than 32 outlets"
reason_text refusal.BoxAmongOutlets = codes ", the box among its outlets"
reason_text refusal.OutOfMemory = []

-- what is said of a fault
abbrev pub words_text : ArgumentFault → List ℕ
words_text (Unknown i) = codes "neither --offset nor --select"
words_text (Incomplete i) = codes "--offset wants one number, --select wants three"
words_text (NoNumber i) = codes "not a number below 2^64"
words_text (Refused i e) = reason_text e
words_text OutOfMemory = codes "out of memory"

-- as `argument 3: ` with t after it; the first argument is 1, and the last place that is told is 2 ^ 64 - 1
abbrev pub placed : ℕ → List ℕ → List ℕ
placed i t = codes "argument " ++ (decimal (min (i + 1) (2 ^ 64 - 1)) ++ (codes ": " ++ t))

-- what is printed of a fault
abbrev pub fault_text : ArgumentFault → List ℕ
fault_text (Unknown i) = placed i (words_text (Unknown i))
fault_text (Incomplete i) = placed i (words_text (Incomplete i))
fault_text (NoNumber i) = placed i (words_text (NoNumber i))
fault_text (Refused i e) = placed i (refused_text e ++ words_text (Refused i e))
fault_text OutOfMemory = words_text OutOfMemory
