-- What the bytes of a schedule say: its words, two bytes each, and the calls that they make or the refusal.
use Rattle.std.specs.Prelude.{ℕ, zero, suc, ◌+◌, ◌-◌, ◌*◌, ◌%◌, cond, List, [], ◌∷◌, length, Some, None, Ok, Err, Option, Result, ◌==◌, nat_lt, slice_index}
use Rattle.std.specs.List.{slice_get}
use Rattle.phase.specs.declared.kinds.LockCall.{LockCall}
use Rattle.schedule.specs.Word.{word_of, read_word}
use Rattle.schedule.specs.declared.faults.WordFault.{WordFault}
use Rattle.schedule.specs.declared.faults.ScheduleFault.{ScheduleFault}
use Rattle.schedule.specs.declared.faults.ScheduleFault.TheVariants.{TooLong, OddLength, Word}

-- the words of some bytes, two bytes a word
abbrev pub words_of : List ℕ → List ℕ
words_of [] = []
words_of (h ∷ []) = []
words_of (h ∷ l ∷ bs) = word_of h l ∷ words_of bs

-- what some bytes come to: the calls of their words, or a refusal
abbrev pub Calls : Type 0
Calls = Result (List LockCall) ScheduleFault

-- a word's call before those that follow, or its refusal before theirs
abbrev pub followed : ℕ → Result LockCall WordFault → Calls → Calls
followed place (Err f) rest = Err (Word place f)
followed place (Ok c) (Err f) = Err f
followed place (Ok c) (Ok cs) = Ok (c ∷ cs)

-- the calls of the words, the first of which has the given place
abbrev pub calls_from : ℕ → List ℕ → Calls
calls_from place [] = Ok []
calls_from place (h ∷ []) = Ok []
calls_from place (h ∷ l ∷ bs) = followed place (read_word h l) (calls_from (place + 1) bs)

-- a schedule is refused for its length first, and then for its first bad word
abbrev pub calls_of : List ℕ → Calls
calls_of bs = cond (nat_lt 8192 (length bs)) (Err TooLong) (cond (length bs % 2 == 0) (calls_from 1 bs) (Err OddLength))

-- the calls, of which a refused schedule has none
abbrev pub listed : Calls → List LockCall
listed (Ok cs) = cs
listed (Err f) = []

-- whether the calls stand, or why not
abbrev pub verdict : Calls → Result (Unit {0}) ScheduleFault
verdict (Ok cs) = Ok tt
verdict (Err f) = Err f

-- the same of a length
abbrev pub length_verdict : ℕ → Result (Unit {0}) ScheduleFault
length_verdict n = cond (nat_lt 8192 n) (Err TooLong) (cond (n % 2 == 0) (Ok tt) (Err OddLength))

-- the same of one word
abbrev pub word_verdict : ℕ → Result LockCall WordFault → Result (Unit {0}) ScheduleFault
word_verdict place (Ok c) = Ok tt
word_verdict place (Err f) = Err (Word place f)

-- what a list has at a place, counted from 1
abbrev pub at_place : {X : Type 0} → List X → ℕ → Option X
at_place xs zero = None
at_place xs (suc k) = slice_get xs k

-- the two bytes of the word at a place
abbrev pub pair_at : List ℕ → ℕ → Option (ℕ × ℕ)
pair_at bs place = cond (place == 0) None (cond (nat_lt (length bs) (2 * place)) None (Some (slice_index bs (2 * place - 2), slice_index bs (2 * place - 1))))

-- the word of two bytes, where there are two
abbrev pub pair_word : Option (ℕ × ℕ) → Option ℕ
pair_word None = None
pair_word (Some pair) = Some (word_of pair.0 pair.1)

-- the call of a word that is good
abbrev pub taken : Result LockCall WordFault → Option LockCall
taken (Ok c) = Some c
taken (Err f) = None

-- the call of two bytes, where there are two and they make one
abbrev pub pair_call : Option (ℕ × ℕ) → Option LockCall
pair_call None = None
pair_call (Some pair) = taken (read_word pair.0 pair.1)
