-- The bytes of a listing, and what listing does with the caller's space.
use Rattle.std.specs.Prelude.{◌≡◌, ℕ, ◌+◌, ◌-◌, cond, List, [], ◌∷◌, ◌++◌, length, take, drop, Ok, Err, Result, nat_lt, slice_index, slice_index_or}
use Rattle.phase.specs.declared.kinds.LockCall.{LockCall}
use Rattle.phase.specs.declared.kinds.LockCall.TheVariants.{RequestRead}
use Rattle.pft.specs.Model.{State, opened, answer, after}
use Rattle.schedule.specs.Schedule.{Calls, words_of, calls_of}
use Rattle.schedule.specs.View.{words, calls}
use Rattle.schedule.specs.declared.view.Schedule.{Schedule}
use Rattle.listing_lines.specs.Lines.{line, last_line, refusal_line}
use Rattle.listing_lines.specs.declared.faults.ListingFault.{ListingFault}
use Rattle.listing_lines.specs.declared.faults.ListingFault.TheVariants.{Space, OfSchedule}

-- the last line: the four words
abbrev pub last : State → List ℕ
last s = last_line s.words.rin s.words.rout s.words.win s.words.wout

-- a line for each word, the first of which has the given place, and the last line: each call is made on the lock
-- as the calls before it left it
abbrev pub lines_from : ℕ → State → List ℕ → List LockCall → List ℕ
lines_from place s [] [] = last s
lines_from place s [] (c ∷ cs) = last s
lines_from place s (w ∷ ws) [] = last s
lines_from place s (w ∷ ws) (c ∷ cs) = line place w (answer c s) ++ lines_from (place + 1) (after c s) ws cs

-- the call of the word at a place, counted from 1
abbrev pub call_at : Schedule → ℕ → LockCall
call_at schedule place = slice_index_or (calls schedule) (place - 1) (RequestRead 0)

-- the line of the word at a place, on a lock in a state
unfoldable pub line_at : Schedule → ℕ → State → List ℕ
line_at schedule place s = line place (slice_index (words schedule) (place - 1)) (answer (call_at schedule place) s)

-- the listing of a schedule: on a lock for 32 parties, opened at count 0
abbrev pub listing : List ℕ → List LockCall → List ℕ
listing words calls = lines_from 1 (opened 32 0) words calls

-- refused as the schedule is, or else the listing's bytes
abbrev pub text_from : List ℕ → Calls → Result (List ℕ) ListingFault
text_from words (Ok calls) = Ok (listing words calls)
text_from words (Err fault) = Err (OfSchedule fault)

-- the bytes of the longest listing: 4,096 lines of refused words, 14 bytes each, and the last line's 36
abbrev pub longest : ℕ
longest = 57380

-- refused for its space before all else
abbrev pub text_of : List ℕ → ℕ → Result (List ℕ) ListingFault
text_of input room = cond (nat_lt room longest) (Err Space) (text_from (words_of input) (calls_of input))

-- a listing that is refused leaves the space as it was; else the text stands at its start, and the rest of the
-- space stays as it was
abbrev pub Written : Result (List ℕ) ListingFault → List ℕ → Result ℕ ListingFault → List ℕ → Type 0
Written (Ok text) before r space = (r ≡ Ok (length text)) × (space ≡ text ++ drop (length text) before)
Written (Err fault) before r space = (r ≡ Err fault) × (space ≡ before)

-- what listing does with some space
abbrev pub Listed : List ℕ → List ℕ → Result ℕ ListingFault → List ℕ → Type 0
Listed input before r space = Written (text_of input (length before)) before r space

-- what the program prints: a schedule that is refused has one line
abbrev pub print_from : Result (List ℕ) ListingFault → Result (List ℕ) ListingFault
print_from (Ok text) = Ok text
print_from (Err Space) = Err Space
print_from (Err (OfSchedule fault)) = Ok (refusal_line fault)

-- what printing does with some space
abbrev pub Printed : List ℕ → List ℕ → Result ℕ ListingFault → List ℕ → Type 0
Printed input before r space = Written (print_from (text_of input (length before))) before r space

-- the first n bytes of an input give the text of the whole
abbrev pub Suffices : ℕ → Type 0
Suffices n = (input : List ℕ) (room : ℕ) → text_of (take n input) room ≡ text_of input room
