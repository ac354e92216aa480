-- The phase book, which is what a lock means: where each party stands, and the line of writers. Its step
-- says what each call answers and what it makes of the book.
use Rattle.std.specs.Prelude.{◌≡◌, ℕ, Bool, true, false, cond, ◌&&◌, ◌||◌, List, [], ◌∷◌, ◌++◌, map, length, replicate, Ok, Err, Result, ◌==◌, nat_le, nat_lt, slice_index_or, slice_set}
use Rattle.phase.specs.declared.kinds.Standing.{Standing}
use Rattle.phase.specs.declared.kinds.Standing.TheVariants as S
use Rattle.phase.specs.declared.kinds.Letter.{Letter}
use Rattle.phase.specs.declared.kinds.Letter.TheVariants as L
use Rattle.phase.specs.declared.faults.LockFault.{LockFault}
use Rattle.phase.specs.declared.faults.LockFault.TheVariants.{Unfit}
use Rattle.phase.specs.declared.faults.OpenFault.{OpenFault}
use Rattle.phase.specs.declared.faults.OpenFault.TheVariants.{Count}
use Rattle.phase.specs.declared.kinds.LockCall.{LockCall}
use Rattle.phase.specs.declared.kinds.LockCall.TheVariants.{RequestRead, RequestWrite, Advance, Leave}

-- the standing of each party, by its number, and the writers in order of request
pub record Book : Type 0 where
  pub standings : List Standing
  pub line : List ℕ

-- what a call answers: a letter, or that it is refused
abbrev pub Answer : Type 0
Answer = Result Letter LockFault

-- the number of parties
abbrev pub count : Book → ℕ
count b = length b.standings

-- a party's standing, away for a party that the book does not have
abbrev pub standing : Book → ℕ → Standing
standing b p = slice_index_or b.standings p S.Away

-- a new book of n parties
abbrev pub new : ℕ → Book
new n = record { standings = replicate n S.Away; line = [] }

-- a writer that holds off a reader's request: posted or inside writing
abbrev pub bars : Standing → Bool
bars S.Away = false
bars S.HeldOff = false
bars S.Cleared = false
bars S.Reading = false
bars S.InLine = false
bars S.Called = false
bars S.Posted = true
bars S.Writing = true
bars S.GoingOut = false

-- a reader that keeps a posted writer out: cleared or inside reading
abbrev pub near : Standing → Bool
near S.Away = false
near S.HeldOff = false
near S.Cleared = true
near S.Reading = true
near S.InLine = false
near S.Called = false
near S.Posted = false
near S.Writing = false
near S.GoingOut = false

-- some standing of the list is such
abbrev pub some : (Standing → Bool) → List Standing → Bool
some f [] = false
some f (s ∷ ss) = f s || some f ss

-- a reader held off becomes cleared, and nobody else changes
abbrev pub freed : Standing → Standing
freed S.Away = S.Away
freed S.HeldOff = S.Cleared
freed S.Cleared = S.Cleared
freed S.Reading = S.Reading
freed S.InLine = S.InLine
freed S.Called = S.Called
freed S.Posted = S.Posted
freed S.Writing = S.Writing
freed S.GoingOut = S.GoingOut

-- every reader held off becomes cleared
abbrev pub free_all : List Standing → List Standing
free_all ss = map freed ss

-- the party is first in the line
abbrev pub leads : List ℕ → ℕ → Bool
leads [] p = false
leads (q ∷ _) p = q == p

-- the line without a party
abbrev pub without : ℕ → List ℕ → List ℕ
without p [] = []
without p (q ∷ l) = cond (q == p) (without p l) (q ∷ without p l)

-- the book with one party at another standing
abbrev pub put : Book → ℕ → Standing → Book
put b p s = record { standings = slice_set b.standings p s; line = b.line }

-- what a call comes to: its answer, and the book after it
pub record Out : Type 0 where
  pub answer : Answer
  pub after : Book

-- accepted, with a letter
abbrev pub says : Letter → Book → Out
says l b = record { answer = Ok l; after = b }

-- refused, and the book is as it was
abbrev pub refuses : Book → Out
refuses b = record { answer = Err Unfit; after = b }

-- a request to read, by the party's standing
abbrev pub read_as : Standing → ℕ → Book → Out
read_as S.Away p b = cond (some bars b.standings) (says L.Held (put b p S.HeldOff)) (says L.Cleared (put b p S.Cleared))
read_as S.HeldOff p b = refuses b
read_as S.Cleared p b = refuses b
read_as S.Reading p b = refuses b
read_as S.InLine p b = refuses b
read_as S.Called p b = refuses b
read_as S.Posted p b = refuses b
read_as S.Writing p b = refuses b
read_as S.GoingOut p b = refuses b

-- the party is in line, at the end
abbrev pub queue : Book → ℕ → Book
queue b p = record { standings = slice_set b.standings p S.InLine; line = b.line ++ (p ∷ []) }

-- a request to write, by the party's standing
abbrev pub write_as : Standing → ℕ → Book → Out
write_as S.Away p b = says L.Queued (queue b p)
write_as S.HeldOff p b = refuses b
write_as S.Cleared p b = refuses b
write_as S.Reading p b = refuses b
write_as S.InLine p b = refuses b
write_as S.Called p b = refuses b
write_as S.Posted p b = refuses b
write_as S.Writing p b = refuses b
write_as S.GoingOut p b = refuses b

-- the party is away and off the line
abbrev pub gone : Book → ℕ → Book
gone b p = record { standings = slice_set b.standings p S.Away; line = without p b.line }

-- an advance, by the party's standing
abbrev pub advance_as : Standing → ℕ → Book → Out
advance_as S.Away p b = refuses b
advance_as S.HeldOff p b = says L.Waits b
advance_as S.Cleared p b = says L.Entered (put b p S.Reading)
advance_as S.Reading p b = refuses b
advance_as S.InLine p b = cond (leads b.line p) (says L.Called (put b p S.Called)) (says L.Waits b)
advance_as S.Called p b = says L.Posted (put b p S.Posted)
advance_as S.Posted p b = cond (some near b.standings) (says L.Waits b) (says L.Entered (put b p S.Writing))
advance_as S.Writing p b = refuses b
advance_as S.GoingOut p b = says L.Gone (gone b p)

-- the book with every reader held off cleared
abbrev pub freeing : Book → Book
freeing b = record { standings = free_all b.standings; line = b.line }

-- a leave, by the party's standing, under a lock whose writers leave in two steps or in one
abbrev pub leave_as : Bool → Standing → ℕ → Book → Out
leave_as two S.Away p b = refuses b
leave_as two S.HeldOff p b = refuses b
leave_as two S.Cleared p b = refuses b
leave_as two S.Reading p b = says L.Away (put b p S.Away)
leave_as two S.InLine p b = refuses b
leave_as two S.Called p b = refuses b
leave_as two S.Posted p b = refuses b
leave_as two S.Writing p b = cond two (says L.Out (put (freeing b) p S.GoingOut)) (says L.Away (gone (freeing b) p))
leave_as two S.GoingOut p b = refuses b

-- a call of a party that the book does not have is refused
abbrev pub within : Book → ℕ → Out → Out
within b p o = cond (nat_lt p (count b)) o (refuses b)

-- what each call comes to
abbrev pub step : Bool → LockCall → Book → Out
step two (RequestRead p) b = within b p (read_as (standing b p) p b)
step two (RequestWrite p) b = within b p (write_as (standing b p) p b)
step two (Advance p) b = within b p (advance_as (standing b p) p b)
step two (Leave p) b = within b p (leave_as two (standing b p) p b)

-- the lock answers and moves as the book says
pub record Steps (two : Bool) (call : LockCall) (before : Book) (r : Answer) (after : Book) : Type 0 where
  pub answered : r ≡ (step two call before).answer
  pub moved : after ≡ (step two call before).after

-- what an opening answers
abbrev pub Opened : Type 0
Opened = Result (Unit {0}) OpenFault

-- 1 to 32 parties
abbrev pub right_count : ℕ → Bool
right_count n = nat_lt 0 n && nat_le n 32

-- opening gives a new book, or is refused with nothing changed exactly when the count is 0 or above 32
pub record Opening (n : ℕ) (before : Book) (r : Opened) (after : Book) : Type 0 where
  pub answered : r ≡ cond (right_count n) (Ok tt) (Err Count)
  pub moved : after ≡ cond (right_count n) (new n) before
