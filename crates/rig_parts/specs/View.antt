-- What a rig shows, the calls of a rig, and what each call answers and makes of it.
use Rattle.std.specs.Prelude.{◌≡◌, ℕ, Bool, false, cond, not, ◌&&◌, List, replicate, Ok, Err, Result, nat_lt, slice_index, slice_set}
use Rattle.phase.specs.Book.{Book, Out, Answer, Opened, step, standing, right_count, new}
use Rattle.phase.specs.Calls.{caller}
use Rattle.phase.specs.Standings.{is_inside, is_writing, is_waiting, is_entry}
use Rattle.phase.specs.declared.kinds.Letter.{Letter}
use Rattle.phase.specs.declared.kinds.Standing.{Standing}
use Rattle.phase.specs.declared.kinds.Standing.TheVariants as S
use Rattle.phase.specs.declared.kinds.LockCall.{LockCall}
use Rattle.phase.specs.declared.kinds.LockCall.TheVariants.{RequestRead, RequestWrite, Advance, Leave}
use Rattle.phase.specs.declared.faults.LockFault.TheVariants.{Unfit}
use Rattle.phase.specs.declared.faults.OpenFault.TheVariants.{Count}
use Rattle.till.specs.Cells.{is_open}
use Rattle.till.specs.Holding.{Holding, TillOut, empty, looked, filled, begun_as, coin_dropped, settled}
use Rattle.till.specs.declared.faults.TillFault.{TillFault}
use Rattle.rig_parts.specs.Told.{told_at_entry}
use Rattle.rig_parts.specs.declared.faults.RigFault.{RigFault}
use Rattle.rig_parts.specs.declared.faults.RigFault.TheVariants.{NoParty, OfLock, Paying, OfTill}
use Rattle.rig_parts.specs.declared.record.Record.{Record}

-- what a rig shows: the phase book of its lock, the party count, each party's told count, the cells and the payout
pub record View : Type 0 where
  pub book : Book
  pub parties : ℕ
  pub told : List ℕ
  pub till : Holding

-- a rig just opened for n parties; for 0 parties it is one that was never opened
abbrev pub opened : ℕ → View
opened n = record { book = new n; parties = n; told = replicate 32 0; till = empty }

-- a call of a rig with its numbers: p is the party that calls, c a cell; an opening has the party count and the start
-- count
pub data Call : Type 0 where
  -- the four calls that go to the lock
  locks : LockCall → Call
  look : (p c : ℕ) → Call
  fill : (p c amount : ℕ) → Call
  begin : (p c coins : ℕ) → Call
  drop : (p : ℕ) → Call
  settle : (p : ℕ) → Call
  opening : (n start : ℕ) → Call

-- what a call answers
abbrev pub Ans : Call → Type 0
Ans (locks call) = Result Letter RigFault
Ans (look p c) = Result ℕ RigFault
Ans (fill p c amount) = Result ℕ RigFault
Ans (begin p c coins) = Result (Unit {0}) RigFault
Ans (drop p) = Result ℕ RigFault
Ans (settle p) = Result (ℕ × ℕ) RigFault
Ans (opening n start) = Opened

-- what a call comes to: its answer, and what the rig shows after it
pub record Got (T : Type 0) : Type 0 where
  pub answer : T
  pub after : View

-- the lock's fault is carried whole
abbrev pub from_lock : Answer → Result Letter RigFault
from_lock (Ok letter) = Ok letter
from_lock (Err fault) = Err (OfLock fault)

-- and so is that of the cells or of the payout
abbrev pub from_till : {T : Type 0} → Result T TillFault → Result T RigFault
from_till (Ok x) = Ok x
from_till (Err fault) = Err (OfTill fault)

-- refused by the rig, with nothing changed
abbrev pub refused : {T : Type 0} → RigFault → View → Got (Result T RigFault)
refused fault v = record { answer = Err fault; after = v }

-- a call of a party that the rig does not have is refused
abbrev pub among : {T : Type 0} → ℕ → View → Got (Result T RigFault) → Got (Result T RigFault)
among p v go = cond (nat_lt p v.parties) go (refused NoParty v)

-- the told counts after a call that the lock has accepted, by its letter and the book after it: a request, by which
-- nobody enters, begins the count anew, and an entry is noted
abbrev pub retold : LockCall → Letter → Book → List ℕ → List ℕ
retold (RequestRead p) letter b ts = slice_set ts p 0
retold (RequestWrite p) letter b ts = slice_set ts p 0
retold (Advance p) letter b ts = cond (is_entry letter) (told_at_entry b p ts) ts
retold (Leave p) letter b ts = ts

-- the told counts after a call of the lock; a refusal changes nothing
abbrev pub told_after : LockCall → Answer → Book → List ℕ → List ℕ
told_after call (Ok letter) b ts = retold call letter b ts
told_after call (Err fault) b ts = ts

-- a leave from inside while a payout is open
abbrev pub stopped : LockCall → View → Bool
stopped (RequestRead p) v = false
stopped (RequestWrite p) v = false
stopped (Advance p) v = false
stopped (Leave p) v = is_open v.till.payout && is_inside (standing v.book p)

-- whether a call goes to the lock
abbrev pub passed_on : LockCall → View → Bool
passed_on call v = nat_lt (caller call) v.parties && not (stopped call v)

-- what a step of the lock, by what it comes to, makes of a rig
abbrev pub stepped : LockCall → Out → View → Got (Result Letter RigFault)
stepped call out v = record {
  answer = from_lock out.answer;
  after = record {
    book = out.after;
    parties = v.parties;
    told = told_after call out.answer out.after v.told;
    till = v.till;
  };
}

-- a call that goes to the lock, unless the party is not there or leaves while a payout is open
abbrev pub lock_does : Bool → LockCall → View → Got (Result Letter RigFault)
lock_does two call v = among (caller call) v (cond (stopped call v) (refused Paying v) (stepped call (step two call v.book) v))

-- a call that does not go to the lock: the party's standing must fit
abbrev pub when : {T : Type 0} → (Standing → Bool) → ℕ → View → Got (Result T RigFault) → Got (Result T RigFault)
when fit p v go = among p v (cond (fit (standing v.book p)) go (refused (OfLock Unfit) v))

-- what a call of the cells or of the payout makes of a rig
abbrev pub in_till : {T : Type 0} → View → TillOut (Result T TillFault) → Got (Result T RigFault)
in_till v out = record {
  answer = from_till out.answer;
  after = record { book = v.book; parties = v.parties; told = v.told; till = out.after };
}

-- an opening for 1 to 32 parties begins anew in every part; another one changes nothing
abbrev pub open_does : ℕ → View → Got Opened
open_does n v = cond (right_count n) (record { answer = Ok tt; after = opened n }) (record { answer = Err Count; after = v })

-- what each call comes to
abbrev pub does : Bool → (c : Call) → View → Got (Ans c)
does two (locks call) v = lock_does two call v
does two (look p c) v = when is_inside p v (in_till v (looked c v.till))
does two (fill p c amount) v = when is_writing p v (in_till v (filled c amount v.till))
does two (begin p c coins) v = when is_writing p v (in_till v (begun_as p c coins tt v.till))
does two (drop p) v = when is_writing p v (in_till v (coin_dropped v.till))
does two (settle p) v = when is_writing p v (in_till v (settled v.till))
does two (opening n start) v = open_does n v

-- The step of a rig: from what it shows before the call, over a lock whose writers leave in two steps or in one, to
-- its answer and what it shows after the call.
pub record Takes (two : Bool) (call : Call) (before : View) (r : Ans call) (after : View) : Type 0 where
  pub answered : r ≡ (does two call before).answer
  pub moved : after ≡ (does two call before).after

-- what is on record of a party: its standing, and its told count while it waits; away and 0 for one that is not there
abbrev pub recorded : ℕ → View → Record
recorded p v =
    cond (nat_lt p v.parties)
    (record { standing = standing v.book p; told = cond (is_waiting (standing v.book p)) (slice_index v.told p) 0 })
    (record { standing = S.Away; told = 0 })
