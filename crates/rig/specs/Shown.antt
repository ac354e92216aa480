-- What a rig shows, and what happens to its lock.
use Rattle.std.specs.Prelude.{◌≡◌, true, false, Ok, Err, Result}
use Rattle.phase.specs.Book.{Book, Answer}
use Rattle.phase.specs.declared.kinds.Letter.{Letter}
use Rattle.phase.specs.declared.lock.Lock.{Ghosts}
use Rattle.phase.specs.declared.faults.LockFault.TheVariants.{Unfit}
use Rattle.till.specs.Holding.{holding}
use Rattle.rig_parts.specs.View.{View, Call, Ans, Takes, passed_on, locks, look, fill, begin, drop, settle, opening}
use Rattle.rig_parts.specs.declared.faults.RigFault.{RigFault}
use Rattle.rig_parts.specs.declared.faults.RigFault.TheVariants.{NoParty, OfLock, Paying, OfTill}
use Rattle.rig.specs.declared.rig.Rig.{Rig}

-- what a rig shows, over a lock that keeps the given book
abbrev pub view : {L : Type 0} → (L → Book) → Rig L → View
view book r = record { book = book r.lock; parties = r.parties; told = r.told.counts; till = holding r.till }

-- the lock's answer inside the rig's; where a call went to the lock no fault but the lock's comes, and what stands at the
-- others does not matter
abbrev pub of_lock : Result Letter RigFault → Answer
of_lock (Ok letter) = Ok letter
of_lock (Err (OfLock fault)) = Err fault
of_lock (Err NoParty) = Err Unfit
of_lock (Err Paying) = Err Unfit
of_lock (Err (OfTill fault)) = Err Unfit

-- The step of a rig over a lock: from what the rig shows before the call to its answer and what it shows after it.
abbrev pub RigTakes : {L : Type 0} → Ghosts L → (c : Call) → Rig L → Ans c → Rig L → Type 0
RigTakes lock call before r after = Takes lock.TWO_STEP call (view lock.book before) r (view lock.book after)

-- What happens to the lock of a rig by a call that the rig answers with r: where the call goes to the lock, it is the
-- lock's own step or opening with that answer; where not, the lock is as it was.
abbrev pub Owns : {L : Type 0} → Ghosts L → (c : Call) → Rig L → Ans c → Rig L → Type 0
Owns lock (locks call) before r after = elim (passed_on call (view lock.book before)) [
  | true ↦ lock.moved before.lock call (of_lock r) after.lock
  | false ↦ after.lock ≡ before.lock
]
Owns lock (look p c) before r after = after.lock ≡ before.lock
Owns lock (fill p c amount) before r after = after.lock ≡ before.lock
Owns lock (begin p c coins) before r after = after.lock ≡ before.lock
Owns lock (drop p) before r after = after.lock ≡ before.lock
Owns lock (settle p) before r after = after.lock ≡ before.lock
Owns lock (opening n start) before r after = lock.began before.lock n start r after.lock
