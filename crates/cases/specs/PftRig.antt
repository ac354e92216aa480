-- A rig over the phase-fair ticket lock: all that it holds, and what each call replies and makes of it.
use Rattle.std.specs.Prelude.{ℕ, true, cond, List, replicate, Result}
use Rattle.pft.specs.Model.{State, state, book_of, opened, after_opening}
use Rattle.pft.specs.Model as pft
use Rattle.pft.specs.declared.lock.Pft.{Pft}
use Rattle.till.specs.Holding.{Holding, holding, empty}
use Rattle.rig_parts.specs.View.{View, Call, does, passed_on, locks, look, fill, begin, drop, settle, opening}
use Rattle.rig_parts.specs.declared.faults.RigFault.{RigFault}
use Rattle.rig.specs.declared.rig.Rig.{Rig}
use Rattle.schedule.specs.declared.call.Call as schedule
use Rattle.dispatch.specs.Dispatch.{made, reply_to}
use Rattle.dispatch.specs.declared.reply.Reply.{Reply}

-- all that the rig holds: the four words and the parties of its lock, the party count, the told counts, the cells and
-- the payout
pub record Held : Type 0 where
  pub lock : State
  pub parties : ℕ
  pub told : List ℕ
  pub till : Holding

-- what the rig's value holds
abbrev pub held : Rig Pft → Held
held r = record { lock = state r.lock; parties = r.parties; told = r.told.counts; till = holding r.till }

-- what it shows
abbrev pub shown : Held → View
shown h = record { book = book_of h.lock; parties = h.parties; told = h.told; till = h.till }

-- a rig opened for n parties at a start count
abbrev pub fresh : ℕ → ℕ → Held
fresh n start = record { lock = opened n start; parties = n; told = replicate 32 0; till = empty }

-- the lock after a call of the rig: its own step where the call goes to it
abbrev pub lock_after : Call → Held → State
lock_after (locks call) h = cond (passed_on call (shown h)) (pft.after call h.lock) h.lock
lock_after (look p c) h = h.lock
lock_after (fill p c amount) h = h.lock
lock_after (begin p c coins) h = h.lock
lock_after (drop p) h = h.lock
lock_after (settle p) h = h.lock
lock_after (opening n start) h = after_opening n start h.lock

-- what a call replies
abbrev pub replies : schedule.Call → Held → Result Reply RigFault
replies c h = reply_to c (does true (made c) (shown h)).answer

-- what the rig holds after it
abbrev pub after : schedule.Call → Held → Held
after c h = record {
  lock = lock_after (made c) h;
  parties = (does true (made c) (shown h)).after.parties;
  told = (does true (made c) (shown h)).after.told;
  till = (does true (made c) (shown h)).after.till;
}
