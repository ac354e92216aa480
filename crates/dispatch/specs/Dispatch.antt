-- A call, given as a value, made on a rig: which call of the rig it is, and what it replies.
use Rattle.std.specs.Prelude.{◌≡◌, ℕ, Ok, Err, Result}
use Rattle.phase.specs.declared.lock.Lock.{Ghosts}
use Rattle.phase.specs.declared.kinds.LockCall.TheVariants as K
use Rattle.rig_parts.specs.View.{Ans, locks, look, fill, begin, drop, settle}
use Rattle.rig_parts.specs.View as rig
use Rattle.rig_parts.specs.declared.faults.RigFault.{RigFault}
use Rattle.rig.specs.Shown.{RigTakes, Owns}
use Rattle.rig.specs.declared.rig.Rig.{Rig}
use Rattle.schedule.specs.declared.call.Call.{Call}
use Rattle.schedule.specs.declared.call.Call.TheVariants.{RequestRead, RequestWrite, Advance, Leave, Look, Fill, Begin, Drop, Settle}
use Rattle.dispatch.specs.declared.reply.Reply.{Reply}
use Rattle.dispatch.specs.declared.reply.Reply.TheVariants.{Stepped, Looked, Filled, Begun, Dropped, Settled}

-- the rig's call that it makes
abbrev pub made : Call → rig.Call
made (RequestRead p) = locks (K.RequestRead p)
made (RequestWrite p) = locks (K.RequestWrite p)
made (Advance p) = locks (K.Advance p)
made (Leave p) = locks (K.Leave p)
made (Look p c) = look p c
made (Fill p c amount) = fill p c amount
made (Begin p c coins) = begin p c coins
made (Drop p) = drop p
made (Settle p) = settle p

-- an accepted answer in its reply; a refusal is passed up as it is
abbrev pub within : {T : Type 0} → (T → Reply) → Result T RigFault → Result Reply RigFault
within f (Ok x) = Ok (f x)
within f (Err fault) = Err fault

-- the pair of coins dropped and coins left
abbrev pub paid_out : ℕ × ℕ → Reply
paid_out pair = Settled pair.0 pair.1

-- the reply to a call, by the rig's answer
abbrev pub reply_to : (c : Call) → Ans (made c) → Result Reply RigFault
reply_to (RequestRead p) a = within Stepped a
reply_to (RequestWrite p) a = within Stepped a
reply_to (Advance p) a = within Stepped a
reply_to (Leave p) a = within Stepped a
reply_to (Look p c) a = within Looked a
reply_to (Fill p c amount) a = within Filled a
reply_to (Begin p c coins) a = within (λ _. Begun) a
reply_to (Drop p) a = within Dropped a
reply_to (Settle p) a = within paid_out a

-- the rig takes the call with an answer that is replied, and its lock is as that call and that answer have it
pub record Dispatches {L : Type 0} (lock : Ghosts L) (call : Call) (before : Rig L) (r : Result Reply RigFault) (after : Rig L) : Type 0 where
  pub answer : Ans (made call)
  pub takes : RigTakes lock (made call) before answer after
  pub own : Owns lock (made call) before answer after
  pub replied : r ≡ reply_to call answer
