-- What is shown of a call stands for every value that equals it.
use Rattle.std.proofs.Common.{◌≡◌, Result, sym, subst}
use Rattle.phase.specs.declared.lock.Lock.{Ghosts}
use Rattle.rig_parts.specs.View.{Ans}
use Rattle.rig_parts.specs.declared.faults.RigFault.{RigFault}
use Rattle.rig.specs.Shown.{RigTakes, Owns}
use Rattle.rig.specs.declared.rig.Rig.{Rig}
use Rattle.schedule.specs.declared.call.Call.{Call}
use Rattle.dispatch.specs.Dispatch.{Dispatches, made, reply_to}
use Rattle.dispatch.specs.declared.reply.Reply.{Reply}

pub dispatches : {L : Type 0} {lock : Ghosts L} {before after : Rig L} {r : Result Reply RigFault} {call k : Call} → k ≡ call → (a : Ans (made call)) → RigTakes lock (made call) before a after → Owns lock (made call) before a after → r ≡ reply_to call a → Dispatches lock k before r after
dispatches {lock = lock} {before = before} {after = after} {r = r} e a t o q =
    subst (λ (x : Call). Dispatches lock x before r after) (sym e) (record { answer = a; takes = t; own = o; replied = q })
