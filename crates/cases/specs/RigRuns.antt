-- Lists of calls made one after another on a rig.
use Rattle.std.specs.Prelude.{ℕ, Bool, List, Result}
use Rattle.rig_parts.specs.View.{View, does}
use Rattle.rig_parts.specs.View as rig
use Rattle.rig_parts.specs.declared.faults.RigFault.{RigFault}
use Rattle.schedule.specs.declared.call.Call.{Call}
use Rattle.dispatch.specs.Replies.{code_of_reply}
use Rattle.dispatch.specs.declared.reply.Reply.{Reply}
use Rattle.cases.specs.PftRig.{Held, replies, after}
use Rattle.cases.specs.Runs.{mark_by, marks, at_end}

-- the code of a reply's letter, and of x for a refusal
abbrev pub mark_of : Result Reply RigFault → ℕ
mark_of r = mark_by code_of_reply r

-- what the calls answer on a rig over the phase-fair ticket lock
abbrev pub replied : Held → List Call → List ℕ
replied h cs = marks (λ c g. mark_of (replies c g)) after h cs

-- what that rig holds after them
abbrev pub held_at_end : Held → List Call → Held
held_at_end h cs = at_end after h cs

-- what a rig over any lock shows after some of its calls
abbrev pub shows_after : Bool → View → List rig.Call → View
shows_after two v cs = at_end (λ c w. (does two c w).after) v cs
