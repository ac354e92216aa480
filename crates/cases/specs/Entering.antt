-- A request to write and three advances, over any lock.
use Rattle.std.specs.Prelude.{◌≡◌, ℕ, Bool, List, [], ◌∷◌, Result}
use Rattle.phase.specs.declared.kinds.Letter.{Letter}
use Rattle.phase.specs.declared.kinds.LockCall.TheVariants.{RequestWrite, Advance}
use Rattle.rig_parts.specs.View.{View, Call, does, locks}
use Rattle.rig_parts.specs.declared.faults.RigFault.{RigFault}
use Rattle.cases.specs.RigRuns.{shows_after}

-- the calls before the last
abbrev pub leading_up : ℕ → List Call
leading_up p = locks (RequestWrite p) ∷ locks (Advance p) ∷ locks (Advance p) ∷ []

-- the answer, and what the rig shows, are those of the last advance, after the calls before it
pub record Entered (two : Bool) (p : ℕ) (before : View) (r : Result Letter RigFault) (after : View) : Type 0 where
  pub answered : r ≡ (does two (locks (Advance p)) (shows_after two before (leading_up p))).answer
  pub moved : after ≡ (does two (locks (Advance p)) (shows_after two before (leading_up p))).after
