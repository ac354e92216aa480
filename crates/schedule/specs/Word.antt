-- A word of a schedule: 4 bits of action, 5 of party and 7 that must be 0, the most significant first.
use Rattle.std.specs.Prelude.{ℕ, ◌+◌, ◌*◌, ◌/◌, ◌%◌, cond, Some, None, Ok, Err, Option, Result, ◌==◌}
use Rattle.phase.specs.declared.kinds.LockCall.{LockCall}
use Rattle.phase.specs.declared.kinds.LockCall.TheVariants.{RequestRead, RequestWrite, Advance, Leave}
use Rattle.schedule.specs.declared.faults.WordFault.{WordFault}
use Rattle.schedule.specs.declared.faults.WordFault.TheVariants.{Action, Unused}

-- a word of two bytes, the high one first
abbrev pub word_of : ℕ → ℕ → ℕ
word_of high low = high * 256 + low

-- the call of an action's number and a party
abbrev pub action_call : ℕ → ℕ → Option LockCall
action_call a p = cond (a == 0) (Some (RequestRead p)) (cond (a == 1) (Some (RequestWrite p)) (cond (a == 2) (Some (Advance p)) (cond (a == 3) (Some (Leave p)) None)))

-- a call stands where the bits below the party are 0
abbrev pub checked : Option LockCall → ℕ → Result LockCall WordFault
checked None rest = Err Action
checked (Some call) rest = cond (rest == 0) (Ok call) (Err Unused)

-- the call of a word, by its two bytes: the action is above the party, and that above the rest
abbrev pub read_word : ℕ → ℕ → Result LockCall WordFault
read_word high low = checked (action_call (high / 16) (high % 16 * 2 + low / 128)) (low % 128)
