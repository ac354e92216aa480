-- What a schedule that was read holds.
use Rattle.std.specs.Prelude.{◌≡◌, ℕ, List, Ok, Err, Result}
use Rattle.phase.specs.declared.kinds.LockCall.{LockCall}
use Rattle.schedule.specs.Schedule.{words_of, calls_of, listed}
use Rattle.schedule.specs.declared.faults.ScheduleFault.{ScheduleFault}
use Rattle.schedule.specs.declared.view.Schedule.{Schedule}

-- the words of a schedule
abbrev pub words : Schedule → List ℕ
words s = words_of s.bytes.now

-- the calls of a schedule, one a word
abbrev pub calls : Schedule → List LockCall
calls s = listed (calls_of s.bytes.now)

-- the bytes are read as the schedule that they hold, or refused as they are to be
abbrev pub Read : List ℕ → Result Schedule ScheduleFault → Type 0
Read bs (Ok schedule) = (Ok (calls schedule) ≡ calls_of bs) × (words schedule ≡ words_of bs)
Read bs (Err fault) = Err fault ≡ calls_of bs
