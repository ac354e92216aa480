-- The number of each refusal of a schedule, its layer and the place that it names.
use Rattle.std.specs.Prelude.{ℕ}
use Rattle.phase.specs.declared.faults.Layer.{Layer}
use Rattle.phase.specs.declared.faults.Layer.TheVariants as layer
use Rattle.schedule.specs.declared.faults.WordFault.{WordFault}
use Rattle.schedule.specs.declared.faults.WordFault.TheVariants.{Action, Unused}
use Rattle.schedule.specs.declared.faults.ScheduleFault.{ScheduleFault}
use Rattle.schedule.specs.declared.faults.ScheduleFault.TheVariants.{TooLong, OddLength, Word}

-- no such action: 43; a bit that must be 0 is not: 44
abbrev pub word_number : WordFault → ℕ
word_number Action = 43
word_number Unused = 44

-- a word is refused by its schedule
abbrev pub word_layer : WordFault → Layer
word_layer fault = layer.Schedule

-- too long: 41; of odd length: 42
abbrev pub number_of : ScheduleFault → ℕ
number_of TooLong = 41
number_of OddLength = 42
number_of (Word place fault) = word_number fault

-- every refusal is the schedule's
abbrev pub layer_of : ScheduleFault → Layer
layer_of fault = layer.Schedule

-- the place of the word at fault, and 0 where the fault is of no one word
abbrev pub place_of : ScheduleFault → ℕ
place_of TooLong = 0
place_of OddLength = 0
place_of (Word place fault) = place
