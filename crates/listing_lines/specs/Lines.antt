-- The lines of a listing, byte by byte. Every line ends with the byte 10.
use Rattle.std.specs.Prelude.{ℕ, List, [], ◌∷◌, ◌++◌, take, Ok, Err, Result}
use Rattle.phase.specs.Letters.{code_of}
use Rattle.phase.specs.Numbers.{lock_number}
use Rattle.phase.specs.declared.kinds.Letter.{Letter}
use Rattle.phase.specs.declared.faults.LockFault.{LockFault}
use Rattle.schedule.specs.Numbers.{number_of, place_of}
use Rattle.schedule.specs.declared.faults.ScheduleFault.{ScheduleFault}
use Rattle.listing_lines.specs.Digits.{digits}
use Rattle.listing_lines.specs.declared.line.Line.{Line}

-- a refusal is an x and the number of its fault
abbrev pub refusal : ℕ → List ℕ
refusal number = 120 ∷ digits 2 10 number

-- what a word came to: its letter, or its refusal
abbrev pub outcome : Result Letter LockFault → List ℕ
outcome (Ok letter) = code_of letter ∷ []
outcome (Err fault) = refusal (lock_number fault)

-- a word: its place, the word itself and what it came to
abbrev pub line : ℕ → ℕ → Result Letter LockFault → List ℕ
line place word answer = digits 4 10 place ++ (32 ∷ digits 4 16 word ++ (32 ∷ outcome answer ++ (10 ∷ [])))

-- the four words of a lock, after the last word of a schedule
abbrev pub last_line : ℕ → ℕ → ℕ → ℕ → List ℕ
last_line rin rout win wout = digits 8 16 rin ++ (32 ∷ digits 8 16 rout ++ (32 ∷ digits 8 16 win ++ (32 ∷ digits 8 16 wout ++ (10 ∷ []))))

-- a schedule that is refused has one line: the refusal and its place
abbrev pub refusal_line : ScheduleFault → List ℕ
refusal_line fault = refusal (number_of fault) ++ (32 ∷ digits 4 10 (place_of fault) ++ (10 ∷ []))

-- the bytes of a line
abbrev pub text : Line → List ℕ
text l = take l.len l.bytes
