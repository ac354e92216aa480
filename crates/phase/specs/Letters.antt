-- How a letter is written.
use Rattle.std.specs.Prelude.{ℕ}
use Rattle.phase.specs.declared.kinds.Letter.{Letter}
use Rattle.phase.specs.declared.kinds.Letter.TheVariants as L

-- the code of the character: c h q k n p w g a o
abbrev pub code_of : Letter → ℕ
code_of L.Cleared = 99
code_of L.Held = 104
code_of L.Queued = 113
code_of L.Called = 107
code_of L.Entered = 110
code_of L.Posted = 112
code_of L.Waits = 119
code_of L.Gone = 103
code_of L.Away = 97
code_of L.Out = 111
