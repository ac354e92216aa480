-- What a call comes to, from what the lock decides on by its caller's standing.
use Rattle.std.specs.Prelude.{ℕ, Ok, Err, Result}
use Rattle.phase.specs.Book.{Book, Out, says, refuses, put}
use Rattle.phase.specs.declared.kinds.Standing.{Standing}
use Rattle.phase.specs.declared.kinds.Letter.{Letter}
use Rattle.phase.specs.declared.faults.LockFault.{LockFault}

-- the caller's next standing and the letter, or a refusal
abbrev pub Turned : Type 0
Turned = Result (Standing × Letter) LockFault

-- the caller comes to its next standing, and that is all
abbrev pub puts : Turned → ℕ → Book → Out
puts (Ok t) p b = says t.1 (put b p t.0)
puts (Err _) p b = refuses b
