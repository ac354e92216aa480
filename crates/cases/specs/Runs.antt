-- Lists of calls made one after another: on anything that takes calls, and on the phase-fair ticket lock.
use Rattle.std.specs.Prelude.{ℕ, List, [], ◌∷◌, Ok, Err, Result}
use Rattle.phase.specs.Book.{Answer}
use Rattle.phase.specs.Letters.{code_of}
use Rattle.phase.specs.declared.kinds.LockCall.{LockCall}
use Rattle.pft.specs.Model.{State, answer, after}

-- the code of what is accepted, and of x for a refusal
abbrev pub mark_by : {A F : Type 0} → (A → ℕ) → Result A F → ℕ
mark_by code (Ok a) = code a
mark_by code (Err f) = 120

-- the marks of the calls, from a state on, by the mark of a call in a state and the state after it
abbrev pub marks : {S C : Type 0} → (C → S → ℕ) → (C → S → S) → S → List C → List ℕ
marks mark_in next s [] = []
marks mark_in next s (c ∷ cs) = mark_in c s ∷ marks mark_in next (next c s) cs

-- the state after the calls
abbrev pub at_end : {S C : Type 0} → (C → S → S) → S → List C → S
at_end next s [] = s
at_end next s (c ∷ cs) = at_end next (next c s) cs

-- the code of the letter, and of x for a refusal
abbrev pub mark : Answer → ℕ
mark r = mark_by code_of r

-- what the calls answer, from a state on
abbrev pub letters : State → List LockCall → List ℕ
letters s cs = marks (λ c t. mark (answer c t)) after s cs

-- what the lock holds after them
abbrev pub ends : State → List LockCall → State
ends s cs = at_end after s cs
