-- The lock as a model: its value, the phase book that it shows, and its own steps.
use Rattle.std.specs.Prelude.{ℕ, ◌*◌, ◌%◌, ◌^◌, true, cond, List, take, replicate, Ok, Err, Result, nat_lt, slice_index_or, slice_set}
use Rattle.arrayvec.specs.ArrayVec.{array_vec_len}
use Rattle.phase.specs.Book.{Book, Answer, step, right_count}
use Rattle.phase.specs.Calls.{caller}
use Rattle.phase.specs.declared.faults.LockFault.{LockFault}
use Rattle.phase.specs.declared.kinds.LockCall.{LockCall}
use Rattle.pft_steps.specs.Steps.{four, nobody, next}
use Rattle.pft.specs.Sound.{seen}
use Rattle.pft_steps.specs.declared.party.Party.{Party}
use Rattle.pft_steps.specs.declared.steps.Change.{Change}
use Rattle.pft_steps.specs.declared.words.Four.{Four}
use Rattle.pft.specs.declared.lock.Pft.{Pft}

-- all that the lock holds: the number of parties, the four words, and what each party has of its own
pub record State : Type 0 where
  pub count : ℕ
  pub words : Four
  pub parties : List Party

-- the lock's value as a state
abbrev pub state : Pft → State
state l = record {
  count = array_vec_len l.parties;
  words = four l.words;
  parties = l.parties.items;
}

-- the phase book that a state shows
abbrev pub book_of : State → Book
book_of s = seen s.words.rin s.words.wout (take s.count s.parties)

-- the book that a lock keeps
abbrev pub book : Pft → Book
book l = book_of (state l)

-- what a call answers
abbrev pub answer : LockCall → State → Answer
answer c s = (step true c (book_of s)).answer

-- a change of one party and of the words, and nothing where the call was refused
abbrev pub applied : ℕ → State → Result Change LockFault → State
applied i s (Ok c) = record {
  count = s.count;
  words = c.words;
  parties = slice_set s.parties i c.party;
}
applied i s (Err f) = s

-- what the lock holds after a call
abbrev pub after : LockCall → State → State
after c s = cond (nat_lt (caller c) s.count) (applied (caller c) s (next c (slice_index_or s.parties (caller c) nobody) s.words)) s

-- a lock opened for n parties at a start count: win and wout are the count, rin and rout 256 times it, in 32
-- bits, and every party is away
abbrev pub opened : ℕ → ℕ → State
opened n start = record {
  count = n;
  words = record { rin = start * 256 % 2 ^ 32; rout = start * 256 % 2 ^ 32; win = start; wout = start };
  parties = replicate n nobody;
}

-- what the lock holds after an opening: nothing changes unless there are 1 to 32 parties
abbrev pub after_opening : ℕ → ℕ → State → State
after_opening n start s = cond (right_count n) (opened n start) s
