-- The book that the lock's data show, and what the lock keeps true of them.
use Rattle.std.specs.Prelude.{◌≡◌, ℕ, Bool, true, false}
use Rattle.arrayvec.specs.ArrayVec.{ArrayVec}
use Rattle.phase.specs.Book.{Book, standing}
use Rattle.phase.specs.declared.kinds.Standing.{Standing}
use Rattle.phase.specs.declared.kinds.Standing.TheVariants as S

-- the standings and the line, as they are
abbrev pub shown : ArrayVec Standing → ArrayVec ℕ → Book
shown standings line = record { standings = standings.items; line = line.items }

-- a writer that is going out
abbrev pub is_out : Standing → Bool
is_out S.Away = false
is_out S.HeldOff = false
is_out S.Cleared = false
is_out S.Reading = false
is_out S.InLine = false
is_out S.Called = false
is_out S.Posted = false
is_out S.Writing = false
is_out S.GoingOut = true

-- no writer is going out, as in every one-step lock
abbrev pub NobodyOut : Book → Type 0
NobodyOut b = (q : ℕ) → is_out (standing b q) ≡ false
