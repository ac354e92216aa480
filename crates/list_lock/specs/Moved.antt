-- What a call and an opening make of the lock's value.
use Rattle.std.specs.Prelude.{◌≡◌, ℕ, true, false, is_err, Ok}
use Rattle.phase.specs.Book.{Book, Answer, Opened, step, new}
use Rattle.phase.specs.declared.kinds.LockCall.{LockCall}
use Rattle.list_lock.specs.Shown.{shown}
use Rattle.list_lock.specs.declared.lock.ListLock.{ListLock}

-- the book that the lock keeps
abbrev pub book_of : ListLock → Book
book_of l = shown l.standings l.line

-- a refused call changes nothing, and every call makes the book's step
pub record Moved (s : ListLock) (c : LockCall) (r : Answer) (t : ListLock) : Type 0 where
  pub refused : is_err r ≡ true → t ≡ s
  pub shows : book_of t ≡ (step false c (book_of s)).after

-- a refused opening changes nothing; an accepted one leaves a new book, whatever the lock was
pub record Began (s : ListLock) (n : ℕ) (r : Opened) (t : ListLock) : Type 0 where
  pub refused : is_err r ≡ true → t ≡ s
  pub shows : r ≡ Ok tt → book_of t ≡ new n

-- a lock that was never opened shows a book of no parties
abbrev pub Bare : ListLock → Type 0
Bare l = book_of l ≡ new 0

-- two locks with the same data
pub record Same (s t : ListLock) : Type 0 where
  pub standings : s.standings ≡ t.standings
  pub line : s.line ≡ t.line

-- one value of the lock shows a book, so that what the book is says what the lock holds
abbrev pub OneValue : Type 0
OneValue = (s t : ListLock) → book_of s ≡ book_of t → Same s t
