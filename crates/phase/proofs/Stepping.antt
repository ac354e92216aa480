-- A step of the book as a call makes it: by the caller's standing, with its answer and the book after it.
use Rattle.std.proofs.Common.{◌≡◌, ℕ, ◌<◌, ◌≤◌, Bool, true, is_err, Ok, Err, sym, ap, ◌∙◌, arith}
use Rattle.std.proofs.lemmas.Bool.{cond-true, cond-false, lt-ltb, le-ltb}
use Rattle.phase.specs.Book.{Book, Out, Answer, Steps, step, standing, count, says, refuses, read_as, write_as, advance_as, leave_as}
use Rattle.phase.specs.Calls.{caller}
use Rattle.phase.specs.declared.faults.LockFault.TheVariants.{Unfit}
use Rattle.phase.specs.declared.kinds.Letter.{Letter}
use Rattle.phase.specs.declared.kinds.Standing.{Standing}
use Rattle.phase.specs.declared.kinds.LockCall.{LockCall}
use Rattle.phase.specs.declared.kinds.LockCall.TheVariants.{RequestRead, RequestWrite, Advance, Leave}

-- a lock that answers and moves so makes the step
pub says_so : (two : Bool) (c : LockCall) (b b' : Book) (l : Letter) → step two c b ≡ says l b' → Steps two c b (Ok l) b'
says_so two c b b' l e = record { answered = sym (ap (λ (o : Out). o.answer) e); moved = sym (ap (λ (o : Out). o.after) e) }

-- there is only one fault
only_unfit : (r : Answer) → is_err r ≡ true → r ≡ Err Unfit
only_unfit r e = grind arith

pub refuses_so : (two : Bool) (c : LockCall) (b : Book) (r : Answer) → is_err r ≡ true → step two c b ≡ refuses b → Steps two c b r b
refuses_so two c b r f e = record { answered = only_unfit r f ∙ sym (ap (λ (o : Out). o.answer) e); moved = sym (ap (λ (o : Out). o.after) e) }

-- a call of a party that the book does not have
pub past_refused : (two : Bool) (c : LockCall) (b : Book) → count b ≤ caller c → step two c b ≡ refuses b
past_refused two (RequestRead p) b h = cond-false _ _ _ (le-ltb p (count b) h)
past_refused two (RequestWrite p) b h = cond-false _ _ _ (le-ltb p (count b) h)
past_refused two (Advance p) b h = cond-false _ _ _ (le-ltb p (count b) h)
past_refused two (Leave p) b h = cond-false _ _ _ (le-ltb p (count b) h)

-- and of one that it has goes by the caller's standing
module _ (two : Bool) (b : Book) (p : ℕ) (s : Standing) (here : p < count b) (is : standing b p ≡ s) where
  pub reads_by : step two (RequestRead p) b ≡ read_as s p b
  reads_by = cond-true _ _ _ (lt-ltb p (count b) here) ∙ ap (λ (t : Standing). read_as t p b) is

  pub writes_by : step two (RequestWrite p) b ≡ write_as s p b
  writes_by = cond-true _ _ _ (lt-ltb p (count b) here) ∙ ap (λ (t : Standing). write_as t p b) is

  pub advances_by : step two (Advance p) b ≡ advance_as s p b
  advances_by = cond-true _ _ _ (lt-ltb p (count b) here) ∙ ap (λ (t : Standing). advance_as t p b) is

  pub leaves_by : step two (Leave p) b ≡ leave_as two s p b
  leaves_by = cond-true _ _ _ (lt-ltb p (count b) here) ∙ ap (λ (t : Standing). leave_as two t p b) is
