-- Worked examples of cells, payouts and told counts, over any lock: two says whether its writers leave in two steps.
use Rattle.std.specs.Prelude.{◌≡◌, Bool, true, false, [], ◌∷◌, Ok, Err}
use Rattle.phase.specs.declared.kinds.Standing.TheVariants as S
use Rattle.phase.specs.declared.kinds.Letter.TheVariants as L
use Rattle.phase.specs.declared.kinds.LockCall.TheVariants.{RequestRead, RequestWrite, Advance, Leave}
use Rattle.till.specs.Holding.{held_in}
use Rattle.till.specs.declared.faults.TillFault.TheVariants.{PastLimit, TooFew, NoneLeft}
use Rattle.rig_parts.specs.Numbers.{rig_number}
use Rattle.rig_parts.specs.View.{View, opened, does, recorded, locks, fill, begin, drop, settle}
use Rattle.rig_parts.specs.declared.faults.RigFault.TheVariants.{Paying, OfTill}
use Rattle.cases.specs.RigRuns.{shows_after}

-- a rig for two parties on which party 0 is inside writing
abbrev pub writing : Bool → View
writing two = shows_after two (opened 2) (locks (RequestWrite 0) ∷ locks (Advance 0) ∷ locks (Advance 0) ∷ locks (Advance 0) ∷ [])

-- 5 in cell 2, and a payout of 3 of them, of which one has dropped
abbrev pub paying : Bool → View
paying two = shows_after two (writing two) (fill 0 2 5 ∷ begin 0 2 3 ∷ drop 0 ∷ [])

-- the same, settled
abbrev pub settled : Bool → View
settled two = (does two (settle 0) (paying two)).after

-- a leave with a payout open is refused with 13, with nothing changed, and is accepted after settling
pub record ALeaveWaitsForTheSettling : Type 0 where
  pub refused : (two : Bool) → does two (locks (Leave 0)) (paying two) ≡ record { answer = Err Paying; after = paying two }
  pub number : rig_number Paying ≡ 13
  pub settles : (two : Bool) → (does two (settle 0) (paying two)).answer ≡ Ok (1, 2)
  pub in_two_steps : (does true (locks (Leave 0)) (settled true)).answer ≡ Ok L.Out
  pub in_one_step : (does false (locks (Leave 0)) (settled false)).answer ≡ Ok L.Away

-- 4 in cell 0
abbrev pub four : Bool → View
four two = (does two (fill 0 0 4) (writing two)).after

-- a payout of all of them is open
abbrev pub begun : Bool → View
begun two = (does two (begin 0 0 4) (four two)).after

-- all have dropped
abbrev pub dropped : Bool → View
dropped two = shows_after two (begun two) (drop 0 ∷ drop 0 ∷ drop 0 ∷ drop 0 ∷ [])

-- of a cell with 4 coins, 5 cannot be paid out and 4 can; four drops pass, and the fifth is refused
pub record FourCoinsArePaidOut : Type 0 where
  pub five : (two : Bool) → does two (begin 0 0 5) (four two) ≡ record { answer = Err (OfTill TooFew); after = four two }
  pub five_number : rig_number (OfTill TooFew) ≡ 35
  pub begins : (two : Bool) → (does two (begin 0 0 4) (four two)).answer ≡ Ok tt
  pub first : (two : Bool) → (does two (drop 0) (begun two)).answer ≡ Ok 3
  pub second : (two : Bool) → (does two (drop 0) (shows_after two (begun two) (drop 0 ∷ []))).answer ≡ Ok 2
  pub third : (two : Bool) → (does two (drop 0) (shows_after two (begun two) (drop 0 ∷ drop 0 ∷ []))).answer ≡ Ok 1
  pub fourth : (two : Bool) → (does two (drop 0) (shows_after two (begun two) (drop 0 ∷ drop 0 ∷ drop 0 ∷ []))).answer ≡ Ok 0
  pub fifth : (two : Bool) → does two (drop 0) (dropped two) ≡ record { answer = Err (OfTill NoneLeft); after = dropped two }
  pub fifth_number : rig_number (OfTill NoneLeft) ≡ 34
  pub settles : (two : Bool) → (does two (settle 0) (dropped two)).answer ≡ Ok (4, 0)
  pub emptied : (two : Bool) → held_in (dropped two).till 0 ≡ 0

-- 99,999,999 in cell 7
abbrev pub full : Bool → View
full two = (does two (fill 0 7 99999999) (writing two)).after

-- a full cell takes nothing more, but a fill of 0 is accepted
pub record AFullCellTakesNothing : Type 0 where
  pub fills : (two : Bool) → (does two (fill 0 7 99999999) (writing two)).answer ≡ Ok 99999999
  pub one : (two : Bool) → does two (fill 0 7 1) (full two) ≡ record { answer = Err (OfTill PastLimit); after = full two }
  pub number : rig_number (OfTill PastLimit) ≡ 23
  pub zero : (two : Bool) → does two (fill 0 7 0) (full two) ≡ record { answer = Ok 99999999; after = full two }

-- writer 0 has posted, and reader 1 is held off
abbrev pub held_off : Bool → View
held_off two = shows_after two (opened 2) (locks (RequestWrite 0) ∷ locks (Advance 0) ∷ locks (Advance 0) ∷ locks (RequestRead 1) ∷ [])

-- the writer has entered
abbrev pub passed : Bool → View
passed two = (does two (locks (Advance 0)) (held_off two)).after

-- and left, and the reader has entered
abbrev pub inside : Bool → View
inside two = shows_after two (passed two) (locks (Leave 0) ∷ locks (Advance 1) ∷ [])

-- a waiting reader is told of the writer that enters before it, not of its posting; once inside it is told of none
pub record AWaitingReaderIsToldOfAWriter : Type 0 where
  pub before : (two : Bool) → recorded 1 (held_off two) ≡ record { standing = S.HeldOff; told = 0 }
  pub passes : (two : Bool) → recorded 1 (passed two) ≡ record { standing = S.HeldOff; told = 1 }
  pub own : (two : Bool) → recorded 0 (passed two) ≡ record { standing = S.Writing; told = 0 }
  pub enters_over_a_two_step_lock : recorded 1 (inside true) ≡ record { standing = S.Reading; told = 0 }
  pub enters_over_a_one_step_lock : recorded 1 (inside false) ≡ record { standing = S.Reading; told = 0 }
