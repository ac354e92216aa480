-- What each call answers and makes of the cells and the payout.
use Rattle.std.specs.Prelude.{◌≡◌, ℕ, ◌+◌, ◌-◌, cond, List, replicate, Some, None, Ok, Err, Option, Result, ◌==◌, nat_lt, slice_index, slice_set}
use Rattle.till.specs.Cells.{limit, is_open}
use Rattle.till.specs.declared.payout.Payout.{Payout}
use Rattle.till.specs.declared.faults.TillFault.{TillFault}
use Rattle.till.specs.declared.faults.TillFault.TheVariants.{NoCell, PastLimit, AlreadyOpen, NoCoins, NoneOpen, NoneLeft, TooFew}
use Rattle.till.specs.declared.till.Till.{Till}

-- what a till holds: the cells by their numbers, and the open payout if there is one
pub record Holding : Type 0 where
  pub cells : List ℕ
  pub payout : Option Payout

-- what a till's value holds
abbrev pub holding : Till → Holding
holding t = record { cells = t.cells; payout = t.payout }

-- all cells at 0, and no payout
abbrev pub empty : Holding
empty = record { cells = replicate 8 0; payout = None }

-- what a cell holds
abbrev pub held_in : Holding → ℕ → ℕ
held_in h c = slice_index h.cells c

-- what a call comes to: its answer, and what is held after it
pub record TillOut (T : Type 0) : Type 0 where
  pub answer : T
  pub after : Holding

-- accepted, with an answer
abbrev pub accepts : {T : Type 0} → T → Holding → TillOut (Result T TillFault)
accepts x h = record { answer = Ok x; after = h }

-- refused, with nothing changed
abbrev pub refuses : {T : Type 0} → TillFault → Holding → TillOut (Result T TillFault)
refuses f h = record { answer = Err f; after = h }

-- one cell at another reading
abbrev pub put : ℕ → ℕ → Holding → Holding
put c n h = record { cells = slice_set h.cells c n; payout = h.payout }

-- another payout, or none
abbrev pub paying : Option Payout → Holding → Holding
paying o h = record { cells = h.cells; payout = o }

-- a look answers the cell
abbrev pub looked : ℕ → Holding → TillOut (Result ℕ TillFault)
looked c h = cond (nat_lt c 8) (accepts (held_in h c) h) (refuses NoCell h)

-- a fill adds to the cell and answers its new reading, unless that would pass the limit
abbrev pub filled : ℕ → ℕ → Holding → TillOut (Result ℕ TillFault)
filled c n h =
    cond (nat_lt c 8)
    (cond (nat_lt limit (held_in h c + n)) (refuses PastLimit h) (accepts (held_in h c + n) (put c (held_in h c + n) h)))
    (refuses NoCell h)

-- a payout just begun: all its coins are left
abbrev pub begun : ℕ → ℕ → ℕ → Payout
begun p c n = record { party = p; cell = c; left = n; dropped = 0 }

-- a beginning opens the payout of the party p and answers t
abbrev pub begun_as : {T : Type 0} → ℕ → ℕ → ℕ → T → Holding → TillOut (Result T TillFault)
begun_as p c n t h =
    cond (nat_lt c 8)
    (cond (is_open h.payout) (refuses AlreadyOpen h)
    (cond (n == 0) (refuses NoCoins h)
    (cond (nat_lt (held_in h c) n) (refuses TooFew h)
    (accepts t (paying (Some (begun p c n)) h)))))
    (refuses NoCell h)

-- the payout with one coin more dropped
abbrev pub one_dropped : Payout → Payout
one_dropped o = record { party = o.party; cell = o.cell; left = o.left - 1; dropped = o.dropped + 1 }

-- one coin of the payout has dropped out of its cell
abbrev pub one_less : Payout → Holding → Holding
one_less o h = paying (Some (one_dropped o)) (put o.cell (held_in h o.cell - 1) h)

-- a drop, by the open payout: it answers the coins left
abbrev pub coin_dropped_as : Option Payout → Holding → TillOut (Result ℕ TillFault)
coin_dropped_as None h = refuses NoneOpen h
coin_dropped_as (Some o) h = cond (o.left == 0) (refuses NoneLeft h) (accepts (o.left - 1) (one_less o h))

-- a drop
abbrev pub coin_dropped : Holding → TillOut (Result ℕ TillFault)
coin_dropped h = coin_dropped_as h.payout h

-- a settling, by the open payout: it answers the coins dropped and the coins left
abbrev pub settled_as : Option Payout → Holding → TillOut (Result (ℕ × ℕ) TillFault)
settled_as None h = refuses NoneOpen h
settled_as (Some o) h = accepts (o.dropped, o.left) (paying None h)

-- a settling
abbrev pub settled : Holding → TillOut (Result (ℕ × ℕ) TillFault)
settled h = settled_as h.payout h

-- the till answers and holds what the call comes to
pub record TillTakes {T : Type 0} (call : Holding → TillOut T) (before : Till) (r : T) (after : Till) : Type 0 where
  pub answered : r ≡ (call (holding before)).answer
  pub held : holding after ≡ (call (holding before)).after
