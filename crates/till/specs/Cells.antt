-- The cells and the open payout, and what always holds of them.
use Rattle.std.specs.Prelude.{ℕ, ◌<◌, ◌≤◌, Bool, true, false, List, Some, None, Option, slice_index}
use Rattle.till.specs.declared.payout.Payout.{Payout}

-- the most that a cell holds
abbrev pub limit : ℕ
limit = 99999999

-- no cell is above its limit
abbrev pub Capped : List ℕ → Type 0
Capped cells = (k : ℕ) → k < 8 → slice_index cells k ≤ limit

-- whether a payout is open
abbrev pub is_open : Option Payout → Bool
is_open None = false
is_open (Some o) = true

-- the coins that an open payout has left, 0 where none is open
abbrev pub left_of : Option Payout → ℕ
left_of None = 0
left_of (Some o) = o.left

-- the cell of an open payout, 0 where none is open
abbrev pub cell_of : Option Payout → ℕ
cell_of None = 0
cell_of (Some o) = o.cell

-- the coins that an open payout has dropped, 0 where none is open
abbrev pub dropped_of : Option Payout → ℕ
dropped_of None = 0
dropped_of (Some o) = o.dropped
