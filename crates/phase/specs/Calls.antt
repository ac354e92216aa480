-- What a call of a lock is, as a value.
use Rattle.std.specs.Prelude.{ℕ}
use Rattle.phase.specs.declared.kinds.LockCall.{LockCall}
use Rattle.phase.specs.declared.kinds.LockCall.TheVariants.{RequestRead, RequestWrite, Advance, Leave}

-- the party that calls
abbrev pub caller : LockCall → ℕ
caller (RequestRead p) = p
caller (RequestWrite p) = p
caller (Advance p) = p
caller (Leave p) = p
