use Rattle.std.proofs.Common.{◌≡◌, ◌++◌, map, take, drop}
use Rattle.phase.specs.Book.{freed}
use Rattle.list_lock.proofs.lock.ListLock.free.Given as goal

abbrev pub invariant-loop-standing : goal.invariant-loop-standing
invariant-loop-standing l = l.standing-items ≡ map freed (take l.standing-index l.initial.standing-items) ++ drop l.standing-index l.initial.standing-items
