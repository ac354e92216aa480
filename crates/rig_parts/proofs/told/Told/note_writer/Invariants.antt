use Rattle.std.proofs.Common.{◌≡◌, ℕ, ◌<◌, ◌≤◌, length, get_or}
use Rattle.phase.specs.Book.{standing}
use Rattle.rig_parts.specs.Told.{told_next}
use Rattle.rig_parts.proofs.told.Told.note_writer.Given as goal

-- the counts below the party are those after the entry, the others as they were
abbrev pub invariant-loop-party : goal.invariant-loop-party
invariant-loop-party g l =
    (length l.count-items ≡ 32)
    × ((k : ℕ) → k < l.party → get_or l.count-items k 0 ≡ told_next (standing (g.L.Lock.book l.lock) k) (get_or l.initial.count-items k 0))
    × ((k : ℕ) → l.party ≤ k → get_or l.count-items k 0 ≡ get_or l.initial.count-items k 0)
