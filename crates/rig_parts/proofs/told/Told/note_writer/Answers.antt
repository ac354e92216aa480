use Rattle.std.proofs.Common.{get_or, arith}
use Rattle.std.proofs.lemmas.List.FromFn.{fill_by_all}
use Rattle.phase.specs.Book.{standing}
use Rattle.rig_parts.specs.Told.{told_next, told_by_writer}
use Rattle.rig_parts.proofs.told.Told.note_writer.Goals as goal

pub returns : goal.returns
unfolding told_by_writer
returns g c =
    fill_by_all (λ p. told_next (standing (g.L.Lock.book c.args.lock.now) p) (get_or c.args.self.now.counts p 0)) c.loop-party.count-items 32 0
    c.loop-party.invariant.0
    (λ k h. c.loop-party.invariant.1 k (omega arith))
