use Rattle.std.proofs.Common.{◌≡◌, map, arith, rules}
use Rattle.std.proofs.lemmas.Grind.{common_steps}
use Rattle.std.proofs.lemmas.List.Edits.{map_over_more}
use Rattle.std.proofs.lemmas.List.{take_all, drop_all, append-nil}
use Rattle.phase.specs.Book.{freed}
use Rattle.phase.proofs.Lines.{freed_writer}
use Rattle.list_lock.proofs.Keeps.{standing_freed, freed_out, lined_at, stays_at}
use Rattle.list_lock.proofs.lock.ListLock.free.Goals as goal

pub loop-standing-preserved : goal.loop-standing-preserved
loop-standing-preserved c = search (rules, map_over_more freed)

pub invariant_of-self : goal.invariant_of-self
invariant_of-self c =
    let e : c.loop-standing.standing-items ≡ map freed c.deref_mut-standing-items.result.now = search (rules, take_all, drop_all, append-nil) in
    record {
      within = grind (arith, common_steps);
      lined = λ q. grind (arith, common_steps, standing_freed, freed_writer, lined_at);
      stays = λ q. grind (arith, common_steps, standing_freed, freed_out, stays_at);
    }
