use mathlib.Core.Path.{subst⁻¹}
use Rattle.std.proofs.Common.{true, Ok}
use Rattle.phase.specs.Book.{Steps}
use Rattle.pft.specs.Model.{State, book, book_of}
use Rattle.pft.proofs.AtLock.{taken}
use Rattle.pft.proofs.lock.Pft.take.Goals as goal

pub write-requires-clause-kept : goal.write-requires-clause-kept
write-requires-clause-kept c = (taken c.args.self.now _ _ _ _ _ c.party-party.ensures c.turn.ensures.known c.turn.ensures.found c.in_ok-turn.ensures.ok_part c.in_ok-change.ensures).kept

pub write-requires-clause-sound : goal.write-requires-clause-sound
write-requires-clause-sound c = (taken c.args.self.now _ _ _ _ _ c.party-party.ensures c.turn.ensures.known c.turn.ensures.found c.in_ok-turn.ensures.ok_part c.in_ok-change.ensures).sound

pub returns-clause-steps : goal.returns-clause-steps
returns-clause-steps c =
    subst⁻¹ (λ (s : State). Steps true c.args.call (book c.args.self.now) (Ok c.in_ok-change.change.letter) (book_of s)) c.write.ensures
    (taken c.args.self.now _ _ _ _ _ c.party-party.ensures c.turn.ensures.known c.turn.ensures.found c.in_ok-turn.ensures.ok_part c.in_ok-change.ensures).steps
