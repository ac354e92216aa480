use Rattle.std.proofs.Common.{rules, ◌∙◌}
use Rattle.arrayvec.proofs.ArrayVecLemmas.{filter-from_retain}
use Rattle.list_lock.proofs.Looks.{without_is}
use Rattle.list_lock.proofs.parts.take_off.Goals as goal

pub returns-clause-gone : goal.returns-clause-gone
returns-clause-gone c = filter-from_retain _ _ _ (λ x b f' y called. search rules) _ _ c.retain.ensures.filtered ∙ without_is c.args.party c.args.line.now.items
