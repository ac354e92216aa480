use Rattle.std.proofs.Common.{rules, ◌∙◌}
use borrow.Author.Tests.{tests}
use Rattle.std.proofs.lemmas.Iterator.{YieldsList-from_slice}
use Rattle.std.proofs.lemmas.Iterator.Search.{any_from_yields_List}
use Rattle.phase.specs.Book.{bars}
use Rattle.list_lock.proofs.Looks.{some_is}
use Rattle.list_lock.proofs.parts.any_bars.Goals as goal

pub returns : goal.returns
returns c = any_from_yields_List bars _ _ _ c.any.ensures.ran (YieldsList-from_slice c.args.standings.now (cc)) (λ x b q k. search (rules, tests)) ∙ some_is bars c.args.standings.now
