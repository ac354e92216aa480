use Rattle.std.proofs.Common.{rules, ◌∙◌, ap, eqb, Option, ℕ}
use borrow.Author.Tests.{tests}
use Rattle.std.specs.Option.{unwrap_or}
use Rattle.std.proofs.lemmas.Iterator.{YieldsList-from_slice}
use Rattle.std.proofs.lemmas.Iterator.Search.{position_from_yields_List}
use Rattle.list_lock.proofs.Looks.{place_is}
use Rattle.list_lock.proofs.parts.place_in.Goals as goal

pub returns : goal.returns
returns c =
    let p = c.args.party in
    let ys = c.args.line.now in
    c.unwrap_or.ensures ∙ ap (λ (o : Option ℕ). unwrap_or o 0) (position_from_yields_List (λ y. eqb y p) _ _ _ c.position-place.ensures.ran (YieldsList-from_slice ys (cc)) (λ x b q k. search (rules, tests))) ∙ place_is p ys
