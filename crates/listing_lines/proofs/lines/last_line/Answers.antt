use Rattle.std.proofs.Common.{◌≡◌, length, inl, inr, arith}
use Rattle.std.specs.Slice.Iter.{iter_rest}
use Rattle.std.specs.Iterator.Adapters.{zip_first}
use Rattle.listing_lines.proofs.Marked.{none_left}
use Rattle.listing_lines.proofs.lines.last_line.Goals as goal

pub returns : goal.returns
returns c =
    let none : length (iter_rest (zip_first c.loop-word.word-iterator)) ≡ 0 =
    elim c.in-None.ensures.steps [ inl u ↦ u.1.0 | inr u ↦ let e = u.1.0 in omega arith ] in
    none_left _ _ _ _ none c.loop-word.invariant.whole
