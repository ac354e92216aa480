use Rattle.std.proofs.Common.{refl, ◌∙◌, arith}
use Rattle.listing_text.proofs.Places.{short_line, one_more, all_listed}
use Rattle.listing_text.proofs.list_calls.Goals as goal

pub loop-place-init : goal.loop-place-init
loop-place-init c = record { same_reference = refl; written = refl; rest = refl; room = refl; short = omega arith; within = omega arith }

pub put-requires : goal.put-requires
put-requires c =
    let short = short_line _ _ _ _ (c.bytes.ensures ∙ c.list_word-line.ensures.line) in
    let v = c.loop-place.invariant in
    let n = c.len-place-end.ensures.words in
    omega (arith, short, v.short, v.room, n)

pub loop-place-preserved : goal.loop-place-preserved
loop-place-preserved c =
    let n = c.len-place-end.ensures.words in
    let e = c.put.ensures in
    one_more _ _ _ _ _ _ c.loop-place.invariant c.put.new.self _ _ (omega arith) (omega (arith, n)) (c.bytes.ensures ∙ c.list_word-line.ensures.line) c.list_word-line.ensures.words e.same_reference e.len e.written e.rest e.room

pub returns : goal.returns
returns c =
    let v = c.loop-place.invariant in
    let n = c.len-place-end.ensures.words in
    let d = all_listed _ _ _ _ _ _ v (omega (arith, n)) in
    record { same_reference = v.same_reference; written = d.0; rest = v.rest; room = v.room; short = d.1 }

pub returns-2 : goal.returns-2
returns-2 c =
    let n = c.len-place-end.ensures.words in
    let e = c.put.ensures in
    let v = one_more _ _ _ _ _ _ c.loop-place.invariant c.put.new.self _ _ (omega arith) (omega (arith, n)) (c.bytes.ensures ∙ c.list_word-line.ensures.line) c.list_word-line.ensures.words e.same_reference e.len e.written e.rest e.room in
    let d = all_listed _ _ _ _ _ _ v (omega (arith, n)) in
    record { same_reference = v.same_reference; written = d.0; rest = v.rest; room = v.room; short = d.1 }
