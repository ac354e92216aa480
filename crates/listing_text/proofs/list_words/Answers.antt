use Rattle.std.proofs.Common.{◌≡◌, ◌≤◌, ◌∙◌, take, drop, length, ap, arith, rules}
use Rattle.pft.specs.Model.{state}
use Rattle.pft_steps.specs.declared.words.Words.{Words}
use Rattle.schedule.specs.View.{words, calls}
use Rattle.listing_lines.specs.Lines.{last_line}
use Rattle.listing_text.specs.Listing.{last, lines_from}
use Rattle.listing_text.proofs.Places.{few_words, still, whole_text}
use Rattle.listing_text.proofs.list_words.Goals as goal

pub list_calls-requires : goal.list_calls-requires
list_calls-requires c =
    let few = few_words c.args.schedule.now in
    let text = c.new-text.ensures in
    let room = ap length text.space in
    omega (arith, few, room, text.empty, c.requires)

pub put-requires : goal.put-requires
put-requires c =
    let few = few_words c.args.schedule.now in
    let text = c.new-text.ensures in
    let room = ap length text.space in
    let calls = c.list_calls.ensures in
    let last = ap length (c.bytes.ensures ∙ c.line_of-last.ensures) in
    omega (arith, few, room, text.empty, c.requires, calls.short, calls.room, last)

pub returns-clause-after : goal.returns-clause-after
returns-clause-after c =
    let s = c.args.schedule.now in
    let few = few_words s in
    let text = c.new-text.ensures in
    let listed = c.list_calls.ensures in
    let put = c.put.ensures in
    let first = ap length text.space in
    let end = ap length (c.bytes.ensures ∙ c.line_of-last.ensures) in
    let room : c.put.new.self.len ≤ length c.put.new.self.space.now = omega (arith, few, first, text.empty, c.requires, listed.short, listed.room, put.len, put.room, end) in
    let line : c.bytes.result.now ≡ last (state c.list_calls.new.lock) = c.bytes.ensures ∙ c.line_of-last.ensures ∙ ap (λ (w : Words). last_line w.rin w.rout w.win w.wout) c.words.ensures in
    let written : take c.put.new.self.len c.put.new.self.space.now ≡ lines_from 1 (state c.args.lock.now) (words s) (calls s) = put.written ∙ rw line (listed.written ∙ rw text.empty) in
    let rest : drop c.put.new.self.len c.put.new.self.space.now ≡ drop c.put.new.self.len c.args.out.now = put.rest ∙ rw put.len (still (length c.bytes.result.now) c.list_calls.new.text.len c.list_calls.new.text.space.now c.new-text.result.space.now listed.rest) ∙ ap (drop c.put.new.self.len) text.space in
    let whole = whole_text c.put.new.self c.args.out.now _ room written rest in
    search (rules, whole)
