use Rattle.std.proofs.Common.{sym, ◌∙◌}
use Rattle.phase.specs.declared.kinds.LockCall.TheVariants.{RequestRead}
use Rattle.schedule.specs.View.{words, calls}
use Rattle.listing_text.specs.Listing.{line_at}
use Rattle.listing_text.proofs.Places.{there_is}
use Rattle.listing_text.proofs.list_word.Goals as goal

pub returns : goal.returns
unfolding line_at
returns c =
    let word = there_is (words c.args.schedule.now) c.args.place 0 c.unwrap-word.result (sym c.word.ensures ∙ c.unwrap-word.ensures) in
    let call = there_is (calls c.args.schedule.now) c.args.place (RequestRead 0) c.unwrap-call.result (sym c.call.ensures ∙ c.unwrap-call.ensures) in
    record { line = rw (word, call) c.step.ensures.line; words = rw call c.step.ensures.words }
