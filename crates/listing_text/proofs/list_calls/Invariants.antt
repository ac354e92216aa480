use Rattle.std.proofs.Common.{◌++◌, take}
use Rattle.pft.specs.Model.{state}
use Rattle.schedule.specs.View.{words, calls}
use Rattle.listing_text.specs.Listing.{lines_from}
use Rattle.listing_text.proofs.Places.{SoFar}
use Rattle.listing_text.proofs.list_calls.Given as goal

abbrev pub invariant-loop-place : goal.invariant-loop-place
invariant-loop-place l =
    let whole = take l.initial.text.len l.initial.text.space.now ++ lines_from 1 (state l.initial.lock) (words l.schedule) (calls l.schedule) in
    SoFar l.schedule l.initial.text whole l.place (state l.lock) l.text
