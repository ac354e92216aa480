use Rattle.std.proofs.Common.{◌≡◌, ◌+◌, ◌*◌, ◌++◌, length, slice_index}
use Rattle.std.specs.Slice.Iter.{iter_rest}
use Rattle.std.specs.Iterator.Adapters.{zip_first, zip_second}
use Rattle.listing_lines.specs.Lines.{text, last_line}
use Rattle.listing_lines.proofs.Marked.{marked}
use Rattle.listing_lines.proofs.lines.last_line.Given as goal

-- what is written and what is still to be written are the line
abbrev pub invariant-loop-word : goal.invariant-loop-word
invariant-loop-word l =
    let words = iter_rest (zip_first l.word-iterator) in
    let marks = iter_rest (zip_second l.word-iterator) in
    record {
      whole : text l.line ++ marked words marks ≡ last_line (slice_index l.fn.words 0) (slice_index l.fn.words 1) (slice_index l.fn.words 2) (slice_index l.fn.words 3);
      paired : length words ≡ length marks;
      room : length (text l.line) + 9 * length words ≡ 36;
    }
