use Rattle.std.proofs.Common.{◌≡◌, ◌+◌, ◌%◌, length}
use Rattle.std.specs.Slice.Iter.{chunks_exact_rest, chunks_exact_size}
use Rattle.std.specs.Iterator.Adapters.{enumerate_source, enumerate_count}
use Rattle.schedule.specs.Schedule.{calls_from, verdict}
use Rattle.schedule.proofs.reader.check_words.Given as goal

-- what is left of the bytes decides
abbrev pub invariant-loop-i : goal.invariant-loop-i
invariant-loop-i l =
    let words = enumerate_source l.i-iterator in
    record {
      decides : verdict (calls_from 1 l.bytes) ≡ verdict (calls_from (enumerate_count l.i-iterator + 1) (chunks_exact_rest words));
      pairs : chunks_exact_size words ≡ 2;
      even : length (chunks_exact_rest words) % 2 ≡ 0;
    }
