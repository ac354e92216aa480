use Rattle.std.proofs.Common.{◌≡◌, ◌+◌, length, ap, arith, length-append}
use Rattle.std.specs.Slice.Iter.{chunks_exact_rest}
use Rattle.std.specs.Iterator.Adapters.{enumerate_source}
use Rattle.schedule.proofs.Words.{passed}
use Rattle.schedule.proofs.reader.check_words.Goals as goal

pub loop-i-preserved : goal.loop-i-preserved
loop-i-preserved c =
    let word = c.in-Some.word.now in
    let rest = chunks_exact_rest (enumerate_source c.next.new.self) in
    let step = c.in-Some.ensures.steps in
    let is = step.0.1.0 in
    let two : length word ≡ 2 = cc in
    let past = passed (c.in-Some.i + 1) word rest _ is two c.in_ok-check_word.ensures in
    record {
      decides = cc;
      pairs = cc;
      even = omega (arith, length-append word rest, ap length is, two);
    }
