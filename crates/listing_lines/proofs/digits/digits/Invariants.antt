use Rattle.std.proofs.Common.{◌≡◌, ◌++◌, length, drop}
use Rattle.listing_lines.specs.Digits.{digits}
use Rattle.listing_lines.proofs.digits.digits.Given as goal

-- what is still to be written and what stands behind it are the digits
abbrev pub invariant-loop-i : goal.invariant-loop-i
invariant-loop-i g l =
    record {
      whole : digits g.row.N g.row.BASE l.n ≡ digits l.i g.row.BASE l.rest ++ drop l.i l.out;
      room : length l.out ≡ g.row.N;
    }
