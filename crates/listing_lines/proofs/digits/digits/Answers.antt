use Rattle.std.proofs.Common.{◌≡◌, ℕ, suc, ◌-◌, ◌/◌, ◌%◌, ◌<◌, List, ◌++◌, length, drop, ◌∙◌, arith, add-one, append_assoc}
use Rattle.std.proofs.Math.ListN.{set, length-set}
use Rattle.std.proofs.lemmas.List.{drop-set}
use Rattle.listing_lines.specs.Digits.{character, digits}
use Rattle.listing_lines.proofs.digits.digits.Goals as goal

-- one more digit before those that stand
one_more : (i k base rest d : ℕ) (out : List ℕ) → i ≡ suc k → k < length out → d ≡ character (rest % base) → digits i base rest ++ drop i out ≡ digits k base (rest / base) ++ drop k (set out k d)
one_more i k base rest d out next room is = rw (next, drop-set out k d room, add-one, is, append_assoc)

pub loop-i-preserved : goal.loop-i-preserved
loop-i-preserved g c = record {
  whole = c.loop-i.invariant.whole ∙ one_more c.loop-i.i (c.loop-i.i - 1) g.row.BASE c.loop-i.rest _ c.loop-i.out (omega arith) (omega arith) c.character_of.ensures;
  room = simp length-set c.loop-i.invariant.room;
}
