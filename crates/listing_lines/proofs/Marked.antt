-- Words in a row, each with a byte behind it.
use Rattle.std.proofs.Common.{◌≡◌, ℕ, List, [], ◌∷◌, ◌++◌, length, sym, ◌∙◌, arith}
use Rattle.std.proofs.lemmas.List.{append-nil}
use Rattle.listing_lines.specs.Digits.{digits}

abbrev pub marked : List ℕ → List ℕ → List ℕ
marked [] marks = []
marked (word ∷ words) [] = []
marked (word ∷ words) (mark ∷ marks) = digits 8 16 word ++ (mark ∷ marked words marks)

-- where no word is left, all is written
pub none_left : (line words marks whole : List ℕ) → length words ≡ 0 → line ++ marked words marks ≡ whole → line ≡ whole
none_left line [] marks whole none is = sym (append-nil line) ∙ is
none_left line (word ∷ words) marks whole none is = absurd (omega arith)
