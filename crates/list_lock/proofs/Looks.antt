-- The book's words on lists, as the library has them.
use Rattle.std.proofs.Common.{◌≡◌, ℕ, Bool, cond, eqb, ltb, not, ◌||◌, List, [], ◌∷◌, length, filter, Some, None, refl, ap, arith}
use Rattle.std.specs.List.{list_any, position_or_len}
use Rattle.std.specs.Option.{unwrap_or}
use Rattle.phase.specs.Line.{has, place}
use Rattle.phase.specs.Book.{some, without}
use Rattle.phase.specs.declared.kinds.Standing.{Standing}

pub some_is : (f : Standing → Bool) (xs : List Standing) → list_any f xs ≡ some f xs
some_is f [] = refl
some_is f (x ∷ xs) = ap (λ t. f x || t) (some_is f xs)

pub without_is : (p : ℕ) (ys : List ℕ) → filter (λ y. not (eqb y p)) ys ≡ without p ys
without_is p [] = refl
without_is p (y ∷ ys) = let e = without_is p ys in grind arith

place_is_first : (p : ℕ) (ys : List ℕ) → position_or_len (λ y. eqb y p) ys ≡ place p ys
place_is_first p [] = refl
place_is_first p (y ∷ ys) = let e = place_is_first p ys in grind arith

has_is : (p : ℕ) (ys : List ℕ) → ltb (place p ys) (length ys) ≡ has p ys
has_is p [] = refl
has_is p (y ∷ ys) = let e = has_is p ys in grind arith

or_none : (t : Bool) (n : ℕ) → unwrap_or (cond t (Some n) None) 0 ≡ cond t n 0
or_none t n = grind arith

pub place_is : (p : ℕ) (ys : List ℕ) → unwrap_or (cond (ltb (position_or_len (λ y. eqb y p) ys) (length ys)) (Some (position_or_len (λ y. eqb y p) ys)) None) 0 ≡ cond (has p ys) (place p ys) 0
place_is p ys = rw (place_is_first p ys, has_is p ys) (or_none (has p ys) (place p ys))
