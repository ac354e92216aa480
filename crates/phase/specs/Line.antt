-- The line of writers: who stands in it, how often and where.
use Rattle.std.specs.Prelude.{◌≡◌, ℕ, suc, ◌+◌, Bool, true, false, cond, ◌||◌, List, [], ◌∷◌, ◌==◌}
use Rattle.phase.specs.Book.{Book, standing}
use Rattle.phase.specs.declared.kinds.Standing.{Standing}
use Rattle.phase.specs.declared.kinds.Standing.TheVariants as S

-- a writer's standing, from its request until it is off the line
abbrev pub is_writer : Standing → Bool
is_writer S.Away = false
is_writer S.HeldOff = false
is_writer S.Cleared = false
is_writer S.Reading = false
is_writer S.InLine = true
is_writer S.Called = true
is_writer S.Posted = true
is_writer S.Writing = true
is_writer S.GoingOut = true

-- the party stands in the line
abbrev pub has : ℕ → List ℕ → Bool
has p [] = false
has p (q ∷ l) = q == p || has p l

-- how many stand before the party, and the length of the line where it is not in it
abbrev pub place : ℕ → List ℕ → ℕ
place p [] = 0
place p (q ∷ l) = cond (q == p) 0 (suc (place p l))

-- the number of writers before a party in the line, 0 for a party that is not in it
abbrev pub ahead : Book → ℕ → ℕ
ahead b p = cond (has p b.line) (place p b.line) 0

-- a truth counted as 1 or 0
abbrev pub one : Bool → ℕ
one true = 1
one false = 0

-- how often a party stands in the line
abbrev pub times : ℕ → List ℕ → ℕ
times p [] = 0
times p (q ∷ l) = one (q == p) + times p l

-- every writer stands in the line once, and nobody else does
abbrev pub Lined : Book → Type 0
Lined b = (q : ℕ) → times q b.line ≡ one (is_writer (standing b q))
