-- Numbers as they are written.
use Rattle.std.specs.Prelude.{ℕ, zero, suc, ◌+◌, ◌-◌, ◌/◌, ◌%◌, cond, List, [], ◌∷◌, ◌++◌, nat_lt}

-- the character of a digit, with upper-case letters past 9
abbrev pub character : ℕ → ℕ
character d = cond (nat_lt d 10) (48 + d) (65 + (d - 10))

-- the last digits of a number, so many, in a base
abbrev pub digits : ℕ → ℕ → ℕ → List ℕ
digits zero base n = []
digits (suc count) base n = digits count base (n / base) ++ (character (n % base) ∷ [])
