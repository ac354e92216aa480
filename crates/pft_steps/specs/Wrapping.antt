-- Sums that wrap, at any width.
use Rattle.std.specs.Prelude.{◌≡◌, ℕ, ◌+◌, ◌%◌, ◌^◌, ◌<◌}

-- the sum of two numbers in w bits
abbrev pub sum : ℕ → ℕ → ℕ → ℕ
sum w a b = (a + b) % 2 ^ w

-- the law of wrapping
pub record Wrapping : Type 0 where
  -- a sum fits its width
  pub fits : (w a b : ℕ) → sum w a b < 2 ^ w
  -- and is the plain sum where that fits
  pub plain : (w a b : ℕ) → a + b < 2 ^ w → sum w a b ≡ a + b
  -- adding one number after another is adding both at once
  pub together : (w a b c : ℕ) → sum w (sum w a b) c ≡ sum w a (b + c)
  -- from one number two others lead to the same sum only if they are the same
  pub apart : (w x a b : ℕ) → x < 2 ^ w → a < 2 ^ w → b < 2 ^ w → sum w x a ≡ sum w x b → a ≡ b
