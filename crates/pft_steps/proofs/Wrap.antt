-- Sums that wrap at 2 ^ w, for any width w.
use Rattle.std.proofs.Common.{◌≡◌, ℕ, ◌+◌, ◌-◌, ◌%◌, ◌^◌, ◌<◌, sym, ap, ◌∙◌, add_assoc, mod-lt, mod-eq_of_lt, arith}
use Rattle.std.proofs.lemmas.Nat.{pow_pos}
use native.Mathlib.Nat.{mod-add-mod, add-mod_right}

pub wrap_fits : (w a b : ℕ) → (a + b) % 2 ^ w < 2 ^ w
wrap_fits w a b = mod-lt (a + b) (pow_pos w)

pub wrap_plain : (w a b : ℕ) → a + b < 2 ^ w → (a + b) % 2 ^ w ≡ a + b
wrap_plain w a b h = mod-eq_of_lt h

pub wrap_more : (w a b c : ℕ) → ((a + b) % 2 ^ w + c) % 2 ^ w ≡ (a + (b + c)) % 2 ^ w
wrap_more w a b c = mod-add-mod (a + b) (2 ^ w) c ∙ ap (λ (x : ℕ). x % 2 ^ w) (add_assoc a b c)

-- what was added comes out again
pub wrap_back : (w x a : ℕ) → x < 2 ^ w → a < 2 ^ w → ((x + a) % 2 ^ w + (2 ^ w - x)) % 2 ^ w ≡ a
wrap_back w x a h k =
    mod-add-mod (x + a) (2 ^ w) (2 ^ w - x) ∙ ap (λ (y : ℕ). y % 2 ^ w) e ∙ add-mod_right a (2 ^ w) ∙ mod-eq_of_lt k
  where
    e : (x + a) + (2 ^ w - x) ≡ a + 2 ^ w
    e = omega arith

-- two numbers below 2 ^ w that give one sum are equal
pub wrap_cancel : (w x a b : ℕ) → x < 2 ^ w → a < 2 ^ w → b < 2 ^ w → (x + a) % 2 ^ w ≡ (x + b) % 2 ^ w → a ≡ b
wrap_cancel w x a b h k l e = sym (wrap_back w x a h k) ∙ ap (λ (y : ℕ). (y + (2 ^ w - x)) % 2 ^ w) e ∙ wrap_back w x b h l

-- a sum that gives the first number back added nothing
pub added_nothing : (w x a : ℕ) → x < 2 ^ w → a < 2 ^ w → (x + a) % 2 ^ w ≡ x → a ≡ 0
added_nothing w x a h k e = wrap_cancel w x a 0 h k (pow_pos w) (e ∙ sym (mod-eq_of_lt h) ∙ ap (λ (y : ℕ). y % 2 ^ w) (omega arith))
