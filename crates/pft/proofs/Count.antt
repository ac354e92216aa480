-- The count of readers in the upper 24 bits of rin and rout.
use Rattle.std.proofs.Common.{◌≡◌, ℕ, ◌+◌, ◌/◌, ◌%◌, ◌^◌, ◌<◌, sym, ap, ◌∙◌, arith}
use Rattle.pft_steps.proofs.Wrap.{wrap_more}

pub one_in : (rin rout r : ℕ) → rin < 2 ^ 32 → rin / 256 ≡ (rout / 256 + r) % 2 ^ 24 → (rin + 256) % 2 ^ 32 / 256 ≡ (rout / 256 + (r + 1)) % 2 ^ 24
one_in rin rout r h e =
    let a : (rin + 256) % 2 ^ 32 / 256 ≡ (rin / 256 + 1) % 2 ^ 24 = omega arith in
    a ∙ ap (λ (x : ℕ). (x + 1) % 2 ^ 24) e ∙ wrap_more 24 (rout / 256) r 1

pub one_out : (x rout r : ℕ) → rout < 2 ^ 32 → x ≡ (rout / 256 + (r + 1)) % 2 ^ 24 → x ≡ ((rout + 256) % 2 ^ 32 / 256 + r) % 2 ^ 24
one_out x rout r k e =
    let a : (rout + 256) % 2 ^ 32 / 256 ≡ (rout / 256 + 1) % 2 ^ 24 = omega arith in
    let b : (rout / 256 + (1 + r)) % 2 ^ 24 ≡ (rout / 256 + (r + 1)) % 2 ^ 24 = ap (λ (n : ℕ). (rout / 256 + n) % 2 ^ 24) (omega arith) in
    e ∙ sym (ap (λ (n : ℕ). (n + r) % 2 ^ 24) a ∙ wrap_more 24 (rout / 256) 1 r ∙ b)
