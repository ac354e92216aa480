-- Who holds a ticket, and the line of writers.
use Rattle.std.proofs.Common.{◌≡◌, ℕ, zero, suc, ◌+◌, ◌%◌, ◌^◌, ◌<◌, ◌≤◌, cond, eqb, ltb, List, [], ◌∷◌, map, length, get_or, set, sum_by, refl, ap, ◌∙◌, ⊎_elim, one-add, arith}
use Rattle.std.specs.List.{range_with_len}
use Rattle.std.proofs.lemmas.List.Sums.{sum_by-cons, sum_by-set, get_or-le-sum_by}
use Rattle.std.proofs.lemmas.Bool.{lt-ltb, le-ltb, cond-true, cond-false, ltb-true, ltb-false, cases_Bool, eqb-true}
use Rattle.pft.specs.Sound.{holds, holder, line_of, writer, writer_at}
use Rattle.pft_steps.specs.declared.party.Party.{Party}
use Rattle.pft.proofs.Lists.{counted_same}

-- where one party holds the ticket, the holder is that one
pub holder_is : (t : ℕ) (ps : List Party) (i : ℕ) (d : Party) → i < length ps → 0 < holds t (get_or ps i d) → sum_by (holds t) ps ≤ 1 → holder t ps ≡ i
holder_is t [] i d h k one = absurd (omega arith)
holder_is t (p ∷ ps) zero d h k one = cond-true (ltb 0 (holds t p)) 0 (1 + holder t ps) (lt-ltb 0 (holds t p) k)
holder_is t (p ∷ ps) (suc i) d h k one =
    let parts = sum_by-cons (holds t) p ps in
    let later = get_or-le-sum_by (holds t) ps i d (omega arith) in
    let none : holds t p ≤ 0 = omega arith in
    cond-false (ltb 0 (holds t p)) 0 (1 + holder t ps) (le-ltb 0 (holds t p) none)
    ∙ ap (λ (n : ℕ). 1 + n) (holder_is t ps i d (omega arith) k (omega arith)) ∙ one-add i

-- a party that changes nothing about t changes no holder
pub holder_set : (t : ℕ) (ps : List Party) (i : ℕ) (q d : Party) → i < length ps → holds t q ≡ holds t (get_or ps i d) → holder t (set ps i q) ≡ holder t ps
holder_set t [] i q d h e = refl
holder_set t (p ∷ ps) zero q d h e = ap (λ (n : ℕ). cond (ltb 0 n) 0 (1 + holder t ps)) e
holder_set t (p ∷ ps) (suc i) q d h e = ap (λ (n : ℕ). cond (ltb 0 (holds t p)) 0 (1 + n)) (holder_set t ps i q d (omega arith) e)

-- the line stays where the party stays a writer with its ticket, or no writer
pub line_kept : (wout : ℕ) (ps : List Party) (i : ℕ) (q d : Party) → i < length ps → ((t : ℕ) → holds t q ≡ holds t (get_or ps i d)) → writer q ≡ writer (get_or ps i d) → line_of wout (set ps i q) ≡ line_of wout ps
line_kept wout ps i q d h e w =
    let same : sum_by writer (set ps i q) ≡ sum_by writer ps = omega (arith, sum_by-set writer ps i q d h) in
    ap (λ (n : ℕ). map (λ k. holder ((wout + k) % 2 ^ 32) (set ps i q)) (range_with_len 0 n)) same
    ∙ counted_same _ _ 0 0 (sum_by writer ps) (λ k l. holder_set _ ps i q d h (e _))

-- a ticket that someone holds, its holder holds
pub holder_holds : (t : ℕ) (ps : List Party) (d : Party) → 0 < sum_by (holds t) ps → (holder t ps < length ps) × (0 < holds t (get_or ps (holder t ps) d))
holder_holds t [] d h = absurd (omega arith)
holder_holds t (p ∷ ps) d h =
    let parts = sum_by-cons (holds t) p ps in
    ⊎_elim
    (λ e. let at : holder t (p ∷ ps) ≡ 0 = cond-true (ltb 0 (holds t p)) 0 (1 + holder t ps) e in
    rw at (omega arith, ltb-true 0 (holds t p) e))
    (λ e. let at : holder t (p ∷ ps) ≡ suc (holder t ps) = cond-false (ltb 0 (holds t p)) 0 (1 + holder t ps) e ∙ one-add (holder t ps) in
    let none = ltb-false 0 (holds t p) e in
    let rest = holder_holds t ps d (omega arith) in
    rw at (omega (arith, rest.0), rest.1))
    (cases_Bool (ltb 0 (holds t p)))

-- the ticket of one that counts
pub holds_ticket : (t : ℕ) (p : Party) → 0 < holds t p → p.ticket ≡ t
holds_ticket t p h =
    ⊎_elim (λ e. eqb-true p.ticket t e) (λ e. absurd (omega (arith, cond-false (eqb p.ticket t) (writer_at p.stage) 0 e))) (cases_Bool (eqb p.ticket t))
