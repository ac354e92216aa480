-- How often a party stands in a line, as the line grows and shrinks, and how long a line without repeats can be.
use Rattle.std.proofs.Common.{◌≡◌, ℕ, zero, suc, ◌+◌, ◌≤◌, Bool, false, eqb, ltb, ◌≢◌, List, [], ◌∷◌, ◌++◌, length, sym, refl, ap, ◌∙◌, inl, inr, arith}
use Rattle.std.proofs.lemmas.Bool.{cases_eq, cases_Bool, eq-eqb, ne_eqb, cond-true, cond-false, cases_lt}
use Rattle.phase.specs.Book.{without}
use Rattle.phase.specs.Line.{one, times}

pub times_more : (q x : ℕ) (l : List ℕ) → times q (l ++ (x ∷ [])) ≡ times q l + one (eqb x q)
times_more q x [] = omega arith
times_more q x (y ∷ l) = let z = times_more q x l in omega (arith, z)

pub times-without_same : (x : ℕ) (l : List ℕ) → times x (without x l) ≡ 0
times-without_same x [] = refl
times-without_same x (y ∷ l) = elim (cases_Bool (eqb y x)) [
  | inl e ↦ ap (times x) (cond-true _ _ _ e) ∙ times-without_same x l
  | inr e ↦ let z = times-without_same x l in ap (times x) (cond-false _ _ _ e) ∙ omega (arith, z, ap one e)
]

pub times-without_other : (q x : ℕ) (l : List ℕ) → q ≢ x → times q (without x l) ≡ times q l
times-without_other q x [] n = refl
times-without_other q x (y ∷ l) n = elim (cases_eq y x) [
  | inl e ↦
      let z = times-without_other q x l n in
      let u : eqb y q ≡ false = ne_eqb y q (λ k. n (sym k ∙ e)) in
      ap (times q) (cond-true _ _ _ (eq-eqb y x e)) ∙ omega (arith, z, ap one u)
  | inr e ↦ ap (times q) (cond-false _ _ _ (ne_eqb y x e)) ∙ ap (λ t. one (eqb y q) + t) (times-without_other q x l n)
]

pub one_small : (t : Bool) → one t ≤ 1
one_small t = grind arith

-- how often the numbers below n stand in a list, in all
abbrev pub tally : ℕ → List ℕ → ℕ
tally zero l = 0
tally (suc n) l = times n l + tally n l

tally_empty : (n : ℕ) → tally n [] ≡ 0
tally_empty zero = refl
tally_empty (suc n) = omega (arith, tally_empty n)

tally_cons : (n x : ℕ) (l : List ℕ) → tally n (x ∷ l) ≡ one (ltb x n) + tally n l
tally_cons zero x l = grind arith
tally_cons (suc n) x l =
    let z = tally_cons n x l in
    let u = below in
    omega (arith, z, u)
  where
    below : one (ltb x (suc n)) ≡ one (eqb x n) + one (ltb x n)
    below = grind (arith)

pub tally_all : (n : ℕ) (l : List ℕ) → ((q : ℕ) → n ≤ q → times q l ≡ 0) → tally n l ≡ length l
tally_all n [] h = tally_empty n
tally_all n (x ∷ l) h =
    let z = tally_all n l (λ q k. let y = h q k in omega (arith, y)) in
    let here : one (ltb x n) ≡ 1 = elim (cases_lt x n) [ inl k ↦ grind arith | inr k ↦ let y = h x k in let e = ap one (eq-eqb x x refl) in absurd (omega (arith, y, e)) ] in
    omega (arith, tally_cons n x l, z, here)

pub tally_small : (n : ℕ) (l : List ℕ) → ((q : ℕ) → times q l ≤ 1) → tally n l ≤ n
tally_small zero l h = omega arith
tally_small (suc n) l h = let z = tally_small n l h in let y = h n in omega (arith, z, y)
