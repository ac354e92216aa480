-- Sums over a list, and lists made by a function.
use Rattle.std.proofs.Common.{◌≡◌, ℕ, suc, ◌+◌, ◌<◌, ◌≤◌, Bool, ◌||◌, eqb, ltb, ◌≢◌, List, [], ◌∷◌, map, length, get_or, set, sum_by, sym, refl, ap, ◌∙◌, inl, inr, ⊎_elim, arith, length-set}
use mathlib.Core.Path.{subst⁻¹}
use Rattle.std.specs.List.{range_with_len}
use Rattle.std.proofs.lemmas.List.Sums.{sum_by-cons, sum_by-set, get_or-le-sum_by}
use Rattle.std.proofs.lemmas.List.{same_lists, get_or-set_same, get_or-set_other}
use Rattle.std.proofs.lemmas.Bool.{cases_eq, cases_Bool, cond-false, ne_eqb, lt-ltb}
use Rattle.phase.specs.Book.{some, without}
use Rattle.phase.specs.Line.{one}
use Rattle.phase.specs.declared.kinds.Standing.{Standing}
use Rattle.std.proofs.lemmas.List.FromFn.{get_or-map-range_with_len, length-map-range_with_len}

pub sum_by-same : {X : Type 0} (f g : X → ℕ) (xs : List X) → ((j : ℕ) (d : X) → j < length xs → f (get_or xs j d) ≡ g (get_or xs j d)) → sum_by f xs ≡ sum_by g xs
sum_by-same f g [] h = refl
sum_by-same f g (x ∷ xs) h =
    let here : f x ≡ g x = h 0 x (omega arith) in
    let rest : sum_by f xs ≡ sum_by g xs = sum_by-same f g xs (λ j d l. h (suc j) d (omega arith)) in
    omega (arith, sum_by-cons f x xs, sum_by-cons g x xs)

pub sum_by-map : {X Y : Type 0} (g : Y → ℕ) (f : X → Y) (xs : List X) → sum_by g (map f xs) ≡ sum_by (λ x. g (f x)) xs
sum_by-map g f [] = refl
sum_by-map g f (x ∷ xs) = omega (arith, sum_by-cons g (f x) (map f xs), sum_by-cons (λ y. g (f y)) x xs, sum_by-map g f xs)

-- two elements give no more than all
pub two-le-sum_by : {X : Type 0} (f : X → ℕ) (xs : List X) (i j : ℕ) (d z : X) → i < length xs → j < length xs → i ≢ j → f z ≡ 0 → f (get_or xs i d) + f (get_or xs j d) ≤ sum_by f xs
two-le-sum_by f xs i j d z hi hj ne none =
    let fewer = sum_by-set f xs j z d hj in
    let long : i < length (set xs j z) = rw length-set hi in
    let one = get_or-le-sum_by f (set xs j z) i d long in
    let same : f (get_or (set xs j z) i d) ≡ f (get_or xs i d) = ap f (get_or-set_other xs j i z d ne) in
    omega arith

pub map_same : {X Y : Type 0} (f g : X → Y) (xs : List X) → ((j : ℕ) (d : X) → j < length xs → f (get_or xs j d) ≡ g (get_or xs j d)) → map f xs ≡ map g xs
map_same f g [] h = refl
map_same f g (x ∷ xs) h =
    let rest = map_same f g xs (λ j d l. h (suc j) d (omega arith)) in
    let here : f x ≡ g x = h 0 x (omega arith) in cc

pub counted_same : {Y : Type 0} (f g : ℕ → Y) (a b n : ℕ) → ((k : ℕ) → k < n → f (a + k) ≡ g (b + k)) → map f (range_with_len a n) ≡ map g (range_with_len b n)
counted_same f g a b n h =
    same_lists _ _ (length-map-range_with_len f a n ∙ sym (length-map-range_with_len g b n))
    (λ k d l. let lt : k < n = omega (arith, length-map-range_with_len f a n) in
    get_or-map-range_with_len f a n k (a + k) d lt refl ∙ h k lt ∙ sym (get_or-map-range_with_len g b n k (b + k) d lt refl))

-- what holds of each element after one was set
pub each_set : {X : Type 0} (P : X → Type 0) (xs : List X) (i : ℕ) (y : X) → P y → ((j : ℕ) (d : X) → j < length xs → j ≢ i → P (get_or xs j d)) → (j : ℕ) (d : X) → j < length (set xs i y) → P (get_or (set xs i y) j d)
each_set P xs i y here others j d h =
    let in' : j < length xs = rw length-set at h in
    ⊎_elim
    (λ e. subst⁻¹ P (ap (λ (n : ℕ). get_or (set xs i y) n d) e ∙ get_or-set_same xs i y d (rw e at in')) here)
    (λ ne. subst⁻¹ P (get_or-set_other xs i j y d ne) (others j d in' ne))
    (cases_eq j i)

pub sum_by-none : {X : Type 0} (f : X → ℕ) (xs : List X) → ((j : ℕ) (d : X) → j < length xs → f (get_or xs j d) ≡ 0) → sum_by f xs ≡ 0
sum_by-none f [] h = refl
sum_by-none f (x ∷ xs) h =
    let here : f x ≡ 0 = h 0 x (omega arith) in
    omega (arith, sum_by-cons f x xs, sum_by-none f xs (λ j d l. h (suc j) d (omega arith)))

-- a list without what it does not have
pub without_all : (p : ℕ) (js : List ℕ) → ((j d : ℕ) → j < length js → get_or js j d ≡ p → ⊥) → without p js ≡ js
without_all p [] h = refl
without_all p (x ∷ js) h =
    cond-false (eqb x p) _ _ (ne_eqb x p (h 0 x (omega arith))) ∙ ap (λ (r : List ℕ). x ∷ r) (without_all p js (λ j d l. h (suc j) d (omega arith)))

-- some standing is such exactly where the sum over all is above 0
pub some_sum : (f : Standing → Bool) (xs : List Standing) → some f xs ≡ ltb 0 (sum_by (λ x. one (f x)) xs)
some_sum f [] = refl
some_sum f (x ∷ xs) =
    let e = sum_by-cons (λ y. one (f y)) x xs in
    let rest = some_sum f xs in
    rw e (elim (cases_Bool (f x)) [
      | inl t ↦ let z = ap one t in ap (λ b. b || some f xs) t ∙ sym (lt-ltb 0 _ (omega (arith, z)))
      | inr t ↦ let z = ap one t in ap (λ b. b || some f xs) t ∙ rest ∙ ap (λ (n : ℕ). ltb 0 n) (omega (arith, z))
    ])
