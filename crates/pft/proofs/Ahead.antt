-- How many writers are before a party in the line, and a lock that is opened.
use Rattle.std.proofs.Common.{mul-zero, ◌≡◌, ℕ, zero, suc, ◌+◌, ◌-◌, ◌%◌, ◌^◌, ◌<◌, ◌≤◌, true, false, eqb, List, [], ◌∷◌, map, length, get_or, take, replicate, sum_by, sym, refl, ap, ◌∙◌, ⊎_elim, arith}
use lib.Seq.{take-length}
use Rattle.std.specs.List.{range_with_len}
use Rattle.std.proofs.lemmas.List.FromFn.{get_or-map-range_with_len, length-map-range_with_len}
use Rattle.std.proofs.lemmas.List.Sums.{get_or-le-sum_by}
use Rattle.std.proofs.lemmas.List.Folds.{sum_by-replicate}
use Rattle.std.proofs.lemmas.Bool.{lt-ltb, le-ltb, eq-eqb, ne_eqb, or_left, or_right, or_from, cond-true, cond-false, cond_both, cases_lt}
use Rattle.phase.specs.Book.{Book, new}
use Rattle.phase.specs.Line.{has, place, ahead}
use Rattle.pft.specs.Sound.{Sound, holds, holder, line_of, writer, writer_at, stands_as, seen}
use Rattle.phase.specs.declared.kinds.Standing.{Standing}
use Rattle.phase.specs.declared.kinds.Standing.TheVariants as S
use Rattle.pft_steps.specs.declared.party.Stage.{Stage}
use Rattle.pft_steps.specs.declared.party.Party.{Party}
use Rattle.pft.proofs.Line.{holder_is, holder_holds, holds_ticket}
use Rattle.pft_steps.proofs.Wrap.{wrap_cancel}
use Rattle.pft.proofs.Given.{Given, holds_no, holds_yes, few_writers}
use Rattle.pft_steps.specs.Steps.{nobody}

-- the place of one that stands in a list, and not before
place_is : (js : List ℕ) (i k : ℕ) → k < length js → get_or js k 0 ≡ i → ((j : ℕ) → j < k → get_or js j 0 ≡ i → ⊥) → (has i js ≡ true) × (place i js ≡ k)
place_is [] i k h e n = absurd (omega arith)
place_is (x ∷ js) i zero h e n = (or_left (eqb x i) _ (eq-eqb x i e), cond-true (eqb x i) 0 _ (eq-eqb x i e))
place_is (x ∷ js) i (suc k) h e n =
    let rest = place_is js i k (omega arith) e (λ j l. n (suc j) (omega arith)) in
    (or_right (eqb x i) _ rest.0, cond-false (eqb x i) 0 _ (ne_eqb x i (n 0 (omega arith))) ∙ ap suc rest.1)

place_le : (js : List ℕ) (i : ℕ) → place i js ≤ length js
place_le [] i = omega arith
place_le (x ∷ js) i = cond_both (eqb x i) 0 (suc (place i js)) (λ n. n ≤ suc (length js)) (λ _. omega arith) (λ _. let k = place_le js i in omega arith)

-- nobody has more before it than a line is long
pub ahead_le : (b : Book) (i : ℕ) → ahead b i ≤ length b.line
ahead_le b i = cond_both (has i b.line) (place i b.line) 0 (λ n. n ≤ length b.line) (λ _. place_le b.line i) (λ _. omega arith)

-- one that a list does not have
has_not : (js : List ℕ) (i : ℕ) → ((j : ℕ) → j < length js → get_or js j 0 ≡ i → ⊥) → has i js ≡ false
has_not [] i n = refl
has_not (x ∷ js) i n = or_from _ _ (ne_eqb x i (n 0 (omega arith))) (has_not js i (λ j l. n (suc j) (omega arith)))

module _ {rin rout win wout : ℕ} {ps : List Party} {i : ℕ} {d : Party} {st : Stage} (g : Given rin rout win wout ps i d st) where
  long : length (line_of wout ps) ≡ sum_by writer ps
  long = length-map-range_with_len _ 0 (sum_by writer ps)

  -- who stands at a place of the line holds the ticket of that place
  at_place : (j : ℕ) → j < sum_by writer ps → get_or (line_of wout ps) j 0 ≡ i → 0 < holds ((wout + j) % 2 ^ 32) (get_or ps i d)
  at_place j l e =
      let f : ℕ → ℕ = λ k. holder ((wout + k) % 2 ^ 32) ps in
      let big : j < 2 ^ 32 = omega (arith, few_writers g) in
      let h = holder_holds ((wout + j) % 2 ^ 32) ps d (omega (arith, g.sound.tickets j big ∙ cond-true _ 1 0 (lt-ltb j _ l))) in
      rw (sym (get_or-map-range_with_len f 0 (sum_by writer ps) j j 0 l (omega arith)) ∙ e) at h.1

  pub ahead_none : writer_at st ≡ 0 → ahead (seen rin wout ps) i ≡ 0
  ahead_none w = cond-false _ _ 0 (has_not (line_of wout ps) i (λ j l e.
      let lt : j < sum_by writer ps = omega (arith, long) in
      let h = at_place j lt e in
      let z = holds_no ((wout + j) % 2 ^ 32) (get_or ps i d) (ap writer_at g.stage ∙ w) in omega arith))

  module _ (w : writer_at st ≡ 1) (fits : (get_or ps i d).ticket < 2 ^ 32) where
    rank : ℕ
    rank = ((get_or ps i d).ticket + (2 ^ 32 - wout)) % 2 ^ 32

    back : (wout + ((get_or ps i d).ticket + (2 ^ 32 - wout)) % 2 ^ 32) % 2 ^ 32 ≡ (get_or ps i d).ticket
    back = omega (arith, g.wout_fits)

    counts : holds ((wout + ((get_or ps i d).ticket + (2 ^ 32 - wout)) % 2 ^ 32) % 2 ^ 32) (get_or ps i d) ≡ 1
    counts = holds_yes _ (get_or ps i d) (sym back) ∙ ap writer_at g.stage ∙ w

    small : ((get_or ps i d).ticket + (2 ^ 32 - wout)) % 2 ^ 32 < 2 ^ 32
    small = omega arith

    pub in_line : ((get_or ps i d).ticket + (2 ^ 32 - wout)) % 2 ^ 32 < sum_by writer ps
    in_line =
        ⊎_elim (λ l. l) (λ l. absurd (omega (
          arith,
          counts,
          get_or-le-sum_by (holds ((wout + ((get_or ps i d).ticket + (2 ^ 32 - wout)) % 2 ^ 32) % 2 ^ 32)) ps i d g.here,
          g.sound.tickets _ small ∙ cond-false _ 1 0 (le-ltb _ _ l),
        )))
        (cases_lt (((get_or ps i d).ticket + (2 ^ 32 - wout)) % 2 ^ 32) (sum_by writer ps))

    pub ahead_is : ahead (seen rin wout ps) i ≡ ((get_or ps i d).ticket + (2 ^ 32 - wout)) % 2 ^ 32
    ahead_is =
        let k : ℕ = ((get_or ps i d).ticket + (2 ^ 32 - wout)) % 2 ^ 32 in
        let f : ℕ → ℕ = λ n. holder ((wout + n) % 2 ^ 32) ps in
        let one : sum_by (holds ((wout + k) % 2 ^ 32)) ps ≡ 1 = g.sound.tickets k small ∙ cond-true _ 1 0 (lt-ltb k _ in_line) in
        let here : get_or (line_of wout ps) k 0 ≡ i =
        get_or-map-range_with_len f 0 (sum_by writer ps) k k 0 in_line (omega arith) ∙ holder_is ((wout + k) % 2 ^ 32) ps i d g.here (omega (arith, counts)) (omega (arith, one)) in
        let p =
        place_is (line_of wout ps) i k (omega (arith, long, in_line)) here
        (λ j l e. let h = at_place j (omega (arith, in_line)) e in
        let z : j ≡ k = wrap_cancel 32 wout j k g.wout_fits (omega (arith, small)) small (sym (holds_ticket _ (get_or ps i d) h) ∙ sym back) in omega arith) in
        cond-true _ _ 0 p.0 ∙ p.1

-- a party past the parties is in no line
pub none_past : (rin rout win wout : ℕ) (ps : List Party) (i : ℕ) → Sound rin rout win wout ps → sum_by writer ps ≤ 32 → length ps ≤ i → ahead (seen rin wout ps) i ≡ 0
none_past rin rout win wout ps i s few h =
    let f : ℕ → ℕ = λ k. holder ((wout + k) % 2 ^ 32) ps in
    let long : length (line_of wout ps) ≡ sum_by writer ps = length-map-range_with_len _ 0 (sum_by writer ps) in
    cond-false _ _ 0 (has_not (line_of wout ps) i (λ j l e.
    let lt : j < sum_by writer ps = omega (arith, long) in
    let big : j < 2 ^ 32 = omega arith in
    let o = holder_holds ((wout + j) % 2 ^ 32) ps nobody (omega (arith, s.tickets j big ∙ cond-true _ 1 0 (lt-ltb j _ lt))) in
    let q : holder ((wout + j) % 2 ^ 32) ps ≡ i = sym (get_or-map-range_with_len f 0 (sum_by writer ps) j j 0 lt (omega arith)) ∙ e in
    omega (arith, o.0)))

-- a lock with all parties away
map_away : (f n : ℕ) → map (stands_as f) (replicate n nobody) ≡ replicate n S.Away
map_away f zero = refl
map_away f (suc n) = ap (λ (xs : List Standing). S.Away ∷ xs) (map_away f n)

no_writer : (n : ℕ) → sum_by writer (replicate n nobody) ≡ 0
no_writer n = sum_by-replicate writer n nobody ∙ mul-zero n

pub fresh_seen : (r c n : ℕ) (ps : List Party) → ps ≡ replicate n nobody → seen r c (take (length ps) ps) ≡ new n
fresh_seen r c n ps e =
    let l : line_of c (replicate n nobody) ≡ [] = ap (λ (m : ℕ). map (λ k. holder ((c + k) % 2 ^ 32) (replicate n nobody)) (range_with_len 0 m)) (no_writer n) in
    rw (take-length ps, e) (λ k. record { standings = map_away (r % 4) n k; line = l k })
