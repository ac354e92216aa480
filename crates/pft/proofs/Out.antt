-- Who is first in the line, and the step of a writer that goes out.
use Rattle.std.proofs.Common.{◌≡◌, ℕ, suc, ◌+◌, ◌-◌, ◌%◌, ◌^◌, ◌<◌, ◌≤◌, Bool, true, false, cond, ltb, List, ◌∷◌, map, get_or, set, sum_by, sym, refl, ap, ◌∙◌, ⊎_elim, arith, length-set}
use Rattle.std.specs.List.{range_with_len}
use Rattle.std.proofs.lemmas.List.FromFn.{get_or-map-range_with_len, length-map-range_with_len}
use Rattle.std.proofs.lemmas.List.Sums.{get_or-le-sum_by}
use Rattle.std.proofs.lemmas.List.{map-set}
use Rattle.std.proofs.lemmas.Bool.{lt-ltb, le-ltb, eq-eqb, ne_eqb, cond-true, cond-false, cases_lt}
use Rattle.std.proofs.lemmas.Bool.Decides.{nat_tests}
use Rattle.phase.specs.Book.{says, gone, without, leads}
use Rattle.phase.specs.Book as book
use Rattle.phase.specs.declared.kinds.LockCall.TheVariants.{Advance}
use Rattle.pft.specs.Sound.{Sound, Fit, FitAt, holds, holder, line_of, writer, writer_at, reader, going, active_in, present_in, stands_as, seen}
use Rattle.pft_steps.specs.declared.party.Stage.{Stage}
use Rattle.pft_steps.specs.declared.party.Stage.TheVariants as G
use Rattle.pft_steps.specs.declared.party.Party.{Party}
use Rattle.pft.proofs.Lists.{each_set, counted_same, without_all}
use Rattle.pft.proofs.Line.{holder_is, holder_set, holder_holds, holds_ticket}
use Rattle.pft_steps.proofs.Wrap.{wrap_more, added_nothing}
use Rattle.phase.specs.declared.kinds.Letter.TheVariants as L
use Rattle.pft.proofs.Given.{Given, holds_no, holds_yes, few_writers, only, advances_at, mine, beside, itself, resum}
use Rattle.pft_steps.specs.Steps.{moved, nobody}

-- whether a writer is first in the line is whether its ticket is wout
module _ {rin rout win wout : ℕ} {ps : List Party} {i : ℕ} {d : Party} {st : Stage} (g : Given rin rout win wout ps i d st) (is_writer : writer_at st ≡ 1) where
  at0 : (wout + 0) % 2 ^ 32 ≡ wout
  at0 = omega (arith, g.wout_fits)

  writes : writer (get_or ps i d) ≡ 1
  writes = ap writer_at g.stage ∙ is_writer

  some_writer : 0 < sum_by writer ps
  some_writer = omega (arith, get_or-le-sum_by writer ps i d g.here, writes)

  one : sum_by (holds wout) ps ≡ 1
  one = rw at0 at (g.sound.tickets 0 (omega arith)) ∙ cond-true _ 1 0 (lt-ltb 0 _ some_writer)

  before : ℕ
  before = sum_by writer ps - 1

  count : sum_by writer ps ≡ suc (sum_by writer ps - 1)
  count = omega (arith, some_writer)

  pub split : line_of wout ps ≡ holder wout ps ∷ map (λ k. holder ((wout + k) % 2 ^ 32) ps) (range_with_len 1 (sum_by writer ps - 1))
  split =
      ap (λ (n : ℕ). map (λ k. holder ((wout + k) % 2 ^ 32) ps) (range_with_len 0 n)) count
      ∙ ap (λ (n : ℕ). holder n ps ∷ map (λ k. holder ((wout + k) % 2 ^ 32) ps) (range_with_len 1 (sum_by writer ps - 1))) at0

  pub first_yes : (get_or ps i d).ticket ≡ wout → leads (line_of wout ps) i ≡ true
  first_yes e =
      let h : holder wout ps ≡ i = holder_is wout ps i d g.here (omega (arith, holds_yes wout (get_or ps i d) e, writes)) (omega (arith, one)) in
      ap (λ (js : List ℕ). leads js i) split ∙ eq-eqb _ _ h

  pub first_no : ((get_or ps i d).ticket ≡ wout → ⊥) → leads (line_of wout ps) i ≡ false
  first_no ne =
      let h = holder_holds wout ps d (omega (arith, one)) in
      ap (λ (js : List ℕ). leads js i) split ∙ ne_eqb _ _ (λ e. ne (holds_ticket wout (get_or ps i d) (rw e at h.1)))

-- a writer goes out
module _ {rin rout win wout : ℕ} {ps : List Party} {i : ℕ} {d : Party} (g : Given rin rout win wout ps i d G.GoingOut) where
  own : FitAt G.GoingOut (get_or ps i d).saved (get_or ps i d).ticket rin rout wout (sum_by going ps) (sum_by (active_in (rin % 4)) ps)
  own = rw g.stage at (mine g)

  fewer : sum_by writer ps ≤ 32
  fewer = few_writers g

  less : sum_by writer (set ps i nobody) + 1 ≡ sum_by writer ps
  less = omega (arith, resum g writer nobody)

  step : (k : ℕ) → ((wout + 1) % 2 ^ 32 + k) % 2 ^ 32 ≡ (wout + (1 + k)) % 2 ^ 32
  step k = wrap_more 32 wout 1 k

  -- a later ticket is another one
  later : (k : ℕ) → 1 + k < 2 ^ 32 → wout ≡ (wout + (1 + k)) % 2 ^ 32 → ⊥
  later k h e = let z = added_nothing 32 wout (1 + k) g.wout_fits h (sym e) in omega arith

  not_mine : (k : ℕ) → 1 + k < 2 ^ 32 → holds ((wout + (1 + k)) % 2 ^ 32) (moved G.GoingOut (get_or ps i d)) ≡ 0
  not_mine k h = cond-false _ 1 0 (ne_eqb _ _ (λ e. later k h (sym own.0 ∙ e)))

  tickets_after : (k : ℕ) → k < 2 ^ 32 → sum_by (holds (((wout + 1) % 2 ^ 32 + k) % 2 ^ 32)) (set ps i nobody) ≡ cond (ltb k (sum_by writer (set ps i nobody))) 1 0
  tickets_after k h =
      ⊎_elim
      (λ (l : 1 + k < 2 ^ 32). let t : ℕ = (wout + (1 + k)) % 2 ^ 32 in
      let r = resum g (holds t) nobody in
      let z : holds t nobody ≡ 0 = holds_no t nobody refl in
      let now : sum_by (holds t) (set ps i nobody) ≡ sum_by (holds t) ps = omega (arith, not_mine k l) in
      let tests : ltb (1 + k) (sum_by writer ps) ≡ ltb k (sum_by writer (set ps i nobody)) = let n = less in grind (arith, nat_tests) in
      rw (step k) (now ∙ g.sound.tickets (1 + k) l ∙ ap (λ (b : Bool). cond b 1 0) tests))
      (λ (l : 2 ^ 32 ≤ 1 + k). let back : ((wout + 1) % 2 ^ 32 + k) % 2 ^ 32 ≡ wout = omega (arith, g.wout_fits) in
      let r = resum g (holds wout) nobody in
      let z : holds wout nobody ≡ 0 = holds_no wout nobody refl in
      let y : holds wout (moved G.GoingOut (get_or ps i d)) ≡ 1 = holds_yes wout (moved G.GoingOut (get_or ps i d)) own.0 in
      let o : sum_by (holds wout) ps ≡ 1 = one g refl in
      let now : sum_by (holds wout) (set ps i nobody) ≡ 0 = omega arith in
      let big : sum_by writer (set ps i nobody) ≤ k = omega (arith, less, fewer) in
      rw back (now ∙ sym (cond-false _ 1 0 (le-ltb k (sum_by writer (set ps i nobody)) big))))
      (cases_lt (1 + k) (2 ^ 32))

  line_after : line_of ((wout + 1) % 2 ^ 32) (set ps i nobody) ≡ without i (line_of wout ps)
  line_after =
      let f : ℕ → ℕ = λ k. holder ((wout + k) % 2 ^ 32) ps in
      let n : ℕ = sum_by writer ps - 1 in
      let len : sum_by writer (set ps i nobody) ≡ n = omega (arith, less) in
      let head : holder wout ps ≡ i = holder_is wout ps i d g.here (omega (arith, holds_yes wout (get_or ps i d) own.0, writes g refl)) (omega (arith, one g refl)) in
      let gone : without i (line_of wout ps) ≡ without i (map f (range_with_len 1 n)) =
      ap (without i) (split g refl) ∙ cond-true _ _ _ (eq-eqb (holder wout ps) i head) in
      let kept : without i (map f (range_with_len 1 n)) ≡ map f (range_with_len 1 n) =
      without_all i (map f (range_with_len 1 n)) (λ j e l z.
      let lt : j < n = rw length-map-range_with_len at l in
      let in' : 1 + j < sum_by writer ps = omega arith in
      let big : 1 + j < 2 ^ 32 = omega (arith, fewer) in
      let h = holder_holds ((wout + (1 + j)) % 2 ^ 32) ps d (omega (arith, g.sound.tickets (1 + j) big ∙ cond-true _ 1 0 (lt-ltb (1 + j) _ in'))) in
      let y : holder ((wout + (1 + j)) % 2 ^ 32) ps ≡ i = sym (get_or-map-range_with_len f 1 n j (1 + j) e lt refl) ∙ z in
      later j big (sym own.0 ∙ holds_ticket _ (get_or ps i d) (rw y at h.1))) in
      let rest : map (λ k. holder (((wout + 1) % 2 ^ 32 + k) % 2 ^ 32) (set ps i nobody)) (range_with_len 0 n) ≡ map f (range_with_len 1 n) =
      counted_same _ f 0 1 n (λ k l.
      let big : 1 + k < 2 ^ 32 = omega (arith, fewer) in
      let t : ((wout + 1) % 2 ^ 32 + (0 + k)) % 2 ^ 32 ≡ (wout + (1 + k)) % 2 ^ 32 = ap (λ (x : ℕ). ((wout + 1) % 2 ^ 32 + x) % 2 ^ 32) (omega arith) ∙ step k in
      ap (λ (x : ℕ). holder x (set ps i nobody)) t
      ∙ holder_set _ ps i nobody d g.here (holds_no _ nobody refl ∙ sym (ap (holds _) (itself g) ∙ not_mine k big))) in
      ap (λ (m : ℕ). map (λ k. holder (((wout + 1) % 2 ^ 32 + k) % 2 ^ 32) (set ps i nobody)) (range_with_len 0 m)) len ∙ rest ∙ sym (gone ∙ kept)

  pub out_sound : Sound rin rout win ((wout + 1) % 2 ^ 32) (set ps i nobody)
  out_sound =
      let ac : sum_by (active_in (rin % 4)) (set ps i nobody) ≡ sum_by (active_in (rin % 4)) ps = omega (arith, resum g (active_in (rin % 4)) nobody) in
      let r : sum_by reader (set ps i nobody) ≡ sum_by reader ps = omega (arith, resum g reader nobody) in
      let p : sum_by (present_in (rin % 4)) (set ps i nobody) ≡ sum_by (present_in (rin % 4)) ps = omega (arith, resum g (present_in (rin % 4)) nobody) in
      let go = resum g going nobody in
      let w : sum_by writer ps ≡ 1 + sum_by writer (set ps i nobody) = omega (arith, less) in
      record {
        few = rw length-set g.sound.few;
        readers = rw r g.sound.readers;
        writers = g.sound.writers ∙ ap (λ (n : ℕ). (wout + n) % 2 ^ 32) w ∙ sym (wrap_more 32 wout 1 (sum_by writer (set ps i nobody)));
        shown = rw p g.sound.shown;
        tickets = tickets_after;
        each = each_set (Fit rin rout ((wout + 1) % 2 ^ 32) (set ps i nobody)) ps i nobody tt
            (λ j e l ne. beside (get_or ps j e).stage _ _ rin _ rout _ wout _ _ _ _ _ (only g own.0 refl j e l ne)
            (λ h q. (h.0, h.1, λ z y. h.2 z (omega arith))) (g.sound.each j e l));
      }

  pub out_moves : book.step true (Advance i) (seen rin wout ps) ≡ says L.Gone (seen rin ((wout + 1) % 2 ^ 32) (set ps i nobody))
  out_moves =
      let m = map-set (stands_as (rin % 4)) ps i nobody in
      let after : seen rin ((wout + 1) % 2 ^ 32) (set ps i nobody) ≡ gone (seen rin wout ps) i = λ k. record { standings = m k; line = line_after k } in
      advances_at g ∙ ap (says L.Gone) (sym after)
