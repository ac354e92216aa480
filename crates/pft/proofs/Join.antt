-- A request to write.
use Rattle.std.proofs.Common.{◌≡◌, ℕ, ◌+◌, ◌%◌, ◌^◌, ◌<◌, ◌≤◌, Bool, true, cond, eqb, ltb, List, [], ◌∷◌, ◌++◌, map, get_or, set, sum_by, sym, refl, ap, ◌∙◌, ⊎_elim, arith, length-set}
use Rattle.std.specs.List.{range_with_len}
use Rattle.std.proofs.lemmas.List.FromFn.{map-range_with_len_more}
use Rattle.std.proofs.lemmas.List.{get_or-set_same, map-set}
use Rattle.std.proofs.lemmas.Bool.{cases_eq, lt-ltb, le-ltb, eq-eqb, ne_eqb, cond-true, cond-false, cond_both}
use Rattle.std.proofs.lemmas.Bool.Decides.{nat_tests}
use Rattle.phase.specs.Book.{step, says, queue}
use Rattle.phase.specs.declared.kinds.LockCall.TheVariants.{RequestWrite}
use Rattle.pft.specs.Sound.{Sound, Fit, holds, holder, line_of, writer, reader, going, active_in, present_in, stands_as, seen}
use Rattle.pft_steps.specs.declared.party.Stage.TheVariants as G
use Rattle.pft_steps.specs.declared.party.Party.{Party}
use Rattle.pft.proofs.Lists.{each_set, counted_same}
use Rattle.pft.proofs.Line.{holder_is, holder_set}
use Rattle.pft_steps.proofs.Wrap.{wrap_more, wrap_cancel}
use Rattle.phase.specs.declared.kinds.Letter.TheVariants as L
use Rattle.pft.proofs.Given.{Given, holds_no, few_writers, joins_at, itself, resum}
use Rattle.pft_steps.specs.Steps.{moved}

abbrev pub joined : ℕ → Party
joined t = record { stage = G.InLine; saved = 0; ticket = t }

module _ {rin rout win wout : ℕ} {ps : List Party} {i : ℕ} {d : Party} (g : Given rin rout win wout ps i d G.Away) where
  fewer : sum_by writer ps ≤ 32
  fewer = few_writers g

  more : sum_by writer (set ps i (joined win)) ≡ sum_by writer ps + 1
  more = omega (arith, resum g writer (joined win))

  -- no one in the line holds the new ticket
  other : (k : ℕ) → k < 2 ^ 32 → (k ≡ sum_by writer ps → ⊥) → holds ((wout + k) % 2 ^ 32) (joined win) ≡ 0
  other k h ne =
      cond-false (eqb win ((wout + k) % 2 ^ 32)) 1 0 (ne_eqb _ _ (λ e. ne (wrap_cancel 32 wout k (sum_by writer ps) g.wout_fits h (omega (arith, fewer)) (sym e ∙ g.sound.writers))))

  new : holds ((wout + sum_by writer ps) % 2 ^ 32) (joined win) ≡ 1
  new = cond-true (eqb win ((wout + sum_by writer ps) % 2 ^ 32)) 1 0 (eq-eqb _ _ g.sound.writers)

  tickets_after : (k : ℕ) → k < 2 ^ 32 → sum_by (holds ((wout + k) % 2 ^ 32)) (set ps i (joined win)) ≡ cond (ltb k (sum_by writer ps + 1)) 1 0
  tickets_after k h =
      let t : ℕ = (wout + k) % 2 ^ 32 in
      let r = resum g (holds t) (joined win) in
      let z : holds t (moved G.Away (get_or ps i d)) ≡ 0 = holds_no t (moved G.Away (get_or ps i d)) refl in
      let old = g.sound.tickets k h in
      ⊎_elim
      (λ e. let n : holds t (joined win) ≡ 1 = rw e new in
      let o : sum_by (holds t) ps ≡ 0 = old ∙ cond-false _ 1 0 (le-ltb k _ (omega arith)) in
      let now : sum_by (holds t) (set ps i (joined win)) ≡ 1 = omega arith in
      now ∙ sym (cond-true _ 1 0 (lt-ltb k _ (omega arith))))
      (λ ne. let n : holds t (joined win) ≡ 0 = other k h ne in
      let now : sum_by (holds t) (set ps i (joined win)) ≡ sum_by (holds t) ps = omega arith in
      let tests : ltb k (sum_by writer ps) ≡ ltb k (sum_by writer ps + 1) = grind (arith, nat_tests) in
      now ∙ old ∙ ap (λ (b : Bool). cond b 1 0) tests)
      (cases_eq k (sum_by writer ps))

  line_after : line_of wout (set ps i (joined win)) ≡ line_of wout ps ++ (i ∷ [])
  line_after =
      let f : ℕ → ℕ = λ k. holder ((wout + k) % 2 ^ 32) (set ps i (joined win)) in
      let w : ℕ = sum_by writer ps in
      let mine : get_or (set ps i (joined win)) i d ≡ joined win = get_or-set_same ps i (joined win) d g.here in
      let last : f w ≡ i =
      holder_is ((wout + w) % 2 ^ 32) (set ps i (joined win)) i d (rw length-set g.here) (rw mine (omega (arith, new)))
      (rw (tickets_after w (omega (arith, fewer))) (cond_both (ltb w (w + 1)) 1 0 (λ n. n ≤ 1) (λ _. omega arith) (λ _. omega arith))) in
      let front : map f (range_with_len 0 w) ≡ line_of wout ps =
      counted_same f (λ k. holder ((wout + k) % 2 ^ 32) ps) 0 0 w
      (λ k l. holder_set _ ps i (joined win) d g.here (other (0 + k) (omega (arith, fewer)) (λ e. omega arith) ∙ sym (ap (holds _) (itself g) ∙ holds_no _ (moved G.Away (get_or ps i d)) refl))) in
      ap (λ (n : ℕ). map f (range_with_len 0 n)) more ∙ map-range_with_len_more f 0 w w (omega arith)
      ∙ ap (λ (xs : List ℕ). xs ++ (f w ∷ [])) front ∙ ap (λ (n : ℕ). line_of wout ps ++ (n ∷ [])) last

  pub join_sound : Sound rin rout ((win + 1) % 2 ^ 32) wout (set ps i (joined win))
  join_sound =
      let q : Party = joined win in
      let go : sum_by going (set ps i q) ≡ sum_by going ps = omega (arith, resum g going q) in
      let ac : sum_by (active_in (rin % 4)) (set ps i q) ≡ sum_by (active_in (rin % 4)) ps = omega (arith, resum g (active_in (rin % 4)) q) in
      let r : sum_by reader (set ps i q) ≡ sum_by reader ps = omega (arith, resum g reader q) in
      let p : sum_by (present_in (rin % 4)) (set ps i q) ≡ sum_by (present_in (rin % 4)) ps = omega (arith, resum g (present_in (rin % 4)) q) in
      record {
        few = rw length-set g.sound.few;
        readers = rw r g.sound.readers;
        writers = rw more (ap (λ (n : ℕ). (n + 1) % 2 ^ 32) g.sound.writers ∙ wrap_more 32 wout (sum_by writer ps) 1);
        shown = rw p g.sound.shown;
        tickets = λ k l. rw more (tickets_after k l);
        each = each_set (Fit rin rout wout (set ps i q)) ps i q tt (λ j e l ne. rw (go, ac) (g.sound.each j e l));
      }

  pub join_moves : step true (RequestWrite i) (seen rin wout ps) ≡ says L.Queued (seen rin wout (set ps i (joined win)))
  join_moves =
      let m = map-set (stands_as (rin % 4)) ps i (joined win) in
      let after : seen rin wout (set ps i (joined win)) ≡ queue (seen rin wout ps) i = λ k. record { standings = m k; line = line_after k } in
      joins_at g ∙ ap (says L.Queued) (sym after)
