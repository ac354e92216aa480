-- The leave of a reader.
use Rattle.std.proofs.Common.{◌≡◌, ℕ, ◌+◌, ◌/◌, ◌%◌, ◌^◌, ◌<◌, true, List, get_or, set, sum_by, sym, refl, ap, ◌∙◌, arith, length-set}
use Rattle.std.proofs.lemmas.List.{map-set}
use Rattle.phase.specs.Book.{step, says, put}
use Rattle.phase.specs.declared.kinds.LockCall.TheVariants.{Leave}
use Rattle.pft.specs.Sound.{Sound, Fit, FitAt, holds, writer, reader, going, active_in, present_in, stands_as, seen}
use Rattle.phase.specs.declared.kinds.Standing.TheVariants as S
use Rattle.pft_steps.specs.declared.party.Stage.{Stage}
use Rattle.pft_steps.specs.declared.party.Stage.TheVariants as G
use Rattle.pft_steps.specs.declared.party.Party.{Party}
use Rattle.pft.proofs.Lists.{each_set}
use Rattle.pft.proofs.Line.{line_kept}
use Rattle.phase.specs.declared.kinds.Letter.TheVariants as L
use Rattle.pft.proofs.Given.{Given, holds_no, leaves_at, itself, resum}
use Rattle.pft.proofs.Count.{one_out}
use Rattle.pft_steps.specs.Steps.{moved, nobody}

-- what is known of the others, where a reader leaves: each posted writer waits for one less, and no writer is inside
others : (st : Stage) (s t rin rout wout goes acts acts' : ℕ) → rout < 2 ^ 32 → acts ≡ acts' + 1 → FitAt st s t rin rout wout goes acts → FitAt st s t rin ((rout + 256) % 2 ^ 32) wout goes acts'
others G.Away s t rin rout wout goes acts acts' f a h = tt
others G.Waiting s t rin rout wout goes acts acts' f a h = h
others G.Reading s t rin rout wout goes acts acts' f a h = tt
others G.InLine s t rin rout wout goes acts acts' f a h = tt
others G.Called s t rin rout wout goes acts acts' f a h = h
others G.Posted s t rin rout wout goes acts acts' f a h = (h.0, h.1, h.2, one_out (s / 256) rout acts' f (h.3 ∙ ap (λ (n : ℕ). (rout / 256 + n) % 2 ^ 24) a))
others G.Writing s t rin rout wout goes acts acts' f a h = absurd (omega (arith, h.2))
others G.GoingOut s t rin rout wout goes acts acts' f a h = h

module _ {rin rout win wout : ℕ} {ps : List Party} {i : ℕ} {d : Party} (g : Given rin rout win wout ps i d G.Reading) where
  pub done_sound : Sound rin ((rout + 256) % 2 ^ 32) win wout (set ps i nobody)
  done_sound =
      let go : sum_by going (set ps i nobody) ≡ sum_by going ps = omega (arith, resum g going nobody) in
      let ac : sum_by (active_in (rin % 4)) ps ≡ sum_by (active_in (rin % 4)) (set ps i nobody) + 1 = omega (arith, resum g (active_in (rin % 4)) nobody) in
      let r : sum_by reader ps ≡ sum_by reader (set ps i nobody) + 1 = omega (arith, resum g reader nobody) in
      let w : sum_by writer (set ps i nobody) ≡ sum_by writer ps = omega (arith, resum g writer nobody) in
      let p : sum_by (present_in (rin % 4)) (set ps i nobody) ≡ sum_by (present_in (rin % 4)) ps = omega (arith, resum g (present_in (rin % 4)) nobody) in
      record {
        few = rw length-set g.sound.few;
        readers = one_out (rin / 256) rout (sum_by reader (set ps i nobody)) g.rout_fits (g.sound.readers ∙ ap (λ (n : ℕ). (rout / 256 + n) % 2 ^ 24) r);
        writers = rw w g.sound.writers;
        shown = rw p g.sound.shown;
        tickets = λ k l. let t : sum_by (holds ((wout + k) % 2 ^ 32)) (set ps i nobody) ≡ sum_by (holds ((wout + k) % 2 ^ 32)) ps = omega (arith, resum g (holds ((wout + k) % 2 ^ 32)) nobody, holds_no ((wout + k) % 2 ^ 32) nobody refl, holds_no ((wout + k) % 2 ^ 32) (moved G.Reading (get_or ps i d)) refl) in rw (t, w) (g.sound.tickets k l);
        each = each_set (Fit rin ((rout + 256) % 2 ^ 32) wout (set ps i nobody)) ps i nobody tt
            (λ j e l ne. rw go (others (get_or ps j e).stage _ _ rin rout wout _ _ _ g.rout_fits ac (g.sound.each j e l)));
      }

  pub done_moves : step true (Leave i) (seen rin wout ps) ≡ says L.Away (seen rin wout (set ps i nobody))
  done_moves =
      let l = line_kept wout ps i nobody d g.here (λ t. holds_no t nobody refl ∙ sym (ap (holds t) (itself g) ∙ holds_no t (moved G.Reading (get_or ps i d)) refl)) (sym (ap writer (itself g))) in
      let m = map-set (stands_as (rin % 4)) ps i nobody in
      let after : seen rin wout (set ps i nobody) ≡ put (seen rin wout ps) i S.Away = λ k. record { standings = m k; line = l k } in
      leaves_at g ∙ ap (says L.Away) (sym after)
