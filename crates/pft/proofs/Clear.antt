-- The leave of a writer.
use Rattle.std.proofs.Common.{◌≡◌, ℕ, ◌+◌, ◌-◌, ◌%◌, ◌^◌, ◌<◌, ◌≤◌, true, cond, List, [], ◌∷◌, map, length, get_or, set, sum_by, sym, refl, ap, ◌∙◌, arith, length-set}
use Rattle.std.proofs.lemmas.List.Sums.{get_or-le-sum_by}
use Rattle.std.proofs.lemmas.List.{map-set}
use Rattle.std.proofs.lemmas.Bool.{cond-false, cond_both}
use Rattle.std.proofs.lemmas.Bool.Decides.{nat_tests}
use Rattle.phase.specs.Book.{step, says, put, freeing, freed}
use Rattle.phase.specs.declared.kinds.LockCall.TheVariants.{Leave}
use Rattle.pft.specs.Sound.{active, Sound, Fit, FitAt, holds, writer, reader, going, active_in, present_in, stands_as, seen}
use Rattle.phase.specs.declared.kinds.Standing.{Standing}
use Rattle.phase.specs.declared.kinds.Standing.TheVariants as S
use Rattle.pft_steps.specs.declared.party.Stage.{Stage}
use Rattle.pft_steps.specs.declared.party.Stage.TheVariants as G
use Rattle.pft_steps.specs.declared.party.Party.{Party}
use Rattle.pft.proofs.Lists.{sum_by-same, each_set}
use Rattle.pft.proofs.Line.{line_kept}
use Rattle.phase.specs.declared.kinds.Letter.TheVariants as L
use Rattle.pft.proofs.Given.{held_zero, Given, present_flag, four, only, leaves_at, mine, beside, itself, resum, none_goes}
use Rattle.pft_steps.specs.Steps.{held, moved, standing_at}

-- with no writer present every held-off reader is cleared
freed_at : (f : ℕ) (st : Stage) (s : ℕ) → standing_at 0 st s ≡ freed (standing_at f st s)
freed_at f G.Away s = refl
freed_at f G.Waiting s = cond-false _ S.HeldOff S.Cleared (held_zero s) ∙ sym (cond_both (held f s) S.HeldOff S.Cleared (λ x. freed x ≡ S.Cleared) (λ _. refl) (λ _. refl))
freed_at f G.Reading s = refl
freed_at f G.InLine s = refl
freed_at f G.Called s = refl
freed_at f G.Posted s = refl
freed_at f G.Writing s = refl
freed_at f G.GoingOut s = refl

all_freed : (f : ℕ) (ps : List Party) → map (stands_as 0) ps ≡ map freed (map (stands_as f) ps)
all_freed f [] = refl
all_freed f (p ∷ ps) = let a = freed_at f p.stage p.saved in let b = all_freed f ps in cc

-- a waiting reader that is not active is held off
held_since : (f s : ℕ) → active (cond (held f s) S.HeldOff S.Cleared) ≤ 0 → s ≡ f
held_since f s = cond_both (held f s) S.HeldOff S.Cleared (λ x. active x ≤ 0 → s ≡ f) (λ e _. grind (arith, nat_tests)) (λ e h. absurd (omega arith))

module _ {rin rout win wout : ℕ} {ps : List Party} {i : ℕ} {d : Party} (g : Given rin rout win wout ps i d G.Writing) where
  own : FitAt G.Writing (get_or ps i d).saved (get_or ps i d).ticket rin rout wout (sum_by going ps) (sum_by (active_in (rin % 4)) ps)
  own = rw g.stage at (mine g)

  low : (rin - rin % 256) % 256 ≡ 0
  low = omega arith

  low4 : (rin - rin % 256) % 4 ≡ 0
  low4 = omega arith

  pub leave_moves : step true (Leave i) (seen rin wout ps) ≡ says L.Out (seen (rin - rin % 256) wout (set ps i (moved G.GoingOut (get_or ps i d))))
  leave_moves =
      let l = line_kept wout ps i (moved G.GoingOut (get_or ps i d)) d g.here (λ t. sym (ap (holds t) (itself g))) (sym (ap writer (itself g))) in
      let m : map (stands_as ((rin - rin % 256) % 4)) (set ps i (moved G.GoingOut (get_or ps i d))) ≡ set (map freed (map (stands_as (rin % 4)) ps)) i S.GoingOut =
      rw low4 (map-set (stands_as 0) ps i (moved G.GoingOut (get_or ps i d)) ∙ ap (λ (xs : List Standing). set xs i S.GoingOut) (all_freed (rin % 4) ps)) in
      let after : seen (rin - rin % 256) wout (set ps i (moved G.GoingOut (get_or ps i d))) ≡ put (freeing (seen rin wout ps)) i S.GoingOut = λ k. record { standings = m k; line = l k } in
      leaves_at g ∙ ap (says L.Out) (sym after)

  -- each reader that waits was held off by this writer
  by_me : (j : ℕ) (e : Party) → j < length ps → (get_or ps j e).stage ≡ G.Waiting → (get_or ps j e).saved ≡ 2 + wout % 2
  by_me j e h w =
      let a = get_or-le-sum_by (active_in (rin % 4)) ps j e h in
      let b : active (standing_at (rin % 4) (get_or ps j e).stage (get_or ps j e).saved) ≤ 0 = omega (arith, own.2) in
      let s : (get_or ps j e).saved ≡ rin % 4 = held_since (rin % 4) (get_or ps j e).saved (rw w at b) in
      omega (arith, own.1, four g)

  pub leave_sound : Sound (rin - rin % 256) rout win wout (set ps i (moved G.GoingOut (get_or ps i d)))
  leave_sound =
      let q : Party = moved G.GoingOut (get_or ps i d) in
      let w : sum_by writer (set ps i q) ≡ sum_by writer ps = omega (arith, resum g writer q) in
      let z : sum_by going ps ≡ 0 = none_goes g own.0 refl refl in
      let go : sum_by going (set ps i q) ≡ 1 = omega (arith, resum g going q) in
      let pr : sum_by (present_in 0) ps ≡ sum_by (present_in (rin % 4)) ps = sum_by-same _ _ ps (λ j e _. present_flag 0 (rin % 4) (get_or ps j e).stage (get_or ps j e).saved) in
      record {
        few = rw length-set g.sound.few;
        readers = omega (arith, resum g reader q, g.sound.readers, low);
        writers = rw w g.sound.writers;
        shown = rw (low4, low) (omega (arith, resum g (present_in 0) q, g.sound.shown, own.1, pr));
        tickets = λ k l. let t : sum_by (holds ((wout + k) % 2 ^ 32)) (set ps i q) ≡ sum_by (holds ((wout + k) % 2 ^ 32)) ps = omega (arith, resum g (holds ((wout + k) % 2 ^ 32)) q) in rw (t, w) (g.sound.tickets k l);
        each = each_set (Fit (rin - rin % 256) rout wout (set ps i q)) ps i q
            (own.0, low)
            (λ j e l ne. rw go (beside (get_or ps j e).stage _ _ rin _ rout _ wout _ _ _ _ _ (only g own.0 refl j e l ne)
            (λ h p. (h.0, h.1, λ _ y. omega (arith, by_me j e l p))) (g.sound.each j e l)));
      }
