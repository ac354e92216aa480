-- A called writer posts.
use Rattle.std.proofs.Common.{◌≡◌, ℕ, ◌+◌, ◌/◌, ◌%◌, ◌^◌, ◌<◌, true, false, List, map, length, get_or, set, sum_by, sym, refl, ap, ◌∙◌, arith, length-set}
use Rattle.std.proofs.lemmas.List.{map-set}
use Rattle.std.proofs.lemmas.Bool.{cond-false}
use Rattle.std.proofs.lemmas.Bool.Decides.{nat_tests}
use Rattle.phase.specs.Book.{step, says, put}
use Rattle.phase.specs.declared.kinds.LockCall.TheVariants.{Advance}
use Rattle.pft.specs.Sound.{active, Sound, Fit, FitAt, holds, writer, reader, reader_at, going, active_in, present_in, stands_as, seen}
use Rattle.phase.specs.declared.kinds.Standing.{Standing}
use Rattle.phase.specs.declared.kinds.Standing.TheVariants as S
use Rattle.pft_steps.specs.declared.party.Stage.{Stage}
use Rattle.pft_steps.specs.declared.party.Stage.TheVariants as G
use Rattle.pft_steps.specs.declared.party.Party.{Party}
use Rattle.pft.proofs.Lists.{sum_by-same, map_same, each_set}
use Rattle.pft.proofs.Line.{line_kept}
use Rattle.phase.specs.declared.kinds.Letter.TheVariants as L
use Rattle.pft.proofs.Given.{held_zero, Given, present_flag, only, advances_at, mine, beside, itself, resum, none_goes}
use Rattle.pft_steps.specs.Steps.{held, standing_at}

held_other : (f s : ℕ) → (s ≡ f → ⊥) → held f s ≡ false
held_other f s h = grind (arith, nat_tests)

-- with no reader held off, a stands-as does not depend on the writer present, and each reader is active
pub same_standing : (f g : ℕ) (st : Stage) (s : ℕ) → (st ≡ G.Waiting → held f s ≡ false) → (st ≡ G.Waiting → held g s ≡ false) → standing_at f st s ≡ standing_at g st s
same_standing f g G.Away s a b = refl
same_standing f g G.Waiting s a b = cond-false _ S.HeldOff S.Cleared (a refl) ∙ sym (cond-false _ S.HeldOff S.Cleared (b refl))
same_standing f g G.Reading s a b = refl
same_standing f g G.InLine s a b = refl
same_standing f g G.Called s a b = refl
same_standing f g G.Posted s a b = refl
same_standing f g G.Writing s a b = refl
same_standing f g G.GoingOut s a b = refl

pub all_active : (f : ℕ) (st : Stage) (s : ℕ) → (st ≡ G.Waiting → held f s ≡ false) → active (standing_at f st s) ≡ reader_at st
all_active f G.Away s a = refl
all_active f G.Waiting s a = ap active (cond-false _ S.HeldOff S.Cleared (a refl))
all_active f G.Reading s a = refl
all_active f G.InLine s a = refl
all_active f G.Called s a = refl
all_active f G.Posted s a = refl
all_active f G.Writing s a = refl
all_active f G.GoingOut s a = refl

-- the writer with the number that it saves
abbrev pub posted : ℕ → Party → Party
posted rin p = record { stage = G.Posted; saved = rin; ticket = p.ticket }

module _ {rin rout win wout : ℕ} {ps : List Party} {i : ℕ} {d : Party} (g : Given rin rout win wout ps i d G.Called) where
  own : FitAt G.Called (get_or ps i d).saved (get_or ps i d).ticket rin rout wout (sum_by going ps) (sum_by (active_in (rin % 4)) ps)
  own = rw g.stage at (mine g)

  low : (rin + (2 + wout % 2)) % 2 ^ 32 % 256 ≡ 2 + wout % 2
  low = omega (arith, own.1)

  low4 : (rin + (2 + wout % 2)) % 2 ^ 32 % 4 ≡ 2 + wout % 2
  low4 = omega (arith, own.1)

  zero4 : rin % 4 ≡ 0
  zero4 = omega (arith, own.1)

  upper : (rin + (2 + wout % 2)) % 2 ^ 32 / 256 ≡ rin / 256
  upper = omega (arith, own.1)

  no_goes : sum_by going ps ≡ 0
  no_goes = none_goes g own.0 refl refl

  free : (j : ℕ) (e : Party) → j < length ps → (get_or ps j e).stage ≡ G.Waiting → held (2 + wout % 2) (get_or ps j e).saved ≡ false
  free j e h w =
      let k : FitAt G.Waiting (get_or ps j e).saved (get_or ps j e).ticket rin rout wout (sum_by going ps) (sum_by (active_in (rin % 4)) ps) = rw w at (g.sound.each j e h) in
      held_other _ _ (λ y. k.2 own.1 (y ∙ rw no_goes (omega arith)))

  pub post_moves : step true (Advance i) (seen rin wout ps) ≡ says L.Posted (seen ((rin + (2 + wout % 2)) % 2 ^ 32) wout (set ps i (posted rin (get_or ps i d))))
  post_moves =
      let l = line_kept wout ps i (posted rin (get_or ps i d)) d g.here (λ t. sym (ap (holds t) (itself g))) (sym (ap writer (itself g))) in
      let s : map (stands_as (2 + wout % 2)) ps ≡ map (stands_as (rin % 4)) ps = map_same _ _ ps (λ j e h. same_standing _ _ (get_or ps j e).stage _ (free j e h) (λ _. rw zero4 (held_zero (get_or ps j e).saved))) in
      let m : map (stands_as ((rin + (2 + wout % 2)) % 2 ^ 32 % 4)) (set ps i (posted rin (get_or ps i d))) ≡ set (map (stands_as (rin % 4)) ps) i S.Posted =
      rw low4 (map-set (stands_as (2 + wout % 2)) ps i (posted rin (get_or ps i d)) ∙ ap (λ (xs : List Standing). set xs i S.Posted) s) in
      let after : seen ((rin + (2 + wout % 2)) % 2 ^ 32) wout (set ps i (posted rin (get_or ps i d))) ≡ put (seen rin wout ps) i S.Posted = λ k. record { standings = m k; line = l k } in
      advances_at g ∙ ap (says L.Posted) (sym after)

  pub post_sound : Sound ((rin + (2 + wout % 2)) % 2 ^ 32) rout win wout (set ps i (posted rin (get_or ps i d)))
  post_sound =
      let q : Party = posted rin (get_or ps i d) in
      let w : sum_by writer (set ps i q) ≡ sum_by writer ps = omega (arith, resum g writer q) in
      let r : sum_by reader (set ps i q) ≡ sum_by reader ps = omega (arith, resum g reader q) in
      let go : sum_by going (set ps i q) ≡ 0 = omega (arith, resum g going q, no_goes) in
      let pr : sum_by (present_in (2 + wout % 2)) ps ≡ sum_by (present_in (rin % 4)) ps = sum_by-same _ _ ps (λ j e _. present_flag (2 + wout % 2) (rin % 4) (get_or ps j e).stage (get_or ps j e).saved) in
      let ac : sum_by (active_in (2 + wout % 2)) (set ps i q) ≡ sum_by reader ps =
      omega (arith, resum g (active_in (2 + wout % 2)) q, sum_by-same (active_in (2 + wout % 2)) reader ps (λ j e h. all_active _ (get_or ps j e).stage _ (free j e h))) in
      record {
        few = rw length-set g.sound.few;
        readers = rw (r, upper) g.sound.readers;
        writers = rw w g.sound.writers;
        shown = rw (low4, low) (omega (arith, resum g (present_in (2 + wout % 2)) q, g.sound.shown, own.1, pr));
        tickets = λ k l. let t : sum_by (holds ((wout + k) % 2 ^ 32)) (set ps i q) ≡ sum_by (holds ((wout + k) % 2 ^ 32)) ps = omega (arith, resum g (holds ((wout + k) % 2 ^ 32)) q) in rw (t, w) (g.sound.tickets k l);
        each = each_set (Fit ((rin + (2 + wout % 2)) % 2 ^ 32) rout wout (set ps i q)) ps i q
            (own.0, low, own.1, rw (low4, ac) g.sound.readers)
            (λ j e l ne. beside (get_or ps j e).stage _ _ rin _ rout _ wout _ _ _ _ _ (only g own.0 refl j e l ne)
            (λ h p. (h.0, h.1, λ z y. omega (arith, low))) (g.sound.each j e l));
      }
