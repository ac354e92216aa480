-- Steps that change a stage alone: a reader that enters, a writer that is called.
use Rattle.std.proofs.Common.{◌≡◌, ℕ, ◌+◌, ◌%◌, ◌^◌, true, false, cond, eqb, List, map, get_or, set, sum_by, sym, refl, ap, ◌∙◌, ⊎_elim, arith, length-set}
use Rattle.std.proofs.lemmas.List.{map-set, get_or_default}
use Rattle.std.proofs.lemmas.Bool.{cases_eq, cond-true, cond-false, cond_both}
use Rattle.phase.specs.Book.{step, says, put, advance_as}
use Rattle.phase.specs.declared.kinds.LockCall.TheVariants.{Advance}
use Rattle.pft.specs.Sound.{active, present, Sound, Fit, FitAt, holds, writer, writer_at, reader, reader_at, going, going_at, active_in, present_in, stands_as, seen}
use Rattle.phase.specs.declared.kinds.Standing.{Standing}
use Rattle.phase.specs.declared.kinds.Standing.TheVariants as S
use Rattle.pft_steps.specs.declared.party.Stage.{Stage}
use Rattle.pft_steps.specs.declared.party.Stage.TheVariants as G
use Rattle.pft_steps.specs.declared.party.Party.{Party}
use Rattle.pft.proofs.Lists.{each_set, sum_by-none}
use Rattle.pft.proofs.Line.{line_kept}
use Rattle.phase.specs.declared.kinds.Letter.TheVariants as L
use Rattle.pft.proofs.Out.{first_yes, first_no}
use Rattle.pft.proofs.Given.{Given, only, advances_at, itself, resum}
use Rattle.pft_steps.specs.Steps.{held, moved, standing_at}

module _ {rin rout win wout : ℕ} {ps : List Party} {i : ℕ} {d : Party} {st : Stage} (g : Given rin rout win wout ps i d st) (st' : Stage) where
  -- a party that changes its stage alone, and counts as before
  pub stepped : Fit rin rout wout (set ps i (moved st' (get_or ps i d))) (moved st' (get_or ps i d)) → reader_at st' ≡ reader_at st → writer_at st' ≡ writer_at st → going_at st' ≡ going_at st → present (standing_at (rin % 4) st' (get_or ps i d).saved) ≡ present (standing_at (rin % 4) st (get_or ps i d).saved) → active (standing_at (rin % 4) st' (get_or ps i d).saved) ≡ active (standing_at (rin % 4) st (get_or ps i d).saved) → Sound rin rout win wout (set ps i (moved st' (get_or ps i d)))
  stepped fit re wr go pr ac =
      let q : Party = moved st' (get_or ps i d) in
      let same : (f : Party → ℕ) → f q ≡ f (moved st (get_or ps i d)) → sum_by f (set ps i q) ≡ sum_by f ps = λ f e. omega (arith, resum g f q) in
      let w : sum_by writer (set ps i q) ≡ sum_by writer ps = same writer wr in
      record {
        few = rw length-set g.sound.few;
        readers = rw (same reader re) g.sound.readers;
        writers = rw w g.sound.writers;
        shown = rw (same (present_in (rin % 4)) pr) g.sound.shown;
        tickets = λ k l. rw (same (holds ((wout + k) % 2 ^ 32)) (ap (λ (n : ℕ). cond (eqb (get_or ps i d).ticket ((wout + k) % 2 ^ 32)) n 0) wr), w) (g.sound.tickets k l);
        each = each_set (Fit rin rout wout (set ps i q)) ps i q fit (λ j e l ne. rw (same going go, same (active_in (rin % 4)) ac) (g.sound.each j e l));
      }

  pub seen_stepped : writer_at st' ≡ writer_at st → (x : Standing) → standing_at (rin % 4) st' (get_or ps i d).saved ≡ x → seen rin wout (set ps i (moved st' (get_or ps i d))) ≡ put (seen rin wout ps) i x
  seen_stepped wr x e =
      let l = line_kept wout ps i (moved st' (get_or ps i d)) d g.here (λ t. ap (λ (n : ℕ). cond (eqb (get_or ps i d).ticket t) n 0) wr ∙ sym (ap (holds t) (itself g))) (wr ∙ sym (ap writer (itself g))) in
      let m = map-set (stands_as (rin % 4)) ps i (moved st' (get_or ps i d)) ∙ ap (set (map (stands_as (rin % 4)) ps) i) e in
      λ k. record { standings = m k; line = l k }

module _ {rin rout win wout : ℕ} {ps : List Party} {i : ℕ} {d : Party} (g : Given rin rout win wout ps i d G.Waiting) where
  pub enter_read_sound : held (rin % 4) (get_or ps i d).saved ≡ false → Sound rin rout win wout (set ps i (moved G.Reading (get_or ps i d)))
  enter_read_sound f = stepped g G.Reading tt refl refl refl (rw f refl) (rw f refl)

  pub enter_read_moves : held (rin % 4) (get_or ps i d).saved ≡ false → step true (Advance i) (seen rin wout ps) ≡ says L.Entered (seen rin wout (set ps i (moved G.Reading (get_or ps i d))))
  enter_read_moves f =
      advances_at g ∙ ap (λ (x : Standing). advance_as x i (seen rin wout ps)) (cond-false _ S.HeldOff S.Cleared f)
      ∙ ap (says L.Entered) (sym (seen_stepped g G.Reading refl S.Reading refl))

  pub held_moves : held (rin % 4) (get_or ps i d).saved ≡ true → step true (Advance i) (seen rin wout ps) ≡ says L.Waits (seen rin wout ps)
  held_moves f = advances_at g ∙ ap (λ (x : Standing). advance_as x i (seen rin wout ps)) (cond-true _ S.HeldOff S.Cleared f)

not_present : (f : ℕ) (st : Stage) (s t rin rout wout goes acts : ℕ) → (writer_at st ≡ 1 → t ≡ wout → ⊥) → FitAt st s t rin rout wout goes acts → present (standing_at f st s) ≡ 0
not_present f G.Away s t rin rout wout goes acts first h = refl
not_present f G.Waiting s t rin rout wout goes acts first h = cond_both (held f s) S.HeldOff S.Cleared (λ x. present x ≡ 0) (λ _. refl) (λ _. refl)
not_present f G.Reading s t rin rout wout goes acts first h = refl
not_present f G.InLine s t rin rout wout goes acts first h = refl
not_present f G.Called s t rin rout wout goes acts first h = refl
not_present f G.Posted s t rin rout wout goes acts first h = absurd (first refl h.0)
not_present f G.Writing s t rin rout wout goes acts first h = absurd (first refl h.0)
not_present f G.GoingOut s t rin rout wout goes acts first h = refl

module _ {rin rout win wout : ℕ} {ps : List Party} {i : ℕ} {d : Party} (g : Given rin rout win wout ps i d G.InLine) where
  -- where the first of the line is not yet called, no writer is present
  no_writer : (get_or ps i d).ticket ≡ wout → rin % 256 ≡ 0
  no_writer t =
      let z : sum_by (present_in (rin % 4)) ps ≡ 0 =
      sum_by-none (present_in (rin % 4)) ps (λ j e h. ⊎_elim
      (λ at. ap (present_in (rin % 4)) (ap (λ (k : ℕ). get_or ps k e) at ∙ get_or_default ps i e d g.here ∙ itself g))
      (λ ne. not_present (rin % 4) (get_or ps j e).stage _ _ rin rout wout _ _ (only g t refl j e h ne) (g.sound.each j e h))
      (cases_eq j i)) in
      omega (arith, g.sound.shown)

  pub call_sound : (get_or ps i d).ticket ≡ wout → Sound rin rout win wout (set ps i (moved G.Called (get_or ps i d)))
  call_sound t = stepped g G.Called (t, no_writer t) refl refl refl refl refl

  pub call_moves : (get_or ps i d).ticket ≡ wout → step true (Advance i) (seen rin wout ps) ≡ says L.Called (seen rin wout (set ps i (moved G.Called (get_or ps i d))))
  call_moves t = advances_at g ∙ cond-true _ _ _ (first_yes g refl t) ∙ ap (says L.Called) (sym (seen_stepped g G.Called refl S.Called refl))

  pub line_waits : ((get_or ps i d).ticket ≡ wout → ⊥) → step true (Advance i) (seen rin wout ps) ≡ says L.Waits (seen rin wout ps)
  line_waits t = advances_at g ∙ cond-false _ _ _ (first_no g refl t)
