-- The advance of a posted writer.
use Rattle.std.proofs.Common.{◌≡◌, ℕ, ◌/◌, ◌%◌, ◌<◌, true, ltb, List, get_or, set, sum_by, sym, refl, ap, ◌∙◌, arith}
use Rattle.std.proofs.lemmas.Bool.{lt-ltb, le-ltb, cond-true, cond-false}
use Rattle.phase.specs.Book.{step, says, some, near}
use Rattle.phase.specs.declared.kinds.LockCall.TheVariants.{Advance}
use Rattle.pft.specs.Sound.{active, Sound, FitAt, going, active_in, stands_as, seen}
use Rattle.phase.specs.declared.kinds.Standing.TheVariants as S
use Rattle.pft_steps.specs.declared.party.Stage.TheVariants as G
use Rattle.pft_steps.specs.declared.party.Party.{Party}
use Rattle.pft.proofs.Lists.{sum_by-map, some_sum}
use Rattle.pft_steps.proofs.Wrap.{added_nothing}
use Rattle.phase.specs.declared.kinds.Letter.TheVariants as L
use Rattle.pft.proofs.Given.{Given, few_active, advances_at, mine, resum}
use Rattle.pft.proofs.Stages.{stepped, seen_stepped}
use Rattle.pft_steps.specs.Steps.{moved}

module _ {rin rout win wout : ℕ} {ps : List Party} {i : ℕ} {d : Party} (g : Given rin rout win wout ps i d G.Posted) where
  own : FitAt G.Posted (get_or ps i d).saved (get_or ps i d).ticket rin rout wout (sum_by going ps) (sum_by (active_in (rin % 4)) ps)
  own = rw g.stage at (mine g)

  -- it enters exactly where no reader is cleared or inside
  clear : (get_or ps i d).saved ≡ rout → sum_by (active_in (rin % 4)) ps ≡ 0
  clear e = let n = few_active g (rin % 4) in added_nothing 24 (rout / 256) (sum_by (active_in (rin % 4)) ps) (omega arith) (omega arith) (omega (arith, own.3))

  blocked : ((get_or ps i d).saved ≡ rout → ⊥) → 0 < sum_by (active_in (rin % 4)) ps
  blocked e = omega (arith, own.2, own.3, few_active g (rin % 4))

  counts : some near (seen rin wout ps).standings ≡ ltb 0 (sum_by (active_in (rin % 4)) ps)
  counts = some_sum near (seen rin wout ps).standings ∙ ap (λ (n : ℕ). ltb 0 n) (sum_by-map active (stands_as (rin % 4)) ps)

  pub posted_waits : ((get_or ps i d).saved ≡ rout → ⊥) → step true (Advance i) (seen rin wout ps) ≡ says L.Waits (seen rin wout ps)
  posted_waits h = advances_at g ∙ cond-true _ _ _ (counts ∙ lt-ltb 0 _ (blocked h))

  pub posted_enters : (get_or ps i d).saved ≡ rout → step true (Advance i) (seen rin wout ps) ≡ says L.Entered (seen rin wout (set ps i (moved G.Writing (get_or ps i d))))
  posted_enters h = advances_at g ∙ cond-false _ _ _ (counts ∙ le-ltb 0 _ (omega (arith, clear h))) ∙ ap (says L.Entered) (sym (seen_stepped g G.Writing refl S.Writing refl))

  pub enter_sound : (get_or ps i d).saved ≡ rout → Sound rin rout win wout (set ps i (moved G.Writing (get_or ps i d)))
  enter_sound h =
      let q : Party = moved G.Writing (get_or ps i d) in
      let ac : sum_by (active_in (rin % 4)) (set ps i q) ≡ sum_by (active_in (rin % 4)) ps = omega (arith, resum g (active_in (rin % 4)) q) in
      stepped g G.Writing (own.0, own.1, ac ∙ clear h) refl refl refl refl refl
