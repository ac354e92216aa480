-- A request to read.
use Rattle.std.proofs.Common.{◌≡◌, ℕ, ◌+◌, ◌%◌, ◌^◌, ◌<◌, min, Bool, true, false, cond, ltb, List, map, get_or, set, sum_by, sym, refl, ap, ◌∙◌, arith, length-set}
use Rattle.std.proofs.lemmas.List.{map-set}
use Rattle.std.proofs.lemmas.Bool.{lt-ltb, le-ltb, cond-true, cond-false}
use Rattle.std.proofs.lemmas.Bool.Decides.{nat_tests}
use Rattle.phase.specs.Book.{step, says, some, bars, put}
use Rattle.phase.specs.declared.kinds.LockCall.TheVariants.{RequestRead}
use Rattle.pft.specs.Sound.{active, present, Sound, Fit, FitAt, holds, writer, reader, going, active_in, present_in, stands_as, seen}
use Rattle.phase.specs.declared.kinds.Standing.{Standing}
use Rattle.phase.specs.declared.kinds.Standing.TheVariants as S
use Rattle.pft_steps.specs.declared.party.Stage.{Stage}
use Rattle.pft_steps.specs.declared.party.Stage.TheVariants as G
use Rattle.pft_steps.specs.declared.party.Party.{Party}
use Rattle.pft.proofs.Lists.{sum_by-map, each_set, some_sum}
use Rattle.pft.proofs.Line.{line_kept}
use Rattle.phase.specs.declared.kinds.Letter.TheVariants as L
use Rattle.pft.proofs.Given.{Given, holds_no, four, asks_at, itself, resum}
use Rattle.pft.proofs.Count.{one_in}
use Rattle.pft_steps.specs.Steps.{held, moved}

-- the reader with the number that it saves
abbrev pub asked : ℕ → Party
asked s = record { stage = G.Waiting; saved = s; ticket = 0 }

-- what is known of each of the others still holds, since a new reader counts as active only where no writer is present
others : (st : Stage) (s t rin rin' rout wout goes acts acts' : ℕ) → rin' % 256 ≡ rin % 256 → (0 < rin % 256 → acts' ≡ acts) → FitAt st s t rin rout wout goes acts → FitAt st s t rin' rout wout goes acts'
others G.Away s t rin rin' rout wout goes acts acts' e a h = tt
others G.Waiting s t rin rin' rout wout goes acts acts' e a h = (h.0, h.1, λ z. h.2 (sym e ∙ z))
others G.Reading s t rin rin' rout wout goes acts acts' e a h = tt
others G.InLine s t rin rin' rout wout goes acts acts' e a h = tt
others G.Called s t rin rin' rout wout goes acts acts' e a h = (h.0, e ∙ h.1)
others G.Posted s t rin rin' rout wout goes acts acts' e a h =
    let more : acts' ≡ acts = a (omega arith) in (h.0, e ∙ h.1, h.2, omega arith)
others G.Writing s t rin rin' rout wout goes acts acts' e a h =
    let more : acts' ≡ acts = a (omega arith) in (h.0, e ∙ h.1, omega arith)
others G.GoingOut s t rin rin' rout wout goes acts acts' e a h = (h.0, e ∙ h.1)

held_same : (f : ℕ) → 0 < f → held f f ≡ true
held_same f h = grind (arith, nat_tests)

waits_present : (b : Bool) → present (cond b S.HeldOff S.Cleared) ≡ 0
waits_present true = refl
waits_present false = refl

module _ {rin rout win wout : ℕ} {ps : List Party} {i : ℕ} {d : Party} (g : Given rin rout win wout ps i d G.Away) where
  low : (rin + 256) % 2 ^ 32 % 256 ≡ rin % 256
  low = omega arith

  low4 : (rin + 256) % 2 ^ 32 % 4 ≡ rin % 4
  low4 = omega arith

  acts_same : 0 < rin % 256 → sum_by (active_in (rin % 4)) (set ps i (asked (rin % 4))) ≡ sum_by (active_in (rin % 4)) ps
  acts_same h =
      let e : held (rin % 4) (rin % 4) ≡ true = held_same (rin % 4) (omega (arith, four g)) in
      let z : active_in (rin % 4) (asked (rin % 4)) ≡ 0 = ap (λ (b : Bool). active (cond b S.HeldOff S.Cleared)) e in
      omega (arith, resum g (active_in (rin % 4)) (asked (rin % 4)))

  pub read_sound : Sound ((rin + 256) % 2 ^ 32) rout win wout (set ps i (asked (rin % 4)))
  read_sound =
      let q : Party = asked (rin % 4) in
      let go : sum_by going (set ps i q) ≡ sum_by going ps = omega (arith, resum g going q) in
      let w : sum_by writer (set ps i q) ≡ sum_by writer ps = omega (arith, resum g writer q) in
      let r : sum_by reader (set ps i q) ≡ sum_by reader ps + 1 = omega (arith, resum g reader q) in
      let p : sum_by (present_in (rin % 4)) (set ps i q) ≡ sum_by (present_in (rin % 4)) ps = omega (arith, resum g (present_in (rin % 4)) q, waits_present (held (rin % 4) (rin % 4))) in
      record {
        few = rw length-set g.sound.few;
        readers = rw r (one_in rin rout (sum_by reader ps) g.rin_fits g.sound.readers);
        writers = rw w g.sound.writers;
        shown = rw (low4, low, p) g.sound.shown;
        tickets = λ k l. let t : sum_by (holds ((wout + k) % 2 ^ 32)) (set ps i q) ≡ sum_by (holds ((wout + k) % 2 ^ 32)) ps = omega (arith, resum g (holds ((wout + k) % 2 ^ 32)) q, holds_no ((wout + k) % 2 ^ 32) q refl, holds_no ((wout + k) % 2 ^ 32) (moved G.Away (get_or ps i d)) refl) in rw (t, w) (g.sound.tickets k l);
        each = each_set (Fit ((rin + 256) % 2 ^ 32) rout wout (set ps i q)) ps i q
            (omega (arith, g.low), λ z. g.not_one (omega (arith, g.low)), λ z y. omega (arith, g.low))
            (λ j e l ne. rw (low4, go) (others _ _ _ rin _ rout wout _ _ _ low acts_same (g.sound.each j e l)));
      }

  tested : some bars (seen rin wout ps).standings ≡ ltb 0 (min 1 (rin % 256))
  tested = some_sum bars (seen rin wout ps).standings ∙ ap (λ (n : ℕ). ltb 0 n) (sum_by-map present (stands_as (rin % 4)) ps ∙ g.sound.shown)

  seen_after : (x : Standing) → stands_as (rin % 4) (asked (rin % 4)) ≡ x → seen ((rin + 256) % 2 ^ 32) wout (set ps i (asked (rin % 4))) ≡ put (seen rin wout ps) i x
  seen_after x e =
      let l = line_kept wout ps i (asked (rin % 4)) d g.here (λ t. holds_no t (asked (rin % 4)) refl ∙ sym (ap (holds t) (itself g) ∙ holds_no t (moved G.Away (get_or ps i d)) refl)) (sym (ap writer (itself g))) in
      let m : map (stands_as ((rin + 256) % 2 ^ 32 % 4)) (set ps i (asked (rin % 4))) ≡ set (map (stands_as (rin % 4)) ps) i x =
      rw low4 (map-set (stands_as (rin % 4)) ps i (asked (rin % 4)) ∙ ap (set (map (stands_as (rin % 4)) ps) i) e) in
      λ k. record { standings = m k; line = l k }

  pub read_cleared : rin % 4 ≡ 0 → step true (RequestRead i) (seen rin wout ps) ≡ says L.Cleared (seen ((rin + 256) % 2 ^ 32) wout (set ps i (asked (rin % 4))))
  read_cleared z =
      let t : some bars (seen rin wout ps).standings ≡ false = tested ∙ le-ltb 0 (min 1 (rin % 256)) (omega (arith, four g)) in
      let h : held (rin % 4) (rin % 4) ≡ false = grind (arith, nat_tests) in
      asks_at g ∙ cond-false _ _ _ t ∙ ap (says L.Cleared) (sym (seen_after S.Cleared (cond-false _ S.HeldOff S.Cleared h)))

  pub read_held : (rin % 4 ≡ 0 → ⊥) → step true (RequestRead i) (seen rin wout ps) ≡ says L.Held (seen ((rin + 256) % 2 ^ 32) wout (set ps i (asked (rin % 4))))
  read_held z =
      let t : some bars (seen rin wout ps).standings ≡ true = tested ∙ lt-ltb 0 (min 1 (rin % 256)) (omega (arith, four g)) in
      asks_at g ∙ cond-true _ _ _ t ∙ ap (says L.Held) (sym (seen_after S.HeldOff (cond-true _ S.HeldOff S.Cleared (held_same (rin % 4) (omega arith)))))
