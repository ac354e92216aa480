-- Every step of the lock keeps its invariant and is the phase book's step.
use Rattle.std.proofs.Common.{◌≡◌, ℕ, ◌+◌, ◌%◌, ◌^◌, ◌<◌, true, cond, eqb, List, length, get_or, set, Ok, Err, Result, refl, ap, ◌∙◌, arith}
use mathlib.Core.Path.{subst⁻¹}
use lib.Bits.{bit_and}
use lib.Seq.{set-get_or}
use Rattle.std.proofs.lemmas.Nat.{and_mask}
use Rattle.std.proofs.lemmas.Nat.Bits.{and_high_mask}
use Rattle.std.proofs.lemmas.Bool.{cond_both, eqb-true, eqb-false}
use Rattle.phase.specs.Book.{Out, step, says, refuses, read_as, write_as, leave_as}
use Rattle.phase.specs.Calls.{caller}
use Rattle.phase.specs.declared.faults.LockFault.{LockFault}
use Rattle.phase.specs.declared.kinds.Standing.{Standing}
use Rattle.phase.specs.declared.kinds.Standing.TheVariants as S
use Rattle.phase.specs.declared.kinds.Letter.{Letter}
use Rattle.phase.specs.declared.kinds.Letter.TheVariants as L
use Rattle.phase.specs.declared.kinds.LockCall.{LockCall}
use Rattle.phase.specs.declared.kinds.LockCall.TheVariants.{RequestRead, RequestWrite, Advance, Leave}
use Rattle.pft_steps.specs.Steps.{held, letter_met, moved, nobody, unchanged, ask_at, join_at, advance_at, leave_at, next}
use Rattle.pft.specs.Sound.{Kept, Sound, seen}
use Rattle.pft_steps.specs.declared.party.Stage.{Stage}
use Rattle.pft_steps.specs.declared.party.Stage.TheVariants as G
use Rattle.pft_steps.specs.declared.party.Party.{Party}
use Rattle.pft_steps.specs.declared.steps.Change.{Change}
use Rattle.pft_steps.specs.declared.words.Four.{Four}
use Rattle.pft.proofs.Given.{Given, mine, asks_at, joins_at, advances_at, leaves_at}
use Rattle.pft.proofs.Ask as ask
use Rattle.pft.proofs.Join as join
use Rattle.pft.proofs.Stages as stages
use Rattle.pft.proofs.Post as post
use Rattle.pft.proofs.Enter as enter
use Rattle.pft.proofs.Clear as clear
use Rattle.pft.proofs.Done as done
use Rattle.pft.proofs.Out as out

-- what is known where a party calls
pub record Here (w : Four) (ps : List Party) (i : ℕ) : Type 0 where
  pub sound : Sound w.rin w.rout w.win w.wout ps
  pub kept : Kept w
  pub here : i < length ps

-- what an accepted step owes
pub record Accepted (w : Four) (ps : List Party) (i : ℕ) (c : LockCall) (h : Change) : Type 0 where
  pub kept : Kept h.words
  pub sound : Sound h.words.rin h.words.rout h.words.win h.words.wout (set ps i h.party)
  pub moves : step true c (seen w.rin w.wout ps) ≡ says h.letter (seen h.words.rin h.words.wout (set ps i h.party))

-- what a step owes
abbrev pub Good : Four → List Party → ℕ → LockCall → Result Change LockFault → Type 0
Good w ps i c (Ok h) = Accepted w ps i c h
Good w ps i c (Err f) = step true c (seen w.rin w.wout ps) ≡ refuses (seen w.rin w.wout ps)

module _ (w : Four) (ps : List Party) (i : ℕ) (at : Here w ps i) where
  pub given : (st : Stage) → (get_or ps i nobody).stage ≡ st → Given w.rin w.rout w.win w.wout ps i nobody st
  given st e = record {
    sound = at.sound;
    whole = at.kept.whole;
    low = at.kept.flags.0;
    not_one = at.kept.flags.1;
    rin_fits = at.kept.fits.0;
    rout_fits = at.kept.fits.1;
    win_fits = at.kept.fits.2;
    wout_fits = at.kept.fits.3;
    here = at.here;
    stage = e;
  }

  -- a party that waits changes nothing
  waits : (c : LockCall) → step true c (seen w.rin w.wout ps) ≡ says L.Waits (seen w.rin w.wout ps) → Accepted w ps i c (unchanged L.Waits (get_or ps i nobody) w)
  waits c e = record {
    kept = at.kept;
    sound = rw (set-get_or ps i nobody) at.sound;
    moves = rw (set-get_or ps i nobody) e;
  }

  -- a request to read that saves n
  abbrev asked_to : Letter → ℕ → Change
  asked_to l n = record { letter = l; party = ask.asked n; words = record { rin = (w.rin + 256) % 2 ^ 32; rout = w.rout; win = w.win; wout = w.wout } }

  asked_as : (get_or ps i nobody).stage ≡ G.Away → (l : Letter) → step true (RequestRead i) (seen w.rin w.wout ps) ≡ says l (seen ((w.rin + 256) % 2 ^ 32) w.wout (set ps i (ask.asked (w.rin % 4)))) → Accepted w ps i (RequestRead i) (asked_to l (w.rin % 4))
  asked_as e l m =
      let k = at.kept in
      record {
        kept = record { fits = (omega arith, k.fits.1, k.fits.2, k.fits.3); whole = k.whole; flags = (omega (arith, k.flags.0), λ z. k.flags.1 (omega (arith, k.fits.0, z))) };
        sound = ask.read_sound (given G.Away e);
        moves = m;
      }

  good_ask : (st : Stage) → (get_or ps i nobody).stage ≡ st → Good w ps i (RequestRead i) (ask_at st w)
  good_ask G.Away e =
      let P : ℕ → Type 0 = λ n. Accepted w ps i (RequestRead i) (asked_to (letter_met n) n) in
      subst⁻¹ P (and_mask w.rin 2)
      (cond_both (eqb (w.rin % 4) 0) L.Cleared L.Held
      (λ (l : Letter). Accepted w ps i (RequestRead i) (asked_to l (w.rin % 4)))
      (λ t. asked_as e L.Cleared (ask.read_cleared (given G.Away e) (eqb-true _ _ t)))
      (λ t. asked_as e L.Held (ask.read_held (given G.Away e) (eqb-false _ _ t))))
  good_ask G.Waiting e = asks_at (given G.Waiting e) ∙ cond_both (held (w.rin % 4) (get_or ps i nobody).saved) S.HeldOff S.Cleared (λ (x : Standing). ◌≡◌ {A = Out} (read_as x i (seen w.rin w.wout ps)) (refuses (seen w.rin w.wout ps))) (λ _. refl) (λ _. refl)
  good_ask G.Reading e = asks_at (given G.Reading e)
  good_ask G.InLine e = asks_at (given G.InLine e)
  good_ask G.Called e = asks_at (given G.Called e)
  good_ask G.Posted e = asks_at (given G.Posted e)
  good_ask G.Writing e = asks_at (given G.Writing e)
  good_ask G.GoingOut e = asks_at (given G.GoingOut e)

  good_join : (st : Stage) → (get_or ps i nobody).stage ≡ st → Good w ps i (RequestWrite i) (join_at st w)
  good_join G.Away e =
      let k = at.kept in
      record {
        kept = record { fits = (k.fits.0, k.fits.1, omega arith, k.fits.3); whole = k.whole; flags = k.flags };
        sound = join.join_sound (given G.Away e);
        moves = join.join_moves (given G.Away e);
      }
  good_join G.Waiting e = joins_at (given G.Waiting e) ∙ cond_both (held (w.rin % 4) (get_or ps i nobody).saved) S.HeldOff S.Cleared (λ (x : Standing). ◌≡◌ {A = Out} (write_as x i (seen w.rin w.wout ps)) (refuses (seen w.rin w.wout ps))) (λ _. refl) (λ _. refl)
  good_join G.Reading e = joins_at (given G.Reading e)
  good_join G.InLine e = joins_at (given G.InLine e)
  good_join G.Called e = joins_at (given G.Called e)
  good_join G.Posted e = joins_at (given G.Posted e)
  good_join G.Writing e = joins_at (given G.Writing e)
  good_join G.GoingOut e = joins_at (given G.GoingOut e)

  -- the bits that a called writer adds are its ticket's, which is wout
  bits_added : (get_or ps i nobody).stage ≡ G.Called → (w.rin + (2 + bit_and (get_or ps i nobody).ticket 1)) % 2 ^ 32 ≡ (w.rin + (2 + w.wout % 2)) % 2 ^ 32
  bits_added e =
      let g = given G.Called e in
      let own = rw g.stage at (mine g) in
      ap (λ (n : ℕ). (w.rin + (2 + n)) % 2 ^ 32) (and_mask (get_or ps i nobody).ticket 1 ∙ ap (λ (n : ℕ). n % 2) own.0)

  good_advance : (st : Stage) → (get_or ps i nobody).stage ≡ st → Good w ps i (Advance i) (advance_at st (get_or ps i nobody) w)
  good_advance G.Away e = advances_at (given G.Away e)
  good_advance G.Waiting e =
      let P : ℕ → Type 0 = λ n. Accepted w ps i (Advance i) (cond (held n (get_or ps i nobody).saved) (unchanged L.Waits (get_or ps i nobody) w) (unchanged L.Entered (moved G.Reading (get_or ps i nobody)) w)) in
      subst⁻¹ P (and_mask w.rin 2)
      (cond_both (held (w.rin % 4) (get_or ps i nobody).saved) _ _ (λ (h : Change). Accepted w ps i (Advance i) h)
      (λ t. waits (Advance i) (stages.held_moves (given G.Waiting e) t))
      (λ t. record { kept = at.kept; sound = stages.enter_read_sound (given G.Waiting e) t; moves = stages.enter_read_moves (given G.Waiting e) t }))
  good_advance G.Reading e = advances_at (given G.Reading e)
  good_advance G.InLine e =
      cond_both (eqb (get_or ps i nobody).ticket w.wout) _ _ (λ (h : Change). Accepted w ps i (Advance i) h)
      (λ t. let k = eqb-true _ _ t in record { kept = at.kept; sound = stages.call_sound (given G.InLine e) k; moves = stages.call_moves (given G.InLine e) k })
      (λ t. waits (Advance i) (stages.line_waits (given G.InLine e) (eqb-false _ _ t)))
  good_advance G.Called e =
      let g = given G.Called e in
      let own = rw g.stage at (mine g) in
      let k = at.kept in
      let P : ℕ → Type 0 = λ n. Accepted w ps i (Advance i) (record { letter = L.Posted; party = post.posted w.rin (get_or ps i nobody); words = record { rin = n; rout = w.rout; win = w.win; wout = w.wout } }) in
      subst⁻¹ P (bits_added e) (record {
        kept = record { fits = (omega arith, k.fits.1, k.fits.2, k.fits.3); whole = k.whole; flags = (omega (arith, own.1, k.fits.0), λ z. omega (arith, own.1, k.fits.0, z)) };
        sound = post.post_sound g;
        moves = post.post_moves g;
      })
  good_advance G.Posted e =
      cond_both (eqb (get_or ps i nobody).saved w.rout) _ _ (λ (h : Change). Accepted w ps i (Advance i) h)
      (λ t. let k = eqb-true _ _ t in record { kept = at.kept; sound = enter.enter_sound (given G.Posted e) k; moves = enter.posted_enters (given G.Posted e) k })
      (λ t. waits (Advance i) (enter.posted_waits (given G.Posted e) (eqb-false _ _ t)))
  good_advance G.Writing e = advances_at (given G.Writing e)
  good_advance G.GoingOut e =
      let k = at.kept in
      record {
        kept = record { fits = (k.fits.0, k.fits.1, k.fits.2, omega arith); whole = k.whole; flags = k.flags };
        sound = out.out_sound (given G.GoingOut e);
        moves = out.out_moves (given G.GoingOut e);
      }

  good_leave : (st : Stage) → (get_or ps i nobody).stage ≡ st → Good w ps i (Leave i) (leave_at st (get_or ps i nobody) w)
  good_leave G.Away e = leaves_at (given G.Away e)
  good_leave G.Waiting e = leaves_at (given G.Waiting e) ∙ cond_both (held (w.rin % 4) (get_or ps i nobody).saved) S.HeldOff S.Cleared (λ (x : Standing). ◌≡◌ {A = Out} (leave_as true x i (seen w.rin w.wout ps)) (refuses (seen w.rin w.wout ps))) (λ _. refl) (λ _. refl)
  good_leave G.Reading e =
      let k = at.kept in
      record {
        kept = record { fits = (k.fits.0, omega arith, k.fits.2, k.fits.3); whole = omega (arith, k.whole); flags = k.flags };
        sound = done.done_sound (given G.Reading e);
        moves = done.done_moves (given G.Reading e);
      }
  good_leave G.InLine e = leaves_at (given G.InLine e)
  good_leave G.Called e = leaves_at (given G.Called e)
  good_leave G.Posted e = leaves_at (given G.Posted e)
  good_leave G.Writing e =
      let k = at.kept in
      let P : ℕ → Type 0 = λ n. Accepted w ps i (Leave i) (record { letter = L.Out; party = moved G.GoingOut (get_or ps i nobody); words = record { rin = n; rout = w.rout; win = w.win; wout = w.wout } }) in
      subst⁻¹ P (and_high_mask 32 8 (omega arith) w.rin k.fits.0 ∙ omega arith) (record {
        kept = record { fits = (omega (arith, k.fits.0), k.fits.1, k.fits.2, k.fits.3); whole = k.whole; flags = (omega arith, λ z. omega arith) };
        sound = clear.leave_sound (given G.Writing e);
        moves = clear.leave_moves (given G.Writing e);
      })
  good_leave G.GoingOut e = leaves_at (given G.GoingOut e)

pub good : (w : Four) (ps : List Party) (c : LockCall) → Here w ps (caller c) → Good w ps (caller c) c (next c (get_or ps (caller c) nobody) w)
good w ps (RequestRead i) at = good_ask w ps i at _ refl
good w ps (RequestWrite i) at = good_join w ps i at _ refl
good w ps (Advance i) at = good_advance w ps i at _ refl
good w ps (Leave i) at = good_leave w ps i at _ refl
