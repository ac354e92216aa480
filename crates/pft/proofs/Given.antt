-- What is at hand where a party calls, and what follows from it at once.
use Rattle.std.proofs.Common.{◌≡◌, ℕ, ◌+◌, ◌%◌, ◌^◌, ◌<◌, ◌≤◌, true, false, cond, eqb, ltb, ◌≢◌, List, length, get_or, set, sum_by, sym, refl, ap, ◌∙◌, ⊎_elim, arith}
use lib.ListN.{length-map}
use Rattle.std.proofs.lemmas.List.Sums.{sum_by-set}
use Rattle.std.proofs.ByRecursion.{sum_by_le, All-from_get_or}
use Rattle.std.proofs.lemmas.List.{get_or-map, get_or_default}
use Rattle.std.proofs.lemmas.Bool.Decides.{nat_tests}
use Rattle.std.proofs.lemmas.Bool.{cases_eq, eq-eqb, cond-true, cond_both}
use Rattle.phase.specs.Book.{step, standing, count, read_as, write_as, advance_as, leave_as}
use Rattle.phase.specs.declared.kinds.LockCall.TheVariants.{RequestRead, RequestWrite, Advance, Leave}
use Rattle.pft.specs.Sound.{active, present, Sound, Fit, FitAt, holds, writer, writer_at, reader_at, going, going_at, active_in, stands_as, seen}
use Rattle.phase.specs.declared.kinds.Standing.TheVariants as S
use Rattle.pft_steps.specs.declared.party.Stage.{Stage}
use Rattle.pft_steps.specs.declared.party.Stage.TheVariants as G
use Rattle.pft_steps.specs.declared.party.Party.{Party}
use Rattle.phase.proofs.Stepping.{reads_by, writes_by, advances_by, leaves_by}
use Rattle.pft.proofs.Lists.{two-le-sum_by, sum_by-none}
use Rattle.pft_steps.specs.Steps.{held, nobody, moved, standing_at}

pub record Given (rin rout win wout : ℕ) (ps : List Party) (i : ℕ) (d : Party) (st : Stage) : Type 0 where
  pub sound : Sound rin rout win wout ps
  pub whole : rout % 256 ≡ 0
  pub low : rin % 256 < 4
  pub not_one : rin % 256 ≡ 1 → ⊥
  pub rin_fits : rin < 2 ^ 32
  pub rout_fits : rout < 2 ^ 32
  pub win_fits : win < 2 ^ 32
  pub wout_fits : wout < 2 ^ 32
  pub here : i < length ps
  pub stage : (get_or ps i d).stage ≡ st

-- with no writer's bits in rin nobody is held off
pub held_zero : (s : ℕ) → held 0 s ≡ false
held_zero s = grind (arith, nat_tests)

-- what a party counts for a ticket, if it is no writer and if it is its own
pub holds_no : (t : ℕ) (p : Party) → writer p ≡ 0 → holds t p ≡ 0
holds_no t p e = cond_both (eqb p.ticket t) (writer_at p.stage) 0 (λ n. n ≡ 0) (λ _. e) (λ _. refl)

pub holds_yes : (t : ℕ) (p : Party) → p.ticket ≡ t → holds t p ≡ writer p
holds_yes t p e = cond-true (eqb p.ticket t) (writer_at p.stage) 0 (eq-eqb _ _ e)

-- the stands-as of a party that waits is no writer's, whichever way it goes
pub present_flag : (f g : ℕ) (st : Stage) (s : ℕ) → present (standing_at f st s) ≡ present (standing_at g st s)
present_flag f g G.Away s = refl
present_flag f g G.Waiting s =
    cond_both (held f s) S.HeldOff S.Cleared (λ x. present x ≡ 0) (λ _. refl) (λ _. refl)
    ∙ sym (cond_both (held g s) S.HeldOff S.Cleared (λ x. present x ≡ 0) (λ _. refl) (λ _. refl))
present_flag f g G.Reading s = refl
present_flag f g G.InLine s = refl
present_flag f g G.Called s = refl
present_flag f g G.Posted s = refl
present_flag f g G.Writing s = refl
present_flag f g G.GoingOut s = refl

pub active_le : (f : ℕ) (st : Stage) (s : ℕ) → active (standing_at f st s) ≤ reader_at st
active_le f G.Away s = omega arith
active_le f G.Waiting s = cond_both (held f s) S.HeldOff S.Cleared (λ x. active x ≤ 1) (λ _. omega arith) (λ _. omega arith)
active_le f G.Reading s = omega arith
active_le f G.InLine s = omega arith
active_le f G.Called s = omega arith
active_le f G.Posted s = omega arith
active_le f G.Writing s = omega arith
active_le f G.GoingOut s = omega arith

reader_le : (st : Stage) → reader_at st ≤ 1
reader_le G.Away = omega arith
reader_le G.Waiting = omega arith
reader_le G.Reading = omega arith
reader_le G.InLine = omega arith
reader_le G.Called = omega arith
reader_le G.Posted = omega arith
reader_le G.Writing = omega arith
reader_le G.GoingOut = omega arith

writer_le : (st : Stage) → writer_at st ≤ 1
writer_le G.Away = omega arith
writer_le G.Waiting = omega arith
writer_le G.Reading = omega arith
writer_le G.InLine = omega arith
writer_le G.Called = omega arith
writer_le G.Posted = omega arith
writer_le G.Writing = omega arith
writer_le G.GoingOut = omega arith

pub writers_le : (ps : List Party) → length ps ≤ 32 → sum_by writer ps ≤ 32
writers_le ps few = omega (arith, sum_by_le writer 1 ps (All-from_get_or (λ p. writer p ≤ 1) ps nobody (λ j h. writer_le (get_or ps j nobody).stage)))

module _ {rin rout win wout : ℕ} {ps : List Party} {i : ℕ} {d : Party} {st : Stage} (g : Given rin rout win wout ps i d st) where
  pub four : rin % 4 ≡ rin % 256
  four = omega arith

  pub few_active : (f : ℕ) → sum_by (active_in f) ps ≤ 32
  few_active f =
      omega (
        arith,
        g.sound.few,
        sum_by_le (active_in f) 1 ps (All-from_get_or (λ p. active_in f p ≤ 1) ps d
            (λ j h. let p : Party = get_or ps j d in omega (arith, active_le f p.stage p.saved, reader_le p.stage))),
      )

  pub few_writers : sum_by writer ps ≤ 32
  few_writers = writers_le ps g.sound.few

  -- only one writer holds the ticket that is first
  pub only : (get_or ps i d).ticket ≡ wout → writer_at st ≡ 1 → (j : ℕ) (e : Party) → j < length ps → j ≢ i → writer (get_or ps j e) ≡ 1 → (get_or ps j e).ticket ≡ wout → ⊥
  only mine w j e h ne wj tj =
      let at0 : (wout + 0) % 2 ^ 32 ≡ wout = omega (arith, g.wout_fits) in
      let one : sum_by (holds wout) ps ≡ cond (ltb 0 (sum_by writer ps)) 1 0 = rw at0 at (g.sound.tickets 0 (omega arith)) in
      let most : sum_by (holds wout) ps ≤ 1 = rw one (cond_both (ltb 0 (sum_by writer ps)) 1 0 (λ n. n ≤ 1) (λ _. omega arith) (λ _. omega arith)) in
      let wi : holds wout (get_or ps i d) ≡ 1 = holds_yes wout (get_or ps i d) mine ∙ ap writer_at g.stage ∙ w in
      let dj : get_or ps j e ≡ get_or ps j d = get_or_default ps j e d h in
      let hj : holds wout (get_or ps j d) ≡ 1 = ap (holds wout) (sym dj) ∙ holds_yes wout (get_or ps j e) tj ∙ wj in
      let two = two-le-sum_by (holds wout) ps j i d nobody h g.here ne (holds_no wout nobody refl) in
      omega arith

  -- the party's own stands-as
  pub stands : standing (seen rin wout ps) i ≡ standing_at (rin % 4) st (get_or ps i d).saved
  stands = get_or-map (stands_as (rin % 4)) ps i d S.Away g.here ∙ ap (λ (x : Stage). standing_at (rin % 4) x (get_or ps i d).saved) g.stage

  among : i < count (seen rin wout ps)
  among = rw length-map g.here

  -- a call of the party is the book's at its standing
  pub asks_at : step true (RequestRead i) (seen rin wout ps) ≡ read_as (standing_at (rin % 4) st (get_or ps i d).saved) i (seen rin wout ps)
  asks_at = reads_by true (seen rin wout ps) i (standing_at (rin % 4) st (get_or ps i d).saved) among stands

  pub joins_at : step true (RequestWrite i) (seen rin wout ps) ≡ write_as (standing_at (rin % 4) st (get_or ps i d).saved) i (seen rin wout ps)
  joins_at = writes_by true (seen rin wout ps) i (standing_at (rin % 4) st (get_or ps i d).saved) among stands

  pub advances_at : step true (Advance i) (seen rin wout ps) ≡ advance_as (standing_at (rin % 4) st (get_or ps i d).saved) i (seen rin wout ps)
  advances_at = advances_by true (seen rin wout ps) i (standing_at (rin % 4) st (get_or ps i d).saved) among stands

  pub leaves_at : step true (Leave i) (seen rin wout ps) ≡ leave_as true (standing_at (rin % 4) st (get_or ps i d).saved) i (seen rin wout ps)
  leaves_at = leaves_by true (seen rin wout ps) i (standing_at (rin % 4) st (get_or ps i d).saved) among stands

  pub mine : Fit rin rout wout ps (get_or ps i d)
  mine = g.sound.each i d g.here

-- what is known of another party, where this one is first: it is no writer that is called or further, and a waiting reader goes by `wait`
pub beside : (st : Stage) (s t rin rin' rout rout' wout wout' goes goes' acts acts' : ℕ) → (writer_at st ≡ 1 → t ≡ wout → ⊥) → (FitAt G.Waiting s t rin rout wout goes acts → st ≡ G.Waiting → FitAt G.Waiting s t rin' rout' wout' goes' acts') → FitAt st s t rin rout wout goes acts → FitAt st s t rin' rout' wout' goes' acts'
beside G.Away s t rin rin' rout rout' wout wout' goes goes' acts acts' first wait h = tt
beside G.Waiting s t rin rin' rout rout' wout wout' goes goes' acts acts' first wait h = wait h refl
beside G.Reading s t rin rin' rout rout' wout wout' goes goes' acts acts' first wait h = tt
beside G.InLine s t rin rin' rout rout' wout wout' goes goes' acts acts' first wait h = tt
beside G.Called s t rin rin' rout rout' wout wout' goes goes' acts acts' first wait h = absurd (first refl h.0)
beside G.Posted s t rin rin' rout rout' wout wout' goes goes' acts acts' first wait h = absurd (first refl h.0)
beside G.Writing s t rin rin' rout rout' wout wout' goes goes' acts acts' first wait h = absurd (first refl h.0)
beside G.GoingOut s t rin rin' rout rout' wout wout' goes goes' acts acts' first wait h = absurd (first refl h.0)

not_going : (st : Stage) (s t rin rout wout goes acts : ℕ) → (writer_at st ≡ 1 → t ≡ wout → ⊥) → FitAt st s t rin rout wout goes acts → going_at st ≡ 0
not_going G.Away s t rin rout wout goes acts first h = refl
not_going G.Waiting s t rin rout wout goes acts first h = refl
not_going G.Reading s t rin rout wout goes acts first h = refl
not_going G.InLine s t rin rout wout goes acts first h = refl
not_going G.Called s t rin rout wout goes acts first h = refl
not_going G.Posted s t rin rout wout goes acts first h = refl
not_going G.Writing s t rin rout wout goes acts first h = refl
not_going G.GoingOut s t rin rout wout goes acts first h = absurd (first refl h.0)

module _ {rin rout win wout : ℕ} {ps : List Party} {i : ℕ} {d : Party} {st : Stage} (g : Given rin rout win wout ps i d st) where
  -- the party itself, with its stage written out
  pub itself : get_or ps i d ≡ moved st (get_or ps i d)
  itself = λ k. record { stage = g.stage k; saved = (get_or ps i d).saved; ticket = (get_or ps i d).ticket }

  -- a sum after the party is changed
  pub resum : (f : Party → ℕ) (q : Party) → sum_by f (set ps i q) + f (moved st (get_or ps i d)) ≡ sum_by f ps + f q
  resum f q = rw itself at (sum_by-set f ps i q d g.here)

  pub none_goes : (get_or ps i d).ticket ≡ wout → writer_at st ≡ 1 → going_at st ≡ 0 → sum_by going ps ≡ 0
  none_goes t w n =
      sum_by-none going ps (λ j e h. ⊎_elim
      (λ at. ap going (ap (λ (k : ℕ). get_or ps k e) at ∙ get_or_default ps i e d g.here) ∙ ap going_at g.stage ∙ n)
      (λ ne. not_going (get_or ps j e).stage _ _ rin rout wout _ _ (only g t w j e h ne) (g.sound.each j e h))
      (cases_eq j i))
