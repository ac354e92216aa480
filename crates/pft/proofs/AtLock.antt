-- The calls and the questions, at a lock.
use Rattle.std.specs.Option.{IsSome, IfSome}
use Rattle.std.proofs.Common.{◌↔◌, Option, Some, ◌≡◌, ℕ, ◌+◌, ◌-◌, ◌%◌, ◌^◌, ◌<◌, ◌≤◌, true, List, get_or, take, set, Ok, sym, refl, ap, ◌∙◌, arith, length, length-set, sum_by}
use mathlib.Core.Path.{subst⁻¹}
use Rattle.std.proofs.lemmas.List.{take_all}
use lib.Seq.{take-length}
use Rattle.phase.specs.Book.{Book, Steps}
use Rattle.phase.specs.Calls.{caller}
use Rattle.phase.specs.Line.{ahead}
use Rattle.phase.specs.declared.kinds.LockCall.{LockCall}
use Rattle.pft_steps.specs.Steps.{four, nobody, before_at, next}
use Rattle.pft.specs.Sound.{Kept, Sound, seen, holder, writer, writer_at}
use Rattle.pft.specs.Model.{state, applied, book_of, book}
use Rattle.pft_steps.specs.declared.party.Stage.{Stage}
use Rattle.pft_steps.specs.declared.party.Stage.TheVariants as G
use Rattle.pft_steps.specs.declared.party.Party.{Party}
use Rattle.pft_steps.specs.declared.steps.Change.{Change}
use Rattle.pft_steps.specs.declared.steps.Turn.{Turn}
use Rattle.pft.specs.declared.lock.Pft.{Pft}
use Rattle.phase.proofs.Stepping.{says_so}
use Rattle.pft.proofs.Given.{Given, writers_le, few_writers}
use Rattle.pft.proofs.Good.{Here, Accepted, Good}
use Rattle.pft.proofs.Good as good
use Rattle.pft.proofs.Props.{opened}
use Rattle.pft.proofs.Ahead.{ahead_none, ahead_is, ahead_le, in_line, none_past}
use Rattle.std.proofs.lemmas.List.FromFn.{length-map-range_with_len}

abbrev ps : Pft → List Party
ps l = l.parties.items

-- a lock shows all its parties
book_is : (l : Pft) → book l ≡ seen l.words.rin l.words.wout (ps l)
book_is l = ap (seen l.words.rin l.words.wout) (take-length (ps l))

-- what is known where a party of the lock calls
here_at : (l : Pft) (i : ℕ) → i < length (ps l) → Here (four l.words) (ps l) i
here_at l i h = record {
  sound = opened l.sound;
  kept = record { fits = l.words.fits; whole = l.words.whole; flags = l.words.flags };
  here = h;
}

-- what an accepted step of a party of the lock makes
pub record Taken (l : Pft) (c : LockCall) (i : ℕ) (h : Change) : Type 0 where
  pub kept : Kept h.words
  pub sound : Sound h.words.rin h.words.rout h.words.win h.words.wout (set (ps l) i h.party)
  pub steps : Steps true c (book l) (Ok h.letter) (book_of (applied i (state l) (Ok h)))

pub taken : (l : Pft) (c : LockCall) (i : ℕ) (r : Option Turn) (t : Turn) (h : Change) → i ≡ caller c → (IsSome r ↔ (i < length (ps l))) → IfSome r (λ t. (t.party ≡ get_or (ps l) i nobody) × (t.words ≡ four l.words)) → r ≡ Some t → Ok h ≡ next c t.party t.words → Taken l c i h
taken l c i r t h e known found is step =
    let here : caller c < length (ps l) = rw e at (known.0 (rw is refl)) in
    let mine = rw is at found in
    let to : Ok h ≡ next c (get_or (ps l) (caller c) nobody) (four l.words) = rw (sym e) (rw mine.0 at (rw mine.1 at step)) in
    let g : Accepted (four l.words) (ps l) (caller c) c h = subst⁻¹ (Good (four l.words) (ps l) (caller c) c) to (good.good (four l.words) (ps l) c (here_at l (caller c) here)) in
    let all : take (length (ps l)) (set (ps l) (caller c) h.party) ≡ set (ps l) (caller c) h.party = take_all _ _ (omega (arith, length-set (ps l) (caller c) h.party)) in
    rw e (record { kept = g.kept; sound = g.sound; steps = rw (book_is l, all) (says_so true c _ _ _ g.moves) })

-- the questions
ahead_at : (l : Pft) (i : ℕ) → ahead (book l) i ≡ ahead (seen l.words.rin l.words.wout (ps l)) i
ahead_at l i = ap (λ (b : Book). ahead b i) (book_is l)

module _ (l : Pft) (i : ℕ) (here : i < length (ps l)) where
  given : (st : Stage) → (get_or (ps l) i nobody).stage ≡ st → Given l.words.rin l.words.rout l.words.win l.words.wout (ps l) i nobody st
  given = good.given (four l.words) (ps l) i (here_at l i here)

  writer_is : (st : Stage) → (get_or (ps l) i nobody).stage ≡ st → (get_or (ps l) i nobody).ticket < 2 ^ 32 → writer_at st ≡ 1 → ahead (book l) i ≡ ((get_or (ps l) i nobody).ticket + (2 ^ 32 - l.words.wout)) % 2 ^ 32
  writer_is st e f w = ahead_at l i ∙ ahead_is (given st e) w f

  none_is : (st : Stage) → (get_or (ps l) i nobody).stage ≡ st → writer_at st ≡ 0 → ahead (book l) i ≡ 0
  none_is st e w = ahead_at l i ∙ ahead_none (given st e) w

  before_is : (st : Stage) → (get_or (ps l) i nobody).stage ≡ st → (get_or (ps l) i nobody).ticket < 2 ^ 32 → ahead (book l) i ≡ before_at st (get_or (ps l) i nobody).ticket l.words.wout
  before_is G.Away e f = none_is G.Away e refl
  before_is G.Waiting e f = none_is G.Waiting e refl
  before_is G.Reading e f = none_is G.Reading e refl
  before_is G.InLine e f = writer_is G.InLine e f refl
  before_is G.Called e f = writer_is G.Called e f refl
  before_is G.Posted e f = writer_is G.Posted e f refl
  before_is G.Writing e f = writer_is G.Writing e f refl
  before_is G.GoingOut e f = writer_is G.GoingOut e f refl

  -- and fewer than 32
  writer_few : (st : Stage) → (get_or (ps l) i nobody).stage ≡ st → (get_or (ps l) i nobody).ticket < 2 ^ 32 → writer_at st ≡ 1 → ((get_or (ps l) i nobody).ticket + (2 ^ 32 - l.words.wout)) % 2 ^ 32 < 32
  writer_few st e f w = let k = in_line (given st e) w f in let m = few_writers (given st e) in omega (arith, k, m)

  before_few : (st : Stage) → (get_or (ps l) i nobody).stage ≡ st → (get_or (ps l) i nobody).ticket < 2 ^ 32 → before_at st (get_or (ps l) i nobody).ticket l.words.wout < 32
  before_few G.Away e f = omega arith
  before_few G.Waiting e f = omega arith
  before_few G.Reading e f = omega arith
  before_few G.InLine e f = writer_few G.InLine e f refl
  before_few G.Called e f = writer_few G.Called e f refl
  before_few G.Posted e f = writer_few G.Posted e f refl
  before_few G.Writing e f = writer_few G.Writing e f refl
  before_few G.GoingOut e f = writer_few G.GoingOut e f refl

-- the number of writers before a party of the lock
pub ahead_here : (l : Pft) (i : ℕ) (t : Turn) → i < length (ps l) → (t.party ≡ get_or (ps l) i nobody) × (t.words ≡ four l.words) → t.party.ticket < 2 ^ 32 → ahead (book l) i ≡ before_at t.party.stage t.party.ticket t.words.wout
ahead_here l i t here found fits = rw (found.0, found.1) (before_is l i here _ refl (rw found.0 at fits))

-- which is below 32
pub here_few : (l : Pft) (i : ℕ) (t : Turn) → i < length (ps l) → (t.party ≡ get_or (ps l) i nobody) × (t.words ≡ four l.words) → t.party.ticket < 2 ^ 32 → before_at t.party.stage t.party.ticket t.words.wout < 32
here_few l i t here found fits = rw (found.0, found.1) (before_few l i here _ refl (rw found.0 at fits))

-- and before any other
pub ahead_past : (l : Pft) (i : ℕ) → length (ps l) ≤ i → ahead (book l) i ≡ 0
ahead_past l i h = let s = opened l.sound in ahead_at l i ∙ none_past _ _ _ _ (ps l) i s (writers_le (ps l) s.few) h

-- the line has at most 32 writers
pub ahead_few : (l : Pft) (i : ℕ) → ahead (book l) i ≤ 32
ahead_few l i =
    let s = opened l.sound in
    omega (
      arith,
      ahead_at l i,
      ahead_le (seen l.words.rin l.words.wout (ps l)) i,
      length-map-range_with_len (λ k. holder ((l.words.wout + k) % 2 ^ 32) (ps l)) 0 (sum_by writer (ps l)),
      writers_le (ps l) s.few,
    )
