-- What every lock of the list keeps true, and how a change of one standing or of the line bears on it.
use Rattle.std.proofs.Common.{◌≡◌, ℕ, ◌<◌, ◌≤◌, Bool, false, cond, eqb, List, map, length, get_or, set, take, replicate, Ok, refl, subst, sym, ap, ◌∙◌, inl, inr, arith, get_or-set_same, get_or-set_other}
use lib.ListN.{get_or-map}
use lib.Seq.{set-get_or}
use Rattle.std.proofs.lemmas.Bool.{cases_eq, cond-true, cond-false, eq-eqb, ne_eqb}
use Rattle.std.proofs.lemmas.Grind.{common_steps}
use Rattle.std.proofs.lemmas.List.{take-replicate}
use Rattle.phase.specs.Book.{Book, Answer, Steps, step, standing, put, freed, without}
use Rattle.phase.specs.Line.{Lined, is_writer, one, times}
use Rattle.phase.specs.declared.kinds.Standing.{Standing}
use Rattle.phase.specs.declared.kinds.Standing.TheVariants as S
use Rattle.phase.specs.declared.kinds.Letter.{Letter}
use Rattle.phase.specs.declared.kinds.Letter.TheVariants as L
use Rattle.phase.specs.declared.kinds.LockCall.{LockCall}
use Rattle.phase.specs.declared.kinds.LockCall.TheVariants.{RequestRead, RequestWrite, Advance, Leave}
use Rattle.phase.proofs.Moves.{Row, holds, clears, queues, starts, calls, posts, writes, goes, ends, frees, freed_off, Move, refused, waited, turned, moves}
use Rattle.phase.proofs.Counting.{times_more, times-without_same, times-without_other}
use Rattle.phase.proofs.Lines.{line_room, step_lined}
use Rattle.list_lock.specs.Moved.{book_of}
use Rattle.list_lock.specs.Shown.{is_out, NobodyOut}
use Rattle.list_lock.specs.declared.lock.ListLock.{ListLock}

-- a call of a one-step lock never answers that a writer goes out
never_out : (c : LockCall) (b : Book) → (step false c b).answer ≡ Ok L.Out → ⊥
never_out (RequestRead x) b e = grind arith
never_out (RequestWrite x) b e = grind arith
never_out (Advance x) b e = grind arith
never_out (Leave x) b e = grind arith

-- by every other letter a party comes to stand elsewhere than going out
stays_in : (b : Book) (x : ℕ) (c : LockCall) (s : Standing) (l : Letter) (t : Standing) (f : Bool) → Row b x c s l t f → (l ≡ L.Out → ⊥) → is_out t ≡ false
stays_in b x c s l t f (holds _) n = refl
stays_in b x c s l t f (clears _) n = refl
stays_in b x c s l t f queues n = refl
stays_in b x c s l t f starts n = refl
stays_in b x c s l t f (calls _) n = refl
stays_in b x c s l t f posts n = refl
stays_in b x c s l t f (writes _) n = refl
stays_in b x c s l t f goes n = refl
stays_in b x c s l t f ends n = refl
stays_in b x c s l t f frees n = absurd (n refl)
stays_in b x c s l t f freed_off n = refl

-- no writer is going out, and none comes to be by a step of a one-step lock
step_stays : (c : LockCall) (b : Book) → NobodyOut b → NobodyOut (step false c b).after
step_stays c b i = go _ _ (moves false c b) (never_out c b)
  where
    either : (f : Bool) (s : Standing) → is_out s ≡ false → is_out (cond f (freed s) s) ≡ false
    either f s e = grind arith

    go : (a : Answer) (b' : Book) → Move b c a b' → (a ≡ Ok L.Out → ⊥) → NobodyOut b'
    go a b' (refused _ e) n q = subst NobodyOut (sym e) i q
    go a b' (waited _ _ _ _ e) n q = subst NobodyOut (sym e) i q
    go a b' (turned l e t) n q = elim (cases_eq q t.who) [
      | inl k ↦ ap is_out (ap (standing b') k ∙ t.is) ∙ stays_in b t.who c t.old l t.new t.freeing t.row (λ z. n (e ∙ ap Ok z))
      | inr k ↦ ap is_out (t.others q k) ∙ either t.freeing (standing b q) (i q)
    ]

-- what the lock keeps of its book, over a step that it has made
pub kept : (l : ListLock) {c : LockCall} {b' : Book} {r : Answer} → Steps false c (book_of l) r b' → (Lined b') × (NobodyOut b')
kept l {c} {b'} {r} s =
    let P : Book → Type 0 = λ u. (Lined u) × (NobodyOut u) in
    subst P (sym s.moved) (step_lined false c (book_of l) l.lined, step_stays c (book_of l) l.stays)

-- a caller that waits comes to the standing that it has, which leaves the book as it is
pub put_same : (b : Book) (p : ℕ) (s : Standing) → standing b p ≡ s → put b p s ≡ b
put_same b p s e = ap (λ (t : Standing). put b p t) (sym e) ∙ ap (λ (t : List Standing). record { standings = t; line = b.line }) (set-get_or b.standings p S.Away)

-- the lock's ghost fields at one party
pub lined_at : (l : ListLock) (q : ℕ) → times q l.line.items ≡ one (is_writer (get_or l.standings.items q S.Away))
lined_at l q = l.lined q

pub stays_at : (l : ListLock) (q : ℕ) → is_out (get_or l.standings.items q S.Away) ≡ false
stays_at l q = l.stays q

-- a party that is away leaves room in the line
pub room : (l : ListLock) (p : ℕ) → p < length l.standings.items → get_or l.standings.items p S.Away ≡ S.Away → length l.line.items < length l.standings.items
room l p h e = line_room (book_of l) p l.lined h (ap is_writer e)

-- a standing where one standing is written
pub standing_set : (xs : List Standing) (p q : ℕ) (t : Standing) → p < length xs → get_or (set xs p t) q S.Away ≡ cond (eqb q p) t (get_or xs q S.Away)
standing_set xs p q t h = elim (cases_eq q p) [
  | inl e ↦ ap (λ k. get_or (set xs p t) k S.Away) e ∙ get_or-set_same xs p t S.Away h ∙ sym (cond-true _ _ _ (eq-eqb q p e))
  | inr n ↦ get_or-set_other xs p q t S.Away n ∙ sym (cond-false _ _ _ (ne_eqb q p n))
]

-- how often a party stands in a line that another party, or it, has left
pub times_without : (q p : ℕ) (ys : List ℕ) → times q (without p ys) ≡ cond (eqb q p) 0 (times q ys)
times_without q p ys = elim (cases_eq q p) [
  | inl e ↦ ap (λ k. times k (without p ys)) e ∙ times-without_same p ys ∙ sym (cond-true _ _ _ (eq-eqb q p e))
  | inr n ↦ times-without_other q p ys n ∙ sym (cond-false _ _ _ (ne_eqb q p n))
]

-- a standing of which a reader held off is cleared
pub standing_freed : (xs : List Standing) (q : ℕ) → get_or (map freed xs) q S.Away ≡ freed (get_or xs q S.Away)
standing_freed xs q = get_or-map freed xs q S.Away

pub freed_out : (s : Standing) → is_out (freed s) ≡ is_out s
freed_out s = grind arith

-- the standings that a lock with all parties away is made of
pub all_away : (n : ℕ) → n ≤ 32 → take n (replicate 32 S.Away) ≡ replicate n S.Away
all_away n h = take-replicate n 32 S.Away h

-- what the check needs where one party's standing or the line changes
pub ruleset keeps = (common_steps, lined_at, stays_at, standing_set, room, times_more, times_without)
