-- What a step of the phase book is: a refusal, a wait, or one party's turn. Every law of the book stands on
-- this table, and none looks at the step again.
use Rattle.std.proofs.Common.{◌≡◌, ℕ, ◌<◌, Bool, true, false, cond, ltb, ◌≢◌, List, [], ◌∷◌, ◌++◌, length, set, Ok, Err, refl, ◌∙◌, get_or-set_other, get_or-set_same}
use lib.ListN.{get_or-map, length-map}
use Rattle.std.proofs.lemmas.Bool.{cond_both, ltb-true}
use Rattle.phase.specs.Book.{Book, Out, Answer, step, standing, count, within, some, bars, near, leads, without, free_all, freed, read_as, write_as, advance_as, leave_as}
use Rattle.phase.specs.Line.{is_writer}
use Rattle.phase.specs.declared.kinds.Standing.{Standing}
use Rattle.phase.specs.declared.kinds.Standing.TheVariants as S
use Rattle.phase.specs.declared.kinds.Letter.{Letter}
use Rattle.phase.specs.declared.kinds.Letter.TheVariants as L
use Rattle.phase.specs.declared.faults.LockFault.TheVariants.{Unfit}
use Rattle.phase.specs.declared.kinds.LockCall.{LockCall}
use Rattle.phase.specs.declared.kinds.LockCall.TheVariants.{RequestRead, RequestWrite, Advance, Leave}

-- the line after a turn: joined by who becomes a writer, left by who ceases to be one
abbrev pub line_after : Bool → Bool → ℕ → List ℕ → List ℕ
line_after false false x l = l
line_after false true x l = l ++ (x ∷ [])
line_after true false x l = without x l
line_after true true x l = l

-- the call, the standing before it, the letter, the standing after it, and whether it frees the readers held off
pub data Row (b : Book) (x : ℕ) : LockCall → Standing → Letter → Standing → Bool → Type 0 where
  holds : some bars b.standings ≡ true → Row b x (RequestRead x) S.Away L.Held S.HeldOff false
  clears : some bars b.standings ≡ false → Row b x (RequestRead x) S.Away L.Cleared S.Cleared false
  queues : Row b x (RequestWrite x) S.Away L.Queued S.InLine false
  starts : Row b x (Advance x) S.Cleared L.Entered S.Reading false
  calls : leads b.line x ≡ true → Row b x (Advance x) S.InLine L.Called S.Called false
  posts : Row b x (Advance x) S.Called L.Posted S.Posted false
  writes : some near b.standings ≡ false → Row b x (Advance x) S.Posted L.Entered S.Writing false
  goes : Row b x (Advance x) S.GoingOut L.Gone S.Away false
  ends : Row b x (Leave x) S.Reading L.Away S.Away false
  frees : Row b x (Leave x) S.Writing L.Out S.GoingOut true
  freed_off : Row b x (Leave x) S.Writing L.Away S.Away true

-- a turn: one party goes from one standing to another by a row of the table, the readers held off are cleared
-- or not, nobody else changes, and the line is joined or left
pub record Turn (b : Book) (c : LockCall) (l : Letter) (b' : Book) : Type 0 where
  pub who : ℕ
  pub old : Standing
  pub new : Standing
  pub freeing : Bool
  pub row : Row b who c old l new freeing
  pub here : who < count b
  pub was : standing b who ≡ old
  pub is : standing b' who ≡ new
  pub others : (q : ℕ) → q ≢ who → standing b' q ≡ cond freeing (freed (standing b q)) (standing b q)
  pub all : b'.standings ≡ set (cond freeing (free_all b.standings) b.standings) who new
  pub line : b'.line ≡ line_after (is_writer old) (is_writer new) who b.line

-- why an advance changes nothing
pub data Stall (b : Book) (x : ℕ) : Type 0 where
  held : standing b x ≡ S.HeldOff → Stall b x
  behind : standing b x ≡ S.InLine → leads b.line x ≡ false → Stall b x
  readers : standing b x ≡ S.Posted → some near b.standings ≡ true → Stall b x

-- the three ways of a step
pub data Move (b : Book) (c : LockCall) (a : Answer) (b' : Book) : Type 0 where
  refused : a ≡ Err Unfit → b' ≡ b → Move b c a b'
  waited : (x : ℕ) → Stall b x → c ≡ Advance x → a ≡ Ok L.Waits → b' ≡ b → Move b c a b'
  turned : (l : Letter) → a ≡ Ok l → Turn b c l b' → Move b c a b'

-- a turn that changes one standing and the line
putting : (b : Book) (x : ℕ) (c : LockCall) (s t : Standing) (l : Letter) (k : List ℕ) → Row b x c s l t false → k ≡ line_after (is_writer s) (is_writer t) x b.line → x < count b → standing b x ≡ s → Move b c (Ok l) (record { standings = set b.standings x t; line = k })
putting b x c s t l k r m h e = turned l refl (record {
  who = x;
  old = s;
  new = t;
  freeing = false;
  row = r;
  here = h;
  was = e;
  all = refl;
  line = m;
  is = get_or-set_same b.standings x t S.Away h;
  others = λ q n. get_or-set_other b.standings x q t S.Away n;
})

-- a turn that also clears every reader held off
freeing_all : (b : Book) (x : ℕ) (c : LockCall) (s t : Standing) (l : Letter) (k : List ℕ) → Row b x c s l t true → k ≡ line_after (is_writer s) (is_writer t) x b.line → x < count b → standing b x ≡ s → Move b c (Ok l) (record { standings = set (free_all b.standings) x t; line = k })
freeing_all b x c s t l k r m h e = turned l refl (record {
  who = x;
  old = s;
  new = t;
  freeing = true;
  row = r;
  here = h;
  was = e;
  all = refl;
  line = m;
  is = get_or-set_same (free_all b.standings) x t S.Away inside;
  others = λ q n. get_or-set_other (free_all b.standings) x q t S.Away n ∙ get_or-map freed b.standings q S.Away;
})
  where
    inside : x < length (free_all b.standings)
    inside = simp length-map h

read_moves : (b : Book) (x : ℕ) (s : Standing) → standing b x ≡ s → x < count b → Move b (RequestRead x) (read_as s x b).answer (read_as s x b).after
read_moves b x S.Away e h = cond_both (some bars b.standings) _ _ (λ (o : Out). Move b (RequestRead x) o.answer o.after) (λ t. putting b x _ _ _ _ _ (holds t) refl h e) (λ t. putting b x _ _ _ _ _ (clears t) refl h e)
read_moves b x S.HeldOff e h = refused refl refl
read_moves b x S.Cleared e h = refused refl refl
read_moves b x S.Reading e h = refused refl refl
read_moves b x S.InLine e h = refused refl refl
read_moves b x S.Called e h = refused refl refl
read_moves b x S.Posted e h = refused refl refl
read_moves b x S.Writing e h = refused refl refl
read_moves b x S.GoingOut e h = refused refl refl

write_moves : (b : Book) (x : ℕ) (s : Standing) → standing b x ≡ s → x < count b → Move b (RequestWrite x) (write_as s x b).answer (write_as s x b).after
write_moves b x S.Away e h = putting b x _ _ _ _ _ queues refl h e
write_moves b x S.HeldOff e h = refused refl refl
write_moves b x S.Cleared e h = refused refl refl
write_moves b x S.Reading e h = refused refl refl
write_moves b x S.InLine e h = refused refl refl
write_moves b x S.Called e h = refused refl refl
write_moves b x S.Posted e h = refused refl refl
write_moves b x S.Writing e h = refused refl refl
write_moves b x S.GoingOut e h = refused refl refl

advance_moves : (b : Book) (x : ℕ) (s : Standing) → standing b x ≡ s → x < count b → Move b (Advance x) (advance_as s x b).answer (advance_as s x b).after
advance_moves b x S.Away e h = refused refl refl
advance_moves b x S.HeldOff e h = waited x (held e) refl refl refl
advance_moves b x S.Cleared e h = putting b x _ _ _ _ _ starts refl h e
advance_moves b x S.Reading e h = refused refl refl
advance_moves b x S.InLine e h = cond_both (leads b.line x) _ _ (λ (o : Out). Move b (Advance x) o.answer o.after) (λ t. putting b x _ _ _ _ _ (calls t) refl h e) (λ t. waited x (behind e t) refl refl refl)
advance_moves b x S.Called e h = putting b x _ _ _ _ _ posts refl h e
advance_moves b x S.Posted e h = cond_both (some near b.standings) _ _ (λ (o : Out). Move b (Advance x) o.answer o.after) (λ t. waited x (readers e t) refl refl refl) (λ t. putting b x _ _ _ _ _ (writes t) refl h e)
advance_moves b x S.Writing e h = refused refl refl
advance_moves b x S.GoingOut e h = putting b x _ _ _ _ _ goes refl h e

leave_moves : (two : Bool) (b : Book) (x : ℕ) (s : Standing) → standing b x ≡ s → x < count b → Move b (Leave x) (leave_as two s x b).answer (leave_as two s x b).after
leave_moves two b x S.Away e h = refused refl refl
leave_moves two b x S.HeldOff e h = refused refl refl
leave_moves two b x S.Cleared e h = refused refl refl
leave_moves two b x S.Reading e h = putting b x _ _ _ _ _ ends refl h e
leave_moves two b x S.InLine e h = refused refl refl
leave_moves two b x S.Called e h = refused refl refl
leave_moves two b x S.Posted e h = refused refl refl
leave_moves two b x S.Writing e h = cond_both two _ _ (λ (o : Out). Move b (Leave x) o.answer o.after) (λ _. freeing_all b x _ _ _ _ _ frees refl h e) (λ _. freeing_all b x _ _ _ _ _ freed_off refl h e)
leave_moves two b x S.GoingOut e h = refused refl refl

within_moves : (b : Book) (x : ℕ) (c : LockCall) (o : Out) → (x < count b → Move b c o.answer o.after) → Move b c (within b x o).answer (within b x o).after
within_moves b x c o k = cond_both (ltb x (count b)) _ _ (λ (o : Out). Move b c o.answer o.after) (λ t. k (ltb-true x (count b) t)) (λ _. refused refl refl)

pub moves : (two : Bool) (c : LockCall) (b : Book) → Move b c (step two c b).answer (step two c b).after
moves two (RequestRead x) b = within_moves b x _ _ (λ h. read_moves b x _ refl h)
moves two (RequestWrite x) b = within_moves b x _ _ (λ h. write_moves b x _ refl h)
moves two (Advance x) b = within_moves b x _ _ (λ h. advance_moves b x _ refl h)
moves two (Leave x) b = within_moves b x _ _ (λ h. leave_moves two b x _ refl h)
