-- A listing read word by word, and how long its lines are.
use Rattle.std.proofs.Common.{◌≡◌, ℕ, zero, suc, ◌+◌, ◌-◌, ◌*◌, ◌<◌, ◌≤◌, cond, ltb, List, [], ◌∷◌, ◌++◌, length, get_or, take, drop, Some, Ok, Err, Result, sym, ap, ◌∙◌, inl, inr, append_assoc, arith, length-take, drop-cons}
use Rattle.std.proofs.lemmas.List.{take_all, drop_all, drop-drop, take-append-drop, length-take-le}
use Rattle.std.proofs.lemmas.Option.{get_or_from_slice_get}
use Rattle.std.proofs.lemmas.Bool.{cases_lt, lt-ltb, cond-true}
use Rattle.phase.specs.Book.{Answer}
use Rattle.phase.specs.declared.kinds.LockCall.TheVariants.{RequestRead}
use Rattle.pft.specs.Model.{State, answer, after}
use Rattle.schedule.specs.declared.faults.ScheduleFault.TheVariants.{TooLong}
use Rattle.schedule.specs.Schedule.{words_of, calls_of, at_place, Calls, listed}
use Rattle.schedule.specs.View.{words, calls}
use Rattle.schedule.specs.declared.view.Schedule.{Schedule}
use Rattle.schedule.proofs.Words.{words_length, calls_length, calls_within}
use Rattle.listing_lines.specs.Lines.{line}
use Rattle.listing_lines.specs.declared.faults.ListingFault.{ListingFault}
use Rattle.listing_lines.specs.declared.faults.ListingFault.TheVariants.{Space}
use Rattle.listing_text.specs.declared.text.Text.{Text}
use Rattle.listing_text.specs.Listing.{call_at, line_at, last, lines_from, longest, text_from, text_of}

-- what a list has at a place
pub there_is : {X : Type 0} (xs : List X) (k : ℕ) (d x : X) → at_place xs k ≡ Some x → get_or xs (k - 1) d ≡ x
there_is xs zero d x is = grind arith
there_is xs (suc k) d x is = let here : suc k - 1 ≡ k = omega arith in rw here (get_or_from_slice_get xs k x d is)

pub few_words : (s : Schedule) → length (words s) ≤ 4096
few_words s = let n = words_length s.bytes.now in let short = s.short in omega (arith, n, short)

-- a schedule has as many calls as words
pub as_many : (s : Schedule) → length (calls s) ≡ length (words s)
as_many s =
    ap (λ (r : Calls). length (listed r)) (calls_within s.bytes.now s.short s.even)
    ∙ calls_length 1 s.bytes.now s.good ∙ sym (words_length s.bytes.now)

pub line_short : (place word : ℕ) (a : Answer) → length (line place word a) ≤ 14
line_short place word (Ok l) = omega arith
line_short place word (Err f) = omega arith

pub line_at_short : (s : Schedule) (place : ℕ) (st : State) → length (line_at s place st) ≤ 14
unfolding line_at
line_at_short s place st = line_short place (get_or (words s) (place - 1) 0) (answer (call_at s place) st)

-- whatever the place, so that this asks nothing of the place
pub short_line : (s : Schedule) (place : ℕ) (st : State) (bytes : List ℕ) → bytes ≡ line_at s place st → length bytes ≤ 14
short_line s place st bytes is = rw is (line_at_short s place st)

-- the lines from the word at a place on, and the last line
abbrev pub rest_from : Schedule → ℕ → State → List ℕ
rest_from s place st = lines_from place st (drop (place - 1) (words s)) (drop (place - 1) (calls s))

-- they are the word's own line and those that follow
pub next_line : (s : Schedule) (place : ℕ) (st : State) → 0 < place → place ≤ length (words s) → rest_from s place st ≡ line_at s place st ++ rest_from s (place + 1) (after (call_at s place) st)
unfolding line_at
next_line s zero st some there = absurd (omega arith)
next_line s (suc i) st some there =
    let many = as_many s in
    let here : suc i - 1 ≡ i = omega arith in
    let next : suc i + 1 - 1 ≡ suc i = omega arith in
    let word : drop i (words s) ≡ get_or (words s) i 0 ∷ drop (suc i) (words s) = drop-cons (words s) i 0 (omega arith) in
    let call : drop i (calls s) ≡ get_or (calls s) i (RequestRead 0) ∷ drop (suc i) (calls s) = drop-cons (calls s) i (RequestRead 0) (omega (arith, many)) in
    rw (here, next, word, call)

-- after the last word there is the last line
pub no_more : (s : Schedule) (place : ℕ) (st : State) → length (words s) < place → rest_from s place st ≡ last st
no_more s place st past =
    let many = as_many s in
    let word : drop (place - 1) (words s) ≡ [] = drop_all (place - 1) (words s) (omega arith) in
    let call : drop (place - 1) (calls s) ≡ [] = drop_all (place - 1) (calls s) (omega (arith, many)) in
    rw (word, call)

-- where nothing behind a place has changed, nothing behind a later one has
pub still : (n at : ℕ) (xs ys : List ℕ) → drop at xs ≡ drop at ys → drop (at + n) xs ≡ drop (at + n) ys
still n at xs ys e = sym (drop-drop n at xs) ∙ ap (drop n) e ∙ drop-drop n at ys

-- what is written, and what nothing was written to
pub whole_text : (t : Text) (first whole : List ℕ) → t.len ≤ length t.space.now → take t.len t.space.now ≡ whole → drop t.len t.space.now ≡ drop t.len first → t.space.now ≡ whole ++ drop (length whole) first
whole_text t first whole room written rest =
    let len : t.len ≡ length whole = sym (length-take-le t.len t.space.now room) ∙ ap length written in
    sym (take-append-drop t.len t.space.now) ∙ rw (written, rest, len)

-- before the word at a place is listed: what is written and what is still to be written are the whole, and nothing
-- behind what is written has changed
pub record SoFar (s : Schedule) (first : Text) (whole : List ℕ) (place : ℕ) (st : State) (t : Text) : Type 0 where
  pub same_reference : t.space.ghost_name ≡ first.space.ghost_name
  pub written : take t.len t.space.now ++ rest_from s place st ≡ whole
  pub rest : drop t.len t.space.now ≡ drop t.len first.space.now
  pub room : length t.space.now ≡ length first.space.now
  pub short : t.len ≤ first.len + 14 * (place - 1)
  pub within : place ≤ length (words s) + 1

module _ (s : Schedule) (first t : Text) (whole : List ℕ) (place : ℕ) (st : State) (so_far : SoFar s first whole place st t) where
  -- after one more word
  pub one_more : (t' : Text) (st' : State) (bytes : List ℕ) → 0 < place → place ≤ length (words s) → bytes ≡ line_at s place st → st' ≡ after (call_at s place) st → t'.space.ghost_name ≡ t.space.ghost_name → t'.len ≡ t.len + length bytes → take t'.len t'.space.now ≡ take t.len t.space.now ++ bytes → drop t'.len t'.space.now ≡ drop t'.len t.space.now → length t'.space.now ≡ length t.space.now → SoFar s first whole (place + 1) st' t'
  one_more t' st' bytes some there line state_is name len written rest room =
      let short : length bytes ≤ 14 = rw line (line_at_short s place st) in
      record {
        same_reference = name ∙ so_far.same_reference;
        written = rw (written, line, state_is) (append_assoc (take t.len t.space.now) (line_at s place st) (rest_from s (place + 1) (after (call_at s place) st)) ∙ ap (λ (x : List ℕ). take t.len t.space.now ++ x) (sym (next_line s place st some there)) ∙ so_far.written);
        rest = rest ∙ rw len (still (length bytes) t.len t.space.now first.space.now so_far.rest);
        room = room ∙ so_far.room;
        short = omega arith;
        within = omega arith;
      }

  -- after the last word
  pub all_listed : length (words s) < place → (take t.len t.space.now ++ last st ≡ whole) × (t.len ≤ first.len + 14 * length (words s))
  all_listed past = (ap (λ (x : List ℕ). take t.len t.space.now ++ x) (sym (no_more s place st past)) ∙ so_far.written, omega arith)

-- of an input that is too long, one byte more than the longest schedule shows it
pub too_long : (input : List ℕ) → 8192 < length input → calls_of input ≡ Err TooLong
too_long input h = cond-true _ _ _ (lt-ltb 8192 (length input) h)

pub suffices : (input : List ℕ) (room : ℕ) → text_of (take 8193 input) room ≡ text_of input room
suffices input room = elim (cases_lt 8193 (length input)) [
  | inl h ↦
      let cut = too_long (take 8193 input) (rw length-take (omega arith)) in
      let whole = too_long input (omega arith) in
      ap (λ (x : Result (List ℕ) ListingFault). cond (ltb room longest) (Err Space) x)
      (ap (text_from (words_of (take 8193 input))) cut ∙ sym (ap (text_from (words_of input)) whole))
  | inr h ↦ ap (λ (bs : List ℕ). text_of bs room) (take_all 8193 input h)
]
