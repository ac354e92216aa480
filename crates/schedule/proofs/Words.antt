-- The words and calls of some bytes, read by their index and counted.
use Rattle.std.proofs.Common.{◌≡◌, ℕ, zero, suc, ◌+◌, ◌-◌, ◌*◌, ◌/◌, ◌%◌, ◌<◌, ◌≤◌, Bool, true, false, cond, List, [], ◌∷◌, ◌++◌, length, get_or, is_ok, Some, None, Ok, Err, Option, Result, sym, refl, ap, ◌∙◌, inl, inr, arith}
use Rattle.std.specs.List.{slice_get}
use Rattle.std.proofs.lemmas.Option.{slice_get_past as nth_past}
use Rattle.std.proofs.lemmas.Bool.{cases_lt, cond-true, cond-false, ne_eqb, eq-eqb, le-ltb, lt-ltb}
use Rattle.phase.specs.declared.kinds.LockCall.{LockCall}
use Rattle.schedule.specs.Word.{word_of, read_word}
use Rattle.schedule.specs.Schedule.{words_of, calls_from, Calls, followed, listed, verdict, word_verdict, at_place, pair_at, pair_word, pair_call, taken, calls_of}
use Rattle.schedule.specs.declared.faults.WordFault.{WordFault}

pub words_length : (bs : List ℕ) → length (words_of bs) ≡ length bs / 2
words_length [] = refl
words_length (h ∷ []) = refl
words_length (h ∷ l ∷ bs) = let z = words_length bs in omega (arith, z)

good_rest : (place : ℕ) (r : Result LockCall WordFault) (rest : Calls) → is_ok (followed place r rest) ≡ true → is_ok rest ≡ true
good_rest place (Err f) rest e = grind arith
good_rest place (Ok c) (Err f) e = e
good_rest place (Ok c) (Ok cs) e = refl

one_more : (place : ℕ) (r : Result LockCall WordFault) (rest : Calls) → is_ok (followed place r rest) ≡ true → length (listed (followed place r rest)) ≡ suc (length (listed rest))
one_more place (Err f) rest e = grind arith
one_more place (Ok c) (Err f) e = grind arith
one_more place (Ok c) (Ok cs) e = refl

pub calls_length : (place : ℕ) (bs : List ℕ) → is_ok (calls_from place bs) ≡ true → length (listed (calls_from place bs)) ≡ length bs / 2
calls_length place [] e = refl
calls_length place (h ∷ []) e = refl
calls_length place (h ∷ l ∷ bs) e =
    let z = calls_length (place + 1) bs (good_rest _ (read_word h l) _ e) in
    let y = one_more place (read_word h l) (calls_from (place + 1) bs) e in
    omega (arith, z, y)

pub word_at : (bs : List ℕ) (k : ℕ) → 2 * k + 1 < length bs → slice_get (words_of bs) k ≡ Some (word_of (get_or bs (2 * k) 0) (get_or bs (2 * k + 1) 0))
word_at [] k h = absurd (omega arith)
word_at (x ∷ []) k h = absurd (omega arith)
word_at (x ∷ y ∷ bs) zero h = refl
word_at (x ∷ y ∷ bs) (suc k) h =
    let e : 2 * suc k ≡ suc (suc (2 * k)) = omega arith in
    let f : 2 * suc k + 1 ≡ suc (suc (2 * k + 1)) = omega arith in
    word_at bs k (omega arith) ∙ sym (ap (λ n. Some (word_of (get_or (x ∷ y ∷ bs) n 0) (get_or (x ∷ y ∷ bs) (2 * suc k + 1) 0))) e ∙ ap (λ n. Some (word_of (get_or bs (2 * k) 0) (get_or (x ∷ y ∷ bs) n 0))) f)

call_after : (place k : ℕ) (r : Result LockCall WordFault) (rest : Calls) → is_ok (followed place r rest) ≡ true → slice_get (listed (followed place r rest)) (suc k) ≡ slice_get (listed rest) k
call_after place k (Err f) rest e = grind arith
call_after place k (Ok c) (Err f) e = grind arith
call_after place k (Ok c) (Ok cs) e = refl

call_first : (place : ℕ) (r : Result LockCall WordFault) (rest : Calls) → is_ok (followed place r rest) ≡ true → slice_get (listed (followed place r rest)) 0 ≡ taken r
call_first place (Err f) rest e = refl
call_first place (Ok c) (Err f) e = grind arith
call_first place (Ok c) (Ok cs) e = refl

pub call_at : (place : ℕ) (bs : List ℕ) (k : ℕ) → is_ok (calls_from place bs) ≡ true → 2 * k + 1 < length bs → slice_get (listed (calls_from place bs)) k ≡ taken (read_word (get_or bs (2 * k) 0) (get_or bs (2 * k + 1) 0))
call_at place [] k g h = absurd (omega arith)
call_at place (x ∷ []) k g h = absurd (omega arith)
call_at place (x ∷ y ∷ bs) zero g h = call_first place (read_word x y) (calls_from (place + 1) bs) g
call_at place (x ∷ y ∷ bs) (suc k) g h =
    let e : 2 * suc k ≡ suc (suc (2 * k)) = omega arith in
    let f : 2 * suc k + 1 ≡ suc (suc (2 * k + 1)) = omega arith in
    call_after place k (read_word x y) (calls_from (place + 1) bs) g
    ∙ (call_at (place + 1) bs k (good_rest place (read_word x y) _ g) (omega arith)
    ∙ sym (ap (λ n. taken (read_word (get_or (x ∷ y ∷ bs) n 0) (get_or (x ∷ y ∷ bs) (2 * suc k + 1) 0))) e ∙ ap (λ n. taken (read_word (get_or bs (2 * k) 0) (get_or (x ∷ y ∷ bs) n 0))) f))

past_tests : {X : Type 0} (a b : Bool) (x y : X) → a ≡ false → b ≡ false → cond a x (cond b x y) ≡ y
past_tests a b x y e f = cond-false a _ _ e ∙ cond-false b _ _ f

-- a pair is there from place 1 up to the last whole word
pair_there : (bs : List ℕ) (k : ℕ) → 2 * k + 1 < length bs → pair_at bs (suc k) ≡ Some (get_or bs (2 * k) 0, get_or bs (2 * k + 1) 0)
pair_there bs k h =
    let e : 2 * suc k - 2 ≡ 2 * k = omega arith in
    let f : 2 * suc k - 1 ≡ 2 * k + 1 = omega arith in
    let pair : ℕ → ℕ → Option (ℕ × ℕ) = λ m n. Some (get_or bs m 0, get_or bs n 0) in
    past_tests _ _ None (pair (2 * suc k - 2) (2 * suc k - 1)) (ne_eqb (suc k) 0 (λ z. absurd (omega (arith, z)))) (le-ltb (length bs) (2 * suc k) (omega arith))
    ∙ (ap (λ n. pair n (2 * suc k - 1)) e ∙ ap (pair (2 * k)) f)

pair_past : (bs : List ℕ) (k : ℕ) → length bs ≤ 2 * k + 1 → pair_at bs (suc k) ≡ None
pair_past bs k h =
    cond-false _ _ _ (ne_eqb (suc k) 0 (λ z. absurd (omega (arith, z))))
    ∙ cond-true _ _ _ (lt-ltb (length bs) (2 * suc k) (omega arith))

pub words_place : (bs : List ℕ) (place : ℕ) → pair_word (pair_at bs place) ≡ at_place (words_of bs) place
words_place bs zero = refl
words_place bs (suc k) = elim (cases_lt (2 * k + 1) (length bs)) [
  | inl h ↦ ap pair_word (pair_there bs k h) ∙ sym (word_at bs k h)
  | inr h ↦ ap pair_word (pair_past bs k h) ∙ sym (nth_past (words_of bs) k (let z = words_length bs in omega (arith, z)))
]

pub calls_place : (bs : List ℕ) (place : ℕ) → is_ok (calls_from 1 bs) ≡ true → pair_call (pair_at bs place) ≡ at_place (listed (calls_from 1 bs)) place
calls_place bs zero g = refl
calls_place bs (suc k) g = elim (cases_lt (2 * k + 1) (length bs)) [
  | inl h ↦ ap pair_call (pair_there bs k h) ∙ sym (call_at 1 bs k g h)
  | inr h ↦ ap pair_call (pair_past bs k h) ∙ sym (nth_past (listed (calls_from 1 bs)) k (let z = calls_length 1 bs g in omega (arith, z)))
]

-- a schedule of the right length has the calls of its words
pub calls_within : (bs : List ℕ) → length bs ≤ 8192 → length bs % 2 ≡ 0 → calls_of bs ≡ calls_from 1 bs
calls_within bs s e = cond-false _ _ _ (le-ltb 8192 (length bs) s) ∙ cond-true _ _ _ (eq-eqb (length bs % 2) 0 e)

good_word : (place : ℕ) (r : Result LockCall WordFault) (rest : Calls) → word_verdict place r ≡ Ok tt → verdict (followed place r rest) ≡ verdict rest
good_word place (Err f) rest e = grind arith
good_word place (Ok c) (Err f) e = refl
good_word place (Ok c) (Ok cs) e = refl

-- past a good word what is left of the bytes decides
pub passed : (place : ℕ) (word rest bs : List ℕ) → bs ≡ word ++ rest → length word ≡ 2 → Ok tt ≡ word_verdict place (read_word (get_or word 0 0) (get_or word 1 0)) → verdict (calls_from place bs) ≡ verdict (calls_from (place + 1) rest)
passed place [] rest bs is two e = absurd (omega arith)
passed place (h ∷ []) rest bs is two e = absurd (omega arith)
passed place (h ∷ l ∷ []) rest bs is two e = ap (λ xs. verdict (calls_from place xs)) is ∙ good_word place (read_word h l) _ (sym e)
passed place (h ∷ l ∷ x ∷ xs) rest bs is two e = absurd (omega arith)
