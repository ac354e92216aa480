-- Every writer stands in the line once and nobody else does: every step keeps it. So the line has room.
use Rattle.std.proofs.Common.{◌≡◌, ℕ, zero, suc, ◌<◌, ◌≤◌, Bool, true, false, cond, eqb, ◌≢◌, List, ◌∷◌, length, get_or, replicate, sym, refl, ap, ◌∙◌, subst, inl, inr, arith}
use Rattle.std.proofs.lemmas.Bool.{cases_eq, ne_eqb, eq-eqb}
use Rattle.std.proofs.lemmas.List.{get_or_past}
use Rattle.phase.specs.Book.{Book, Answer, step, standing, count, freed, new}
use Rattle.phase.specs.Line.{is_writer, one, times, Lined}
use Rattle.phase.specs.declared.kinds.Standing.{Standing}
use Rattle.phase.specs.declared.kinds.Standing.TheVariants as S
use Rattle.phase.specs.declared.kinds.Letter.{Letter}
use Rattle.phase.specs.declared.kinds.LockCall.{LockCall}
use Rattle.phase.proofs.Moves.{Turn, Move, refused, waited, turned, moves, line_after}
use Rattle.phase.proofs.Counting.{times_more, times-without_same, times-without_other, one_small, tally_all, tally_small}

pub freed_writer : (s : Standing) → is_writer (freed s) ≡ is_writer s
freed_writer s = grind arith

-- another's turn makes nobody a writer, and ends nobody's being one
pub writer_other : (b b' : Book) (c : LockCall) (l : Letter) (t : Turn b c l b') (q : ℕ) → q ≢ t.who → is_writer (standing b' q) ≡ is_writer (standing b q)
writer_other b b' c l t q n = ap is_writer (t.others q n) ∙ either t.freeing
  where
    either : (f : Bool) → is_writer (cond f (freed (standing b q)) (standing b q)) ≡ is_writer (standing b q)
    either true = freed_writer _
    either false = refl

-- how often a party stands in the line after a turn, of the one who turned and of the others
own_times : (o n : Bool) (x : ℕ) (l : List ℕ) → times x l ≡ one o → times x (line_after o n x l) ≡ one n
own_times false false x l h = h
own_times false true x l h = times_more x x l ∙ (let e = ap one (eq-eqb x x refl) in omega (arith, h, e))
own_times true false x l h = times-without_same x l
own_times true true x l h = h

other_times : (o n : Bool) (x q : ℕ) (l : List ℕ) → q ≢ x → times q (line_after o n x l) ≡ times q l
other_times false false x q l h = refl
other_times false true x q l h = times_more q x l ∙ (let e = ap one (ne_eqb x q (λ k. h (sym k))) in omega (arith, e))
other_times true false x q l h = times-without_other q x l h
other_times true true x q l h = refl

pub turn_lined : (b b' : Book) (c : LockCall) (l : Letter) → Turn b c l b' → Lined b → Lined b'
turn_lined b b' c l t i q = elim (cases_eq q t.who) [
  | inl e ↦
      let before : times t.who b.line ≡ one (is_writer t.old) = i t.who ∙ ap (λ s. one (is_writer s)) t.was in
      let after : times t.who b'.line ≡ one (is_writer t.new) = ap (times t.who) t.line ∙ own_times (is_writer t.old) (is_writer t.new) t.who b.line before in
      ap (λ x. times x b'.line) e ∙ after ∙ sym (ap (λ s. one (is_writer s)) (ap (standing b') e ∙ t.is))
  | inr n ↦ ap (times q) t.line ∙ other_times (is_writer t.old) (is_writer t.new) t.who q b.line n ∙ i q ∙ ap one (sym (writer_other b b' c l t q n))
]

pub step_lined : (two : Bool) (c : LockCall) (b : Book) → Lined b → Lined (step two c b).after
step_lined two c b i = go _ _ (moves two c b)
  where
    go : (a : Answer) (b' : Book) → Move b c a b' → Lined b'
    go a b' (refused _ e) = subst Lined (sym e) i
    go a b' (waited _ _ _ _ e) = subst Lined (sym e) i
    go a b' (turned l _ t) = turn_lined b b' c l t i

pub away_new : (n q : ℕ) → get_or (replicate n S.Away) q S.Away ≡ S.Away
away_new zero q = refl
away_new (suc n) zero = refl
away_new (suc n) (suc q) = away_new n q

pub new_lined : (n : ℕ) → Lined (new n)
new_lined n q = sym (ap (λ s. one (is_writer s)) (away_new n q))

-- while a party does not write, fewer writers than parties stand in the line
pub line_room : (b : Book) (p : ℕ) → Lined b → p < count b → is_writer (standing b p) ≡ false → length b.line < count b
line_room b p i h e =
    let z = tally_all (count b) (p ∷ b.line) inside in
    let y = tally_small (count b) (p ∷ b.line) single in
    omega (arith, z, y)
  where
    inside : (q : ℕ) → count b ≤ q → times q (p ∷ b.line) ≡ 0
    inside q k =
        let u = ap one (ne_eqb p q (λ (x : p ≡ q). absurd (omega (arith, x)))) in
        let v = i q ∙ ap (λ s. one (is_writer s)) (get_or_past b.standings q S.Away k) in
        omega (arith, u, v)

    single : (q : ℕ) → times q (p ∷ b.line) ≤ 1
    single q = elim (cases_eq q p) [
      | inl x ↦ let v = i q ∙ ap (λ z. one (is_writer (standing b z))) x ∙ ap one e in let t = one_small (eqb p q) in omega (arith, v, t)
      | inr x ↦ let u = ap one (ne_eqb p q (λ k. x (sym k))) in let v = i q in let t = one_small (is_writer (standing b q)) in omega (arith, u, v, t)
    ]
