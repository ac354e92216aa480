-- The told counts: for each party that waits, the writers that have entered since its request.
use Rattle.std.specs.Prelude.{ℕ, ◌+◌, min, cond, List, map, slice_index, slice_set}
use Rattle.std.specs.List.{range_with_len}
use Rattle.phase.specs.Book.{Book, standing}
use Rattle.phase.specs.Standings.{is_waiting, is_writing}
use Rattle.phase.specs.declared.kinds.Standing.{Standing}

-- the count of a party at a standing once a writer has entered: one more if it waits, up to what 16 bits hold
abbrev pub told_next : Standing → ℕ → ℕ
told_next s t = cond (is_waiting s) (min (t + 1) 65535) t

-- all counts once a writer has entered, by the book after the entry
unfoldable pub told_by_writer : Book → List ℕ → List ℕ
told_by_writer b ts = map (λ p. told_next (standing b p) (slice_index ts p)) (range_with_len 0 32)

-- all counts once a party has entered, by the book after the entry: its own is 0 from now on
abbrev pub told_at_entry : Book → ℕ → List ℕ → List ℕ
told_at_entry b p ts = slice_set (cond (is_writing (standing b p)) (told_by_writer b ts) ts) p 0
