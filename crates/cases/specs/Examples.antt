-- Worked examples, over the definitions that the contracts of the calls cite.
use Rattle.std.specs.Prelude.{◌≡◌, ℕ, Bool, List, [], ◌∷◌, Ok, codes, slice_index_or}
use Rattle.phase.specs.Book.{Book, standing, step, refuses}
use Rattle.phase.specs.Letters.{code_of}
use Rattle.phase.specs.Numbers.{lock_number}
use Rattle.phase.specs.declared.faults.LockFault.TheVariants.{Unfit}
use Rattle.phase.specs.declared.kinds.Standing.TheVariants as S
use Rattle.phase.specs.declared.kinds.Letter.TheVariants as L
use Rattle.phase.specs.declared.kinds.LockCall.{LockCall}
use Rattle.phase.specs.declared.kinds.LockCall.TheVariants.{RequestRead, RequestWrite, Advance, Leave}
use Rattle.pft_steps.specs.Steps.{nobody}
use Rattle.pft.specs.Model.{State, opened, answer, after}
use Rattle.schedule.specs.Schedule.{calls_of}
use Rattle.cases.specs.Runs.{mark, letters, ends}

-- Words 0000 1080 2080 2080 0100 2000 2080 3000 2080 2100 3080 2100 2080 3100: a reader has asked when a writer posts, and a
-- second reader is held off until that writer leaves.
abbrev pub around_a_writer : List LockCall
around_a_writer =
    RequestRead 0 ∷ RequestWrite 1 ∷ Advance 1 ∷ Advance 1 ∷ RequestRead 2 ∷ Advance 0 ∷ Advance 1 ∷ Leave 0 ∷ Advance 1 ∷ Advance 2 ∷ Leave 1 ∷ Advance 2 ∷ Advance 1 ∷ Leave 2 ∷ []

-- the reader that asked before the posting enters and leaves first
pub record ReadersAroundAWriter : Type 0 where
  -- the words are these calls
  pub calls : calls_of (0 ∷ 0 ∷ 16 ∷ 128 ∷ 32 ∷ 128 ∷ 32 ∷ 128 ∷ 1 ∷ 0 ∷ 32 ∷ 0 ∷ 32 ∷ 128 ∷ 48 ∷ 0 ∷ 32 ∷ 128 ∷ 33 ∷ 0 ∷ 48 ∷ 128 ∷ 33 ∷ 0 ∷ 32 ∷ 128 ∷ 49 ∷ 0 ∷ []) ≡ Ok around_a_writer
  -- three parties from count 0
  pub answers : letters (opened 3 0) around_a_writer ≡ codes "cqkphnwanwonga"
  pub words : (ends (opened 3 0) around_a_writer).words ≡ record { rin = 0x200; rout = 0x200; win = 1; wout = 1 }

-- From the last count below 2^32 a lone writer goes q k p n o g, and win and wout wrap.
pub record ALoneWriterWraps : Type 0 where
  pub answers : letters (opened 1 0xffffffff) (RequestWrite 0 ∷ Advance 0 ∷ Advance 0 ∷ Advance 0 ∷ Leave 0 ∷ Advance 0 ∷ []) ≡ codes "qkpnog"
  pub posted : (ends (opened 1 0xffffffff) (RequestWrite 0 ∷ Advance 0 ∷ Advance 0 ∷ [])).words.rin ≡ 0xffffff03
  pub at_the_end : (ends (opened 1 0xffffffff) (RequestWrite 0 ∷ Advance 0 ∷ Advance 0 ∷ Advance 0 ∷ Leave 0 ∷ Advance 0 ∷ [])).words.wout ≡ 0

-- From the same count a read request wraps rin.
pub record AReadRequestWraps : Type 0 where
  pub before : (opened 1 0xffffffff).words.rin ≡ 0xffffff00
  pub letter : mark (answer (RequestRead 0) (opened 1 0xffffffff)) ≡ code_of L.Cleared
  pub rin : (after (RequestRead 0) (opened 1 0xffffffff)).words.rin ≡ 0

-- A reader, party 2, is held off by writer 0; that writer goes, and writer 1 posts before the reader advances.
abbrev pub next_writer_posted : State
next_writer_posted = ends (opened 3 0) (RequestWrite 0 ∷ RequestWrite 1 ∷ Advance 0 ∷ Advance 0 ∷ RequestRead 2 ∷ Advance 0 ∷ Leave 0 ∷ Advance 0 ∷ Advance 1 ∷ Advance 1 ∷ [])

-- other bits than the saved ones say that the writer met has gone
pub record ThePhaseBitLetsAReaderIn : Type 0 where
  -- it saved 2
  pub saved : (slice_index_or next_writer_posted.parties 2 nobody).saved ≡ 2
  -- the writer that now is posted has the other phase
  pub rin : next_writer_posted.words.rin ≡ 0x103
  -- and the reader enters
  pub letter : mark (answer (Advance 2) next_writer_posted) ≡ code_of L.Entered

-- Under every lock, the advance of a party that is away is refused with 12, and the book stays.
pub record AnAwayPartyCannotAdvance : Type 0 where
  pub refused : (two : Bool) (b : Book) (p : ℕ) → standing b p ≡ S.Away → step two (Advance p) b ≡ refuses b
  pub number : lock_number Unfit ≡ 12
