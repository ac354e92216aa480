-- The worked examples of the lock, on a rig over the phase-fair ticket lock.
use Rattle.std.specs.Prelude.{◌≡◌, List, [], ◌∷◌, codes, slice_index_or}
use Rattle.phase.specs.Letters.{code_of}
use Rattle.phase.specs.declared.kinds.Letter.TheVariants as L
use Rattle.pft_steps.specs.Steps.{nobody}
use Rattle.schedule.specs.declared.call.Call.{Call}
use Rattle.schedule.specs.declared.call.Call.TheVariants.{RequestRead, RequestWrite, Advance, Leave}
use Rattle.cases.specs.PftRig.{Held, fresh, replies, after}
use Rattle.cases.specs.RigRuns.{mark_of, replied, held_at_end}

-- Words 0000 1080 2080 2080 0100 2000 2080 3000 2080 2100 3080 2100 2080 3100: a reader has asked when a writer posts, and
-- a second reader is held off until that writer leaves.
abbrev pub rig_around_a_writer : List Call
rig_around_a_writer =
    RequestRead 0 ∷ RequestWrite 1 ∷ Advance 1 ∷ Advance 1 ∷ RequestRead 2 ∷ Advance 0 ∷ Advance 1 ∷ Leave 0 ∷ Advance 1 ∷ Advance 2 ∷ Leave 1 ∷ Advance 2 ∷ Advance 1 ∷ Leave 2 ∷ []

-- the reader that asked before the posting enters and leaves first
pub record ReadersAroundAWriterOnARig : Type 0 where
  -- three parties from count 0
  pub answers : replied (fresh 3 0) rig_around_a_writer ≡ codes "cqkphnwanwonga"
  pub words : (held_at_end (fresh 3 0) rig_around_a_writer).lock.words ≡ record { rin = 0x200; rout = 0x200; win = 1; wout = 1 }

-- From the last count below 2^32 a lone writer goes q k p n o g, and win and wout wrap.
pub record ALoneWriterWrapsOnARig : Type 0 where
  pub answers : replied (fresh 1 0xffffffff) (RequestWrite 0 ∷ Advance 0 ∷ Advance 0 ∷ Advance 0 ∷ Leave 0 ∷ Advance 0 ∷ []) ≡ codes "qkpnog"
  pub posted : (held_at_end (fresh 1 0xffffffff) (RequestWrite 0 ∷ Advance 0 ∷ Advance 0 ∷ [])).lock.words.rin ≡ 0xffffff03
  pub at_the_end : (held_at_end (fresh 1 0xffffffff) (RequestWrite 0 ∷ Advance 0 ∷ Advance 0 ∷ Advance 0 ∷ Leave 0 ∷ Advance 0 ∷ [])).lock.words ≡ record { rin = 0xffffff00; rout = 0xffffff00; win = 0; wout = 0 }

-- From the same count a read request wraps rin.
pub record AReadRequestWrapsOnARig : Type 0 where
  pub before : (fresh 1 0xffffffff).lock.words.rin ≡ 0xffffff00
  pub letter : mark_of (replies (RequestRead 0) (fresh 1 0xffffffff)) ≡ code_of L.Cleared
  pub rin : (after (RequestRead 0) (fresh 1 0xffffffff)).lock.words.rin ≡ 0

-- A reader, party 2, is held off by writer 0; that writer goes, and writer 1 posts before the reader advances.
abbrev pub rig_next_writer_posted : Held
rig_next_writer_posted = held_at_end (fresh 3 0) (RequestWrite 0 ∷ RequestWrite 1 ∷ Advance 0 ∷ Advance 0 ∷ RequestRead 2 ∷ Advance 0 ∷ Leave 0 ∷ Advance 0 ∷ Advance 1 ∷ Advance 1 ∷ [])

-- other bits than the saved ones say that the writer met has gone
pub record ThePhaseBitLetsAReaderInOnARig : Type 0 where
  -- it saved 2
  pub saved : (slice_index_or rig_next_writer_posted.lock.parties 2 nobody).saved ≡ 2
  -- the writer that now is posted has the other phase
  pub rin : rig_next_writer_posted.lock.words.rin ≡ 0x103
  -- and the reader enters
  pub letter : mark_of (replies (Advance 2) rig_next_writer_posted) ≡ code_of L.Entered
