-- What ties the four words to the parties: the lock's invariant, and the phase book that they show.
use Rattle.std.specs.Prelude.{◌≡◌, ℕ, ◌+◌, ◌/◌, ◌%◌, ◌^◌, ◌<◌, ◌≤◌, min, cond, List, [], ◌∷◌, map, length, sum_by, ◌==◌, ◌≢◌, nat_lt, slice_index_or}
use Rattle.std.specs.List.{range_with_len}
use Rattle.phase.specs.declared.kinds.Standing.{Standing}
use Rattle.phase.specs.Book.{Book, near, bars}
use Rattle.phase.specs.Line.{one}
use Rattle.pft_steps.specs.Steps.{standing_at}
use Rattle.pft_steps.specs.declared.party.Stage.{Stage}
use Rattle.pft_steps.specs.declared.party.Stage.TheVariants as G
use Rattle.pft_steps.specs.declared.party.Party.{Party}
use Rattle.pft_steps.specs.declared.words.Four.{Four}

-- a party's standing
abbrev pub stands_as : ℕ → Party → Standing
stands_as bits p = standing_at bits p.stage p.saved

-- 1 at a stage of a reader, 0 at the others
abbrev pub reader_at : Stage → ℕ
reader_at G.Away = 0
reader_at G.Waiting = 1
reader_at G.Reading = 1
reader_at G.InLine = 0
reader_at G.Called = 0
reader_at G.Posted = 0
reader_at G.Writing = 0
reader_at G.GoingOut = 0

-- 1 at a stage of a writer
abbrev pub writer_at : Stage → ℕ
writer_at G.Away = 0
writer_at G.Waiting = 0
writer_at G.Reading = 0
writer_at G.InLine = 1
writer_at G.Called = 1
writer_at G.Posted = 1
writer_at G.Writing = 1
writer_at G.GoingOut = 1

-- 1 at a writer that goes out
abbrev pub going_at : Stage → ℕ
going_at G.Away = 0
going_at G.Waiting = 0
going_at G.Reading = 0
going_at G.InLine = 0
going_at G.Called = 0
going_at G.Posted = 0
going_at G.Writing = 0
going_at G.GoingOut = 1

-- 1 at a reader that is cleared or inside, 0 at the others
abbrev pub active : Standing → ℕ
active x = one (near x)

-- 1 at a writer that is posted or inside
abbrev pub present : Standing → ℕ
present x = one (bars x)

-- 1 at a reader
abbrev pub reader : Party → ℕ
reader p = reader_at p.stage

-- 1 at a writer
abbrev pub writer : Party → ℕ
writer p = writer_at p.stage

-- 1 at a reader that is cleared or inside, beside the writer's bits of rin
abbrev pub active_in : ℕ → Party → ℕ
active_in bits p = active (stands_as bits p)

-- 1 at a writer that is posted or inside
abbrev pub present_in : ℕ → Party → ℕ
present_in bits p = present (stands_as bits p)

-- 1 at a writer that goes out
abbrev pub going : Party → ℕ
going p = going_at p.stage

-- 1 at a writer with the ticket t
abbrev pub holds : ℕ → Party → ℕ
holds t p = cond (p.ticket == t) (writer_at p.stage) 0

-- the number of the first party that is a writer with the ticket t
abbrev pub holder : ℕ → List Party → ℕ
holder t [] = 0
holder t (p ∷ ps) = cond (nat_lt 0 (holds t p)) 0 (1 + holder t ps)

-- the line: who has the tickets from wout on, as many as there are writers
abbrev pub line_of : ℕ → List Party → List ℕ
line_of wout ps = map (λ k. holder ((wout + k) % 2 ^ 32) ps) (range_with_len 0 (sum_by writer ps))

-- the book that the words and the parties show
abbrev pub seen : ℕ → ℕ → List Party → Book
seen rin wout ps = record { standings = map (stands_as (rin % 4)) ps; line = line_of wout ps }

-- What a stage says of the party's saved number s and ticket t and of the words, where goes writers go out
-- and acts readers are cleared or inside. A reader cleared by the last writer is not held off by the next one:
-- while no writer is present, what it saved is not what the next writer's bits will be.
abbrev pub FitAt : Stage → ℕ → ℕ → ℕ → ℕ → ℕ → ℕ → ℕ → Type 0
FitAt G.Away s t rin rout wout goes acts = Unit {0}
FitAt G.Waiting s t rin rout wout goes acts =
    (s < 4) × (s ≢ 1) × (rin % 256 ≡ 0 → s ≢ 2 + (wout + goes) % 2)
FitAt G.Reading s t rin rout wout goes acts = Unit {0}
FitAt G.InLine s t rin rout wout goes acts = Unit {0}
FitAt G.Called s t rin rout wout goes acts = (t ≡ wout) × (rin % 256 ≡ 0)
FitAt G.Posted s t rin rout wout goes acts =
    (t ≡ wout) × (rin % 256 ≡ 2 + wout % 2) × (s % 256 ≡ 0) × (s / 256 ≡ (rout / 256 + acts) % 2 ^ 24)
FitAt G.Writing s t rin rout wout goes acts =
    (t ≡ wout) × (rin % 256 ≡ 2 + wout % 2) × (acts ≡ 0)
FitAt G.GoingOut s t rin rout wout goes acts = (t ≡ wout) × (rin % 256 ≡ 0)

-- the same of a party, by all parties
abbrev pub Fit : ℕ → ℕ → ℕ → List Party → Party → Type 0
Fit rin rout wout ps p = FitAt p.stage p.saved p.ticket rin rout wout (sum_by going ps) (sum_by (active_in (rin % 4)) ps)

-- the four words by themselves are such as `Words` are
pub record Kept (w : Four) : Type 0 where
  pub fits : (w.rin < 2 ^ 32) × (w.rout < 2 ^ 32) × (w.win < 2 ^ 32) × (w.wout < 2 ^ 32)
  pub whole : w.rout % 256 ≡ 0
  pub flags : (w.rin % 256 < 4) × (w.rin % 256 ≢ 1)

-- the lock's invariant
pub record Sound (rin rout win wout : ℕ) (ps : List Party) : Type 0 where
  pub few : length ps ≤ 32
  -- rin is ahead of rout by the readers that have asked and not left
  pub readers : rin / 256 ≡ (rout / 256 + sum_by reader ps) % 2 ^ 24
  -- win is ahead of wout by the writers in the line
  pub writers : win ≡ (wout + sum_by writer ps) % 2 ^ 32
  -- rin has a writer's bits exactly while a writer is posted or inside
  pub shown : sum_by (present_in (rin % 4)) ps ≡ min 1 (rin % 256)
  -- each ticket from wout on, up to as many as there are writers, is one writer's, and no other is anybody's
  pub tickets : (k : ℕ) → k < 2 ^ 32 → sum_by (holds ((wout + k) % 2 ^ 32)) ps ≡ cond (nat_lt k (sum_by writer ps)) 1 0
  -- and each party's numbers fit its stage
  pub each : (i : ℕ) (d : Party) → i < length ps → Fit rin rout wout ps (slice_index_or ps i d)
