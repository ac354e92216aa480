-- The steps of the phase-fair ticket lock on its four words and on what a party has of its own.
use Rattle.std.specs.Prelude.{ℕ, ◌+◌, ◌-◌, ◌^◌, Bool, true, false, cond, not, ◌&&◌, Ok, Err, Result, ◌==◌, bit_and}
use Rattle.phase.specs.declared.faults.LockFault.{LockFault}
use Rattle.phase.specs.declared.faults.LockFault.TheVariants.{Unfit}
use Rattle.phase.specs.declared.kinds.Standing.{Standing}
use Rattle.phase.specs.declared.kinds.Standing.TheVariants as S
use Rattle.phase.specs.declared.kinds.Letter.{Letter}
use Rattle.phase.specs.declared.kinds.Letter.TheVariants as L
use Rattle.phase.specs.declared.kinds.LockCall.{LockCall}
use Rattle.phase.specs.declared.kinds.LockCall.TheVariants.{RequestRead, RequestWrite, Advance, Leave}
use Rattle.pft_steps.specs.Wrapping.{sum}
use Rattle.pft_steps.specs.declared.party.Stage.{Stage}
use Rattle.pft_steps.specs.declared.party.Stage.TheVariants as G
use Rattle.pft_steps.specs.declared.party.Party.{Party}
use Rattle.pft_steps.specs.declared.steps.Change.{Change}
use Rattle.pft_steps.specs.declared.words.Words.{Words}
use Rattle.pft_steps.specs.declared.words.Four.{Four}

-- the words of the lock as plain numbers
abbrev pub four : Words → Four
four w = record { rin = w.rin; rout = w.rout; win = w.win; wout = w.wout }

-- a party that is away: it has saved nothing and has no ticket
abbrev pub nobody : Party
nobody = record { stage = G.Away; saved = 0; ticket = 0 }

-- the party at another stage, with the numbers that it has
abbrev pub moved : Stage → Party → Party
moved g p = record { stage = g; saved = p.saved; ticket = p.ticket }

-- the words stay
abbrev pub unchanged : Letter → Party → Four → Change
unchanged l p w = record { letter = l; party = p; words = w }

-- a waiting reader that saved a writer's bits is held off as long as rin has the same bits
abbrev pub held : ℕ → ℕ → Bool
held bits saved = not (saved == 0) && saved == bits

-- the standing that a stage and a saved number show, beside the writer's bits of rin
abbrev pub standing_at : ℕ → Stage → ℕ → Standing
standing_at bits G.Away saved = S.Away
standing_at bits G.Waiting saved = cond (held bits saved) S.HeldOff S.Cleared
standing_at bits G.Reading saved = S.Reading
standing_at bits G.InLine saved = S.InLine
standing_at bits G.Called saved = S.Called
standing_at bits G.Posted saved = S.Posted
standing_at bits G.Writing saved = S.Writing
standing_at bits G.GoingOut saved = S.GoingOut

-- the letter of a request to read, by the bits that it meets
abbrev pub letter_met : ℕ → Letter
letter_met saved = cond (saved == 0) L.Cleared L.Held

-- a request to read saves rin masked by 3; rin grows by 256
abbrev pub ask_at : Stage → Four → Result Change LockFault
ask_at G.Away w = Ok (record {
  letter = letter_met (bit_and w.rin 3);
  party = record { stage = G.Waiting; saved = bit_and w.rin 3; ticket = 0 };
  words = record { rin = sum 32 w.rin 256; rout = w.rout; win = w.win; wout = w.wout };
})
ask_at G.Waiting w = Err Unfit
ask_at G.Reading w = Err Unfit
ask_at G.InLine w = Err Unfit
ask_at G.Called w = Err Unfit
ask_at G.Posted w = Err Unfit
ask_at G.Writing w = Err Unfit
ask_at G.GoingOut w = Err Unfit

-- a party's request to read
abbrev pub asked : Party → Four → Result Change LockFault
asked p w = ask_at p.stage w

-- a request to write draws the ticket win; win grows by 1
abbrev pub join_at : Stage → Four → Result Change LockFault
join_at G.Away w = Ok (record {
  letter = L.Queued;
  party = record { stage = G.InLine; saved = 0; ticket = w.win };
  words = record { rin = w.rin; rout = w.rout; win = sum 32 w.win 1; wout = w.wout };
})
join_at G.Waiting w = Err Unfit
join_at G.Reading w = Err Unfit
join_at G.InLine w = Err Unfit
join_at G.Called w = Err Unfit
join_at G.Posted w = Err Unfit
join_at G.Writing w = Err Unfit
join_at G.GoingOut w = Err Unfit

-- a party's request to write
abbrev pub joined : Party → Four → Result Change LockFault
joined p w = join_at p.stage w

-- a called writer saves rin, and rin grows by 2 and the lowest bit of its ticket
abbrev pub posted : Party → Four → Change
posted p w = record {
  letter = L.Posted;
  party = record { stage = G.Posted; saved = w.rin; ticket = p.ticket };
  words = record { rin = sum 32 w.rin (2 + bit_and p.ticket 1); rout = w.rout; win = w.win; wout = w.wout };
}

-- the mask of all bits but the low byte
abbrev pub high_bits : ℕ
high_bits = 4294967040

-- rin as a writer goes out: its leave makes the low byte 0, its last advance changes nothing
abbrev pub rin_out : Bool → ℕ → ℕ
rin_out last rin = cond last rin (bit_and rin high_bits)

-- wout as a writer goes out: its leave changes nothing, its last advance makes it grow by 1
abbrev pub wout_out : Bool → ℕ → ℕ
wout_out last wout = cond last (sum 32 wout 1) wout

-- An advance. A reader enters unless it is held off. In line, a writer is called if its ticket is wout.
-- Called, it posts. Posted, it enters if what it saved is rout. Going out, wout grows by 1 and the party is away.
abbrev pub advance_at : Stage → Party → Four → Result Change LockFault
advance_at G.Away p w = Err Unfit
advance_at G.Waiting p w = Ok (cond (held (bit_and w.rin 3) p.saved) (unchanged L.Waits p w) (unchanged L.Entered (moved G.Reading p) w))
advance_at G.Reading p w = Err Unfit
advance_at G.InLine p w = Ok (cond (p.ticket == w.wout) (unchanged L.Called (moved G.Called p) w) (unchanged L.Waits p w))
advance_at G.Called p w = Ok (posted p w)
advance_at G.Posted p w = Ok (cond (p.saved == w.rout) (unchanged L.Entered (moved G.Writing p) w) (unchanged L.Waits p w))
advance_at G.Writing p w = Err Unfit
advance_at G.GoingOut p w = Ok (record {
  letter = L.Gone;
  party = nobody;
  words = record { rin = w.rin; rout = w.rout; win = w.win; wout = wout_out true w.wout };
})

-- a party's advance
abbrev pub advanced : Party → Four → Result Change LockFault
advanced p w = advance_at p.stage p w

-- a leave: a reader's makes rout grow by 256, a writer's makes the low byte of rin 0
abbrev pub leave_at : Stage → Party → Four → Result Change LockFault
leave_at G.Away p w = Err Unfit
leave_at G.Waiting p w = Err Unfit
leave_at G.Reading p w = Ok (record {
  letter = L.Away;
  party = nobody;
  words = record { rin = w.rin; rout = sum 32 w.rout 256; win = w.win; wout = w.wout };
})
leave_at G.InLine p w = Err Unfit
leave_at G.Called p w = Err Unfit
leave_at G.Posted p w = Err Unfit
leave_at G.Writing p w = Ok (record {
  letter = L.Out;
  party = moved G.GoingOut p;
  words = record { rin = rin_out false w.rin; rout = w.rout; win = w.win; wout = w.wout };
})
leave_at G.GoingOut p w = Err Unfit

-- a party's leave
abbrev pub left : Party → Four → Result Change LockFault
left p w = leave_at p.stage p w

-- the writers before a writer: what its ticket is ahead of wout, in 32 bits
abbrev pub before_at : Stage → ℕ → ℕ → ℕ
before_at G.Away ticket wout = 0
before_at G.Waiting ticket wout = 0
before_at G.Reading ticket wout = 0
before_at G.InLine ticket wout = sum 32 ticket (2 ^ 32 - wout)
before_at G.Called ticket wout = sum 32 ticket (2 ^ 32 - wout)
before_at G.Posted ticket wout = sum 32 ticket (2 ^ 32 - wout)
before_at G.Writing ticket wout = sum 32 ticket (2 ^ 32 - wout)
before_at G.GoingOut ticket wout = sum 32 ticket (2 ^ 32 - wout)

-- what a call makes of its party and of the words
abbrev pub next : LockCall → Party → Four → Result Change LockFault
next (RequestRead i) p w = asked p w
next (RequestWrite i) p w = joined p w
next (Advance i) p w = advanced p w
next (Leave i) p w = left p w
