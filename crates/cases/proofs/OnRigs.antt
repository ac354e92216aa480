-- The worked examples on rigs hold, by computation.
use Rattle.std.proofs.Common.{refl}
use Rattle.rig_parts.specs.Told.{told_by_writer}
use Rattle.cases.specs.OnARig.{ReadersAroundAWriterOnARig, ALoneWriterWrapsOnARig, AReadRequestWrapsOnARig, ThePhaseBitLetsAReaderInOnARig}
use Rattle.cases.specs.Payouts.{ALeaveWaitsForTheSettling, FourCoinsArePaidOut, AFullCellTakesNothing, AWaitingReaderIsToldOfAWriter}

pub around : ReadersAroundAWriterOnARig
unfolding told_by_writer
around = record { answers = refl; words = refl }

pub lone : ALoneWriterWrapsOnARig
unfolding told_by_writer
lone = record { answers = refl; posted = refl; at_the_end = refl }

pub reader : AReadRequestWrapsOnARig
reader = record { before = refl; letter = refl; rin = refl }

pub phase_bit : ThePhaseBitLetsAReaderInOnARig
unfolding told_by_writer
phase_bit = record { saved = refl; rin = refl; letter = refl }

pub leave : ALeaveWaitsForTheSettling
unfolding told_by_writer
leave = record {
  refused = λ two. refl;
  number = refl;
  settles = λ two. refl;
  in_two_steps = refl;
  in_one_step = refl;
}

pub four_coins : FourCoinsArePaidOut
unfolding told_by_writer
four_coins = record {
  five = λ two. refl;
  five_number = refl;
  begins = λ two. refl;
  first = λ two. refl;
  second = λ two. refl;
  third = λ two. refl;
  fourth = λ two. refl;
  fifth = λ two. refl;
  fifth_number = refl;
  settles = λ two. refl;
  emptied = λ two. refl;
}

pub full_cell : AFullCellTakesNothing
unfolding told_by_writer
full_cell = record { fills = λ two. refl; one = λ two. refl; number = refl; zero = λ two. refl }

pub told : AWaitingReaderIsToldOfAWriter
unfolding told_by_writer
told = record {
  before = λ two. refl;
  passes = λ two. refl;
  own = λ two. refl;
  enters_over_a_two_step_lock = refl;
  enters_over_a_one_step_lock = refl;
}
