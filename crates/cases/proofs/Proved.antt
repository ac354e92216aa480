-- The worked examples hold: by computation, but for the last.
use Rattle.std.proofs.Common.{◌≡◌, ltb, refl, ap, ◌∙◌}
use Rattle.std.proofs.lemmas.Bool.{cond_both}
use Rattle.phase.specs.Book.{Out, count, within, refuses, advance_as}
use Rattle.phase.specs.declared.kinds.Standing.{Standing}
use Rattle.cases.specs.Examples.{ReadersAroundAWriter, ALoneWriterWraps, AReadRequestWraps, ThePhaseBitLetsAReaderIn, AnAwayPartyCannotAdvance}

pub around : ReadersAroundAWriter
around = record { calls = refl; answers = refl; words = refl }

pub lone : ALoneWriterWraps
lone = record { answers = refl; posted = refl; at_the_end = refl }

pub reader : AReadRequestWraps
reader = record { before = refl; letter = refl; rin = refl }

pub phase_bit : ThePhaseBitLetsAReaderIn
phase_bit = record { saved = refl; rin = refl; letter = refl }

pub away : AnAwayPartyCannotAdvance
away = record {
  refused = λ two b p e.
      ap (λ (s : Standing). within b p (advance_as s p b)) e
      ∙ cond_both (ltb p (count b)) (refuses b) (refuses b) (λ (o : Out). o ≡ refuses b) (λ _. refl) (λ _. refl);
  number = refl;
}
