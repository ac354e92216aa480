-- The invariant is a proposition, so that it comes out of its truncation whole.
use Rattle.std.proofs.Common.{ℕ, List}
use mathlib.Core.Logic.{∥∥₁_elim}
use denote.Struct.Props.{props, ≡_prop}
use base.Stored.{coded_ℕ}
use native.Mathlib.Bridge.{le_prop}
use Rattle.pft.specs.Sound.{Sound, FitAt}
use Rattle.pft_steps.specs.declared.party.Stage.{Stage}
use Rattle.pft_steps.specs.declared.party.Stage.TheVariants as G
use Rattle.pft_steps.specs.declared.party.Party.{Party}

one_prop : (st : Stage) (s t rin rout wout goes acts : ℕ) → IsProp (FitAt st s t rin rout wout goes acts)
one_prop G.Away s t rin rout wout goes acts = hlevel props
one_prop G.Waiting s t rin rout wout goes acts = hlevel props
one_prop G.Reading s t rin rout wout goes acts = hlevel props
one_prop G.InLine s t rin rout wout goes acts = hlevel props
one_prop G.Called s t rin rout wout goes acts = hlevel props
one_prop G.Posted s t rin rout wout goes acts = hlevel props
one_prop G.Writing s t rin rout wout goes acts = hlevel props
one_prop G.GoingOut s t rin rout wout goes acts = hlevel props

sound_prop : (rin rout win wout : ℕ) (ps : List Party) → IsProp (Sound rin rout win wout ps)
sound_prop rin rout win wout ps x y = λ i. record {
  few = le_prop x.few y.few i;
  readers = ≡_prop coded_ℕ _ _ x.readers y.readers i;
  writers = ≡_prop coded_ℕ _ _ x.writers y.writers i;
  shown = ≡_prop coded_ℕ _ _ x.shown y.shown i;
  tickets = λ k h. ≡_prop coded_ℕ _ _ (x.tickets k h) (y.tickets k h) i;
  each = λ j d h. one_prop _ _ _ _ _ _ _ _ (x.each j d h) (y.each j d h) i;
}

pub opened : {rin rout win wout : ℕ} {ps : List Party} → ∥ Sound rin rout win wout ps ∥₁ → Sound rin rout win wout ps
opened s = ∥∥₁_elim s (sound_prop _ _ _ _ _) (λ x. x)
