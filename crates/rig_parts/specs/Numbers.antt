-- The number of each refusal of a rig, and the layer that gives it: a fault that is carried keeps its own.
use Rattle.std.specs.Prelude.{ℕ}
use Rattle.phase.specs.Numbers.{lock_number, lock_layer}
use Rattle.phase.specs.declared.faults.Layer.{Layer}
use Rattle.phase.specs.declared.faults.Layer.TheVariants as layer
use Rattle.till.specs.Numbers.{till_number, till_layer}
use Rattle.rig_parts.specs.declared.faults.RigFault.{RigFault}
use Rattle.rig_parts.specs.declared.faults.RigFault.TheVariants.{NoParty, OfLock, Paying, OfTill}

-- no such party: 11; a leave while a payout is open: 13
abbrev pub rig_number : RigFault → ℕ
rig_number NoParty = 11
rig_number (OfLock fault) = lock_number fault
rig_number Paying = 13
rig_number (OfTill fault) = till_number fault

-- the layer that refuses
abbrev pub rig_layer : RigFault → Layer
rig_layer NoParty = layer.Rig
rig_layer (OfLock fault) = lock_layer fault
rig_layer Paying = layer.Rig
rig_layer (OfTill fault) = till_layer fault
