-- The number of each refusal of a lock and of an opening, and the layer that gives it.
use Rattle.std.specs.Prelude.{ℕ}
use Rattle.phase.specs.declared.faults.Layer.{Layer}
use Rattle.phase.specs.declared.faults.Layer.TheVariants.{Opening, Lock}
use Rattle.phase.specs.declared.faults.LockFault.{LockFault}
use Rattle.phase.specs.declared.faults.LockFault.TheVariants.{Unfit}
use Rattle.phase.specs.declared.faults.OpenFault.{OpenFault}
use Rattle.phase.specs.declared.faults.OpenFault.TheVariants.{Count}

-- the call does not fit the standing: 12
abbrev pub lock_number : LockFault → ℕ
lock_number Unfit = 12

-- the lock gives it
abbrev pub lock_layer : LockFault → Layer
lock_layer Unfit = Lock

-- the party count is 0 or above 32: 1
abbrev pub open_number : OpenFault → ℕ
open_number Count = 1

-- a layer of its own, although the lock decides it
abbrev pub open_layer : OpenFault → Layer
open_layer Count = Opening
