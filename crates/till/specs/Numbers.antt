-- The number of each refusal of the cells and of the payout, and the layer that gives it.
use Rattle.std.specs.Prelude.{ℕ}
use Rattle.phase.specs.declared.faults.Layer.{Layer}
use Rattle.phase.specs.declared.faults.Layer.TheVariants as layer
use Rattle.till.specs.declared.faults.TillFault.{TillFault}
use Rattle.till.specs.declared.faults.TillFault.TheVariants.{NoCell, PastLimit, AlreadyOpen, NoCoins, NoneOpen, NoneLeft, TooFew}

-- 21 and 23 of the cells, 31 to 35 of the payout
abbrev pub till_number : TillFault → ℕ
till_number NoCell = 21
till_number PastLimit = 23
till_number AlreadyOpen = 31
till_number NoCoins = 32
till_number NoneOpen = 33
till_number NoneLeft = 34
till_number TooFew = 35

-- the layer that refuses
abbrev pub till_layer : TillFault → Layer
till_layer NoCell = layer.Cells
till_layer PastLimit = layer.Cells
till_layer AlreadyOpen = layer.Payout
till_layer NoCoins = layer.Payout
till_layer NoneOpen = layer.Payout
till_layer NoneLeft = layer.Payout
till_layer TooFew = layer.Payout
