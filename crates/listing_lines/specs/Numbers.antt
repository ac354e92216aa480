-- The number of each refusal of a listing, its layer and the place that it names.
use Rattle.std.specs.Prelude.{ℕ}
use Rattle.phase.specs.declared.faults.Layer.{Layer}
use Rattle.phase.specs.declared.faults.Layer.TheVariants as layer
use Rattle.schedule.specs.Numbers as schedule
use Rattle.listing_lines.specs.declared.faults.ListingFault.{ListingFault}
use Rattle.listing_lines.specs.declared.faults.ListingFault.TheVariants.{Space, OfSchedule}

-- the space is too small: 52; a schedule's refusal keeps its number
abbrev pub number_of : ListingFault → ℕ
number_of Space = 52
number_of (OfSchedule fault) = schedule.number_of fault

-- the layer that refuses, a schedule's own for its refusals
abbrev pub layer_of : ListingFault → Layer
layer_of Space = layer.Listing
layer_of (OfSchedule fault) = schedule.layer_of fault

-- the place of the word at fault, 0 where there is none
abbrev pub place_of : ListingFault → ℕ
place_of Space = 0
place_of (OfSchedule fault) = schedule.place_of fault
