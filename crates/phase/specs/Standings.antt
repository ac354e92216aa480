-- What a party's standing, and the letter of an advance, say of it.
use Rattle.std.specs.Prelude.{Bool, true, false}
use Rattle.phase.specs.declared.kinds.Standing.{Standing}
use Rattle.phase.specs.declared.kinds.Standing.TheVariants as S
use Rattle.phase.specs.declared.kinds.Letter.{Letter}
use Rattle.phase.specs.declared.kinds.Letter.TheVariants as L

-- it has entered and not left
abbrev pub is_inside : Standing → Bool
is_inside S.Away = false
is_inside S.HeldOff = false
is_inside S.Cleared = false
is_inside S.Reading = true
is_inside S.InLine = false
is_inside S.Called = false
is_inside S.Posted = false
is_inside S.Writing = true
is_inside S.GoingOut = false

-- it is inside as a writer
abbrev pub is_writing : Standing → Bool
is_writing S.Away = false
is_writing S.HeldOff = false
is_writing S.Cleared = false
is_writing S.Reading = false
is_writing S.InLine = false
is_writing S.Called = false
is_writing S.Posted = false
is_writing S.Writing = true
is_writing S.GoingOut = false

-- it has requested and not entered
abbrev pub is_waiting : Standing → Bool
is_waiting S.Away = false
is_waiting S.HeldOff = true
is_waiting S.Cleared = true
is_waiting S.Reading = false
is_waiting S.InLine = true
is_waiting S.Called = true
is_waiting S.Posted = true
is_waiting S.Writing = false
is_waiting S.GoingOut = false

-- the party has entered by this call
abbrev pub is_entry : Letter → Bool
is_entry L.Cleared = false
is_entry L.Held = false
is_entry L.Queued = false
is_entry L.Called = false
is_entry L.Entered = true
is_entry L.Posted = false
is_entry L.Waits = false
is_entry L.Gone = false
is_entry L.Away = false
is_entry L.Out = false
