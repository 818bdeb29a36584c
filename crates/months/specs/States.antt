-- Which states an event turns into which, and what a state allows.
use Rattle.std.specs.Prelude.{Bool, true, false, Some, None, Option}
use Rattle.months.specs.declared.state.State.{State}
use Rattle.months.specs.declared.state.State.TheVariants.{Open, Held, Closed}
use Rattle.months.specs.declared.state.Event.{Event}
use Rattle.months.specs.declared.state.Event.TheVariants.{Hold, Release, Close}

-- the state that an event makes of a state; none where the state forbids it
abbrev pub made : State → Event → Option State
made Open Hold = Some Held
made Open Release = None
made Open Close = None
made Held Hold = None
made Held Release = Some Open
made Held Close = Some Closed
made Closed Hold = None
made Closed Release = None
made Closed Close = None

-- only an open month takes a booking
abbrev pub books : State → Bool
books Open = true
books Held = false
books Closed = false

-- an open or a held month lets an entry be withdrawn
abbrev pub withdraws : State → Bool
withdraws Open = true
withdraws Held = true
withdraws Closed = false
