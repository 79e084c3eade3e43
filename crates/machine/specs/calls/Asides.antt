-- What may stand in a history besides calls through the latest handle and openings: calls given another handle that store nothing, and
-- openings and cut openings, told any layout, that are refused. They leave the arena and the latest handle as they are; their answers are those of the table.
use Rattle.std.specs.Prelude.{◌≢◌, List, [], ◌∷◌, ℕ}
use Rattle.layout.specs.Told.{in_layout}
use Rattle.layout.specs.declared.Told.{Told}
use Rattle.machine.specs.state.Handle.{Handle}
use Rattle.machine.specs.calls.Opening.{Room, open_of, cut_open_of}
use Rattle.machine.specs.calls.Writing.{step_of, write_of}
use Rattle.machine.specs.calls.History.{Call, read, start, step, write, State, Reply, after, reply, Event, called, opened, after_event, reply_event}

-- an event through the latest handle, a call given any handle with any table, or, told a layout, an opening with a work buffer and a table or
-- a cut opening, told a number of stores too
pub data Happening : Type 0 where
  latest : Event → Happening
  aside : Handle → Call → Happening
  tried : ℕ → Room → Happening
  shortened : ℕ → Room → ℕ → Happening

-- the events through the latest handle, and the calls among them
unfoldable pub latest_of : List Happening → List Event
latest_of [] = []
latest_of (latest e ∷ hs) = e ∷ latest_of hs
latest_of (aside h c ∷ hs) = latest_of hs
latest_of (tried d room ∷ hs) = latest_of hs
latest_of (shortened d room k ∷ hs) = latest_of hs

unfoldable pub calls_of : List Happening → List Call
calls_of [] = []
calls_of (latest (called c) ∷ hs) = c ∷ calls_of hs
calls_of (latest (opened room) ∷ hs) = calls_of hs
calls_of (aside h c ∷ hs) = calls_of hs
calls_of (tried d room ∷ hs) = calls_of hs
calls_of (shortened d room k ∷ hs) = calls_of hs

module _ (t : Told) where
  -- an arena and its latest handle after one of these
  abbrev pub after_one : State → Happening → State
  after_one x (latest e) = after_event t x e
  after_one x (aside h c) = record { arena = (after (record { arena = x.arena; handle = h }) c).arena; handle = x.handle }
  after_one x (tried d room) = record { arena = (open_of (in_layout t d) x.arena room).arena; handle = x.handle }
  after_one x (shortened d room k) = record { arena = (cut_open_of (in_layout t d) x.arena room k).arena; handle = x.handle }

  -- given another handle it is a read, a start or refused; an opening that is tried and a cut opening are refused
  abbrev pub Harmless : State → Happening → Type 0
  Harmless x (latest e) = Unit {0}
  Harmless x (aside h (read s buffer)) = Unit {0}
  Harmless x (aside h (start l s)) = Unit {0}
  Harmless x (aside h (step l buffer)) = (step_of x.arena h l buffer).number ≢ 0
  Harmless x (aside h (write l s buffer)) = (write_of x.arena h l s buffer).number ≢ 0
  Harmless x (tried d room) = (open_of (in_layout t d) x.arena room).number ≢ 0
  Harmless x (shortened d room k) = (cut_open_of (in_layout t d) x.arena room k).number ≢ 0

  abbrev pub AllHarmless : State → List Happening → Type 0
  AllHarmless x [] = Unit {0}
  AllHarmless x (g ∷ hs) = Harmless x g × AllHarmless (after_one x g) hs

  -- an opening in the handle's layout among them is refused too
  abbrev pub Refused : State → Happening → Type 0
  Refused x (latest (called c)) = Unit {0}
  Refused x (latest (opened room)) = (open_of t x.arena room).number ≢ 0
  Refused x (aside h c) = Unit {0}
  Refused x (tried d room) = Unit {0}
  Refused x (shortened d room k) = Unit {0}

  abbrev pub AllRefused : State → List Happening → Type 0
  AllRefused x [] = Unit {0}
  AllRefused x (g ∷ hs) = Refused x g × AllRefused (after_one x g) hs

  -- what the events through the latest handle answer, and the calls among them
  unfoldable pub heard : State → List Happening → List Reply
  heard x [] = []
  heard x (latest e ∷ hs) = reply_event t x e ∷ heard (after_event t x e) hs
  heard x (aside h c ∷ hs) = heard (after_one x (aside h c)) hs
  heard x (tried d room ∷ hs) = heard (after_one x (tried d room)) hs
  heard x (shortened d room k ∷ hs) = heard (after_one x (shortened d room k)) hs

  unfoldable pub heard_calls : State → List Happening → List Reply
  heard_calls x [] = []
  heard_calls x (latest (called c) ∷ hs) = reply x c ∷ heard_calls (after x c) hs
  heard_calls x (latest (opened room) ∷ hs) = heard_calls (after_event t x (opened room)) hs
  heard_calls x (aside h c ∷ hs) = heard_calls (after_one x (aside h c)) hs
  heard_calls x (tried d room ∷ hs) = heard_calls (after_one x (tried d room)) hs
  heard_calls x (shortened d room k ∷ hs) = heard_calls (after_one x (shortened d room k)) hs
