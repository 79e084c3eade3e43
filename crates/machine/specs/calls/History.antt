-- Calls through the latest handle, openings between them, and what a list of them leaves and answers.
use mathlib.Core.List.{List, [], ◌∷◌, Memᴰ}
use Rattle.std.specs.Prelude.{cond, ℕ, eqb}
use Rattle.words.specs.Bytes.{Small}
use Rattle.layout.specs.declared.Told.{Told}
use Rattle.machine.specs.state.Handle.{Handle}
pub use Rattle.machine.specs.calls.Order.{Call, read, start, step, write}
use Rattle.machine.specs.calls.Opening.{Room, Opening, open_of}
use Rattle.machine.specs.calls.Reading.{read_of}
use Rattle.machine.specs.calls.Writing.{Outcome, start_of, step_of, write_of}

-- ---- lists of any steps: each is given what the last one left

unfoldable pub runs : {S E : Type 0} → (S → E → S) → S → List E → S
runs next x [] = x
runs next x (e ∷ es) = runs next (next x e) es

unfoldable pub says : {S E R : Type 0} → (S → E → S) → (S → E → R) → S → List E → List R
says next say x [] = []
says next say x (e ∷ es) = say x e ∷ says next say (next x e) es

-- ---- calls

-- an arena and its latest handle, with the table as the last call left it
pub record State : Type 0 where
  pub arena : List ℕ
  pub handle : Handle

-- what comes back: the number, the buffer of a read or the work buffer of an opening, and the count of an opening
pub record Reply : Type 0 where
  pub number : ℕ
  pub buffer : List ℕ
  pub mended : ℕ

-- the number alone, of a call that gives nothing else back
abbrev pub just_number : ℕ → Reply
just_number n = record { number = n; buffer = []; mended = 0 }

abbrev pub outcome_state : Outcome → State
outcome_state o = record { arena = o.arena; handle = o.handle }

abbrev pub opened_state : Opening → State
opened_state o = record { arena = o.arena; handle = o.handle }

-- an arena and handle after a call; a read changes neither
abbrev pub after : State → Call → State
after x (read s buffer) = x
after x (start l s) = outcome_state (start_of x.arena x.handle l s)
after x (step l buffer) = outcome_state (step_of x.arena x.handle l buffer)
after x (write l s buffer) = outcome_state (write_of x.arena x.handle l s buffer)

abbrev pub reply : State → Call → Reply
reply x (read s buffer) = let r = read_of x.arena x.handle s buffer in record { number = r.number; buffer = r.buffer; mended = 0 }
reply x (start l s) = just_number (start_of x.arena x.handle l s).number
reply x (step l buffer) = just_number (step_of x.arena x.handle l buffer).number
reply x (write l s buffer) = just_number (write_of x.arena x.handle l s buffer).number

abbrev pub run : State → List Call → State
run x cs = runs after x cs

abbrev pub replies : State → List Call → List Reply
replies x cs = says after reply x cs

-- ---- with openings between

-- a call through the latest handle, or an opening with a work buffer and a table
pub data Event : Type 0 where
  called : Call → Event
  opened : Room → Event

-- every opening is told the same, so that its layout is the latest handle's; its handle is the latest from then on; a refused opening gives
-- none
module _ (t : Told) where
  abbrev pub after_event : State → Event → State
  after_event x (called c) = after x c
  after_event x (opened room) = let o = open_of t x.arena room in cond (eqb o.number 0) (opened_state o) x

  abbrev pub reply_event : State → Event → Reply
  reply_event x (called c) = reply x c
  reply_event x (opened room) = let o = open_of t x.arena room in record { number = o.number; buffer = o.work; mended = o.mended }

  abbrev pub run_events : State → List Event → State
  run_events x es = runs after_event x es

  abbrev pub reply_events : State → List Event → List Reply
  reply_events x es = says after_event reply_event x es

  -- the arena and handle that an opening gives
  abbrev pub opened_from : List ℕ → Room → State
  opened_from a room = opened_state (open_of t a room)

-- ---- lent bytes are below 256

abbrev pub SmallCall : Call → Type 0
SmallCall (read s buffer) = Small buffer
SmallCall (start l s) = Unit {0}
SmallCall (step l buffer) = Small buffer
SmallCall (write l s buffer) = Small buffer

abbrev pub SmallCalls : List Call → Type 0
SmallCalls cs = (c : Call) → Memᴰ c cs → SmallCall c

abbrev pub SmallEvent : Event → Type 0
SmallEvent (called c) = SmallCall c
SmallEvent (opened room) = Small room.work

abbrev pub SmallEvents : List Event → Type 0
SmallEvents es = (e : Event) → Memᴰ e es → SmallEvent e
