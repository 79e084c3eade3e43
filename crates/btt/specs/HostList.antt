-- A host's list of calls and openings, made through the library alone: what it leaves and answers. The claim is that a list that begins
-- with bytes and a table that hold a handle is the machine's list on that handle, so what demands 2 and 3 say of lists holds of a host's.
use Rattle.std.specs.Prelude.{◌≡◌, cond, List, ℕ, eqb}
use Rattle.words.specs.Bytes.{Small}
use Rattle.layout.specs.Told.{alone}
use Rattle.machine.specs.declared.lane.Lane.{Lane}
use Rattle.machine.specs.state.Handle.{bare_of}
use Rattle.machine.specs.calls.Opening.{Room, open_of}
use Rattle.machine.specs.calls.History.{
  runs,
  says,
  Call,
  read,
  start,
  step,
  write,
  State,
  Reply,
  just_number,
  run,
  replies,
  Event,
  called,
  opened,
  run_events,
  reply_events,
  opened_from,
}
use Rattle.btt.specs.Calls.{HostOpening, HostOutcome, btt_open_of, btt_read_of, btt_start_of, btt_step_of, btt_write_of}
use Rattle.btt.specs.Host.{HoldsHandle, PastKept, lanes_in}

-- an arena, the bytes of its latest handle, and the table that is lent with them
pub record HostState : Type 0 where
  pub arena : List ℕ
  pub handle : List ℕ
  pub table : List Lane

-- a call leaves an arena and a table; the handle's bytes it only reads
abbrev pub outcome_host : List ℕ → HostOutcome → HostState
outcome_host handle o = record { arena = o.arena; handle = handle; table = o.table }

abbrev pub opened_host : HostOpening → HostState
opened_host o = record { arena = o.arena; handle = o.handle; table = o.table }

-- what a host has after a call; a read changes none of it
abbrev pub host_after : HostState → Call → HostState
host_after y (read s buffer) = y
host_after y (start l s) = outcome_host y.handle (btt_start_of y.arena y.handle y.table l s)
host_after y (step l buffer) = outcome_host y.handle (btt_step_of y.arena y.handle y.table l buffer)
host_after y (write l s buffer) = outcome_host y.handle (btt_write_of y.arena y.handle y.table l s buffer)

abbrev pub host_reply : HostState → Call → Reply
host_reply y (read s buffer) =
    let r = btt_read_of y.arena y.handle y.table s buffer in
    record { number = r.number; buffer = r.buffer; mended = 0 }
host_reply y (start l s) = just_number (btt_start_of y.arena y.handle y.table l s).number
host_reply y (step l buffer) = just_number (btt_step_of y.arena y.handle y.table l buffer).number
host_reply y (write l s buffer) = just_number (btt_write_of y.arena y.handle y.table l s buffer).number

abbrev pub host_run : HostState → List Call → HostState
host_run y cs = runs host_after y cs

abbrev pub host_replies : HostState → List Call → List Reply
host_replies y cs = says host_after host_reply y cs

-- ---- with openings between

-- a host tells every opening the same layout, and lends it 64 bytes apart from its latest handle's and a table, its latest or another; these
-- are the latest from then on if the opening is accepted
module _ (d : ℕ) where
  abbrev pub host_after_event : HostState → Event → HostState
  host_after_event y (called c) = host_after y c
  host_after_event y (opened room) =
      let o = btt_open_of d y.arena room in
      record {
        arena = o.arena;
        handle = cond (eqb o.number 0) o.handle y.handle;
        table = cond (eqb o.number 0) o.table y.table;
      }

  abbrev pub host_reply_event : HostState → Event → Reply
  host_reply_event y (called c) = host_reply y c
  host_reply_event y (opened room) = let o = btt_open_of d y.arena room in record { number = o.number; buffer = o.work; mended = o.mended }

  abbrev pub host_run_events : HostState → List Event → HostState
  host_run_events y es = runs host_after_event y es

  abbrev pub host_reply_events : HostState → List Event → List Reply
  host_reply_events y es = says host_after_event host_reply_event y es

-- ---- the claim

-- a host has the machine's arena, bytes that hold its handle, and its table
pub record StandsFor (y : HostState) (x : State) : Type 0 where
  pub arena : y.arena ≡ x.arena
  pub handle : HoldsHandle y.handle (bare_of x.handle)
  pub table : y.table ≡ x.handle.table

-- a host's list answers as the machine's, call by call, and leaves what stands for what the machine's leaves
pub record SameCalls (y : HostState) (x : State) (cs : List Call) : Type 0 where
  pub replies : host_replies y cs ≡ replies x cs
  pub leaves : StandsFor (host_run y cs) (run x cs)
  -- the handle's bytes are as they were, and so are the records past the lanes
  pub bytes : (host_run y cs).handle ≡ y.handle
  pub past : PastKept (lanes_in y.handle) y.table (host_run y cs).table

-- with openings between: the arena that is left is bytes still, so that another such list may follow
pub record SameEvents (d : ℕ) (y : HostState) (x : State) (es : List Event) : Type 0 where
  pub replies : host_reply_events d y es ≡ reply_events (alone d) x es
  pub leaves : StandsFor (host_run_events d y es) (run_events (alone d) x es)
  pub small : Small (run_events (alone d) x es).arena

pub record HostListClaim : Type 0 where
  -- any calls with any numbers and buffers, on any arena and any handle that the host's bytes and table hold
  pub calls : (y : HostState) (x : State) (cs : List Call) → StandsFor y x → SameCalls y x cs
  -- any calls and openings in any layout, with any work buffers and tables, on an arena of bytes
  pub events : (d : ℕ) (y : HostState) (x : State) (es : List Event) → StandsFor y x → Small x.arena → SameEvents d y x es
  -- a host that begins with an accepted opening has what the machine has
  pub first : (d : ℕ) (a : List ℕ) (room : Room) → Small a → (open_of (alone d) a room).number ≡ 0
      → StandsFor (opened_host (btt_open_of d a room)) (opened_from (alone d) a room)
