-- Demand 2: an arena that opens behaves as a plain row of sectors, and each step makes the one store that document 01 names.
use Rattle.std.specs.Prelude.{◌≡◌, List, ℕ, ◌<◌, length, replicate}
use Rattle.words.specs.Bytes.{Small}
use Rattle.layout.specs.Claims.{Distance}
use Rattle.layout.specs.Told.{alone}
use Rattle.layout.specs.declared.Told.{Told}
use Rattle.machine.specs.state.Handle.{Handle, lane_at}
use Rattle.machine.specs.calls.Making.{Wanted, make_of}
use Rattle.machine.specs.calls.Opening.{Room, figures_in, open_of}
use Rattle.machine.specs.calls.Reading.{read_of}
use Rattle.machine.specs.calls.Writing.{start_of, step_of, write_of}
use Rattle.machine.specs.calls.History.{runs, State, opened_from, SmallEvents}
use Rattle.machine.specs.calls.Asides.{Happening, latest_of, after_one, AllHarmless, heard}
use Rattle.machine.specs.models.Row.{Row, holds, Keeping, word_by_word, last_buffer, row_read, row_after_all, row_replies, OneBuffer, first_row}
use Rattle.machine.specs.words.Valid.{RoomFor}
use Rattle.machine.specs.claims.Making.{FreshRoom}
use Rattle.machine.specs.words.Table.{ReadTable, StartTable, StepTable, WriteTable}

abbrev pub AllIdle : Handle → Type 0
AllIdle h = (l : ℕ) → l < h.figures.lanes → (lane_at h.table l).busy ≡ 0

-- what a history leaves of an arena that was opened, and of the row that it began with
abbrev pub leaves : Told → List ℕ → Room → List Happening → State
leaves t a room hs = runs (after_one t) (opened_from t a room) hs

abbrev pub row_left : Keeping → Told → List ℕ → Room → List Happening → Row
row_left keep t a room hs = row_after_all keep (figures_in a) (first_row (opened_from t a room)) (latest_of hs)

-- opened again, it mends none and changes no byte, and every read gives what the row gives
pub record OpensAgain (t : Told) (x : State) (row : Row) (room : Room) : Type 0 where
  pub number : (open_of t x.arena room).number ≡ 0
  pub mended : (open_of t x.arena room).mended ≡ 0
  pub arena : (open_of t x.arena room).arena ≡ x.arena
  pub reads : (s : ℕ) (buffer : List ℕ) → read_of (open_of t x.arena room).arena (open_of t x.arena room).handle s buffer
      ≡ row_read (figures_in x.arena) row s buffer

-- an arena a that was opened, after any history hs, against the row that it began with, whose writes in flight keep what keep says
pub record FollowsRow (keep : Keeping) (t : Told) (a : List ℕ) (room : Room) (hs : List Happening) : Type 0 where
  -- every call through the latest handle and every opening answers, and gives its buffer back, as the row does
  pub replies : heard t (opened_from t a room) hs ≡ row_replies keep (figures_in a) (first_row (opened_from t a room)) (latest_of hs)
  -- lanes in flight or not, a read of any sector into any buffer answers, and leaves the buffer, as the row has it
  pub reads : (s : ℕ) (buffer : List ℕ)
      → read_of (leaves t a room hs).arena (leaves t a room hs).handle s buffer ≡ row_read (figures_in a) (row_left keep t a room hs) s buffer
  -- the figures stay those of the info block that was opened
  pub figures : figures_in (leaves t a room hs).arena ≡ figures_in a
  pub handle : (leaves t a room hs).handle.figures ≡ figures_in a
  -- and the layout that of the handle, in which the arena is opened again
  pub layout : (leaves t a room hs).handle.distance ≡ t.distance
  pub again : AllIdle (leaves t a room hs).handle → (again : Room) → RoomFor (figures_in a) again
      → OpensAgain t (leaves t a room hs) (row_left keep t a room hs) again

-- any arena that opens, and any history, whatever buffers its steps are handed; calls given another handle that store nothing, and
-- refused openings and cut openings in any layout, may stand anywhere in it
abbrev pub FollowsWords : Told → Type 0
FollowsWords t = (a : List ℕ) (room : Room) (hs : List Happening) → Small a → SmallEvents (latest_of hs) → (open_of t a room).number ≡ 0
    → AllHarmless t (opened_from t a room) hs → FollowsRow word_by_word t a room hs

-- the same where each write is handed the same bytes throughout
abbrev pub Follows : Told → Type 0
Follows t = (a : List ℕ) (room : Room) (hs : List Happening) → Small a → SmallEvents (latest_of hs) → (open_of t a room).number ≡ 0
    → AllHarmless t (opened_from t a room) hs → OneBuffer (figures_in a) (first_row (opened_from t a room)) (latest_of hs)
    → FollowsRow last_buffer t a room hs

-- a sector of S zeroes: in the row, and as read
pub record HasZeroes (size : ℕ) (x : State) (s : ℕ) : Type 0 where
  pub row : (first_row x).sector s ≡ holds (replicate size 0)
  pub reads : (buffer : List ℕ) → length buffer ≡ size → read_of x.arena x.handle s buffer ≡ record { number = 0; buffer = replicate size 0 }

-- in the layout in which the arena was opened; openings in a history are told the same, as its handle has it
pub record DemandTwo : Type 0 where
  -- any buffers: the write in flight holds the words stored so far, each from the buffer of its own step
  pub words : (d : ℕ) → FollowsWords (alone d)
  -- one buffer for each write: the write in flight holds that buffer
  pub follows : (d : ℕ) → Follows (alone d)
  -- a made arena begins with zeroes in either layout, and reads them
  pub zeroes : (d : ℕ) → Distance d → (o : Wanted) (a : List ℕ) (room : Room) → Small a → Small o.first → Small o.second → (make_of o a).number ≡ 0
      → FreshRoom o room → (s : ℕ) → s < o.sectors → HasZeroes o.size (opened_from (alone d) (make_of o a).arena room) s
  -- for any bytes lent as an arena and any handle: what an accepted read, start, step and whole write do, byte by byte
  pub read : (a : List ℕ) (h : Handle) (s : ℕ) (buffer : List ℕ) → Small a → (read_of a h s buffer).number ≡ 0
      → ReadTable a h s (read_of a h s buffer)
  pub start : (a : List ℕ) (h : Handle) (l s : ℕ) → Small a → (start_of a h l s).number ≡ 0 → StartTable a h l s (lane_at h.table l) (start_of a h l s)
  pub step : (a : List ℕ) (h : Handle) (l : ℕ) (buffer : List ℕ) → Small a → Small buffer → (step_of a h l buffer).number ≡ 0
      → StepTable a h l buffer (lane_at h.table l) (step_of a h l buffer)
  pub write : (a : List ℕ) (h : Handle) (l s : ℕ) (buffer : List ℕ) → (write_of a h l s buffer).number ≡ 0
      → WriteTable a h l s buffer (write_of a h l s buffer)
