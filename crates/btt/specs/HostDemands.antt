-- Demands 2 and 3 for lists that a host makes through the library alone, and the rest of each block, which no call of a host changes.
use Rattle.std.specs.Prelude.{◌≡◌, List, [], ◌++◌, ℕ}
use Rattle.words.specs.Bytes.{Small, byte_word}
use Rattle.layout.specs.Told.{alone}
use Rattle.machine.specs.state.Stores.{Store, put_all}
use Rattle.machine.specs.calls.Opening.{Room, figures_in, layout_in, open_of}
use Rattle.machine.specs.calls.History.{Call, State, Event, SmallEvents, opened_from}
use Rattle.machine.specs.models.Row.{Keeping, word_by_word, last_buffer, row_read, row_after_all, row_replies, OneBuffer, first_row}
use Rattle.machine.specs.models.Book.{Entry, book_after, book_replies, kept}
use Rattle.machine.specs.words.Valid.{RoomFor}
use Rattle.machine.specs.claims.Rest.{RestKept}
use Rattle.machine.specs.claims.DemandThree.{SameMembers, taken_apart, Listed, AfterCut, Fewer, Survive, AfterAnyCut}
use Rattle.handlebytes.specs.Bytes.{decode_handle}
use Rattle.btt.specs.Calls.{btt_open_of, btt_read_of}
use Rattle.btt.specs.HostList.{HostState, opened_host, host_after, host_run, host_replies, host_run_events, host_reply_events, StandsFor}

-- ---- demand 2

-- what a host has after an opening in a layout and a list of calls and openings in the same
abbrev pub host_left : ℕ → List ℕ → Room → List Event → HostState
host_left d a room es = host_run_events d (opened_host (btt_open_of d a room)) es

-- the answers, the buffers and every read after them are the plain row's, whose writes in flight keep what keep says
pub record HostFollowsRow (keep : Keeping) (d : ℕ) (a : List ℕ) (room : Room) (es : List Event) : Type 0 where
  pub replies : host_reply_events d (opened_host (btt_open_of d a room)) es ≡ row_replies keep (figures_in a) (first_row (opened_from (alone d) a room)) es
  pub reads : (s : ℕ) (buffer : List ℕ)
      → btt_read_of (host_left d a room es).arena (host_left d a room es).handle (host_left d a room es).table s buffer
      ≡ row_read (figures_in a) (row_after_all keep (figures_in a) (first_row (opened_from (alone d) a room)) es) s buffer
  -- its handle has that layout at byte 60
  pub layout : byte_word (host_left d a room es).handle 60 ≡ d

-- ---- demand 3

-- after the calls p: the answers are the book's, and the arena is the first one with each write's first stores put in
pub record HostBooked (d : ℕ) (y : HostState) (x : State) (bytes : ℕ → List ℕ) (p : List Call) : Type 0 where
  pub answers : host_replies y p ≡ book_replies (alone d) x.arena bytes [] p
  pub arena : (stores : List Store) → SameMembers stores (kept (alone d) x.arena bytes (book_after (alone d) x.arena [] p))
      → (host_run y p).arena ≡ put_all (layout_in (alone d) x.arena) stores x.arena

-- a host's list of calls, and the power cut anywhere in it, inside a whole write too, and then an opening with room enough
pub record HostPromised (d : ℕ) (y : HostState) (x : State) (cs : List Call) (bytes : ℕ → List ℕ) : Type 0 where
  pub booked : (p rest : List Call) → p ++ rest ≡ cs → HostBooked d y x bytes p
  pub cut_booked : (p rest : List Call) → p ++ rest ≡ taken_apart (layout_in (alone d) x.arena) x cs → HostBooked d y x bytes p
  pub cut : (p rest : List Call) → p ++ rest ≡ taken_apart (layout_in (alone d) x.arena) x cs → (room : Room)
      → RoomFor (figures_in x.arena) room
      → AfterCut (alone d) x.arena x.handle bytes (host_run y p).arena (book_after (alone d) x.arena [] p) room
  -- and stores that reach the medium in any order before each write's sequence word, and writes in any order among themselves
  pub any_cut : (p rest : List Call) → p ++ rest ≡ taken_apart (layout_in (alone d) x.arena) x cs → (b : List Entry)
      → Fewer b (book_after (alone d) x.arena [] p) → (stores : List Store) → Survive (alone d) x.arena bytes b stores → (room : Room)
      → RoomFor (figures_in x.arena) room → AfterAnyCut (alone d) x.arena x.handle bytes b stores room

-- in any layout: it is the handle's, and that of every opening in the list and after a cut
pub record HostDemands : Type 0 where
  -- any arena that opens, any list and any buffers: the write in flight holds the words stored so far, each from the buffer of its own step
  pub two_words : (d : ℕ) (a : List ℕ) (room : Room) (es : List Event) → Small a → SmallEvents es → (open_of (alone d) a room).number ≡ 0
      → HostFollowsRow word_by_word d a room es
  -- any arena that opens, and any list in which each write is handed the same bytes throughout
  pub two : (d : ℕ) (a : List ℕ) (room : Room) (es : List Event) → Small a → SmallEvents es → (open_of (alone d) a room).number ≡ 0
      → OneBuffer (figures_in a) (first_row (opened_from (alone d) a room)) es → HostFollowsRow last_buffer d a room es
  -- a host whose bytes and table hold the handle of such an arena, all lanes idle, and a list as demand 3 has it
  pub three : (d : ℕ) (y : HostState) (x : State) (cs : List Call) (bytes : ℕ → List ℕ) → StandsFor y x → Listed (alone d) x cs bytes
      → HostPromised d y x cs bytes
  -- any bytes as arena and handle, and any table: a call leaves the rest of each block, by the figures that the handle's bytes hold; an
  -- opening by the arena's
  pub rest : (y : HostState) (c : Call) → Small y.arena → RestKept (decode_handle y.handle).figures y.arena (host_after y c).arena
  pub rest_opening : (d : ℕ) (a : List ℕ) (room : Room) → Small a → RestKept (figures_in a) a (btt_open_of d a room).arena
