-- Demand 3: one claim about any list of calls, cut anywhere.
use Rattle.std.specs.Prelude.{◌≡◌, ◌≢◌, ℕ, zero, suc, ◌+◌, ◌-◌, ◌≤◌, ◌<◌, ◌/◌, length, replicate}
use mathlib.Core.List.{List, [], ◌∷◌, ◌++◌, Memᴰ, Permᴰ}
use Rattle.words.specs.Bytes.{Small}
use Rattle.format.specs.Sequence.{successor}
use Rattle.layout.specs.Place.{Layout, at}
use Rattle.layout.specs.Told.{alone}
use Rattle.layout.specs.declared.Told.{Told}
use Rattle.machine.specs.state.Lane.{write_stores}
use Rattle.machine.specs.state.Handle.{Handle, lane_at}
use Rattle.machine.specs.state.Stores.{Store, put_all}
use Rattle.machine.specs.state.Flog.{map_block, newer_half, newer_word, free_of}
use Rattle.machine.specs.calls.Opening.{Room, figures_in, layout_in, mends, pending_lanes, open_of}
use Rattle.machine.specs.words.Records.{Idle}
use Rattle.machine.specs.words.Valid.{RoomFor, EachOnce}
use Rattle.machine.specs.claims.Opening.{OneCut, after_cuts, CutsTold}
use Rattle.machine.specs.calls.Reading.{read_of}
use Rattle.machine.specs.calls.History.{runs, Call, read, start, step, write, State, reply, after, run, replies, SmallCalls, SmallEvents, just_number, opened_from}
use Rattle.machine.specs.calls.Asides.{Happening, latest_of, calls_of, after_one, AllHarmless, AllRefused, heard_calls}
use Rattle.machine.specs.models.Book.{Entry, book_after, book_replies, stores_in, plan_in, kept, last_words}
use Rattle.machine.specs.claims.DemandTwo.{AllIdle, leaves}

-- ---- the list

-- two lists with the same members
pub record SameMembers {A : Type 0} (xs ys : List A) : Type 0 where
  pub to : (x : A) → Memᴰ x xs → Memᴰ x ys
  pub from : (x : A) → Memᴰ x ys → Memᴰ x xs

-- the writes that the list starts: its accepted starts and whole writes
abbrev pub begins : ℕ → Call → List Entry
begins zero (read s buffer) = []
begins zero (start l s) = record { lane = l; sector = s; tally = 0 } ∷ []
begins zero (step l buffer) = []
begins zero (write l s buffer) = record { lane = l; sector = s; tally = 0 } ∷ []
begins (suc n) c = []

unfoldable pub begun : State → List Call → List Entry
begun x [] = []
begun x (c ∷ cs) = begins (reply x c).number c ++ begun (after x c) cs

-- no two writes share a lane or a sector
abbrev pub Differ : List Entry → Type 0
Differ [] = Unit {0}
Differ (e ∷ b) = ((d : Entry) → Memᴰ d b → (e.lane ≢ d.lane) × (e.sector ≢ d.sector)) × Differ b

-- an accepted step or whole write on a lane lends the bytes of that lane's write
abbrev pub lends : (ℕ → List ℕ) → Call → Type 0
lends bytes (read s buffer) = Unit {0}
lends bytes (start l s) = Unit {0}
lends bytes (step l buffer) = buffer ≡ bytes l
lends bytes (write l s buffer) = buffer ≡ bytes l

abbrev pub Lends : (ℕ → List ℕ) → State → List Call → Type 0
Lends bytes x [] = Unit {0}
Lends bytes x (c ∷ cs) = ((reply x c).number ≡ 0 → lends bytes c) × Lends bytes (after x c) cs

-- an accepted whole write stands for its start and steps
abbrev pub apart : Layout → ℕ → Call → List Call
apart g zero (read s buffer) = read s buffer ∷ []
apart g zero (start l s) = start l s ∷ []
apart g zero (step l buffer) = step l buffer ∷ []
apart g zero (write l s buffer) = start l s ∷ replicate (write_stores g) (step l buffer)
apart g (suc n) c = c ∷ []

unfoldable pub taken_apart : Layout → State → List Call → List Call
taken_apart g x [] = []
taken_apart g x (c ∷ cs) = apart g (reply x c).number c ++ taken_apart g (after x c) cs

-- whole writes of a book's entries, one after another
abbrev pub whole_writes : (ℕ → List ℕ) → List Entry → List Call
whole_writes bytes [] = []
whole_writes bytes (e ∷ b) = write e.lane e.sector (bytes e.lane) ∷ whole_writes bytes b

-- ---- the premise

-- an arena that was opened, after any such history, all its lanes idle
pub record Ready (t : Told) (x : State) : Type 0 where
  pub found : List ℕ
  pub room : Room
  pub history : List Happening
  pub small : Small found
  pub small_history : SmallEvents (latest_of history)
  pub opens : (open_of t found room).number ≡ 0
  pub harmless : AllHarmless t (opened_from t found room) history
  pub reached : x ≡ leaves t found room history
  pub idle : AllIdle x.handle

-- a list of calls, and the bytes that the write on each lane is handed
pub record Listed (t : Told) (x : State) (cs : List Call) (bytes : ℕ → List ℕ) : Type 0 where
  pub ready : Ready t x
  pub small : SmallCalls cs
  pub differ : Differ (begun x cs)
  pub same_bytes : Lends bytes x cs

-- ---- the conclusion, of a list that begins with the arena a₁

-- after the calls p: the answers are the book's, and the arena is the first one with each write's first stores put in, as many as its
-- tally, in any order
pub record AsBooked (t : Told) (x : State) (bytes : ℕ → List ℕ) (p : List Call) : Type 0 where
  pub answers : replies x p ≡ book_replies t x.arena bytes [] p
  pub arena : (stores : List Store) → SameMembers stores (kept t x.arena bytes (book_after t x.arena [] p))
      → (run x p).arena ≡ put_all (layout_in t x.arena) stores x.arena

-- the sequence word of a write's half is stored: its tally is S/4 + 4 or more
abbrev pub SequenceStored : List ℕ → Entry → Type 0
SequenceStored a₁ e = (figures_in a₁).size / 4 + 4 ≤ e.tally

-- after any cut openings, refused ones included, with any work buffers and tables: the arena and the records of all lanes end as without them
pub record AsWithoutCuts (t : Told) (a : List ℕ) (room : Room) (cuts : List OneCut) : Type 0 where
  pub number : (open_of t (after_cuts t cuts a) room).number ≡ 0
  pub arena : (open_of t (after_cuts t cuts a) room).arena ≡ (open_of t a room).arena
  pub handle : (open_of t (after_cuts t cuts a) room).handle ≡ (open_of t a room).handle

-- the power is cut when the first arena a₁ has become a and the book is b; the handle h that the list began with reads the first arena
pub record AfterCut (t : Told) (a₁ : List ℕ) (h : Handle) (bytes : ℕ → List ℕ) (a : List ℕ) (b : List Entry) (room : Room) : Type 0 where
  pub number : (open_of t a room).number ≡ 0
  -- the layout that it is told and the first handle had, the first arena's figures, and all lanes idle
  pub layout : ((open_of t a room).handle.distance ≡ t.distance) × (h.distance ≡ t.distance)
  pub figures : (open_of t a room).handle.figures ≡ figures_in a₁
  pub idle : AllIdle (open_of t a room).handle
  -- records past the lanes are as they came
  pub past : (l : ℕ) → (figures_in a₁).lanes ≤ l → lane_at (open_of t a room).handle.table l ≡ lane_at room.table l
  -- a lane whose write's sequence word was stored has moved on: old is free, and the half that it wrote is the newer
  pub moved : (e : Entry) → Memᴰ e b → SequenceStored a₁ e
      → Idle (plan_in t a₁ e).old (1 - (plan_in t a₁ e).half) (successor (plan_in t a₁ e).sequence) (lane_at (open_of t a room).handle.table e.lane)
  -- any other lane is as opening finds it in the first arena
  pub unmoved : (l : ℕ) → l < (figures_in a₁).lanes → ((e : Entry) → Memᴰ e b → e.lane ≡ l → SequenceStored a₁ e → ⊥)
      → Idle (free_of (layout_in t a₁) a₁ l) (1 - newer_half (layout_in t a₁) a₁ l) (successor (newer_word (layout_in t a₁) a₁ l 3))
      (lane_at (open_of t a room).handle.table l)
  -- it stores just the map word of each write whose tally is S/4 + 4, and counts them
  pub stores : SameMembers (mends (layout_in t a) a (layout_in t a).N) (last_words t a₁ b)
  pub arena : (open_of t a room).arena ≡ put_all (layout_in t a₁) (last_words t a₁ b) a
  pub pending : pending_lanes (layout_in t a) a (layout_in t a).N ≡ length (last_words t a₁ b)
  pub mended : (open_of t a room).mended ≡ length (last_words t a₁ b)
  -- a sector is new if its write's sequence word is stored: a read gives the write's bytes
  pub new : (e : Entry) → Memᴰ e b → SequenceStored a₁ e → (buffer : List ℕ) → length buffer ≡ (figures_in a₁).size
      → read_of (open_of t a room).arena (open_of t a room).handle e.sector buffer ≡ record { number = 0; buffer = bytes e.lane }
  -- any other sector, bad ones and buffers of wrong length included: a read answers, and leaves its buffer, as in the first arena
  pub as_before : (s : ℕ) → ((e : Entry) → Memᴰ e b → e.sector ≡ s → SequenceStored a₁ e → ⊥) → (buffer : List ℕ)
      → read_of (open_of t a room).arena (open_of t a room).handle s buffer ≡ read_of a₁ h s buffer
  -- mapped and free blocks are every block once
  pub once : EachOnce (layout_in t a₁) (map_block (layout_in t a₁) (open_of t a room).arena) (λ l. (lane_at (open_of t a room).handle.table l).block.0)
  pub cuts : (cuts : List OneCut) → CutsTold t cuts a → AsWithoutCuts t a room cuts

-- ---- a cut that keeps stores in another order than they were made in

-- the writes of a book, each with as many stores or fewer: no write waits for another
abbrev pub Fewer : List Entry → List Entry → Type 0
Fewer [] [] = Unit {0}
Fewer [] (e ∷ b) = ⊥
Fewer (d ∷ c) [] = ⊥
Fewer (d ∷ c) (e ∷ b) = (d.lane ≡ e.lane) × (d.sector ≡ e.sector) × (d.tally ≤ e.tally) × Fewer c b

-- how many stores of a write come before its sequence word: its data words, and sector, old and new of its next half
abbrev pub before_sequence : List ℕ → ℕ
before_sequence a₁ = (figures_in a₁).size / 4 + 3

-- a store that a cut may keep of a write: once its sequence word is stored, one that it has made; before, any that comes before that word
pub record MayKeep (t : Told) (a₁ : List ℕ) (bytes : ℕ → List ℕ) (e : Entry) (st : Store) : Type 0 where
  pub once_stored : SequenceStored a₁ e → Memᴰ st (stores_in t a₁ bytes e e.tally)
  -- a write that has made no store was handed no bytes yet
  pub before : (SequenceStored a₁ e → ⊥) → (0 < e.tally) × Memᴰ st (stores_in t a₁ bytes e (before_sequence a₁))

-- the stores that such a cut keeps: all of each write whose sequence word is stored, and any set of the others
pub record Survive (t : Told) (a₁ : List ℕ) (bytes : ℕ → List ℕ) (b : List Entry) (stores : List Store) : Type 0 where
  pub known : (st : Store) → Memᴰ st stores → (e : Entry) × Memᴰ e b × MayKeep t a₁ bytes e st
  pub all : (e : Entry) → Memᴰ e b → SequenceStored a₁ e → (st : Store) → Memᴰ st (stores_in t a₁ bytes e e.tally) → Memᴰ st stores

-- two arenas open alike: the same handle and table, the same lanes mended, and every sector reads the same
pub record OpenAlike (t : Told) (a a' : List ℕ) (room : Room) : Type 0 where
  pub number : (open_of t a' room).number ≡ (open_of t a room).number
  pub handle : (open_of t a' room).handle ≡ (open_of t a room).handle
  pub mended : (open_of t a' room).mended ≡ (open_of t a room).mended
  pub stores : SameMembers (mends (layout_in t a') a' (layout_in t a').N) (mends (layout_in t a) a (layout_in t a).N)
  pub reads : (s : ℕ) (buffer : List ℕ)
      → read_of (open_of t a' room).arena (open_of t a' room).handle s buffer ≡ read_of (open_of t a room).arena (open_of t a room).handle s buffer

-- after such a cut all is as after one that keeps each write's first stores
pub record AfterAnyCut (t : Told) (a₁ : List ℕ) (h : Handle) (bytes : ℕ → List ℕ) (b : List Entry) (stores : List Store) (room : Room) : Type 0 where
  pub after : AfterCut t a₁ h bytes (put_all (layout_in t a₁) stores a₁) b room
  pub alike : OpenAlike t (put_all (layout_in t a₁) (kept t a₁ bytes b) a₁) (put_all (layout_in t a₁) stores a₁) room

-- no two writes share a byte: whatever their tallies, their stores are at different words
abbrev pub ShareNone : Told → List ℕ → (ℕ → List ℕ) → List Entry → Type 0
ShareNone t a bytes b = (e d : Entry) → Memᴰ e b → Memᴰ d b → e.lane ≢ d.lane → (st su : Store)
    → Memᴰ st (stores_in t a bytes e (write_stores (layout_in t a))) → Memᴰ su (stores_in t a bytes d (write_stores (layout_in t a)))
    → at (layout_in t a) st.place ≢ at (layout_in t a) su.place

-- all finished, the arena is byte for byte what the writes give one after another, in any order
pub record OneByOne (x : State) (bytes : ℕ → List ℕ) (cs : List Call) (ws : List Entry) : Type 0 where
  pub answers : replies x (whole_writes bytes ws) ≡ replicate (length ws) (just_number 0)
  pub arena : (run x (whole_writes bytes ws)).arena ≡ (run x cs).arena

pub record Promised (t : Told) (x : State) (cs : List Call) (bytes : ℕ → List ℕ) : Type 0 where
  -- at every prefix of the list
  pub booked : (p rest : List Call) → p ++ rest ≡ cs → AsBooked t x bytes p
  pub share_none : ShareNone t x.arena bytes (book_after t x.arena [] cs)
  pub finished : ((e : Entry) → Memᴰ e (book_after t x.arena [] cs) → e.tally ≡ write_stores (layout_in t x.arena))
      → (ws : List Entry) → Permᴰ ws (book_after t x.arena [] cs) → OneByOne x bytes cs ws
  -- a whole write is its start and steps
  pub whole : run x (taken_apart (layout_in t x.arena) x cs) ≡ run x cs
  -- the power is cut anywhere, inside a whole write too
  pub cut_booked : (p rest : List Call) → p ++ rest ≡ taken_apart (layout_in t x.arena) x cs → AsBooked t x bytes p
  pub cut : (p rest : List Call) → p ++ rest ≡ taken_apart (layout_in t x.arena) x cs → (room : Room) → RoomFor (figures_in x.arena) room
      → AfterCut t x.arena x.handle bytes (run x p).arena (book_after t x.arena [] p) room
  -- and the stores before each sequence word reach the medium in any order, and so do writes among themselves
  pub any_cut : (p rest : List Call) → p ++ rest ≡ taken_apart (layout_in t x.arena) x cs → (b : List Entry) → Fewer b (book_after t x.arena [] p)
      → (stores : List Store) → Survive t x.arena bytes b stores → (room : Room) → RoomFor (figures_in x.arena) room
      → AfterAnyCut t x.arena x.handle bytes b stores room

abbrev pub Promises : Told → Type 0
Promises t = (x : State) (cs : List Call) (bytes : ℕ → List ℕ) → Listed t x cs bytes → Promised t x cs bytes

-- a list in which calls given another handle that store nothing, refused openings and refused cut openings stand between its calls: it
-- leaves and answers what its calls do
pub record BesideList (t : Told) (x : State) (hs : List Happening) : Type 0 where
  pub state : runs (after_one t) x hs ≡ run x (calls_of hs)
  pub answers : heard_calls t x hs ≡ replies x (calls_of hs)

-- in the layout in which the arena was opened, which is its handle's and that of every opening after a cut
pub record DemandThree : Type 0 where
  pub promised : (d : ℕ) → Promises (alone d)
  pub beside : (d : ℕ) (x : State) (hs : List Happening) → AllHarmless (alone d) x hs → AllRefused (alone d) x hs → BesideList (alone d) x hs
