-- What a replay promises: it is a history of calls and openings, no opening in it is refused, and a sector last written in it has in
-- word k the number k plus the index of the record whose step stored that word.
use Rattle.std.specs.Prelude.{◌≡◌, ◌≢◌, true, false, List, [], ◌∷◌, map, ℕ, suc, ◌+◌, ◌*◌, ◌/◌, ◌≤◌, ◌<◌, length, get_or}
use Rattle.words.specs.Bytes.{Small, byte_word}
use Rattle.layout.specs.Told.{alone_near}
use Rattle.machine.specs.calls.Opening.{Room, figures_in, open_of}
use Rattle.machine.specs.calls.Reading.{Read, read_of}
use Rattle.machine.specs.calls.History.{start, step, State, Reply, Event, called, opened, reply_events, run_events, opened_from}
use Rattle.machine.specs.words.Valid.{RoomFor}
use Rattle.machine.specs.claims.Rest.{RestKept}
use Rattle.runlog.specs.declared.record.Record.{Record}
use Rattle.runlog.specs.declared.record.Record.TheVariants.{Start, Step, Cut}
use Rattle.runlog.specs.Log.{log_of}
use Rattle.replaying.specs.Replay.{step_bytes, own_table, room_of, replay_of}
use Rattle.replaying.specs.Ledger.{Written, as_opened, by, Ledger, no_lines, cut_noted, all_noted}

-- ---- the sector that a step lends

-- S bytes, of which word k is the record's index plus k
pub record StepLends (size i : ℕ) : Type 0 where
  pub bytes : length (step_bytes size i) ≡ size
  pub words : (k : ℕ) → 4 * k + 4 ≤ size → byte_word (step_bytes size i) (4 * k) ≡ i + k

-- for every sector size and every record of a log
abbrev pub StepsClaim : Type 0
StepsClaim = (size i : ℕ) → size ≤ 4104 → i ≤ 8192 → StepLends size i

-- ---- a replay as a history

-- record i as a call, or an opening that is lent that work buffer and an own table; of the records that run none is refused
abbrev pub event_of : ℕ → List ℕ → ℕ → Record → Event
event_of size work i (Start l s) = called (start l.0 s.0)
event_of size work i (Step l) = called (step l.0 (step_bytes size i))
event_of size work i Cut = opened (room_of work own_table)

unfoldable pub events_of : ℕ → List ℕ → ℕ → List Record → List Event
events_of size work i [] = []
events_of size work i (r ∷ rs) = event_of size work i r ∷ events_of size work (suc i) rs

-- every record of kind 3 answers 0
unfoldable pub CutsOpen : List Record → List ℕ → Type 0
CutsOpen [] ns = Unit {0}
CutsOpen (r ∷ rs) [] = Unit {0}
CutsOpen (Cut ∷ rs) (n ∷ ns) = (n ≡ 0) × CutsOpen rs ns
CutsOpen (Start l s ∷ rs) (n ∷ ns) = CutsOpen rs ns
CutsOpen (Step l ∷ rs) (n ∷ ns) = CutsOpen rs ns

-- ---- its sectors

-- a read that gives a sector written by the steps of these records
pub record WordByWord (size : ℕ) (is : List ℕ) (r : Read) : Type 0 where
  pub number : r.number ≡ 0
  pub bytes : length r.buffer ≡ size
  pub words : (k : ℕ) → k < size / 4 → byte_word r.buffer (4 * k) ≡ k + get_or is k 0

-- a sector that no write of the replay finished reads as after the first opening
abbrev pub SectorReads : ℕ → Read → Read → Written → Type 0
SectorReads size first r as_opened = r ≡ first
SectorReads size first r (by is) = WordByWord size is r

-- every sector, read into any buffer of its length
abbrev pub ReadsBy : State → State → (ℕ → Written) → Type 0
ReadsBy x y sectors = (s : ℕ) (buffer : List ℕ) → s < x.handle.figures.sectors → length buffer ≡ x.handle.figures.size
    → SectorReads x.handle.figures.size (read_of x.arena x.handle s buffer) (read_of y.arena y.handle s buffer) (sectors s)

-- ---- the claim

module _ (a work log : List ℕ) where
  -- the first opening, with the work buffer as it left it, the records that ran and what they answered
  abbrev pub first : State
  first = opened_from alone_near a (room_of work own_table)

  abbrev pub cleared : List ℕ
  cleared = (open_of alone_near a (room_of work own_table)).work

  abbrev pub ran_records : List Record
  ran_records = (log_of log).records

  abbrev pub numbers : List ℕ
  numbers = (replay_of a work log).numbers

  abbrev pub events : List Event
  events = events_of first.handle.figures.size cleared 0 ran_records

  abbrev pub last : State
  last = run_events alone_near first events

  -- what the records answer, as calls and openings after the first
  abbrev pub replies : List ℕ
  replies = map (λ (r : Reply). r.number) (reply_events alone_near first events)

  abbrev pub stores : ℕ
  stores = first.handle.figures.size / 4 + 5

  abbrev pub ledger : Ledger
  ledger = all_noted stores first.handle.figures.lanes no_lines 0 ran_records numbers

  pub record ReplayFor : Type 0 where
    -- an answer for each record; 20 at the offset where no record stands, or none
    pub count : length numbers ≡ length ran_records
    pub whole : (log_of log).stopped ≡ false → ((replay_of a work log).stopped ≡ false) × ((replay_of a work log).at ≡ 0)
    pub stops : (log_of log).stopped ≡ true → ((replay_of a work log).stopped ≡ true) × ((replay_of a work log).at ≡ (log_of log).at)
    -- the replay answers and leaves what its records do as a history of calls and openings
    pub answers : numbers ≡ replies
    pub arena : (replay_of a work log).arena ≡ last.arena
    pub buffer : (replay_of a work log).work ≡ cleared
    pub cuts : CutsOpen ran_records numbers
    -- no byte of a block past the sector's is changed
    pub rest : RestKept (figures_in a) a (replay_of a work log).arena
    -- its sectors, through the latest handle
    pub sectors : ReadsBy first last ledger.sector
    -- and opened again with any work buffer and any table that are long enough: the writes that lack one store are finished
    pub opens : (room : Room) → RoomFor (figures_in a) room → (open_of alone_near last.arena room).number ≡ 0
    pub reopened : (room : Room) → Small room.work → RoomFor (figures_in a) room
        → ReadsBy first (opened_from alone_near last.arena room) (cut_noted stores first.handle.figures.lanes ledger).sector

-- where the first opening is refused no record runs, and the arena is as it was
pub record RefusedFor (a work log : List ℕ) : Type 0 where
  pub first : (replay_of a work log).first ≡ (open_of alone_near a (room_of work own_table)).number
  pub numbers : (replay_of a work log).numbers ≡ []
  pub stopped : (replay_of a work log).stopped ≡ false
  pub at : (replay_of a work log).at ≡ 0
  pub arena : (replay_of a work log).arena ≡ a
  pub buffer : (replay_of a work log).work ≡ (open_of alone_near a (room_of work own_table)).work

-- any lent arena, any lent work buffer and any lent log
pub record ReplayClaim : Type 0 where
  pub opened : (a work log : List ℕ) → Small a → Small work → Small log → (open_of alone_near a (room_of work own_table)).number ≡ 0
      → ((replay_of a work log).first ≡ 0) × ReplayFor a work log
  pub refused : (a work log : List ℕ) → (open_of alone_near a (room_of work own_table)).number ≢ 0 → RefusedFor a work log
  -- its own table is never too short
  pub long : (a work log : List ℕ) → (replay_of a work log).first ≢ 21
