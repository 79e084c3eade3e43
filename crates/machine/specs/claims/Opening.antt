-- The claim about opening and cut opening.
use Rattle.std.specs.Prelude.{◌≡◌, ◌≢◌, ◌⊎◌, List, [], ◌∷◌, ◌++◌, ℕ, ◌+◌, ◌-◌, ◌%◌, ◌≤◌, ◌<◌, length, get_or, drop, replicate}
use Rattle.words.specs.Bytes.{Small, byte_word}
use Rattle.format.specs.Sequence.{successor}
use Rattle.format.specs.Claims.{HalfFrom}
use Rattle.layout.specs.Told.{alone, in_layout}
use Rattle.layout.specs.declared.Told.{Told}
use Rattle.infoblock.specs.Info.{info_block_of}
use Rattle.infoblock.specs.Claims.{Fields}
use Rattle.machine.specs.declared.lane.Lane.{Lane}
use Rattle.machine.specs.Rules.{line}
use Rattle.machine.specs.state.Flog.{newer_flog}
use Rattle.machine.specs.state.Handle.{Handle, bare_of, lane_at}
use Rattle.machine.specs.calls.Opening.{
  wrong_layout,
  wrong_length,
  no_info_block,
  forbidden_figure,
  flags_set,
  short_work,
  few_records,
  lost_lane,
  bad_words,
  sloppy_arena,
  not_valid,
  number_open,
  order_open,
  figures_in,
  layout_in,
  mends,
  pending_lanes,
  open_of,
  cut_open_of,
  Opening,
  Room,
  extent_of,
}
use Rattle.machine.specs.words.Records.{Idle, ZeroHandle}
use Rattle.machine.specs.words.InBytes.{flog_byte, map_byte, newer_in, sector_in, old_in, new_in, sequence_in, PendingIn, pending_below}
use Rattle.machine.specs.words.Valid.{Valid, RoomFor, AnswersOpen}

-- one cut opening: the layout that it is told, what it is lent, and how many stores it may make
pub record OneCut : Type 0 where
  pub layout : ℕ
  pub room : Room
  pub stores : ℕ

-- a refused opening leaves the arena and the table, gives a handle of zeroes and counts nothing
pub record RefusedOpening (a : List ℕ) (room : Room) (o : Opening) : Type 0 where
  pub arena : o.arena ≡ a
  pub table : o.handle.table ≡ room.table
  pub handle : ZeroHandle o.handle
  pub mended : o.mended ≡ 0

-- what speaks of the layout goes by what the opening is told
module _ (t : Told) where
  -- opening answers 0 exactly if the arena is valid and there is room to work;
  -- each of 16, 1 to 8, 18 and 21 is given exactly when its condition holds and none before it in the row does
  pub record OpeningAnswers (a : List ℕ) (room : Room) : Type 0 where
    pub answers : AnswersOpen t a (extent_of room) (open_of t a room).number
    pub accepts : (open_of t a room).number ≡ 0 → Valid t a × RoomFor (figures_in a) room
    pub only : Valid t a → RoomFor (figures_in a) room → (open_of t a room).number ≡ 0

  -- what an opening, cut or not, leaves of the work buffer
  pub record WorkAfter (a : List ℕ) (room : Room) (o : Opening) : Type 0 where
    -- alone on 16 and 1 to 5
    pub alone : (o.number ≡ 16) ⊎ ((1 ≤ o.number) × (o.number ≤ 5)) → o.work ≡ room.work
    -- otherwise its first I bytes are 0 and the rest unchanged
    pub cleared : (o.number ≡ 0) ⊎ ((6 ≤ o.number) × (o.number ≢ 16)) → o.work ≡ replicate (layout_in t a).I 0 ++ drop (layout_in t a).I room.work
    pub size : length o.work ≡ length room.work

  -- a cut opening of an arena, in its own layout
  abbrev pub cut_by : OneCut → List ℕ → Opening
  cut_by c a = cut_open_of (in_layout t c.layout) a c.room c.stores

  -- an arena after a list of cut openings
  unfoldable pub after_cuts : List OneCut → List ℕ → List ℕ
  after_cuts [] a = a
  after_cuts (c ∷ cs) a = after_cuts cs (cut_by c a).arena

  -- each of them is told the layout of t, or is refused
  abbrev pub CutsTold : List OneCut → List ℕ → Type 0
  CutsTold [] a = Unit {0}
  CutsTold (c ∷ cs) a = ((c.layout ≡ t.distance) ⊎ ((cut_by c a).number ≢ 0)) × CutsTold cs (cut_by c a).arena

  -- an opening after such cut openings answers and ends as without them
  pub record CutsLeaveNoTrace (a : List ℕ) (room : Room) (cuts : List OneCut) : Type 0 where
    pub number : (open_of t (after_cuts cuts a) room).number ≡ (open_of t a room).number
    -- an opening that is refused for want of room leaves the arena as the cuts left it
    pub arena : (open_of t a room).number ≢ 5 → (open_of t a room).number ≢ 21 → (open_of t (after_cuts cuts a) room).arena ≡ (open_of t a room).arena
    pub handle : (open_of t (after_cuts cuts a) room).handle ≡ (open_of t a room).handle
    pub work-buffer : (open_of t (after_cuts cuts a) room).work ≡ (open_of t a room).work

  -- a cut opening is refused as opening is, counts alike and leaves the work buffer alike
  pub record CutAnswers (a : List ℕ) (room : Room) (k : ℕ) : Type 0 where
    pub number : (cut_open_of t a room k).number ≡ (open_of t a room).number
    pub mended : (cut_open_of t a room k).mended ≡ (open_of t a room).mended
    pub work-buffer : (cut_open_of t a room k).work ≡ (open_of t a room).work
    pub handle : ZeroHandle (cut_open_of t a room k).handle
    -- it leaves the table alone
    pub table : (cut_open_of t a room k).handle.table ≡ room.table
    -- told a number that is at least the pending lanes, it leaves the arena that opening leaves
    pub whole : (open_of t a room).mended ≤ k → (cut_open_of t a room k).arena ≡ (open_of t a room).arena

  -- the count is the number of pending lanes as found, in bytes too, and of stores
  pub record CountIsPending (a : List ℕ) (room : Room) : Type 0 where
    pub pending : (open_of t a room).number ≡ 0 → (open_of t a room).mended ≡ pending_lanes (layout_in t a) a (layout_in t a).N
    pub in_bytes : (open_of t a room).number ≡ 0 → (open_of t a room).mended ≡ pending_below t.distance a (figures_in a).lanes
    pub stores : (open_of t a room).number ≡ 0 → (open_of t a room).mended ≡ length (mends (layout_in t a) a (layout_in t a).N)

  -- opening an opened arena changes nothing and mends none
  pub record OpenedAgain (a : List ℕ) (room again : Room) : Type 0 where
    pub number : (open_of t (open_of t a room).arena again).number ≡ 0
    pub mended : (open_of t (open_of t a room).arena again).mended ≡ 0
    pub arena : (open_of t (open_of t a room).arena again).arena ≡ (open_of t a room).arena
    pub handle : bare_of (open_of t (open_of t a room).arena again).handle ≡ bare_of (open_of t a room).handle
    pub records : (l : ℕ) → l < (figures_in a).lanes
        → lane_at (open_of t (open_of t a room).arena again).handle.table l ≡ lane_at (open_of t a room).handle.table l

-- ---- what opening finds and mends, in the bytes of an arena in which the halves of a lane start d bytes apart

module _ (d : ℕ) where
  -- a lane's free block is old; its next half is the other one, its next sequence the successor
  pub record LaneAsFound (a : List ℕ) (l : ℕ) (r : Lane) : Type 0 where
    pub has_newer : newer_in d a l < 2
    pub idle : Idle (old_in d a l) (1 - newer_in d a l) (successor (sequence_in d a l)) r

  -- the handle has the arena's length, the layout and the figures, and its table a record of each lane; those past the lanes are as they came
  pub record HandleAsFound (a : List ℕ) (lent : List Lane) (h : Handle) : Type 0 where
    pub size : h.length ≡ length a
    pub distance : h.distance ≡ d
    pub figures : h.figures ≡ figures_in a
    -- each at its byte of the info block that counts
    pub fields : Fields (info_block_of a) h.figures
    pub lanes : (l : ℕ) → l < (figures_in a).lanes → LaneAsFound a l (lane_at h.table l)
    pub count : length h.table ≡ length lent
    pub past : (l : ℕ) → (figures_in a).lanes ≤ l → lane_at h.table l ≡ lane_at lent l

  -- map[sector] of each of these lanes gets flags 11 and new, and no other byte changes
  pub record MendedFor (these : ℕ → Type 0) (a after : List ℕ) : Type 0 where
    pub size : length after ≡ length a
    pub mapped : (l : ℕ) → l < (figures_in a).lanes → these l → byte_word after (map_byte (figures_in a) (sector_in d a l)) ≡ 3221225472 + new_in d a l
    -- each mended word is aligned
    pub aligned : (l : ℕ) → l < (figures_in a).lanes → these l → map_byte (figures_in a) (sector_in d a l) % 4 ≡ 0
    pub kept : (j : ℕ)
        → ((l : ℕ) → l < (figures_in a).lanes → these l
        → (j < map_byte (figures_in a) (sector_in d a l)) ⊎ (map_byte (figures_in a) (sector_in d a l) + 4 ≤ j))
        → get_or after j 0 ≡ get_or a j 0

  -- each pending lane is mended
  abbrev pub Mended : List ℕ → List ℕ → Type 0
  Mended a after = MendedFor (PendingIn d a) a after

  -- the first k pending lanes in rising order are mended: those with fewer than k below them
  abbrev pub MendedUpTo : List ℕ → ℕ → List ℕ → Type 0
  MendedUpTo a k after = MendedFor (λ l. PendingIn d a l × (pending_below d a l < k)) a after

-- all of it, for any bytes lent as an arena, and any work buffers and tables
pub record OpeningClaimFor (t : Told) : Type 0 where
  -- 16 first, then 1 to 8 in order, 21 after 5 and 18 after 7
  pub order : line number_open order_open
      ≡ (16, wrong_layout) ∷ (1, wrong_length) ∷ (2, no_info_block) ∷ (3, forbidden_figure) ∷ (4, flags_set) ∷ (5, short_work) ∷ (21, few_records) ∷ (6, lost_lane)
      ∷ (7, bad_words) ∷ (18, sloppy_arena) ∷ (8, not_valid) ∷ []
  pub answers : (a : List ℕ) (room : Room) → Small a → OpeningAnswers t a room
  pub refused : (a : List ℕ) (room : Room) → (open_of t a room).number ≢ 0 → RefusedOpening a room (open_of t a room)
  pub refused_cut : (a : List ℕ) (room : Room) (k : ℕ) → (open_of t a room).number ≢ 0 → RefusedOpening a room (cut_open_of t a room k)
  pub work : (a : List ℕ) (room : Room) → WorkAfter t a room (open_of t a room)
  pub cut : (a : List ℕ) (room : Room) (k : ℕ) → CutAnswers t a room k
  pub cuts : (a : List ℕ) (room : Room) (cuts : List OneCut) → Small a → CutsTold t cuts a → CutsLeaveNoTrace t a room cuts
  pub count : (a : List ℕ) (room : Room) → CountIsPending t a room
  pub again : (a : List ℕ) (room again : Room) → Small a → (open_of t a room).number ≡ 0 → RoomFor (figures_in a) again → OpenedAgain t a room again
  pub handle : (a : List ℕ) (room : Room) → Small a → (open_of t a room).number ≡ 0 → HandleAsFound t.distance a room.table (open_of t a room).handle
  -- a lane's newer half is the four words there
  pub newer-half : (a : List ℕ) (room : Room) → Small a → (open_of t a room).number ≡ 0 → (l : ℕ)
      → HalfFrom a (flog_byte t.distance (figures_in a) l (newer_in t.distance a l) 0) (newer_flog (layout_in t a) a l)
  pub mends : (a : List ℕ) (room : Room) → Small a → (open_of t a room).number ≡ 0 → Mended t.distance a (open_of t a room).arena
  pub cut_mends : (a : List ℕ) (room : Room) (k : ℕ) → Small a → (cut_open_of t a room k).number ≡ 0 → MendedUpTo t.distance a k (cut_open_of t a room k).arena

-- an arena that is opened by itself, told any layout
abbrev pub OpeningClaim : Type 0
OpeningClaim = (d : ℕ) → OpeningClaimFor (alone d)
