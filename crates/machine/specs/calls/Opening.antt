-- Opening and cut opening: all is judged first, then pending lanes are mended in rising order, one word each.
use Rattle.std.specs.Prelude.{Bool, cond, not, ◌&&◌, ◌||◌, List, [], ◌∷◌, ◌++◌, ℕ, zero, suc, ◌+◌, ◌-◌, eqb, ltb, length, take, drop, replicate}
use Rattle.format.specs.Tests.{every, some, all_of}
use Rattle.format.specs.Sequence.{successor}
use Rattle.format.specs.MapWord.{mapped_to, bad_word, sloppy_word}
use Rattle.layout.specs.Figures.{length_allowed}
use Rattle.layout.specs.Place.{Layout, layout_of, in_map}
use Rattle.layout.specs.Told.{distance_allowed}
use Rattle.layout.specs.declared.Figures.{Figures}
use Rattle.layout.specs.declared.Told.{Told}
use Rattle.infoblock.specs.Info.{info_block_of, info_allowed, flags_allowed, figures_of}
use Rattle.machine.specs.declared.lane.Lane.{Lane}
use Rattle.machine.specs.Rules.{answer}
use Rattle.machine.specs.state.Lane.{idle_lane}
use Rattle.machine.specs.state.Handle.{Handle, no_handle}
use Rattle.machine.specs.state.Stores.{Store, put_all}
use Rattle.machine.specs.state.Flog.{map_word, map_block, newer_half, newer_word, free_of, pending, padding_set}

-- the figures of the arena's info block that counts, and its layout as an opening is told it
abbrev pub figures_in : List ℕ → Figures
figures_in a = figures_of (info_block_of a)

abbrev pub layout_in : Told → List ℕ → Layout
layout_in t a = layout_of t.distance (figures_in a)

-- rule 6 does not apply to a lane: it has a newer half, whose sector is below E and old and new below I
unfoldable pub lane_readable : Layout → List ℕ → ℕ → Bool
lane_readable g a l = all_of (
    ltb (newer_half g a l) 2 ∷ ltb (newer_word g a l 0) g.E ∷ ltb (newer_word g a l 1) g.I ∷ ltb (newer_word g a l 2) g.I ∷ [])

-- the mending store of a pending lane
abbrev pub mend_store : Layout → List ℕ → ℕ → Store
mend_store g a l = record { place = in_map (newer_word g a l 0); value = mapped_to (newer_word g a l 2) }

-- the stores of an opening, of the lanes below n in rising order
unfoldable pub mends : Layout → List ℕ → ℕ → List Store
mends g a zero = []
mends g a (suc l) = mends g a l ++ cond (pending g a l) (mend_store g a l ∷ []) []

-- how many of the lanes below n are pending
unfoldable pub pending_lanes : Layout → List ℕ → ℕ → ℕ
pending_lanes g a zero = 0
pending_lanes g a (suc l) = pending_lanes g a l + cond (pending g a l) 1 0

-- the arena with its map mended
abbrev pub mended : Layout → List ℕ → List ℕ
mended g a = put_all g (mends g a g.N) a

-- two pending lanes name the same sector
unfoldable pub two_pending : Layout → List ℕ → Bool
two_pending g a = some g.N (λ l. some l (λ j. pending g a l && (pending g a j && eqb (newer_word g a l 0) (newer_word g a j 0))))

-- how many of the first n values of f are b
unfoldable pub count : ℕ → (ℕ → ℕ) → ℕ → ℕ
count zero f b = 0
count (suc n) f b = count n f b + cond (eqb b (f n)) 1 0

-- mapped and free blocks are 0 to I - 1, each once
unfoldable pub each_once : Layout → (ℕ → ℕ) → (ℕ → ℕ) → Bool
each_once g mapped free = every g.I (λ b. eqb (count g.E mapped b + count g.N free b) 1)

-- ---- what is lent beside the arena

-- a work buffer, and a table of lane records
pub record Room : Type 0 where
  pub work : List ℕ
  pub table : List Lane

-- how long they are: so many bytes, and so many records
pub record Extent : Type 0 where
  pub bytes : ℕ
  pub records : ℕ

abbrev pub extent_of : Room → Extent
extent_of room = record { bytes = length room.work; records = length room.table }

-- ---- the rules

-- rule 6: some lane is not readable
abbrev pub lanes_lost : Layout → List ℕ → Bool
lanes_lost g a = not (every g.N (lane_readable g a))

-- rule 7: some sector's map word names a block past the last
abbrev pub word_bad : Layout → List ℕ → Bool
word_bad g a = some g.E (λ s. bad_word g.I (map_word g a s))

-- rule 18: some sector's map word is sloppy, or some lane's padding is not zero
abbrev pub word_sloppy : Layout → List ℕ → Bool
word_sloppy g a = some g.E (λ s. sloppy_word (map_word g a s))

abbrev pub lane_padded : Layout → List ℕ → Bool
lane_padded g a = some g.N (padding_set g a)

abbrev pub sloppy : Layout → List ℕ → Bool
sloppy g a = word_sloppy g a || lane_padded g a

-- rule 8: two pending lanes name one sector, or mapped and free blocks are not each block once
abbrev pub unsettled : Layout → List ℕ → Bool
unsettled g a = two_pending g a || not (each_once g (map_block g (mended g a)) (free_of g a))

-- a condition of document 01's table at opening, 16 of a layout that is told, 18 of a sloppy arena, or 21 of a short table
pub data OpenRule : Type 0 where
  wrong_layout : OpenRule
  wrong_length : OpenRule
  no_info_block : OpenRule
  forbidden_figure : OpenRule
  flags_set : OpenRule
  short_work : OpenRule
  few_records : OpenRule
  lost_lane : OpenRule
  bad_words : OpenRule
  sloppy_arena : OpenRule
  not_valid : OpenRule

abbrev pub number_open : OpenRule → ℕ
number_open wrong_layout = 16
number_open wrong_length = 1
number_open no_info_block = 2
number_open forbidden_figure = 3
number_open flags_set = 4
number_open short_work = 5
number_open few_records = 21
number_open lost_lane = 6
number_open bad_words = 7
number_open sloppy_arena = 18
number_open not_valid = 8

-- what is judged of the layout that is told, the length and the info block, and with the work buffer's length all that is judged before that
-- buffer is used
abbrev pub info_rules : List OpenRule
info_rules = wrong_layout ∷ wrong_length ∷ no_info_block ∷ forbidden_figure ∷ flags_set ∷ []

abbrev pub alone_rules : List OpenRule
alone_rules = info_rules ++ (short_work ∷ [])

-- what is judged of the flog and the map: 6 over all lanes, 7 over all words, 18 over all words and lanes, and then 8
abbrev pub map_rules : List OpenRule
map_rules = lost_lane ∷ bad_words ∷ sloppy_arena ∷ not_valid ∷ []

abbrev pub order_open : List OpenRule
order_open = alone_rules ++ (few_records ∷ map_rules)

-- what each rule tests, of an arena and the lengths of what is lent beside it
abbrev pub tests_open : Told → List ℕ → Extent → OpenRule → Bool
tests_open t a room wrong_layout = not (distance_allowed t.distance)
tests_open t a room wrong_length = not (length_allowed (length a))
tests_open t a room no_info_block = eqb (length (info_block_of a)) 0
tests_open t a room forbidden_figure = not (info_allowed t (info_block_of a) (length a))
tests_open t a room flags_set = not (flags_allowed (info_block_of a))
tests_open t a room short_work = ltb room.bytes (layout_in t a).I
tests_open t a room few_records = ltb room.records (layout_in t a).N
tests_open t a room lost_lane = lanes_lost (layout_in t a) a
tests_open t a room bad_words = word_bad (layout_in t a) a
tests_open t a room sloppy_arena = sloppy (layout_in t a) a
tests_open t a room not_valid = unsettled (layout_in t a) a

unfoldable pub open_number : Told → List ℕ → Extent → ℕ
open_number t a room = answer number_open (tests_open t a room) order_open

-- ---- what it leaves

-- the work buffer: alone where a rule before its use applies, otherwise its first I bytes are 0 and the rest unchanged
unfoldable pub work_after : Told → List ℕ → Room → List ℕ
work_after t a room =
    let i = (layout_in t a).I in
    cond (eqb (answer number_open (tests_open t a (extent_of room)) alone_rules) 0) (replicate i 0 ++ drop i room.work) room.work

-- a lane as opening leaves it: old is free, the other half and the successor come next
abbrev pub found_lane : Layout → List ℕ → ℕ → Lane
found_lane g a l = idle_lane (free_of g a l) (1 - newer_half g a l) (successor (newer_word g a l 3))

unfoldable pub found_lanes : Layout → List ℕ → ℕ → List Lane
found_lanes g a zero = []
found_lanes g a (suc l) = found_lanes g a l ++ (found_lane g a l ∷ [])

-- a table with the lanes' records put in; those past the lanes are as they came
abbrev pub filled : Layout → List ℕ → List Lane → List Lane
filled g a table = found_lanes g a g.N ++ drop g.N table

-- the handle of an accepted opening, with the table that it was lent
unfoldable pub handle_for : Told → List ℕ → List Lane → Handle
handle_for t a table = record { length = length a; distance = t.distance; figures = figures_in a; table = filled (layout_in t a) a table }

pub record Opening : Type 0 where
  pub number : ℕ
  pub mended : ℕ
  pub arena : List ℕ
  pub handle : Handle
  pub work : List ℕ

-- an opening that is cut after its first k stores, or makes all if there are fewer; it gives no handle and leaves the table alone
unfoldable pub cut_open_of : Told → List ℕ → Room → ℕ → Opening
cut_open_of t a room k =
    let n = open_number t a (extent_of room) in
    let g = layout_in t a in
    record {
      number = n;
      mended = cond (eqb n 0) (pending_lanes g a g.N) 0;
      arena = cond (eqb n 0) (put_all g (take k (mends g a g.N)) a) a;
      handle = no_handle room.table;
      work = work_after t a room;
    }

-- an opening makes every store, gives the handle and fills its table; a refused one leaves the table
unfoldable pub open_of : Told → List ℕ → Room → Opening
open_of t a room =
    let n = open_number t a (extent_of room) in
    let g = layout_in t a in
    record {
      number = n;
      mended = cond (eqb n 0) (pending_lanes g a g.N) 0;
      arena = cond (eqb n 0) (mended g a) a;
      handle = cond (eqb n 0) (handle_for t a room.table) (no_handle room.table);
      work = work_after t a room;
    }
