-- What document 01 calls a valid arena, and the conditions of its table of refusals, as propositions in its words.
use Rattle.std.specs.Prelude.{◌≡◌, ◌≢◌, ◌⊎◌, cond, List, ℕ, ◌+◌, ◌-◌, ◌≤◌, ◌<◌, ltb, length, get_or, take, drop}
use Rattle.words.specs.Bytes.{byte_word}
use Rattle.format.specs.Claims.{BadWord, SloppyWord}
use Rattle.layout.specs.Figures.{Allowed, fresh_length}
use Rattle.layout.specs.Claims.{Length, Sizes, Distance, InPadding}
use Rattle.layout.specs.Place.{Layout}
use Rattle.layout.specs.declared.Figures.{Figures}
use Rattle.layout.specs.declared.Told.{Told}
use Rattle.infoblock.specs.Info.{info_block_of, figures_of}
use Rattle.infoblock.specs.Claims.{Header, Sound}
use Rattle.machine.specs.Rules.{FirstOf}
use Rattle.machine.specs.state.Flog.{map_word, map_block, newer_half, newer_word, free_of}
use Rattle.machine.specs.calls.Making.{Wanted, MakeRule, wrong_sizes, wrong_total, wrong_identifier, number_make, order_make}
use Rattle.machine.specs.calls.Opening.{
  figures_in,
  layout_in,
  Room,
  Extent,
  OpenRule,
  wrong_layout,
  wrong_length,
  no_info_block,
  forbidden_figure,
  flags_set,
  short_work,
  few_records,
  lost_lane,
  bad_words,
  sloppy_arena,
  not_valid,
  number_open,
  order_open,
}
use Rattle.machine.specs.words.InBytes.{map_word_in, lane_byte}

-- every line of the table, flags apart: version 2 and 0, info size 4,096, the next arena, and the figures
pub record InfoOk (next : ℕ) (b : List ℕ) (n : ℕ) : Type 0 where
  pub header : Header next b
  pub figures : Allowed (figures_of b) n

-- a lane has a newer half, and there sector < E, old < I and new < I
pub record Readable (g : Layout) (a : List ℕ) (l : ℕ) : Type 0 where
  pub newer : newer_half g a l < 2
  pub sector : newer_word g a l 0 < g.E
  pub old : newer_word g a l 1 < g.I
  pub new : newer_word g a l 2 < g.I

-- a byte of lane l's padding is not 0, where the halves start d bytes apart
abbrev pub SloppyLane : ℕ → Figures → List ℕ → ℕ → Type 0
SloppyLane d f a l = (j : ℕ) × (j < 64) × InPadding d j × (get_or a (lane_byte f l j) 0 ≢ 0)

-- rule 18: a map word is sloppy, or a byte of a lane's padding is not 0
abbrev pub SloppyIn : ℕ → Figures → List ℕ → Type 0
SloppyIn d f a = ((s : ℕ) × (s < f.sectors) × SloppyWord (map_word_in f a s)) ⊎ ((l : ℕ) × (l < f.lanes) × SloppyLane d f a l)

-- it does not apply: no map word is sloppy, and every byte of every lane's padding is 0
pub record Clean (d : ℕ) (f : Figures) (a : List ℕ) : Type 0 where
  pub words : (s : ℕ) → s < f.sectors → SloppyWord (map_word_in f a s) → ⊥
  pub padding : (l j : ℕ) → l < f.lanes → j < 64 → InPadding d j → get_or a (lane_byte f l j) 0 ≡ 0

-- the block of map[sector] equals old
abbrev pub Pending : Layout → List ℕ → ℕ → Type 0
Pending g a l = map_block g a (newer_word g a l 0) ≡ free_of g a l

-- no two pending lanes name the same sector
abbrev pub PendingApart : Layout → List ℕ → Type 0
PendingApart g a = (l j : ℕ) → l < g.N → j < g.N → l ≢ j → Pending g a l → Pending g a j → newer_word g a l 0 ≢ newer_word g a j 0

-- the mapped blocks of the sectors, and after them the free blocks of the lanes
abbrev pub block_at : Layout → (ℕ → ℕ) → (ℕ → ℕ) → ℕ → ℕ
block_at g mapped free i = cond (ltb i g.E) (mapped i) (free (i - g.E))

-- these are 0 to I - 1, each once
pub record EachOnce (g : Layout) (mapped free : ℕ → ℕ) : Type 0 where
  pub inside : (i : ℕ) → i < g.E + g.N → block_at g mapped free i < g.I
  pub each : (b : ℕ) → b < g.I → (i : ℕ) × (i < g.E + g.N) × (block_at g mapped free i ≡ b)
  pub once : (i j : ℕ) → i < g.E + g.N → j < g.E + g.N → block_at g mapped free i ≡ block_at g mapped free j → i ≡ j

-- b is the block of sector s in the mended map: new of the pending lane that names s, else the block of map[s]
pub record MendedBlock (g : Layout) (a : List ℕ) (s b : ℕ) : Type 0 where
  pub named : (l : ℕ) → l < g.N → Pending g a l → newer_word g a l 0 ≡ s → b ≡ newer_word g a l 2
  pub unnamed : ((l : ℕ) → l < g.N → Pending g a l → newer_word g a l 0 ≢ s) → b ≡ map_block g a s

-- no two pending lanes name the same sector, and the mended map's blocks with the free blocks are 0 to I - 1, each once
pub record Settled (g : Layout) (a : List ℕ) : Type 0 where
  pub apart : PendingApart g a
  pub mapped : ℕ → ℕ
  pub mended : (s : ℕ) → s < g.E → MendedBlock g a s (mapped s)
  pub once : EachOnce g mapped (free_of g a)

-- an arena that, in the layout told, passes 16, 1 to 4, 6, 7 and 18 and is settled (5 and 21 are about what is lent beside it)
pub record Valid (t : Told) (a : List ℕ) : Type 0 where
  pub layout : Distance t.distance
  pub size : Length (length a)
  pub info : Sound (info_block_of a)
  pub figures : InfoOk t.next (info_block_of a) (length a)
  pub flags : byte_word (info_block_of a) 48 ≡ 0
  pub lanes : (l : ℕ) → l < (layout_in t a).N → Readable (layout_in t a) a l
  pub words : (s : ℕ) → s < (layout_in t a).E → BadWord (layout_in t a).I (map_word (layout_in t a) a s) → ⊥
  pub clean : Clean t.distance (figures_in a) a
  pub settled : Settled (layout_in t a) a

-- room to work in an arena with such figures: a work buffer of I bytes or more, and a record for each lane or more
pub record RoomFor (f : Figures) (room : Room) : Type 0 where
  pub bytes : f.blocks ≤ length room.work
  pub records : f.lanes ≤ length room.table

-- ---- the rules of opening and of making in words

-- each rule of opening, of an arena and the lengths of the work buffer and the table
abbrev pub HoldsOpen : Told → List ℕ → Extent → OpenRule → Type 0
HoldsOpen t a room wrong_layout = Distance t.distance → ⊥
HoldsOpen t a room wrong_length = Length (length a) → ⊥
HoldsOpen t a room no_info_block = (Sound (take 4096 a) → ⊥) × (Sound (drop (length a - 4096) a) → ⊥)
HoldsOpen t a room forbidden_figure = InfoOk t.next (info_block_of a) (length a) → ⊥
HoldsOpen t a room flags_set = byte_word (info_block_of a) 48 ≢ 0
HoldsOpen t a room short_work = room.bytes < (layout_in t a).I
HoldsOpen t a room few_records = room.records < (figures_in a).lanes
HoldsOpen t a room lost_lane = (l : ℕ) × (l < (layout_in t a).N) × (Readable (layout_in t a) a l → ⊥)
HoldsOpen t a room bad_words = (s : ℕ) × (s < (layout_in t a).E) × BadWord (layout_in t a).I (map_word (layout_in t a) a s)
HoldsOpen t a room sloppy_arena = SloppyIn t.distance (figures_in a) a
HoldsOpen t a room not_valid = Settled (layout_in t a) a → ⊥

-- n is the answer of an opening by its line of the table
abbrev pub AnswersOpen : Told → List ℕ → Extent → ℕ → Type 0
AnswersOpen t a room n = FirstOf number_open (HoldsOpen t a room) order_open n

-- each rule of making, of what is wanted and the slice's length
abbrev pub HoldsMake : Wanted → ℕ → MakeRule → Type 0
HoldsMake o n wrong_sizes = Sizes o.size o.sectors o.lanes → ⊥
HoldsMake o n wrong_total = (Length n × (n ≡ fresh_length o.size o.sectors o.lanes)) → ⊥
HoldsMake o n wrong_identifier = ((length o.first ≡ 16) × (length o.second ≡ 16)) → ⊥

-- n is the answer of making by its line of the table
abbrev pub AnswersMake : Wanted → ℕ → ℕ → Type 0
AnswersMake o n k = FirstOf number_make (HoldsMake o n) order_make k
