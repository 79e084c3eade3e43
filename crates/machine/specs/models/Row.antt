-- A plain row of sectors, with the writes in flight: what a list of calls and openings answers where there is no map and no flog.
use Rattle.std.specs.Prelude.{◌≡◌, Bool, true, false, cond, not, List, [], ◌∷◌, ◌++◌, ℕ, zero, suc, ◌+◌, ◌*◌, ◌/◌, ◌<◌, eqb, leb, ltb, length, take, drop, replicate}
use Rattle.format.specs.Tests.{some}
use Rattle.layout.specs.declared.Figures.{Figures}
use Rattle.machine.specs.Rules.{answer}
use Rattle.machine.specs.calls.Order.{
  Rule,
  bad_handle,
  short_table,
  bad_records,
  no_such_sector,
  wrong_buffer,
  no_such_lane,
  lane_busy,
  lane_idle,
  sector_busy,
  bad_map_word,
  sloppy_map_word,
  bad_sector,
  number,
  order,
}
use Rattle.machine.specs.calls.Opening.{
  Extent,
  extent_of,
  OpenRule,
  wrong_layout,
  wrong_length,
  no_info_block,
  forbidden_figure,
  flags_set,
  short_work,
  few_records,
  lost_lane,
  bad_words,
  sloppy_arena,
  not_valid,
  number_open,
  order_open,
}
use Rattle.machine.specs.calls.Reading.{Read, read_of}
use Rattle.machine.specs.calls.History.{
  runs,
  says,
  Call,
  read,
  start,
  step,
  write,
  State,
  Reply,
  just_number,
  Event,
  called,
  opened,
}

-- a sector of the row: bytes, or bad
pub data Sector : Type 0 where
  holds : List ℕ → Sector
  bad : Sector

-- a lane: idle, or with a write in flight to a sector, so many stores made, and the bytes that it keeps of its steps' buffers
pub data Flight : Type 0 where
  idle : Flight
  flying : ℕ → ℕ → List ℕ → Flight

pub record Row : Type 0 where
  pub sector : ℕ → Sector
  pub lane : ℕ → Flight

-- the stores of a write, S/4 + 5; the map word is the last
abbrev pub stores_of : Figures → ℕ
stores_of f = f.size / 4 + 5

module _ {A : Type 0} where
  -- a row with one place changed
  abbrev pub put : (ℕ → A) → ℕ → A → ℕ → A
  put row i v j = cond (eqb j i) v (row j)

-- ---- answers

abbrev pub is_bad : Sector → Bool
is_bad (holds bytes) = false
is_bad bad = true

abbrev pub is_flying : Flight → Bool
is_flying idle = false
is_flying (flying s made bytes) = true

abbrev pub flies_to : ℕ → Flight → Bool
flies_to s idle = false
flies_to s (flying t made bytes) = eqb t s

-- the write lacks only its map word
abbrev pub lacks_last : Figures → Flight → Bool
lacks_last f idle = false
lacks_last f (flying s made bytes) = eqb (made + 1) (stores_of f)

-- what each rule tests in the row; 16, 21, 7 and 18 never apply
abbrev pub row_tests : Figures → Row → Rule → Bool
row_tests f row bad_handle = false
row_tests f row short_table = false
row_tests f row bad_records = false
row_tests f row (no_such_sector s) = leb f.sectors s
row_tests f row (wrong_buffer n) = not (eqb n f.size)
row_tests f row (no_such_lane l) = leb f.lanes l
row_tests f row (lane_busy l) = is_flying (row.lane l)
row_tests f row (lane_idle l) = not (is_flying (row.lane l))
row_tests f row (sector_busy s) = some f.lanes (λ j. flies_to s (row.lane j))
row_tests f row (bad_map_word s) = false
row_tests f row (sloppy_map_word s) = false
row_tests f row (bad_sector s) = is_bad (row.sector s)

unfoldable pub row_number : Figures → Row → Call → ℕ
row_number f row c = answer number (row_tests f row) (order c)

abbrev pub bytes_in : Sector → List ℕ → List ℕ
bytes_in (holds bytes) buffer = bytes
bytes_in bad buffer = buffer

-- a read gives the sector's bytes; a refused one leaves its buffer
unfoldable pub row_read : Figures → Row → ℕ → List ℕ → Read
row_read f row s buffer =
    let n = row_number f row (read s buffer) in
    record { number = n; buffer = cond (eqb n 0) (bytes_in (row.sector s) buffer) buffer }

unfoldable pub row_reply : Figures → Row → Call → Reply
row_reply f row (read s buffer) = let r = row_read f row s buffer in record { number = r.number; buffer = r.buffer; mended = 0 }
row_reply f row (start l s) = just_number (row_number f row (start l s))
row_reply f row (step l buffer) = just_number (row_number f row (step l buffer))
row_reply f row (write l s buffer) = just_number (row_number f row (write l s buffer))

-- ---- what a write in flight keeps

-- by the stores made before a step, what was kept before it, and the step's buffer
abbrev pub Keeping : Type 0
Keeping = Figures → ℕ → List ℕ → List ℕ → List ℕ

-- the word of its buffer that a step stores, with so many stores made before it
unfoldable pub own_word : ℕ → List ℕ → List ℕ
own_word made buffer = take 4 (drop (4 * made) buffer)

-- of each step's buffer its own word; the five stores after the data words add nothing
unfoldable pub word_by_word : Keeping
word_by_word f made bytes buffer = cond (ltb made (f.size / 4)) (bytes ++ own_word made buffer) bytes

-- the buffer of the latest step
abbrev pub last_buffer : Keeping
last_buffer f made bytes buffer = buffer

-- ---- what an accepted call changes

module _ (keep : Keeping) where
  -- one more store: at the last, the map word, the sector holds what is kept and the lane is idle
  abbrev pub stepped : Figures → Row → ℕ → List ℕ → Flight → Row
  stepped f row l buffer idle = row
  stepped f row l buffer (flying s made bytes) =
      cond (eqb (made + 1) (stores_of f))
      (record { sector = put row.sector s (holds (keep f made bytes buffer)); lane = put row.lane l idle })
      (record { sector = row.sector; lane = put row.lane l (flying s (made + 1) (keep f made bytes buffer)) })

  abbrev pub changed : Figures → Row → Call → Row
  changed f row (read s buffer) = row
  changed f row (start l s) = record { sector = row.sector; lane = put row.lane l (flying s 0 []) }
  changed f row (step l buffer) = stepped f row l buffer (row.lane l)
  changed f row (write l s buffer) = record { sector = put row.sector s (holds buffer); lane = row.lane }

  unfoldable pub row_after : Figures → Row → Call → Row
  row_after f row c = cond (eqb (row_number f row c) 0) (changed f row c) row

-- ---- openings: the writes that lack only their map word are finished, and the others are dropped

abbrev pub finished : Figures → (ℕ → Sector) → Flight → ℕ → Sector
finished f sectors idle = sectors
finished f sectors (flying s made bytes) = cond (eqb (made + 1) (stores_of f)) (put sectors s (holds bytes)) sectors

-- the sectors with the writes of the first n lanes finished, and how many these are
unfoldable pub settled : Figures → Row → ℕ → ℕ → Sector
settled f row zero = row.sector
settled f row (suc l) = finished f (settled f row l) (row.lane l)

unfoldable pub lacking : Figures → Row → ℕ → ℕ
lacking f row zero = 0
lacking f row (suc l) = lacking f row l + cond (lacks_last f (row.lane l)) 1 0

abbrev pub reopened : Figures → Row → Row
reopened f row = record { sector = settled f row f.lanes; lane = λ l. idle }

-- what each rule of an opening tests in the row: it is refused only for want of room
abbrev pub row_open_tests : Figures → Extent → OpenRule → Bool
row_open_tests f room wrong_layout = false
row_open_tests f room wrong_length = false
row_open_tests f room no_info_block = false
row_open_tests f room forbidden_figure = false
row_open_tests f room flags_set = false
row_open_tests f room short_work = ltb room.bytes f.blocks
row_open_tests f room few_records = ltb room.records f.lanes
row_open_tests f room lost_lane = false
row_open_tests f room bad_words = false
row_open_tests f room sloppy_arena = false
row_open_tests f room not_valid = false

unfoldable pub row_open_number : Figures → Extent → ℕ
row_open_number f room = answer number_open (row_open_tests f room) order_open

-- the work buffer: alone where it is short, else its first I bytes are 0
unfoldable pub row_work : Figures → List ℕ → List ℕ
row_work f work = cond (ltb (length work) f.blocks) work (replicate f.blocks 0 ++ drop f.blocks work)

unfoldable pub row_reply_event : Figures → Row → Event → Reply
row_reply_event f row (called c) = row_reply f row c
row_reply_event f row (opened room) =
    let n = row_open_number f (extent_of room) in
    record { number = n; buffer = row_work f room.work; mended = cond (eqb n 0) (lacking f row f.lanes) 0 }

-- ---- lists of calls and openings

module _ (keep : Keeping) where
  unfoldable pub row_after_event : Figures → Row → Event → Row
  row_after_event f row (called c) = row_after keep f row c
  row_after_event f row (opened room) = cond (eqb (row_open_number f (extent_of room)) 0) (reopened f row) row

  abbrev pub row_after_all : Figures → Row → List Event → Row
  row_after_all f row es = runs (row_after_event f) row es

  abbrev pub row_replies : Figures → Row → List Event → List Reply
  row_replies f row es = says (row_after_event f) (row_reply_event f) row es

-- ---- each write is handed the same bytes throughout: the buffer of its latest step, once it has made a store

abbrev pub SameFlight : List ℕ → Flight → Type 0
SameFlight buffer idle = Unit {0}
SameFlight buffer (flying s made bytes) = 0 < made → buffer ≡ bytes

abbrev pub SameBuffer : Figures → Row → Event → Type 0
SameBuffer f row (called (read s buffer)) = Unit {0}
SameBuffer f row (called (start l s)) = Unit {0}
SameBuffer f row (called (step l buffer)) = row_number f row (step l buffer) ≡ 0 → SameFlight buffer (row.lane l)
SameBuffer f row (called (write l s buffer)) = Unit {0}
SameBuffer f row (opened room) = Unit {0}

abbrev pub OneBuffer : Figures → Row → List Event → Type 0
OneBuffer f row [] = Unit {0}
OneBuffer f row (e ∷ es) = SameBuffer f row e × OneBuffer f (row_after_event last_buffer f row e) es

-- ---- the row that an arena begins with: what reads give, and all lanes idle

abbrev pub found_sector : Read → Sector
found_sector r = cond (eqb r.number 15) bad (holds r.buffer)

abbrev pub first_row : State → Row
first_row x = record { sector = λ s. found_sector (read_of x.arena x.handle s (replicate x.handle.figures.size 0)); lane = λ l. idle }
