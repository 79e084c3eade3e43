-- A run that the claims speak of: two writes interleaved, of which one is unfinished and one lacks only its map word, a refused start and
-- a whole write, on the made arena of case 9; a cut of two writes that keeps stores out of order; that arena with the flags of another
-- driver; and that arena with what rule 18 refuses.
use Rattle.std.specs.Prelude.{◌≡◌, List, [], ◌∷◌, ◌++◌, map, ℕ, ◌+◌, ◌/◌, length, replicate}
use Rattle.words.specs.Word.{put_word}
use Rattle.words.specs.Bytes.{Small, byte_word}
use Rattle.layout.specs.Claims.{Distance}
use Rattle.layout.specs.Place.{in_data, in_flog}
use Rattle.layout.specs.Told.{alone}
use Rattle.machine.specs.state.Lane.{idle_lane}
use Rattle.machine.specs.state.Handle.{Handle, no_handle, lane_at}
use Rattle.machine.specs.state.Stores.{Store, put_all}
use Rattle.machine.specs.calls.Making.{Wanted, make_of}
use Rattle.machine.specs.calls.Opening.{Room, figures_in, layout_in, open_of}
use Rattle.machine.specs.calls.Reading.{read_of}
use Rattle.machine.specs.calls.Writing.{start_of, write_of}
use Rattle.machine.specs.calls.History.{Call, read, start, step, write, State, run, reply, called, opened, opened_from, SmallEvents}
use Rattle.machine.specs.calls.Asides.{Happening, latest, aside, tried, shortened, latest_of, AllHarmless}
use Rattle.machine.specs.models.Row.{OneBuffer, first_row}
use Rattle.machine.specs.models.Book.{Entry, book_after}
use Rattle.machine.specs.claims.Opening.{OneCut, CutsTold}
use Rattle.machine.specs.claims.DemandThree.{taken_apart, Listed, Fewer, Survive}

-- 60 sectors of 512 bytes and 4 lanes in 49,152 bytes
abbrev pub exhibit_wanted : Wanted
exhibit_wanted = record { size = 512; sectors = 60; lanes = 4; first = replicate 16 0; second = replicate 16 0 }

abbrev pub exhibit_found : List ℕ
exhibit_found = (make_of exhibit_wanted (replicate 49152 0)).arena

-- a work buffer of just I bytes, and a table with a record more than the lanes
abbrev pub exhibit_room : Room
exhibit_room = record { work = replicate 64 0; table = replicate 5 (idle_lane 7 7 7) }

-- a room whose table lacks one record
abbrev pub exhibit_short : Room
exhibit_short = record { work = replicate 64 0; table = replicate 3 (idle_lane 7 7 7) }

-- opened in a layout
abbrev pub exhibit_state : ℕ → State
exhibit_state d = opened_from (alone d) exhibit_found exhibit_room

-- the bytes of the write on each lane
abbrev pub exhibit_bytes : ℕ → List ℕ
exhibit_bytes l = replicate 512 (l + 1)

-- 132 steps on lane 0 with a step on lane 1 between
abbrev pub interleaved : List Call
interleaved = start 0 7 ∷ start 1 8 ∷ step 0 (exhibit_bytes 0) ∷ step 1 (exhibit_bytes 1) ∷ replicate 131 (step 0 (exhibit_bytes 0))

-- a start on a lane that is not idle, a read, and a whole write
abbrev pub exhibit_calls : List Call
exhibit_calls = interleaved ++ (start 0 9 ∷ read 7 (replicate 512 0) ∷ write 2 10 (exhibit_bytes 2) ∷ [])

-- the two writes finished: one more step on lane 0, and all that are left on lane 1
abbrev pub finished_calls : List Call
finished_calls = interleaved ++ (step 0 (exhibit_bytes 0) ∷ replicate 132 (step 1 (exhibit_bytes 1)))

-- 131 steps on lane 0 and as many on lane 1: all stores before the sequence words of two writes
abbrev pub unsequenced_calls : List Call
unsequenced_calls = start 0 7 ∷ start 1 8 ∷ (replicate 131 (step 0 (exhibit_bytes 0)) ++ replicate 131 (step 1 (exhibit_bytes 1)))

abbrev pub unsequenced : List Entry
unsequenced = record { lane = 1; sector = 8; tally = 131 } ∷ record { lane = 0; sector = 7; tally = 131 } ∷ []

-- of which a cut keeps four: of lane 0's write the last data word and new, and of lane 1's, as if it had made one store, the second data word
-- and old
abbrev pub cut_book : List Entry
cut_book = record { lane = 1; sector = 8; tally = 1 } ∷ record { lane = 0; sector = 7; tally = 131 } ∷ []

abbrev pub exhibit_kept : List Store
exhibit_kept =
    record { place = in_data 60 127; value = 0x01010101 } ∷ record { place = in_flog 0 1 2; value = 60 }
    ∷ record { place = in_data 61 1; value = 0x02020202 } ∷ record { place = in_flog 1 1 1; value = 8 } ∷ []

-- by word numbers: block 60 begins at byte 34,816, block 61 at byte 35,328, and lane 0's second half at byte 40,960 + d
abbrev pub exhibit_cut : ℕ → List ℕ
exhibit_cut d = put_word (put_word (put_word (put_word exhibit_found 8831 0x01010101) (10240 + d / 4 + 2) 60) 8833 0x02020202) (10256 + d / 4 + 1) 8

-- it is a cut as demand 3 has it; of neither write the first data word is kept, and opened again neither has happened
pub record CutOutOfOrder (d : ℕ) (x : State) (cut : List ℕ) (room : Room) : Type 0 where
  pub listed : Listed (alone d) x unsequenced_calls exhibit_bytes
  pub apart : taken_apart (layout_in (alone d) x.arena) x unsequenced_calls ≡ unsequenced_calls
  pub tallies : book_after (alone d) x.arena [] unsequenced_calls ≡ unsequenced
  pub fewer : Fewer cut_book unsequenced
  pub survive : Survive (alone d) x.arena exhibit_bytes cut_book exhibit_kept
  pub arena : put_all (layout_in (alone d) x.arena) exhibit_kept x.arena ≡ cut
  pub no_first : (byte_word cut 34816 ≡ 0) × (byte_word cut 35328 ≡ 0)
  pub opens : (open_of (alone d) cut room).number ≡ 0
  pub mended : (open_of (alone d) cut room).mended ≡ 0
  pub reads : (s : ℕ) (buffer : List ℕ) → read_of (open_of (alone d) cut room).arena (open_of (alone d) cut room).handle s buffer ≡ read_of x.arena x.handle s buffer

-- the first run as a history: a cut and an opening at its end; before it a call given another handle, a cut opening whose table is short, and an
-- opening in a layout that there is not
abbrev pub exhibit_history : ℕ → List Happening
exhibit_history d = aside (no_handle []) (step 0 (exhibit_bytes 0)) ∷ shortened d exhibit_short 1 ∷ tried 48 exhibit_room ∷ map latest (map called exhibit_calls ++ (opened exhibit_room ∷ []))

-- the same arena with map words of another driver: bit 31 alone at sector 5 (byte 36,884), bit 30 alone at sector 6 (byte 36,888)
abbrev pub exhibit_marked : List ℕ
exhibit_marked = put_word (put_word exhibit_found 9221 0x80000005) 9222 0x40000006

-- it opens, sector 5 reads zeroes, and sector 6 is bad
pub record ReadByFlags (d : ℕ) (a : List ℕ) (room : Room) : Type 0 where
  pub opens : (open_of (alone d) a room).number ≡ 0
  pub zeroes : (buffer : List ℕ) → length buffer ≡ 512
      → read_of (open_of (alone d) a room).arena (open_of (alone d) a room).handle 5 buffer ≡ record { number = 0; buffer = replicate 512 0 }
  pub bad-sector : (buffer : List ℕ) → length buffer ≡ 512
      → read_of (open_of (alone d) a room).arena (open_of (alone d) a room).handle 6 buffer ≡ record { number = 15; buffer = buffer }

-- the same arena with 5 as the map word of sector 7 (byte 36,892), and with 1 as byte 63 of lane 3 (byte 41,215)
abbrev pub exhibit_sloppy : List ℕ
exhibit_sloppy = put_word exhibit_found 9223 0x00000005

abbrev pub exhibit_padded : List ℕ
exhibit_padded = put_word exhibit_found 10303 0x01000000

-- neither opens; through a handle h of the arena as it was, sector 7 is refused while its word is sloppy, and padding is not looked at
pub record RefusedSloppy (d : ℕ) (worded padded : List ℕ) (room : Room) (h : Handle) : Type 0 where
  pub word : (open_of (alone d) worded room).number ≡ 18
  pub padding : (open_of (alone d) padded room).number ≡ 18
  pub read : (buffer : List ℕ) → length buffer ≡ 512 → (read_of worded h 7 buffer).number ≡ 18
  pub start : (start_of worded h 0 7).number ≡ 18
  pub write : (buffer : List ℕ) → length buffer ≡ 512 → (write_of worded h 0 7 buffer).number ≡ 18
  pub padded_read : (buffer : List ℕ) → length buffer ≡ 512 → (read_of padded h 7 buffer).number ≡ 0

-- cut openings between that cut and an opening: in the handle's layout, and in one that there is not
abbrev pub exhibit_cuts : ℕ → List OneCut
exhibit_cuts d = record { layout = d; room = exhibit_room; stores = 0 } ∷ record { layout = 48; room = exhibit_room; stores = 1 } ∷ []

pub record ExhibitedIn (d : ℕ) : Type 0 where
  -- the premises of demand 2
  pub small : Small exhibit_found
  pub small_events : SmallEvents (latest_of (exhibit_history d))
  pub opens : (open_of (alone d) exhibit_found exhibit_room).number ≡ 0
  pub one_buffer : OneBuffer (figures_in exhibit_found) (first_row (exhibit_state d)) (latest_of (exhibit_history d))
  pub harmless : AllHarmless (alone d) (exhibit_state d) (exhibit_history d)
  -- the premise of demand 3, after a history that is not empty, and with all writes finished too
  pub listed : Listed (alone d) (exhibit_state d) exhibit_calls exhibit_bytes
  pub some_history : length listed.ready.history ≡ 2
  pub finished : Listed (alone d) (exhibit_state d) finished_calls exhibit_bytes
  -- what the runs come to
  pub refused : (reply (run (exhibit_state d) interleaved) (start 0 9)).number ≡ 12
  pub tallies : book_after (alone d) (exhibit_state d).arena [] exhibit_calls
      ≡ record { lane = 2; sector = 10; tally = 133 } ∷ record { lane = 1; sector = 8; tally = 1 } ∷ record { lane = 0; sector = 7; tally = 132 } ∷ []
  pub all_finished : book_after (alone d) (exhibit_state d).arena [] finished_calls
      ≡ record { lane = 1; sector = 8; tally = 133 } ∷ record { lane = 0; sector = 7; tally = 133 } ∷ []
  -- cut where one lacks only its map word and opened, one write is mended
  pub mended : (open_of (alone d) (run (exhibit_state d) exhibit_calls).arena exhibit_room).mended ≡ 1
  -- the record past the lanes is as it came, and a table that lacks one is refused
  pub past : lane_at (run (exhibit_state d) exhibit_calls).handle.table 4 ≡ idle_lane 7 7 7
  pub short : (open_of (alone d) exhibit_found exhibit_short).number ≡ 21
  -- the premise of cut openings
  pub cuts : CutsTold (alone d) (exhibit_cuts d) (run (exhibit_state d) exhibit_calls).arena
  -- a cut that keeps no first stores, of two writes at once
  pub out_of_order : CutOutOfOrder d (exhibit_state d) (exhibit_cut d) exhibit_room
  -- flags that no call of ours stores
  pub marked : ReadByFlags d exhibit_marked exhibit_room
  -- what 18 refuses
  pub sloppy : RefusedSloppy d exhibit_sloppy exhibit_padded exhibit_room (exhibit_state d).handle

-- all of it in either layout
abbrev pub Exhibited : Type 0
Exhibited = (d : ℕ) → Distance d → ExhibitedIn d
