-- The case of 256 lanes: on a fresh arena of 256 sectors of 512 bytes and as many lanes, lane 255 writes sector 7 in layout 16.
use Rattle.std.specs.Prelude.{cond, List, [], ◌∷◌, ◌++◌, ℕ, ◌-◌, ◌*◌, replicate}
use Rattle.words.specs.Bytes.{byte_word}
use Rattle.layout.specs.Figures.{figures_allowed, fresh_figures, fresh_length}
use Rattle.layout.specs.Place.{Layout, layout_of, at}
use Rattle.layout.specs.Told.{alone_near}
use Rattle.machine.specs.calls.Making.{Wanted, make_number, make_of}
use Rattle.machine.specs.calls.Opening.{Room, open_of}
use Rattle.machine.specs.calls.Reading.{read_of}
use Rattle.machine.specs.calls.Writing.{Plan, plan_of, store_at, start_of, step_of, write_of}
use Rattle.machine.specs.calls.History.{Call, start, step, State, run, opened_from}
use Rattle.machine.specs.declared.lane.Lane.{Lane}
use Rattle.machine.specs.state.Handle.{with, bare_of, lane_at}
use Rattle.machine.specs.state.Lane.{no_lane, write_stores}
use Rattle.machine.specs.state.Stores.{Store}
use Rattle.cases.specs.Worked.{Worked, ◌is◌}

-- so many sectors of 512 bytes and so many lanes
abbrev pub wanted_with : ℕ → ℕ → Wanted
wanted_with sectors lanes = record { size = 512; sectors = sectors; lanes = lanes; first = replicate 16 0; second = replicate 16 0 }

-- 1 where rules 3 and 16 allow the figures of such an arena
abbrev pub are_allowed : ℕ → ℕ → ℕ
are_allowed sectors lanes = cond (figures_allowed (fresh_figures 512 sectors lanes) (fresh_length 512 sectors lanes)) 1 0

-- what making works out; 256 lanes are allowed, and 257 are 3
abbrev pub case256_made : List Worked
case256_made =
    ((fresh_figures 512 256 256).mapoff is 266240) ∷ ((fresh_figures 512 256 256).flogoff is 270336) ∷ ((fresh_figures 512 256 256).copyoff is 286720)
    ∷ (fresh_length 512 256 256 is 290816) ∷ (fresh_length 512 257 256 is 294912) ∷ (fresh_length 512 257 257 is 299008)
    ∷ (make_number (wanted_with 256 256) 290816 is 0) ∷ (make_number (wanted_with 257 256) 294912 is 0) ∷ (make_number (wanted_with 257 257) 299008 is 3)
    ∷ (are_allowed 256 256 is 1) ∷ (are_allowed 257 256 is 1) ∷ (are_allowed 257 257 is 0) ∷ []

-- its layout, by the figures that making works out
abbrev pub lanes_laid : Layout
lanes_laid = layout_of 16 (fresh_figures 512 256 256)

-- the made arena, opened with a byte for each block and a record for each lane
abbrev pub lanes_found : List ℕ
lanes_found = (make_of (wanted_with 256 256) (replicate 290816 0)).arena

abbrev pub lanes_room : Room
lanes_room = record { work = replicate 512 0; table = replicate 256 no_lane }

-- a room whose table lacks one record
abbrev pub lanes_short : Room
lanes_short = record { work = replicate 512 0; table = replicate 255 no_lane }

-- 256 records are enough, and 255 are 21
abbrev pub case256_opened : List Worked
case256_opened = ((open_of alone_near lanes_found lanes_room).number is 0) ∷ ((open_of alone_near lanes_found lanes_short).number is 21) ∷ []

abbrev pub lanes_state : State
lanes_state = opened_from alone_near lanes_found lanes_room

-- the bytes that are written
abbrev pub lanes_bytes : List ℕ
lanes_bytes = replicate 512 5

-- every call with the opened handle and a table
abbrev pub case256_judged : List Lane → ℕ → List Worked
case256_judged table n =
    let a = lanes_state.arena in
    let h = with (bare_of lanes_state.handle) table in
    ((read_of a h 7 lanes_bytes).number is n) ∷ ((start_of a h 255 7).number is n) ∷ ((step_of a h 255 lanes_bytes).number is n)
    ∷ ((write_of a h 255 7 lanes_bytes).number is n) ∷ []

-- records of zeroes are out of range: 255 of them are 21, and 256 are 16
abbrev pub case256_calls : List Worked
case256_calls = case256_judged (replicate 255 no_lane) 21 ++ case256_judged (replicate 256 no_lane) 16

-- what lane 255's record remembers once its write is started
abbrev pub started_in : State → Plan
started_in x = plan_of 255 (lane_at (start_of x.arena x.handle 255 7).handle.table 255)

-- store k, counted from 1, of such a write
abbrev pub lanes_store : Plan → ℕ → Store
lanes_store p k = store_at lanes_laid p lanes_bytes (k - 1)

-- how many there are, and the bytes and the words of the first data word, of the first word of the half and of the map word
abbrev pub case256_stores : Plan → List Worked
case256_stores p =
    (write_stores lanes_laid is 133) ∷ (4 * at lanes_laid (lanes_store p 1).place is 265728) ∷ ((lanes_store p 1).value is 0x05050505)
    ∷ (4 * at lanes_laid (lanes_store p 129).place is 286672) ∷ ((lanes_store p 129).value is 7)
    ∷ (4 * at lanes_laid (lanes_store p 133).place is 266268) ∷ ((lanes_store p 133).value is 0xC00001FF) ∷ []

-- the write up to its store k
abbrev pub lanes_calls : ℕ → List Call
lanes_calls k = start 255 7 ∷ replicate k (step 255 lanes_bytes)

-- cut there and opened again: how many are mended, lane 255's free block, next half and next sequence, and the last word of sector 7
abbrev pub case256_cut : ℕ → ℕ → ℕ → ℕ → ℕ → ℕ → List Worked
case256_cut k mended free half sequence last =
    let o = open_of alone_near (run lanes_state (lanes_calls k)).arena lanes_room in
    let own = lane_at o.handle.table 255 in
    let r = read_of o.arena o.handle 7 (replicate 512 9) in
    (o.number is 0) ∷ (o.mended is mended) ∷ (own.block.0 is free) ∷ (own.half is half) ∷ (own.sequence.0 is sequence) ∷ (r.number is 0)
    ∷ (byte_word r.buffer 508 is last) ∷ []

-- old after 131 stores, mended and new after 132, new after 133
abbrev pub case256_cuts : List Worked
case256_cuts = case256_cut 131 0 511 1 2 0 ++ (case256_cut 132 1 7 0 3 0x05050505 ++ case256_cut 133 0 7 0 3 0x05050505)

abbrev pub case256 : List Worked
case256 = case256_made ++ (case256_opened ++ (case256_calls ++ (case256_stores (started_in lanes_state) ++ case256_cuts)))
