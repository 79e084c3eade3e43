-- The plain book of demand 3: the first arena, and a tally for each write started. Everything in it is worked out from the first arena,
-- whose info block gives the figures and whose flog and map are read as in opening.
use Rattle.std.specs.Prelude.{Bool, false, cond, not, ◌&&◌, ◌||◌, List, [], ◌∷◌, ◌++◌, ℕ, ◌+◌, ◌-◌, eqb, leb, ltb}
use Rattle.format.specs.Sequence.{successor}
use Rattle.format.specs.MapWord.{mapped_to}
use Rattle.layout.specs.Place.{in_map}
use Rattle.layout.specs.declared.Told.{Told}
use Rattle.machine.specs.Rules.{answer}
use Rattle.machine.specs.calls.Order.{
  Rule,
  bad_handle,
  short_table,
  bad_records,
  no_such_sector,
  wrong_buffer,
  no_such_lane,
  lane_busy,
  lane_idle,
  sector_busy,
  bad_map_word,
  sloppy_map_word,
  bad_sector,
  number,
  order,
}
use Rattle.machine.specs.state.Lane.{write_stores}
use Rattle.machine.specs.state.Stores.{Store}
use Rattle.machine.specs.state.Flog.{map_word, map_block, newer_half, newer_word, free_of}
use Rattle.machine.specs.calls.Opening.{figures_in, layout_in, handle_for}
use Rattle.machine.specs.calls.Reading.{Read, read_of}
use Rattle.machine.specs.calls.Writing.{Plan, first_stores}
use Rattle.machine.specs.calls.History.{runs, says, Call, read, start, step, write, Reply, just_number}

-- a write that was started: its lane, its sector, and how many of its stores are made
pub record Entry : Type 0 where
  pub lane : ℕ
  pub sector : ℕ
  pub tally : ℕ

unfoldable pub any_entry : (Entry → Bool) → List Entry → Bool
any_entry t [] = false
any_entry t (e ∷ b) = t e || any_entry t b

-- one more store for the write in flight on lane l
unfoldable pub tallied : ℕ → List Entry → List Entry
tallied l [] = []
tallied l (e ∷ b) = cond (eqb e.lane l) (record { lane = e.lane; sector = e.sector; tally = e.tally + 1 }) e ∷ tallied l b

-- a map word with bit 30 alone is that of a bad sector
abbrev pub bad_bits : ℕ → Bool
bad_bits w = leb 0x40000000 w && ltb w 0x80000000

-- all below speaks of a first arena a that openings are told t of
module _ (t : Told) (a : List ℕ) where
  -- in flight from the start until the tally is S/4 + 5
  abbrev pub in_flight_yet : Entry → Bool
  in_flight_yet e = ltb e.tally (write_stores (layout_in t a))

  abbrev pub lane_flies : List Entry → ℕ → Bool
  lane_flies b l = any_entry (λ e. eqb e.lane l && in_flight_yet e) b

  abbrev pub sector_flies : List Entry → ℕ → Bool
  sector_flies b s = any_entry (λ e. eqb e.sector s && in_flight_yet e) b

  -- a write to the sector has stored its map word
  abbrev pub sector_done : List Entry → ℕ → Bool
  sector_done b s = any_entry (λ e. eqb e.sector s && not (in_flight_yet e)) b

  -- a write's plan: old is the map's block, new the lane's free block, into the other half with the successor's sequence
  abbrev pub plan_in : Entry → Plan
  plan_in e = record {
    lane = e.lane;
    sector = e.sector;
    old = map_block (layout_in t a) a e.sector;
    new = free_of (layout_in t a) a e.lane;
    half = 1 - newer_half (layout_in t a) a e.lane;
    sequence = successor (newer_word (layout_in t a) a e.lane 3);
  }

  -- ---- answers

  -- what each rule tests in the book; 16, 21, 7 and 18 never apply, and a sector is bad that is so in the first arena and has no finished write
  abbrev pub book_tests : List Entry → Rule → Bool
  book_tests b bad_handle = false
  book_tests b short_table = false
  book_tests b bad_records = false
  book_tests b (no_such_sector s) = leb (figures_in a).sectors s
  book_tests b (wrong_buffer n) = not (eqb n (figures_in a).size)
  book_tests b (no_such_lane l) = leb (figures_in a).lanes l
  book_tests b (lane_busy l) = lane_flies b l
  book_tests b (lane_idle l) = not (lane_flies b l)
  book_tests b (sector_busy s) = sector_flies b s
  book_tests b (bad_map_word s) = false
  book_tests b (sloppy_map_word s) = false
  book_tests b (bad_sector s) = not (sector_done b s) && bad_bits (map_word (layout_in t a) a s)

  unfoldable pub book_number : List Entry → Call → ℕ
  book_number b c = answer number (book_tests b) (order c)

  -- ---- the tallies

  unfoldable pub noted : List Entry → Call → List Entry
  noted b (read s buffer) = b
  noted b (start l s) = record { lane = l; sector = s; tally = 0 } ∷ b
  noted b (step l buffer) = tallied l b
  noted b (write l s buffer) = record { lane = l; sector = s; tally = write_stores (layout_in t a) } ∷ b

  -- an accepted call is noted, a refused one adds nothing
  abbrev pub book_next : List Entry → Call → List Entry
  book_next b c = cond (eqb (book_number b c) 0) (noted b c) b

  abbrev pub book_after : List Entry → List Call → List Entry
  book_after b cs = runs book_next b cs

  module _ (bytes : ℕ → List ℕ) where
    -- a sector whose write has stored its map word reads that write's bytes
    unfoldable pub bytes_of : List Entry → ℕ → List ℕ → List ℕ
    bytes_of [] s buffer = buffer
    bytes_of (e ∷ b) s buffer = cond (eqb e.sector s && not (in_flight_yet e)) (bytes e.lane) (bytes_of b s buffer)

    -- any other sector reads as in the first arena, through the handle of an opening with a table of just the lanes
    unfoldable pub book_read : List Entry → ℕ → List ℕ → Read
    book_read b s buffer =
        let n = book_number b (read s buffer) in
        let found = cond (sector_done b s) (bytes_of b s buffer) (read_of a (handle_for t a []) s buffer).buffer in
        record { number = n; buffer = cond (eqb n 0) found buffer }

    unfoldable pub book_reply : List Entry → Call → Reply
    book_reply b (read s buffer) = let r = book_read b s buffer in record { number = r.number; buffer = r.buffer; mended = 0 }
    book_reply b (start l s) = just_number (book_number b (start l s))
    book_reply b (step l buffer) = just_number (book_number b (step l buffer))
    book_reply b (write l s buffer) = just_number (book_number b (write l s buffer))

    abbrev pub book_replies : List Entry → List Call → List Reply
    book_replies b cs = says book_next book_reply b cs

    -- ---- the stores

    -- the first n stores of a write
    abbrev pub stores_in : Entry → ℕ → List Store
    stores_in e n = first_stores (layout_in t a) (plan_in e) (bytes e.lane) n

    -- each write's first stores, as many as its tally
    unfoldable pub kept : List Entry → List Store
    kept [] = []
    kept (e ∷ b) = stores_in e e.tally ++ kept b

  -- the write lacks only its map word: its tally is S/4 + 4
  abbrev pub lacks_map_word : Entry → Bool
  lacks_map_word e = eqb (e.tally + 1) (write_stores (layout_in t a))

  -- the map words of those writes
  unfoldable pub last_words : List Entry → List Store
  last_words [] = []
  last_words (e ∷ b) =
      cond (lacks_map_word e) (record { place = in_map e.sector; value = mapped_to (free_of (layout_in t a) a e.lane) } ∷ []) [] ++ last_words b
