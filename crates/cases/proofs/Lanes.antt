-- The case of 256 lanes: its write follows the plain book, whose tally says what an opening after a cut finds; any arena with these figures
-- that opens with none mended does so, and the made arena is one.
use mathlib.Core.Path.{◌≡◌, refl, sym, ap, ◌∙◌, subst}
use mathlib.Core.Logic.{inl}
use mathlib.Core.List.Memᴰ
use mathlib.Core.List.{List, [], ◌∷◌, ◌++◌, append-nil, Memᴰ}
use mathlib.Core.Bool.{true, false, cond}
use Prim.Native.Nat.{ℕ, zero, suc, ◌+◌, ◌≤◌, ◌<◌}
use native.Mathlib.Nat.{add-zero}
use native.Mathlib.Omega.{arith}
use lib.Dec.{eqb}
use lib.Seq.{get_or-set_same}
use lib.ListN.{length, replicate, length-replicate}
use borrow.Author.Tests.{lt-ltb, ne_eqb}
use Rattle.words.specs.Word.{word}
use Rattle.words.specs.Bytes.{Small, byte_word}
use Rattle.format.specs.Tests.{every}
use Rattle.format.specs.MapWord.{block_of}
use Rattle.format.specs.Sequence.{successor}
use Rattle.format.proofs.Below.{below_replicate}
use Rattle.layout.specs.Figures.{figures_allowed, fresh_figures, fresh_length}
use Rattle.layout.specs.Place.{layout_of}
use Rattle.layout.specs.Sizes.{internal_of}
use Rattle.layout.specs.Told.{alone_near}
use Rattle.machine.specs.Rules.{answer}
use Rattle.machine.specs.state.Handle.{Handle, with, bare_of, lane_at, laid_out, handle_allowed, table_short, records_allowed}
use Rattle.machine.specs.declared.lane.Lane.{Lane}
use Rattle.machine.specs.state.Lane.{no_lane, lane_allowed, started_lane, write_stores}
use Rattle.machine.specs.state.Flog.{map_word, map_block}
use Rattle.machine.specs.calls.Making.{make_number, make_of}
use Rattle.machine.specs.calls.Opening.{Room, extent_of, figures_in, layout_in, found_lane, open_of}
use Rattle.machine.specs.calls.Reading.{Read, read_of}
use Rattle.machine.specs.calls.Judging.{call_number}
use Rattle.machine.specs.calls.Writing.{Plan, plan_of, store_at, start_of, step_of, write_of}
use Rattle.machine.specs.calls.History.{Call, read, start, step, write, State, run, opened_from, SmallCall, SmallCalls}
use Rattle.machine.specs.models.Book.{Entry, any_entry, lane_flies, book_number, tallied, noted, last_words}
use Rattle.machine.specs.words.Records.{Idle}
use Rattle.machine.specs.words.Valid.{RoomFor}
use Rattle.machine.specs.claims.DemandTwo.{AllIdle}
use Rattle.machine.specs.claims.DemandThree.{SequenceStored, AfterCut}
use Rattle.machine.specs.claims.Making.{FreshArena, FreshRoom}
use Rattle.machine.proofs.stores.Members.{each_none, each_more, each_replicate, one_length}
use Rattle.machine.proofs.calls.Accepted.{start_found}
use Rattle.machine.proofs.making.Making.{made_small, map_words, making_claim}
use Rattle.machine.proofs.opening.Opens.{open-number, open_zero, opened_distance, opened_figures, opened-lane, opened_idle}
use Rattle.machine.proofs.invariant.Held.{held_open, held_allowed}
use Rattle.machine.proofs.invariant.Histories.{HeldIn}
use Rattle.machine.proofs.row.Zeroes.{has_zeroes}
use Rattle.machine.proofs.book.Entries.{entry_of}
use Rattle.machine.proofs.book.FirstArena.{FirstArena, first_arena}
use Rattle.machine.proofs.book.Sim.{Sim, number_of}
use Rattle.machine.proofs.book.SimRun.{sim_start}
use Rattle.machine.proofs.book.AfterCut.{after-cut}
use Rattle.machine.proofs.book.Orderly.{Goes, goes_none, goes_accepted, orderly_sim}
use Rattle.cases.specs.Worked.{AllDue}
use Rattle.cases.specs.Lanes.{
  wanted_with,
  lanes_found,
  lanes_room,
  lanes_short,
  lanes_state,
  lanes_bytes,
  started_in,
  case256_made,
  case256_opened,
  case256_judged,
  case256_calls,
  case256_stores,
  case256_cut,
  case256_cuts,
  case256,
}
use Rattle.cases.proofs.Rows.{append}

-- the write: from lane 255's free block, into its second half
abbrev plan : Plan
plan = record { lane = 255; sector = 7; old = 7; new = 511; half = 1; sequence = 2 }

-- ---- the write in the book, of an arena with these figures

module _ (a : List ℕ) (f : figures_in a ≡ fresh_figures 512 256 256) (bytes : List ℕ) (size : length bytes ≡ 512) where
  abbrev one : ℕ → List Entry
  one t = entry_of 255 7 t ∷ []

  stores : write_stores (layout_in alone_near a) ≡ 133
  unfolding layout_of fresh_figures
  stores = rw f

  start_done : book_number alone_near a [] (start 255 7) ≡ 0
  unfolding book_number fresh_figures answer any_entry
  start_done = rw f

  flies : (t : ℕ) → t < 133 → lane_flies alone_near a (one t) 255 ≡ true
  unfolding any_entry
  flies t u = rw (stores, lt-ltb t 133 u)

  step_done : (t : ℕ) → t < 133 → book_number alone_near a (one t) (step 255 bytes) ≡ 0
  unfolding book_number fresh_figures answer
  step_done t u = rw (flies t u, f, size)

  steps : (n t : ℕ) → t + n ≤ 133 → Goes alone_near a (λ _. bytes) (one t) (replicate n (step 255 bytes)) (one (t + n))
  unfolding tallied noted
  steps zero t u = rw add-zero (goes_none alone_near a _ _)
  steps (suc n) t u =
      let e : t + suc n ≡ t + 1 + n = omega arith in
      goes_accepted alone_near a _ _ _ (step 255 bytes) _ (step_done t (omega arith)) tt refl (rw e (steps n (t + 1) (omega arith)))

  goes : (k : ℕ) → k ≤ 133 → Goes alone_near a (λ _. bytes) [] (start 255 7 ∷ replicate k (step 255 bytes)) (one k)
  unfolding noted
  goes k u =
      let e : 0 + k ≡ k = omega arith in
      goes_accepted alone_near a _ _ _ (start 255 7) _ start_done (each_none _) tt (rw e at (steps k 0 (omega arith)))

  -- an opening then mends the write that lacks its map word alone
  last-words : (k : ℕ) → length (last_words alone_near a (one k)) ≡ cond (eqb (k + 1) 133) 1 0
  unfolding last_words
  last-words k = rw (stores, append-nil) (one_length _ (eqb (k + 1) 133))

-- ---- an arena that opens and is as making leaves it, and the write on it

record Given (a : List ℕ) (room : Room) : Type 0 where
  small : Small a
  opens : (open_of alone_near a room).number ≡ 0
  same : (open_of alone_near a room).arena ≡ a
  figures : figures_in a ≡ fresh_figures 512 256 256
  word : map_word (layout_in alone_near a) a 7 ≡ 0
  lane : Idle 511 1 2 (lane_at (open_of alone_near a room).handle.table 255)
  zeroes : (buffer : List ℕ) → length buffer ≡ 512
      → read_of (opened_from alone_near a room).arena (opened_from alone_near a room).handle 7 buffer ≡ record { number = 0; buffer = replicate 512 0 }
  enough : RoomFor (fresh_figures 512 256 256) room

module _ (a : List ℕ) (room : Room) (bytes : List ℕ) (g : Given a room) (size : length bytes ≡ 512) (small_bytes : Small bytes) where
  abbrev y : State
  y = opened_from alone_near a room

  abbrev calls : ℕ → List Call
  calls k = start 255 7 ∷ replicate k (step 255 bytes)

  held : HeldIn alone_near y
  held = held_open alone_near a room g.small g.opens

  idle : AllIdle y.handle
  idle = opened_idle alone_near a room g.opens

  figures : figures_in y.arena ≡ fresh_figures 512 256 256
  figures = ap figures_in g.same ∙ g.figures

  first : FirstArena alone_near y.arena
  first = first_arena alone_near y.arena y.handle held idle

  sim : Sim alone_near y.arena (λ _. bytes) [] y
  sim = sim_start alone_near y.arena y.handle (λ _. bytes) held idle

  smalls : (k : ℕ) → SmallCalls (calls k)
  smalls k = each_more SmallCall (start 255 7) _ tt (each_replicate SmallCall k _ small_bytes)

  -- what an opening after store k finds
  after : (k : ℕ) → k ≤ 133 → AfterCut alone_near y.arena y.handle (λ _. bytes) (run y (calls k)).arena (entry_of 255 7 k ∷ []) room
  after k u =
      let go = goes y.arena figures bytes size k u in
      let z = orderly_sim alone_near y.arena (λ _. bytes) first (calls k) [] y sim (smalls k) go.orderly in
      subst (λ (b : List Entry). AfterCut alone_near y.arena y.handle (λ _. bytes) (run y (calls k)).arena b room) go.book
      (after-cut alone_near y.arena (λ _. bytes) first _ _ z y.handle held room (rw figures g.enough))

  -- lane 255 as opening finds it, and the block of sector 7
  found_255 : Idle 511 1 2 (found_lane (layout_in alone_near y.arena) y.arena 255)
  unfolding layout_of fresh_figures
  found_255 = rw (g.same, ← opened-lane alone_near a room g.opens 255 (rw g.figures (omega arith))) g.lane

  block_7 : map_block (layout_in alone_near y.arena) y.arena 7 ≡ 7
  unfolding block_of
  block_7 = rw (g.same, g.word)

  -- cut after store k and opened: so many are mended, lane 255 is so, and sector 7 reads these bytes
  record Found (k mended free half sequence : ℕ) (read : List ℕ) : Type 0 where
    number : (open_of alone_near (run y (calls k)).arena room).number ≡ 0
    count : (open_of alone_near (run y (calls k)).arena room).mended ≡ mended
    lane : Idle free half sequence (lane_at (open_of alone_near (run y (calls k)).arena room).handle.table 255)
    reads : (buffer : List ℕ) → length buffer ≡ 512
        → read_of (open_of alone_near (run y (calls k)).arena room).arena (open_of alone_near (run y (calls k)).arena room).handle 7 buffer
        ≡ record { number = 0; buffer = read }

  -- the sequence word is store 132
  not_stored : (k : ℕ) → k ≤ 131 → (e : Entry) → Memᴰ e (entry_of 255 7 k ∷ []) → SequenceStored y.arena e → ⊥
  unfolding fresh_figures
  not_stored k u e m v =
      let p = ap (λ (d : Entry). d.tally) (Memᴰ.eq_of_singleton m) in
      omega (arith, rw figures at v)

  is_stored : (k : ℕ) → 132 ≤ k → SequenceStored y.arena (entry_of 255 7 k)
  unfolding fresh_figures
  is_stored k u = rw figures u

  old_found : (k : ℕ) → k ≤ 131 → Found k 0 511 1 2 (replicate 512 0)
  unfolding fresh_figures
  old_found k u =
      let c = after k (omega arith) in
      let free = c.unmoved 255 (rw figures (omega arith)) (λ e m p. not_stored k u e m) in
      record {
        number = c.number;
        count = c.mended ∙ last-words y.arena figures bytes size k ∙ rw (ne_eqb (k + 1) 133 (λ e. omega arith));
        lane = rw (found_255.block, found_255.half, found_255.sequence) at free;
        reads = λ buffer n. c.as_before 7 (λ e m p. not_stored k u e m) buffer ∙ g.zeroes buffer n;
      }

  new_found : (k m : ℕ) → 132 ≤ k → k ≤ 133 → cond (eqb (k + 1) 133) 1 0 ≡ m → Found k m 7 0 3 bytes
  unfolding fresh_figures successor
  new_found k m u v e =
      let c = after k v in
      let moved = c.moved (entry_of 255 7 k) (Memᴰ.head refl) (is_stored k u) in
      record {
        number = c.number;
        count = c.mended ∙ last-words y.arena figures bytes size k ∙ e;
        lane = rw (block_7, found_255.half, found_255.sequence) at moved;
        reads = λ buffer n. c.new (entry_of 255 7 k) (Memᴰ.head refl) (is_stored k u) buffer (rw figures n);
      }

  -- what its record remembers once the write is started
  laid : laid_out y.handle ≡ layout_in alone_near y.arena
  laid = rw (opened_distance alone_near a room g.opens, opened_figures alone_near a room g.opens, g.same)

  begun : lane_at (start_of y.arena y.handle 255 7).handle.table 255
      ≡ started_lane (lane_at y.handle.table 255) 7 (map_block (laid_out y.handle) y.arena 7)
  unfolding start_of
  begun =
      let e = number_of alone_near y.arena (λ _. bytes) first [] y sim (start 255 7) ∙ start_done y.arena figures bytes size in
      let found = start_found y.arena y.handle 255 7 (unfold start_of in e) in
      rw e (get_or-set_same y.handle.table 255 _ no_lane (omega (arith, found.lane, found.judged.long)))

  started : started_in y ≡ plan
  started = ap (plan_of 255) begun ∙ rw (laid, block_7, g.lane.block, g.lane.half, g.lane.sequence)

-- ---- the made arena

zeroes : (n : ℕ) → Small (replicate n 0)
zeroes n = below_replicate 256 n 0 (omega arith)

order-number : make_number (wanted_with 256 256) 290816 ≡ 0
unfolding make_number fresh_length internal_of answer
order-number = refl

number : (make_of (wanted_with 256 256) (replicate 290816 0)).number ≡ 0
unfolding make_of
number = ap (make_number (wanted_with 256 256)) (length-replicate {A = ℕ} 290816 0) ∙ order-number

made : FreshArena (wanted_with 256 256) (replicate 290816 0)
made = making_claim.made (wanted_with 256 256) (replicate 290816 0) (zeroes 290816) (zeroes 16) (zeroes 16) number

room : FreshRoom (wanted_with 256 256) lanes_room
room = record { bytes = omega (arith, length-replicate {A = ℕ} 512 0); records = omega (arith, length-replicate 256 no_lane) }

given : Given lanes_found lanes_room
given =
    let k = made.opens 16 (inl refl) in
    record {
      small = made_small (wanted_with 256 256) (replicate 290816 0) (zeroes 290816) (zeroes 16) (zeroes 16) number;
      opens = k.number lanes_room room;
      same = k.arena lanes_room;
      figures = made.figures;
      word = map_words (wanted_with 256 256) (replicate 290816 0) (zeroes 290816) (zeroes 16) (zeroes 16) number 16 (inl refl) 7 (omega arith);
      lane = k.lanes lanes_room 255 room (omega arith);
      zeroes = (has_zeroes 16 (inl refl) (wanted_with 256 256) (replicate 290816 0) lanes_room (zeroes 290816) (zeroes 16) (zeroes 16) number room 7 (omega arith)).reads;
      enough = unfold fresh_figures in (record { bytes = room.bytes; records = room.records });
    }

size_bytes : length lanes_bytes ≡ 512
size_bytes = length-replicate {A = ℕ} 512 5

small_bytes : Small lanes_bytes
small_bytes = below_replicate 256 512 5 (omega arith)

-- a table that lacks a record
short_number : (open_of alone_near lanes_found lanes_short).number ≡ 21
unfolding open_of layout_of fresh_figures
short_number =
    let o = (open_zero alone_near lanes_found (extent_of lanes_room) given.opens).0 in
    open-number alone_near lanes_found (extent_of lanes_short) o ∙ rw made.figures

opened_due : AllDue case256_opened
opened_due = (given.opens, (short_number, tt))

-- 21 comes after 16 of the handle, and 16 of the records after it
short_call : (a : List ℕ) (h : Handle) (c : Call) → handle_allowed (bare_of h) (length a) ≡ true → table_short h ≡ true → call_number a h c ≡ 21
unfolding call_number answer
short_call a h (read s buffer) e f = rw (e, f)
short_call a h (start l s) e f = rw (e, f)
short_call a h (step l buffer) e f = rw (e, f)
short_call a h (write l s buffer) e f = rw (e, f)

broken_call : (a : List ℕ) (h : Handle) (c : Call) → handle_allowed (bare_of h) (length a) ≡ true → table_short h ≡ false → records_allowed h ≡ false
    → call_number a h c ≡ 16
unfolding call_number answer
broken_call a h (read s buffer) e f r = rw (e, f, r)
broken_call a h (start l s) e f r = rw (e, f, r)
broken_call a h (step l buffer) e f r = rw (e, f, r)
broken_call a h (write l s buffer) e f r = rw (e, f, r)

four : (table : List Lane) (n : ℕ) → ((c : Call) → call_number lanes_state.arena (with (bare_of lanes_state.handle) table) c ≡ n)
    → AllDue (case256_judged table n)
unfolding read_of start_of step_of write_of
four table n e = (e (read 7 lanes_bytes), (e (start 255 7), (e (step 255 lanes_bytes), (e (write 255 7 lanes_bytes), tt))))

opened_as : (lanes_state.handle.distance ≡ 16) × (lanes_state.handle.figures ≡ fresh_figures 512 256 256)
opened_as =
    (opened_distance alone_near lanes_found lanes_room given.opens, opened_figures alone_near lanes_found lanes_room given.opens ∙ made.figures)

allowed : handle_allowed (bare_of lanes_state.handle) (length lanes_state.arena) ≡ true
allowed = held_allowed alone_near _ _ (held_open alone_near lanes_found lanes_room given.small given.opens)

too_few : table_short (with (bare_of lanes_state.handle) (replicate 255 no_lane)) ≡ true
unfolding table_short fresh_figures
too_few = rw opened_as.1

enough : table_short (with (bare_of lanes_state.handle) (replicate 256 no_lane)) ≡ false
unfolding table_short fresh_figures
enough = rw opened_as.1

broken : records_allowed (with (bare_of lanes_state.handle) (replicate 256 no_lane)) ≡ false
unfolding records_allowed lane_allowed every layout_of fresh_figures internal_of
broken = rw (opened_as.0, opened_as.1)

calls_due : AllDue case256_calls
calls_due =
    append (case256_judged (replicate 255 no_lane) 21) (case256_judged (replicate 256 no_lane) 16)
    (four (replicate 255 no_lane) 21 (λ c. short_call _ _ c allowed too_few))
    (four (replicate 256 no_lane) 16 (λ c. broken_call _ _ c allowed enough broken))

-- its stores, by what the record of lane 255 remembers
planned : AllDue (case256_stores plan)
unfolding layout_of fresh_figures internal_of store_at word
planned = (refl, (refl, (refl, (refl, (refl, (refl, (refl, tt)))))))

stores_due : AllDue (case256_stores (started_in lanes_state))
stores_due =
    subst (λ (p : Plan). AllDue (case256_stores p)) (sym (started lanes_found lanes_room lanes_bytes given size_bytes small_bytes)) planned

-- the rows of a cut
rows : (k mended free half sequence last : ℕ) (bytes : List ℕ) → byte_word bytes 508 ≡ last
    → Found lanes_found lanes_room lanes_bytes given size_bytes small_bytes k mended free half sequence bytes
    → AllDue (case256_cut k mended free half sequence last)
rows k mended free half sequence last bytes e f =
    let r = f.reads (replicate 512 9) (length-replicate {A = ℕ} 512 9) in
    let answered = ap (λ (x : Read). x.number) r in
    let last-word = ap (λ (x : Read). byte_word x.buffer 508) r ∙ e in
    (f.number, (f.count, (f.lane.block, (f.lane.half, (f.lane.sequence, (answered, (last-word, tt)))))))

cuts_due : AllDue case256_cuts
cuts_due =
    append (case256_cut 131 0 511 1 2 0) (case256_cut 132 1 7 0 3 0x05050505 ++ case256_cut 133 0 7 0 3 0x05050505)
    (rows 131 0 511 1 2 0 (replicate 512 0) refl (old_found lanes_found lanes_room lanes_bytes given size_bytes small_bytes 131 (omega arith)))
    (append (case256_cut 132 1 7 0 3 0x05050505) (case256_cut 133 0 7 0 3 0x05050505)
    (rows 132 1 7 0 3 0x05050505 lanes_bytes refl (new_found lanes_found lanes_room lanes_bytes given size_bytes small_bytes 132 1 (omega arith) (omega arith) refl))
    (rows 133 0 7 0 3 0x05050505 lanes_bytes refl (new_found lanes_found lanes_room lanes_bytes given size_bytes small_bytes 133 0 (omega arith) (omega arith) refl)))

-- what making works out is computed
made_due : AllDue case256_made
unfolding fresh_figures fresh_length internal_of figures_allowed make_number answer
made_due = (refl, (refl, (refl, (refl, (refl, (refl, (refl, (refl, (refl, (refl, (refl, (refl, tt))))))))))))

pub case_256 : AllDue case256
case_256 =
    append case256_made (case256_opened ++ (case256_calls ++ (case256_stores (started_in lanes_state) ++ case256_cuts))) made_due
    (append case256_opened (case256_calls ++ (case256_stores (started_in lanes_state) ++ case256_cuts)) opened_due
    (append case256_calls (case256_stores (started_in lanes_state) ++ case256_cuts) calls_due
    (append (case256_stores (started_in lanes_state)) case256_cuts stores_due cuts_due)))
