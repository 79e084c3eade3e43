-- The arena of case 9 with one word that rule 18 refuses, in the map or in a lane's padding: it does not open. Through the handle of the
-- arena as it was, calls to the sector of the sloppy map word are refused, and padding is not looked at.
use mathlib.Core.Path.{◌≡◌, sym, ap, ◌∙◌}
use mathlib.Core.Logic.{◌≢◌, ◌⊎◌, inl, inr, ⊎_elim}
use mathlib.Core.List.{List}
use mathlib.Core.Bool.{true, false, cond}
use Prim.Native.Nat.{ℕ, ◌+◌, ◌*◌, ◌/◌, ◌≤◌, ◌<◌}
use native.Mathlib.Omega.{arith}
use native.Mathlib.Decide.{ℕ_discrete}
use lib.Dec.{eqb}
use lib.ListN.{length}
use borrow.Author.Tests.{eq-eqb, ne_eqb, le-ltb}
use Rattle.words.specs.Word.{word, put_word}
use Rattle.words.specs.Bytes.{Small}
use Rattle.words.proofs.Laws.{length-put_word, word-put_word_same, word-put_word_other, put_word-bytes}
use Rattle.format.specs.MapWord.{bad_word, sloppy_word}
use Rattle.format.proofs.Tests.{true_false, by_bool, true_or, every_intro, some_intro, some-found}
use Rattle.infoblock.specs.Info.{info_block_of, figures_of}
use Rattle.infoblock.proofs.InfoBlock.{info_local}
use Rattle.layout.specs.Figures.{fresh_figures}
use Rattle.layout.specs.Sizes.{internal_of}
use Rattle.layout.specs.Place.{Layout, layout_of, in_flog, at, is_padding}
use Rattle.layout.specs.Claims.{Distance}
use Rattle.layout.specs.Told.{alone}
use Rattle.layout.specs.declared.Figures.{Figures}
use Rattle.layout.proofs.Allowed.{allowed_of}
use Rattle.layout.proofs.Padding.{is-padding, padding_apart}
use Rattle.machine.specs.Rules.{answer}
use Rattle.machine.specs.state.Handle.{Handle, bare_of, lane_at, laid_out, handle_allowed, table_short, records_allowed}
use Rattle.machine.specs.state.Lane.{is_busy}
use Rattle.machine.specs.state.Flog.{map_word, padding_set}
use Rattle.machine.specs.calls.Order.{read, start, write}
use Rattle.machine.specs.calls.Judging.{in_flight}
use Rattle.machine.specs.calls.Reading.{read_of}
use Rattle.machine.specs.calls.Writing.{start_of, write_of}
use Rattle.machine.specs.calls.Opening.{Room, extent_of, figures_in, layout_in, lane_readable, lanes_lost, word_bad, word_sloppy, sloppy, open_number, open_of}
use Rattle.machine.specs.words.Valid.{RoomFor}
use Rattle.machine.specs.claims.Exhibit.{RefusedSloppy}
use Rattle.machine.proofs.rules.Rules.{stop, pass, through}
use Rattle.machine.proofs.rules.Running.{call_walk}
use Rattle.machine.proofs.opening.Described.{Described, described_same}
use Rattle.machine.proofs.opening.Found.{lane-readable}
use Rattle.machine.proofs.opening.Opens.{opened_distance, opened_figures, opened_idle}
use Rattle.machine.proofs.invariant.Inv.{lane_frame}
use Rattle.machine.proofs.invariant.Good.{Good, good_figures, good_open}
use Rattle.machine.proofs.invariant.Held.{Held, held_open, held_allowed, held_short, held_records, lanes-in, lanes_out}
use Rattle.machine.proofs.calls.Running.{word_idle}

abbrev f : Figures
f = fresh_figures 512 60 4

module _ (d : ℕ) (w : Distance d) where
  abbrev g : Layout
  g = layout_of d f

  -- an opening that passes all rules before 18
  eighteen : (b : List ℕ) (work : Room) → Described (alone d) b → figures_in b ≡ f → lanes_lost g b ≡ false → word_bad g b ≡ false → sloppy g b ≡ true
      → RoomFor f work → open_number (alone d) b (extent_of work) ≡ 18
  unfolding open_number answer layout_of fresh_figures
  eighteen b work k e lanes words found room =
      rw (
        k.layout,
        k.size,
        k.block,
        k.allowed,
        k.flags,
        e,
        le-ltb (length work.work) 64 room.bytes,
        le-ltb (length work.table) 4 room.records,
        lanes,
        words,
        found,
      )

  module _ (a : List ℕ) (work : Room) (small : Small a) (opens : (open_of (alone d) a work).number ≡ 0) (same : (open_of (alone d) a work).arena ≡ a)
      (figures : figures_in a ≡ f) (unwritten : (s : ℕ) → s < 60 → map_word (layout_in (alone d) a) a s ≡ 0) (room : RoomFor f work) where
    abbrev h : Handle
    h = (open_of (alone d) a work).handle

    good : Good (alone d) a d f h.table
    good = rw (opened_distance (alone d) a work opens, opened_figures (alone d) a work opens ∙ figures, same) at
        (good_open (alone d) a work small opens)

    word_0 : (s : ℕ) → s < 60 → map_word g a s ≡ 0
    word_0 s u = rw figures at (unwritten s u)

    idle : (l : ℕ) → l < g.N → is_busy (lane_at h.table l) ≡ false
    idle l u = word_idle (lane_at h.table l)
        (opened_idle (alone d) a work opens l (rw (opened_figures (alone d) a work opens, figures) (lanes_out d f l u)))

    size_is : length a ≡ 49152
    unfolding fresh_figures internal_of
    size_is = sym (allowed_of f (length a) (good_figures (alone d) a d f h.table good)).copy-start

    -- ---- with word p stored, between the info blocks and in no half

    module _ (p v : ℕ) (low : 9216 ≤ p) (high : p < 11264)
        (away : (l x k : ℕ) → l < g.N → x < 2 → k < 4 → at g (in_flog l x k) ≢ p) where
      abbrev b : List ℕ
      b = put_word a p v

      info : info_block_of b ≡ info_block_of a
      info = info_local b a (length-put_word a p v) (λ i c. word-put_word_other a p i v (outside i c))
          (put_word-bytes a p v good.inv.arena.bytes).small small
        where
          outside : (i : ℕ) → (i < 1024) ⊎ (length b ≤ 4 * i + 4099) → i ≢ p
          outside i (inl c) e = omega arith
          outside i (inr c) e = omega (arith, size_is, length-put_word a p v)

      described : Described (alone d) b
      described = described_same (alone d) a b (length-put_word a p v) info good.info

      same_figures : figures_in b ≡ f
      same_figures = ap figures_of info ∙ figures

      lanes : lanes_lost g b ≡ false
      lanes = rw (every_intro g.N (lane_readable g b) (λ l u. lane-readable g b l (lane_at h.table l)
          (lane_frame g a b l (λ x k c e. word-put_word_other a p (at g (in_flog l x k)) v (away l x k u c e)) (lane_at h.table l)
          (λ t. true_false (sym t ∙ idle l u)) (good.inv.lane l u))))

      refuses : word_bad g b ≡ false → sloppy g b ≡ true → (open_of (alone d) b work).number ≡ 18
      unfolding open_of
      refuses words found = eighteen b work described same_figures lanes words found room

    -- ---- 5 as the map word of sector 7

    abbrev worded : List ℕ
    worded = put_word a 9223 5

    word_7 : (s : ℕ) → s < 60 → map_word g worded s ≡ cond (eqb s 7) 5 0
    unfolding layout_of fresh_figures internal_of
    word_7 s u = go (ℕ_discrete s 7)
      where
        go : Dec (s ≡ 7) → word worded (9216 + s) ≡ cond (eqb s 7) 5 0
        go (yes e) = rw e (word-put_word_same a 9223 5 (omega (arith, size_is)) (omega arith))
        go (no n) = rw (ne_eqb s 7 n) (word-put_word_other a 9223 (9216 + s) 5 (λ e. n (omega arith)) ∙ word_0 s u)

    word-refused : (open_of (alone d) worded work).number ≡ 18
    unfolding layout_of fresh_figures internal_of
    word-refused = refuses 9223 5 (omega arith) (omega arith) (λ l x k u c e i. omega arith)
        (some_intro 60 (λ s. bad_word 64 (map_word g worded s)) (λ s u. rw (word_7 s u) (by_bool (eqb s 7) _ (λ t. rw t) (λ t. rw t))))
        (true_or _ _ (inl (some-found 60 (λ s. sloppy_word (map_word g worded s)) 7 (omega arith) (rw (word_7 7 (omega arith))))))

    -- ---- 1 as byte 63 of lane 3

    -- the last word of a lane is padding in either layout
    last_padding : is_padding g.D 15 ≡ true
    unfolding layout_of
    last_padding = is-padding (d / 4) 15 (omega arith, inr (⊎_elim (λ e. omega arith) (λ e. omega arith) w))

    abbrev padded : List ℕ
    padded = put_word a 10303 0x01000000

    still_0 : (s : ℕ) → s < 60 → map_word g padded s ≡ 0
    unfolding layout_of fresh_figures internal_of
    still_0 s u = word-put_word_other a 10303 (9216 + s) 0x01000000 (λ e. omega arith) ∙ word_0 s u

    padding_refused : (open_of (alone d) padded work).number ≡ 18
    unfolding layout_of fresh_figures internal_of padding_set
    padding_refused = refuses 10303 0x01000000 (omega arith) (omega arith)
        (λ l x k u c e. padding_apart g good.inv.ok 3 15 (omega arith) (omega arith) last_padding (in_flog l x k) (u, c, e))
        (some_intro 60 (λ s. bad_word 64 (map_word g padded s))
        (λ s u. rw (still_0 s u)))
        (true_or (word_sloppy g padded) _ (inr (some-found 4 (padding_set g padded) 3 (omega arith)
        (some-found 16 _ 15 (omega arith) (rw (last_padding, word-put_word_same a 10303 0x01000000 (omega (arith, size_is)) (omega arith)))))))

    -- ---- through the handle that opening the arena gave

    held : Held (alone d) (open_of (alone d) a work).arena h
    held = held_open (alone d) a work small opens

    -- of the arena rules 16 and 21 ask for the length alone
    allowed : (p v : ℕ) → handle_allowed (bare_of h) (length (put_word a p v)) ≡ true
    allowed p v = rw (length-put_word a p v) (rw same at (held_allowed (alone d) _ h held))

    long : table_short h ≡ false
    long = held_short (alone d) _ h held

    records : records_allowed h ≡ true
    records = held_records (alone d) _ h held

    figures-of : h.figures ≡ f
    figures-of = opened_figures (alone d) a work opens ∙ figures

    -- no lane has a sector in flight
    none-flies : (s : ℕ) → in_flight h.table h.figures.lanes s ≡ false
    unfolding in_flight
    none-flies s = some_intro h.figures.lanes _ (λ l u. rw (idle l (lanes-in d f l (rw figures-of at u))))

    word-bad : bad_word h.figures.blocks (map_word (laid_out h) worded 7) ≡ false
    word-bad = rw (opened_distance (alone d) a work opens, figures-of, word_7 7 (omega arith))

    word-sloppy : sloppy_word (map_word (laid_out h) worded 7) ≡ true
    word-sloppy = rw (opened_distance (alone d) a work opens, figures-of, word_7 7 (omega arith))

    read_refused : (buffer : List ℕ) → length buffer ≡ 512 → (read_of worded h 7 buffer).number ≡ 18
    unfolding read_of fresh_figures
    read_refused buffer size = sym (call_walk worded h (read 7 buffer)
        (pass (rw (allowed 9223 5)) (pass long (pass (rw records) (pass (rw figures-of) (pass (rw (figures-of, eq-eqb (length buffer) 512 size)) (pass word-bad (stop word-sloppy))))))))

    start_refused : (start_of worded h 0 7).number ≡ 18
    unfolding start_of fresh_figures layout_of
    start_refused = sym (call_walk worded h (start 0 7)
        (pass (rw (allowed 9223 5)) (pass long (pass (rw records) (pass (rw figures-of) (pass (idle 0 (omega arith)) (pass (rw figures-of) (pass (none-flies 7) (pass word-bad (stop word-sloppy))))))))))

    write_refused : (buffer : List ℕ) → length buffer ≡ 512 → (write_of worded h 0 7 buffer).number ≡ 18
    unfolding write_of fresh_figures layout_of
    write_refused buffer size = sym (call_walk worded h (write 0 7 buffer)
        (pass (rw (allowed 9223 5)) (pass long (pass (rw records) (pass (rw figures-of) (pass (idle 0 (omega arith)) (pass (rw figures-of)
        (pass (rw (figures-of, eq-eqb (length buffer) 512 size)) (pass (none-flies 7) (pass word-bad (stop word-sloppy)))))))))))

    -- padding is not looked at
    padded_0 : map_word (laid_out h) padded 7 ≡ 0
    padded_0 = rw (opened_distance (alone d) a work opens, figures-of) (still_0 7 (omega arith))

    padded_read : (buffer : List ℕ) → length buffer ≡ 512 → (read_of padded h 7 buffer).number ≡ 0
    unfolding read_of fresh_figures
    padded_read buffer size = sym (call_walk padded h (read 7 buffer)
        (pass (rw (allowed 10303 0x01000000)) (pass long (pass (rw records) (pass (rw figures-of) (pass (rw (figures-of, eq-eqb (length buffer) 512 size))
        (pass (rw padded_0) (pass (rw padded_0) (pass (rw padded_0) through)))))))))

    pub refused-sloppy : RefusedSloppy d worded padded work h
    refused-sloppy = record {
      word = word-refused;
      padding = padding_refused;
      read = read_refused;
      start = start_refused;
      write = write_refused;
      padded_read = padded_read;
    }
