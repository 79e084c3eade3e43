-- An arena with the map words of another driver, which no call of ours stores: the words name the blocks that the sectors had, so it opens,
-- and its sectors read by their flags.
use mathlib.Core.Path.{◌≡◌, refl, ◌∙◌}
use mathlib.Core.List.{List}
use mathlib.Core.Bool.{false}
use Prim.Native.Nat.{ℕ, ◌<◌}
use native.Mathlib.Omega.{arith}
use lib.ListN.{length, replicate}
use Rattle.words.specs.Word.{put_word}
use Rattle.words.specs.Bytes.{Small}
use Rattle.format.specs.MapWord.{block_of}
use Rattle.layout.specs.Figures.{fresh_figures}
use Rattle.layout.specs.Sizes.{internal_of}
use Rattle.layout.specs.Place.{Layout, layout_of}
use Rattle.layout.specs.Told.{alone}
use Rattle.layout.specs.declared.Figures.{Figures}
use Rattle.machine.specs.declared.lane.Lane.{Lane}
use Rattle.machine.specs.state.Handle.{lane_at}
use Rattle.machine.specs.state.Lane.{is_busy}
use Rattle.machine.specs.state.Stores.{stored}
use Rattle.machine.specs.state.Flog.{map_word}
use Rattle.machine.specs.calls.Opening.{Room, figures_in, layout_in, open_of}
use Rattle.machine.specs.calls.Reading.{read_of}
use Rattle.machine.specs.calls.History.{State, opened_from}
use Rattle.machine.specs.models.Row.{Sector, holds, bad}
use Rattle.machine.specs.words.Valid.{RoomFor}
use Rattle.machine.specs.claims.Exhibit.{ReadByFlags}
use Rattle.machine.proofs.stores.MapStores.{word_store, word_other, word_here}
use Rattle.machine.proofs.opening.Opens.{opened_distance, opened_figures, opened_idle}
use Rattle.machine.proofs.invariant.Good.{Good, good_open, good_number, idle_arena}
use Rattle.machine.proofs.invariant.Held.{held_open, lanes_out}
use Rattle.machine.proofs.invariant.Histories.{HeldIn}
use Rattle.machine.proofs.invariant.MapWords.{word_good}
use Rattle.machine.proofs.calls.Running.{word_idle}
use Rattle.machine.proofs.row.Contents.{content_of}
use Rattle.machine.proofs.row.Reads.{read_by, held_read, read_holds, read_bad}

abbrev f : Figures
f = fresh_figures 512 60 4

module _ (d : ℕ) where
  abbrev g : Layout
  g = layout_of d f

  in-map : (s : ℕ) → s < 60 → s < g.E
  unfolding layout_of fresh_figures
  in-map s u = u

  -- the arena with bit 31 (alone d) at sector 5, and with bit 30 (alone d) at sector 6
  abbrev zeroed_5 : List ℕ → List ℕ
  zeroed_5 a = stored g (word_store 5 0x80000005) a

  abbrev marked : List ℕ → List ℕ
  marked a = stored g (word_store 6 0x40000006) (zeroed_5 a)

  -- by word numbers
  pub marked_is : (a : List ℕ) → put_word (put_word a 9221 0x80000005) 9222 0x40000006 ≡ marked a
  unfolding layout_of fresh_figures internal_of
  marked_is a = refl

  module _ (a : List ℕ) (work : Room) (small : Small a) (opens : (open_of (alone d) a work).number ≡ 0) (same : (open_of (alone d) a work).arena ≡ a)
      (figures : figures_in a ≡ f) (unwritten : (s : ℕ) → s < 60 → map_word (layout_in (alone d) a) a s ≡ 0) (room : RoomFor f work) where
    abbrev lanes : List Lane
    lanes = (open_of (alone d) a work).handle.table

    good : Good (alone d) a d f lanes
    good = rw (opened_distance (alone d) a work opens, opened_figures (alone d) a work opens ∙ figures, same) at
        (good_open (alone d) a work small opens)

    word_0 : (s : ℕ) → s < 60 → map_word g a s ≡ 0
    word_0 s u = rw figures at (unwritten s u)

    good_5 : Good (alone d) (zeroed_5 a) d f lanes
    unfolding block_of
    good_5 = word_good (alone d) a d f lanes good 5 0x80000005 (in-map 5 (omega arith)) (omega arith) (rw (word_0 5 (omega arith))) refl

    was_6 : map_word g (zeroed_5 a) 6 ≡ 0
    was_6 = word_other g good.inv.ok a 5 0x80000005 (in-map 5 (omega arith)) 6 (in-map 6 (omega arith)) (λ e. omega arith) ∙ word_0 6 (omega arith)

    good_6 : Good (alone d) (marked a) d f lanes
    unfolding block_of
    good_6 = word_good (alone d) (zeroed_5 a) d f lanes good_5 6 0x40000006 (in-map 6 (omega arith)) (omega arith) (rw was_6) refl

    -- ---- it opens

    number : (open_of (alone d) (marked a) work).number ≡ 0
    number = good_number (alone d) (marked a) d f lanes good_6 work room

    idle : (l : ℕ) → l < g.N → is_busy (lane_at lanes l) ≡ false
    idle l u = word_idle (lane_at lanes l)
        (opened_idle (alone d) a work opens l (rw (opened_figures (alone d) a work opens, figures) (lanes_out d f l u)))

    abbrev x : State
    x = opened_from (alone d) (marked a) work

    arena : x.arena ≡ marked a
    arena = idle_arena (alone d) (marked a) d f lanes good_6 work room idle

    held : HeldIn (alone d) x
    held = held_open (alone d) (marked a) work good_6.inv.arena.bytes.small number

    -- ---- and its sectors read

    reads : (s : ℕ) (c : Sector) → content_of d f (marked a) s ≡ c → (buffer : List ℕ) → read_of x.arena x.handle s buffer ≡ read_by f c s buffer
    reads s c e buffer =
        held_read (alone d) x.arena x.handle held s buffer
        ∙ rw (opened_distance (alone d) (marked a) work number, opened_figures (alone d) (marked a) work number ∙ good_6.figures, arena, e)

    word_5 : map_word g (marked a) 5 ≡ 0x80000005
    word_5 = word_other g good_5.inv.ok (zeroed_5 a) 6 0x40000006 (in-map 6 (omega arith)) 5 (in-map 5 (omega arith)) (λ e. omega arith)
        ∙ word_here g good.inv.ok a 5 0x80000005 (in-map 5 (omega arith)) good.inv.arena (omega arith)

    word_6 : map_word g (marked a) 6 ≡ 0x40000006
    word_6 = word_here g good_5.inv.ok (zeroed_5 a) 6 0x40000006 (in-map 6 (omega arith)) good_5.inv.arena (omega arith)

    zeroes : (buffer : List ℕ) → length buffer ≡ 512 → read_of x.arena x.handle 5 buffer ≡ record { number = 0; buffer = replicate 512 0 }
    unfolding content_of fresh_figures
    zeroes buffer n = reads 5 (holds (replicate 512 0)) (rw word_5) buffer ∙ read_holds f (replicate 512 0) 5 buffer (omega arith) n

    bad-sector : (buffer : List ℕ) → length buffer ≡ 512 → read_of x.arena x.handle 6 buffer ≡ record { number = 15; buffer = buffer }
    unfolding content_of fresh_figures
    bad-sector buffer n = reads 6 bad (rw word_6) buffer ∙ read_bad f 6 buffer (omega arith) n

    pub read_by_flags : ReadByFlags d (marked a) work
    read_by_flags = record { opens = number; zeroes = zeroes; bad-sector = bad-sector }
