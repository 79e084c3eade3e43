-- What an opening that answers 0 found and gives. Where no rule applies but perhaps 5 and 21, the answer goes by what is lent alone; the handle
-- has the info block's figures, and its table each lane's record as its log has it.
use mathlib.Core.Path.{◌≡◌, ap, ◌∙◌}
use mathlib.Core.Logic.{◌≢◌}
use mathlib.Core.List.{List}
use mathlib.Core.Bool.{true, false, cond}
use Prim.Native.Nat.{ℕ, ◌≤◌, ◌<◌}
use native.Mathlib.Omega.{arith}
use lib.Dec.{eqb, ltb}
use lib.ListN.{length}
use borrow.Author.Tests.{ltb-false, le-ltb, not-false}
use Rattle.words.specs.Bytes.{Small}
use Rattle.layout.specs.Figures.{length_allowed}
use Rattle.layout.specs.Place.{Layout, layout_of}
use Rattle.layout.specs.Told.{distance_allowed}
use Rattle.format.specs.MapWord.{bad_word}
use Rattle.infoblock.specs.Info.{info_block_of, info_allowed, flags_allowed}
use Rattle.format.proofs.Tests.{or-false, every_intro, every_elim, some_intro, some_elim}
use Rattle.machine.specs.declared.lane.Lane.{Lane}
use Rattle.machine.specs.state.Handle.{Handle, lane_at}
use Rattle.machine.specs.state.Flog.{map_word}
use Rattle.machine.specs.Rules.{answer}
use Rattle.machine.specs.calls.Opening.{
  Extent,
  extent_of,
  few_records,
  Room,
  OpenRule,
  wrong_layout,
  wrong_length,
  no_info_block,
  forbidden_figure,
  flags_set,
  short_work,
  lost_lane,
  bad_words,
  sloppy_arena,
  not_valid,
  number_open,
  order_open,
  tests_open,
  lanes_lost,
  word_bad,
  sloppy,
  unsettled,
  figures_in,
  layout_in,
  lane_readable,
  two_pending,
  open_number,
  found_lane,
  handle_for,
  open_of,
}
use Rattle.machine.specs.claims.DemandTwo.{AllIdle}
use Rattle.machine.proofs.rules.Rules.{Passed, passed_all}
use Rattle.machine.proofs.invariant.Lanes.{filled-lane}
use Rattle.machine.proofs.invariant.Tidy.{tidy_of, of_tidy}
use Rattle.machine.proofs.opening.Described.{Described, described_layout, described_arena}
use Rattle.machine.proofs.opening.Ghosts.{Consistent}
use Rattle.layout.specs.declared.Told.{Told}
use Rattle.machine.specs.words.Valid.{RoomFor}

module _ (τ : Told) where
  -- no rule applies but perhaps 5 and 21, which are about what is lent
  pub record Opens (a : List ℕ) : Type 0 where
    pub info : Described τ a
    pub lanes : lanes_lost (layout_in τ a) a ≡ false
    pub words : word_bad (layout_in τ a) a ≡ false
    pub clean : sloppy (layout_in τ a) a ≡ false
    pub settled : unsettled (layout_in τ a) a ≡ false

-- rules 6 and 7 passed, lane by lane and word by word
pub lanes_pass : (g : Layout) (a : List ℕ) → lanes_lost g a ≡ false → (l : ℕ) → l < g.N → lane_readable g a l ≡ true
lanes_pass g a e = every_elim g.N (lane_readable g a) (not-false _ e)

pub words_pass : (g : Layout) (a : List ℕ) → word_bad g a ≡ false → (s : ℕ) → s < g.E → bad_word g.I (map_word g a s) ≡ false
words_pass g a = some_elim g.E (λ s. bad_word g.I (map_word g a s))

-- ---- what an accepted opening passed

pub some-number_open : (r : OpenRule) → number_open r ≢ 0
some-number_open wrong_layout e = omega arith
some-number_open wrong_length e = omega arith
some-number_open no_info_block e = omega arith
some-number_open forbidden_figure e = omega arith
some-number_open flags_set e = omega arith
some-number_open short_work e = omega arith
some-number_open few_records e = omega arith
some-number_open lost_lane e = omega arith
some-number_open bad_words e = omega arith
some-number_open sloppy_arena e = omega arith
some-number_open not_valid e = omega arith

-- room to work: a byte for each block and a record for each lane, or more
pub record Enough (τ : Told) (a : List ℕ) (room : Extent) : Type 0 where
  pub bytes : (layout_in τ a).I ≤ room.bytes
  pub records : (layout_in τ a).N ≤ room.records

pub enough_for : (τ : Told) (a : List ℕ) (room : Room) → RoomFor (figures_in a) room → Enough τ a (extent_of room)
unfolding layout_of
enough_for τ a room r = record { bytes = r.bytes; records = r.records }

pub room_for : (τ : Told) (a : List ℕ) (room : Room) → Enough τ a (extent_of room) → RoomFor (figures_in a) room
unfolding layout_of
room_for τ a room r = record { bytes = r.bytes; records = r.records }

pub record OpeningPassed (τ : Told) (a : List ℕ) (room : Extent) : Type 0 where
  pub layout : distance_allowed τ.distance ≡ true
  pub size : length_allowed (length a) ≡ true
  pub block : eqb (length (info_block_of a)) 0 ≡ false
  pub allowed : info_allowed τ (info_block_of a) (length a) ≡ true
  pub flags : flags_allowed (info_block_of a) ≡ true
  pub enough : Enough τ a room
  pub lanes : lanes_lost (layout_in τ a) a ≡ false
  pub words : word_bad (layout_in τ a) a ≡ false
  pub clean : sloppy (layout_in τ a) a ≡ false
  pub settled : unsettled (layout_in τ a) a ≡ false

opening_passed : (τ : Told) (a : List ℕ) (room : Extent) → Passed number_open (tests_open τ a room) order_open → OpeningPassed τ a room
opening_passed τ a room (p16, (p1, (p2, (p3, (p4, (p5, (p21, (p6, (p7, (p18, (p8, _))))))))))) = record {
  layout = not-false _ p16;
  size = not-false _ p1;
  block = p2;
  allowed = not-false _ p3;
  flags = not-false _ p4;
  enough = record { bytes = ltb-false _ _ p5; records = ltb-false _ _ p21 };
  lanes = p6;
  words = p7;
  clean = p18;
  settled = p8;
}

module _ (τ : Told) where
  module _ (a : List ℕ) (room : Extent) where
    pub open-number : Opens τ a → open_number τ a room ≡ cond (ltb room.bytes (layout_in τ a).I) 5 (cond (ltb room.records (layout_in τ a).N) 21 0)
    unfolding open_number answer
    open-number o = rw (o.info.layout, o.info.size, o.info.block, o.info.allowed, o.info.flags, o.lanes, o.words, o.clean, o.settled)

    pub zero_open : Opens τ a → Enough τ a room → open_number τ a room ≡ 0
    zero_open o h = open-number o ∙ rw (le-ltb room.bytes (layout_in τ a).I h.bytes, le-ltb room.records (layout_in τ a).N h.records)

    pub open_zero : open_number τ a room ≡ 0 → Opens τ a × Enough τ a room
    unfolding open_number
    open_zero e =
        let p = opening_passed τ a room (passed_all number_open some-number_open (tests_open τ a room) order_open e) in (
          record {
            info = record { layout = p.layout; size = p.size; block = p.block; allowed = p.allowed; flags = p.flags };
            lanes = p.lanes;
            words = p.words;
            clean = p.clean;
            settled = p.settled;
          },
          p.enough,
        )

  -- ---- what it gives

  pub handle_lane : (a : List ℕ) (table : List Lane) (l : ℕ) → l < (layout_in τ a).N → lane_at (handle_for τ a table).table l ≡ found_lane (layout_in τ a) a l
  unfolding handle_for
  handle_lane a table l u = filled-lane (layout_in τ a) a table l u

  module _ (a : List ℕ) (work : Room) (e : (open_of τ a work).number ≡ 0) where
    pub opened_handle : (open_of τ a work).handle ≡ handle_for τ a work.table
    unfolding open_of
    opened_handle = rw e

    pub opened_distance : (open_of τ a work).handle.distance ≡ τ.distance
    unfolding handle_for
    opened_distance = ap (λ (h : Handle). h.distance) opened_handle

    pub opened_figures : (open_of τ a work).handle.figures ≡ figures_in a
    unfolding handle_for
    opened_figures = ap (λ (h : Handle). h.figures) opened_handle

    pub opened-lane : (l : ℕ) → l < (layout_in τ a).N → lane_at (open_of τ a work).handle.table l ≡ found_lane (layout_in τ a) a l
    opened-lane l u = rw opened_handle (handle_lane a work.table l u)

    pub opened_idle : AllIdle (open_of τ a work).handle
    unfolding layout_of
    opened_idle l u = ap (λ (r : Lane). r.busy) (opened-lane l (rw opened_figures at u))

  pub opens_consistent : (a : List ℕ) → Opens τ a → Small a → Consistent (layout_in τ a) a
  opens_consistent a o small = let g = layout_in τ a in
      let p = or-false (two_pending g a) _ o.settled in
      record {
        ok = described_layout τ a o.info;
        arena = described_arena τ a o.info small;
        lanes = lanes_pass g a o.lanes;
        words = words_pass g a o.words;
        tidy = tidy_of g a o.clean;
        apart = p.0;
        once = not-false _ p.1;
      }

  pub consistent_opens : (a : List ℕ) → Described τ a → Consistent (layout_in τ a) a → Opens τ a
  consistent_opens a d j = let g = layout_in τ a in record {
    info = d;
    lanes = rw (every_intro g.N (lane_readable g a) j.lanes);
    words = some_intro g.E (λ s. bad_word g.I (map_word g a s)) j.words;
    clean = of_tidy g a j.tidy;
    settled = rw (j.apart, j.once);
  }
