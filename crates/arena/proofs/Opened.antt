-- An opening by what judging and mending gave: an accepted arena can be mended, and the mended one's lanes can be read and fill the table.
use mathlib.Core.Path.{◌≡◌, sym, ap, ◌∙◌, subst}
use Rattle.std.proofs.Common.{Ok, Err}
use mathlib.Core.Bool.{true, false}
use mathlib.Core.List.{List}
use Prim.Native.Nat.{ℕ, ◌≤◌}
use native.Mathlib.Omega.{arith}
use lib.Dec.{eqb}
use lib.ListN.{length, replicate, length-replicate}
use borrow.Author.Tests.{eqb-true, eqb-false}
use Rattle.words.specs.Bytes.{Small}
use Rattle.format.specs.MapWord.{bad_word}
use Rattle.format.proofs.Tests.{every_intro, some_intro}
use Rattle.layout.specs.Figures.{max_lanes}
use Rattle.layout.specs.Fit.{Fit}
use Rattle.layout.specs.Place.{layout_of}
use Rattle.layout.specs.declared.Figures.{Figures}
use Rattle.layout.specs.declared.Told.{Told}
use Rattle.machine.specs.declared.handle.Handle as bare
use Rattle.machine.specs.declared.lane.Lane.{Lane}
use Rattle.machine.specs.declared.refusal.Refusal.{Refusal}
use Rattle.machine.specs.state.Answer.{refusal_number}
use Rattle.machine.specs.state.Flog.{map_word}
use Rattle.machine.specs.state.Handle.{Handle, bare_of}
use Rattle.machine.specs.state.Lane.{no_lane}
use Rattle.machine.specs.calls.Opening.{
  Room,
  Extent,
  figures_in,
  layout_in,
  lane_readable,
  mends,
  mended,
  open_number,
  found_lanes,
  Opening,
  cut_open_of,
  open_of,
  handle_for,
}
use Rattle.machine.proofs.Refusals.{not_zero}
use Rattle.machine.proofs.stores.Stores.{put_all-length}
use Rattle.machine.proofs.opening.Ghosts.{Consistent}
use Rattle.machine.proofs.opening.Consistent.{consistent_kept, found_kept}
use Rattle.machine.proofs.opening.Opens.{Opens, Enough, open_zero, opens_consistent}
use Rattle.machine.proofs.invariant.Tidy.{of_tidy}
use Rattle.lanes.specs.Fit.{AllFit}
use Rattle.lanes.specs.Filled.{LanesFit, filled_by}
use Rattle.lanes.proofs.Lanes.{lane_fit}
use Rattle.judge.specs.Judge.{extent}
use Rattle.judge.proofs.Rules.{described_fit}
use Rattle.mend.specs.Mend.{Mendable}
use Rattle.arena.specs.Calls.{ForTable, cut_gave, OpenGives}
use Rattle.arena.proofs.Cut.{open_refused, open_done}

module _ (t : Told) (a : List ℕ) (room : Extent) (n : ℕ) (f : Figures) (e : n ≡ open_number t a room) (z : eqb n 0 ≡ true)
    (fe : f ≡ figures_in a) where
  passed : Opens t a × Enough t a room
  passed = open_zero t a room (sym e ∙ eqb-true n 0 z)

  pub figures_are : f ≡ figures_in a
  figures_are = fe

  fits : Fit t.distance f (length a)
  fits = rw figures_are (described_fit t a passed.0.info)

  -- the table is long enough
  pub few : f.lanes ≤ room.records
  unfolding layout_of
  few = rw figures_are passed.1.records

  pub mendable : Mendable t.distance f a
  mendable =
      let opens = passed.0 in
      record {
        all = record {
          fit = fits;
          lanes = rw figures_are opens.lanes;
          words = rw figures_are opens.words;
          clean = rw figures_are opens.clean;
        };
        settled = rw figures_are opens.settled;
      }

  -- the arena with every store made
  module _ (small : Small a) where
    judged : Consistent (layout_of t.distance f) a
    judged = rw figures_are (opens_consistent t a passed.0 small)

    after-length : length (mended (layout_of t.distance f) a) ≡ length a
    after-length = let g = layout_of t.distance f in put_all-length g (mends g a g.N) a

    all_fit : AllFit t.distance f (mended (layout_of t.distance f) a)
    all_fit =
        let g = layout_of t.distance f in
        let j = consistent_kept g a judged g.N (omega arith) in
        record {
          fit = subst (Fit t.distance f) (sym after-length) fits;
          lanes = rw (every_intro g.N (lane_readable g (mended g a)) j.lanes);
          words = some_intro g.E (λ s. bad_word g.I (map_word g (mended g a) s)) j.words;
          clean = of_tidy g (mended g a) j.tidy;
        }

    -- the handle of the mended arena, which fills a table with the lanes as they were found
    abbrev read : bare.Handle
    read = record { length = length (mended (layout_of t.distance f) a); distance = t.distance; figures = f }

    handle_is : (table : List Lane) → read ≡ bare_of (handle_for t a table)
    unfolding handle_for
    handle_is table = rw (after-length, figures_are)

    filled_is : (table : List Lane) → filled_by read (mended (layout_of t.distance f) a) table ≡ (handle_for t a table).table
    unfolding handle_for layout_of
    filled_is table =
        let g = layout_of t.distance f in
        rw (found_kept g a judged g.N (omega arith), figures_are)

-- an opening's result from that of the cut opening it goes through, which is told to make every store
module _ (t : Told) (a work after left : List ℕ) (records n count : ℕ)
    (c : ForTable work records (λ room. cut_gave n count after left room.table ≡ cut_open_of t a room max_lanes)) where
  abbrev given : List Lane → Room
  given table = record { work = work; table = table }

  -- some table of that length
  abbrev some-table : List Lane
  some-table = replicate records no_lane

  long : length some-table ≡ records
  long = length-replicate records no_lane

  number_is : n ≡ open_number t a (extent (length work) records)
  unfolding cut_open_of
  number_is = ap (λ (o : Opening). o.number) (c some-table long) ∙ ap (λ (m : ℕ). open_number t a (extent (length work) m)) long

  pub refuses : (r : Refusal) → n ≡ refusal_number r → count ≡ 0
      → ForTable work records (λ room. OpenGives (Err r) after left room.table (open_of t a room))
  unfolding found_lanes
  refuses r nr none table u =
      let z : eqb n 0 ≡ false = ap (λ (m : ℕ). eqb m 0) nr ∙ not_zero r in
      let p = c table u in
      let q = p ∙ open_refused t a (given table) max_lanes (λ y. eqb-false n 0 z (ap (λ (o : Opening). o.number) p ∙ y)) in
      record {
        number = sym nr ∙ ap (λ (o : Opening). o.number) q;
        mended = sym none ∙ ap (λ (o : Opening). o.mended) q;
        arena = ap (λ (o : Opening). o.arena) q;
        handle = ap (λ (o : Opening). bare_of o.handle) q;
        table = ap (λ (o : Opening). o.handle.table) q;
        work = ap (λ (o : Opening). o.work) q;
      }

  module _ (z : eqb n 0 ≡ true) (small : Small a) (f : Figures) (fe : f ≡ figures_in a) where
    abbrev room : Extent
    room = extent (length work) records

    -- with the handle
    abbrev opened : List Lane → Opening → Opening
    opened table o = record { number = o.number; mended = o.mended; arena = o.arena; handle = handle_for t a table; work = o.work }

    done : (table : List Lane) → length table ≡ records → opened table (cut_gave 0 count after left table) ≡ open_of t a (given table)
    done table u =
        let are = figures_are t a room n f number_is z fe in
        let m = mendable t a room n f number_is z fe in
        let most : (layout_in t a).N ≤ max_lanes = unfold layout_of in (rw are at m.all.fit.few) in
        let p : cut_gave 0 count after left table ≡ cut_open_of t a (given table) max_lanes = rw (eqb-true n 0 z) at (c table u) in
        ap (opened table) p ∙ open_done t a (given table) max_lanes (ap (λ (o : Opening). o.number) (sym p)) most

    after_is : after ≡ mended (layout_of t.distance f) a
    after_is = ap (λ (o : Opening). o.arena) (done some-table long) ∙ rw (figures_are t a room n f number_is z fe) mends_all
      where
        zero : open_number t a room ≡ 0
        zero = sym number_is ∙ eqb-true n 0 z

        mends_all : (open_of t a (given some-table)).arena ≡ mended (layout_in t a) a
        mends_all = unfold open_of in (rw (long, zero))

    -- the handle's lanes can be read off the flog, and the table has a record for each
    pub readable : (h : bare.Handle) → h ≡ record { length = length after; distance = t.distance; figures = f }
        → LanesFit h after × (h.figures.lanes ≤ records)
    readable h e =
        let fit : AllFit t.distance f after = rw after_is (all_fit t a room n f number_is z fe small) in
        rw e (lane_fit t.distance f after fit, few t a room n f number_is z fe)

    pub accepts : (h : bare.Handle) → h ≡ record { length = length after; distance = t.distance; figures = f }
        → ForTable work records (λ room. OpenGives (Ok (record { mended = count; handle = h })) after left room.table (open_of t a room))
    accepts h e table u =
        let q = done table u in
        let gave = ap (λ (o : Opening). o.handle) q in
        let r : h ≡ read t a room n f number_is z fe small = rw after_is at e in
        let l = filled_is t a room n f number_is z fe small table in
        record {
          number = ap (λ (o : Opening). o.number) q;
          mended = ap (λ (o : Opening). o.mended) q;
          arena = ap (λ (o : Opening). o.arena) q;
          handle = r ∙ handle_is t a room n f number_is z fe small table ∙ ap bare_of gave;
          table = rw (r, after_is) l ∙ ap (λ (k : Handle). k.table) gave;
          work = ap (λ (o : Opening). o.work) q;
        }
