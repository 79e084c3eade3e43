-- The arena with which a list begins, all lanes idle: each lane's record is what opening finds, mapped and free blocks are every block
-- once, and opening it again changes nothing.
use mathlib.Core.Path.{◌≡◌, refl, ap, ◌∙◌, subst}
use mathlib.Core.List.{List, []}
use mathlib.Core.Bool.{false}
use Prim.Native.Nat.{ℕ, ◌*◌, ◌≤◌, ◌<◌}
use native.Mathlib.Omega.{arith}
use lib.ListN.{replicate, length-replicate, drop_of_length-le}
use lib.Seq.{drop-nil}
use Rattle.format.specs.Sequence.{successor}
use Rattle.format.specs.MapWord.{bad_word}
use Rattle.layout.specs.Place.{Layout, LayoutOk, layout_of}
use Rattle.layout.specs.declared.Figures.{Figures}
use Rattle.machine.specs.declared.lane.Lane.{Lane}
use Rattle.machine.specs.state.Handle.{Handle, lane_at}
use Rattle.machine.specs.state.Lane.{idle_lane, no_lane, is_busy}
use Rattle.machine.specs.state.Flog.{map_word, map_block, newer_word, free_of}
use Rattle.machine.specs.calls.Opening.{Room, figures_in, layout_in, found_lane, handle_for, open_of}
use Rattle.machine.specs.words.Valid.{RoomFor}
use Rattle.machine.specs.claims.DemandTwo.{AllIdle}
use Rattle.machine.proofs.stores.Once.{Once, once_same}
use Rattle.machine.proofs.stores.Stores.{Arena}
use Rattle.machine.proofs.invariant.Inv.{LaneInv, Inv, block_in}
use Rattle.machine.proofs.opening.Found.{settled_lane, idle_ended, found-lane}
use Rattle.machine.proofs.opening.Opens.{opened_handle}
use Rattle.machine.proofs.invariant.Good.{good_number, idle_arena}
use Rattle.machine.proofs.calls.Running.{word_idle}
use Rattle.machine.proofs.invariant.Held.{Held, held_open, held_word, held_whole, lanes_out}
use Rattle.layout.specs.declared.Told.{Told}

idle_found : (g : Layout) (a : List ℕ) (l : ℕ) (r : Lane) → LaneInv g a l r → is_busy r ≡ false
    → found_lane g a l ≡ idle_lane r.block.0 r.half r.sequence.0
idle_found g a l r i f = found-lane g a l r i ∙ unfold settled_lane in (rw (idle_ended g a l r i f))

module _ (τ : Told) where
  pub record FirstArena (a : List ℕ) : Type 0 where
    pub ok : LayoutOk (layout_in τ a)
    pub whole : (figures_in a).size ≡ 4 * (layout_in τ a).W
    pub arena : Arena (layout_in τ a) a
    pub map_in : (s : ℕ) → s < (layout_in τ a).E → map_block (layout_in τ a) a s < (layout_in τ a).I
    pub free_in : (l : ℕ) → l < (layout_in τ a).N → free_of (layout_in τ a) a l < (layout_in τ a).I
    pub sequence-in : (l : ℕ) → l < (layout_in τ a).N → successor (newer_word (layout_in τ a) a l 3) ≤ 3
    pub once : Once (layout_in τ a).I (layout_in τ a).E (layout_in τ a).N (map_block (layout_in τ a) a) (free_of (layout_in τ a) a)
    -- the handle that opening it with a table of just the lanes gives
    pub handle : Held τ a (handle_for τ a [])

  -- an idle lane is as opening finds it
  pub record AsFound (a : List ℕ) (l : ℕ) (r : Lane) : Type 0 where
    pub idle : is_busy r ≡ false
    pub is : found_lane (layout_in τ a) a l ≡ idle_lane r.block.0 r.half r.sequence.0

module _ (τ : Told) where
  -- rule 7 does not apply to its map
  pub first_word : (a : List ℕ) → FirstArena τ a → (s : ℕ) → s < (figures_in a).sectors
      → bad_word (figures_in a).blocks (map_word (layout_in τ a) a s) ≡ false
  unfolding handle_for
  first_word a x s u = held_word τ a (handle_for τ a []) x.handle s u

  pub held_inv : (a : List ℕ) (h : Handle) → Held τ a h → Inv (layout_in τ a) a h.table
  held_inv a h k = rw (k.good.distance, k.good.figures) k.good.inv

  module _ (a : List ℕ) (h : Handle) (k : Held τ a h) (idle : AllIdle h) where
    pub first_found : (l : ℕ) → l < (layout_in τ a).N → AsFound τ a l (lane_at h.table l)
    first_found l u =
        let e = word_idle (lane_at h.table l) (idle l (lanes_out h.distance h.figures l (rw (k.good.distance, k.good.figures) at u))) in
        record { idle = e; is = idle_found (layout_in τ a) a l (lane_at h.table l) ((held_inv a h k).lane l u) e }

    -- a work buffer of just the blocks, and a table of just the lanes
    abbrev lent : Room
    lent = record { work = replicate (figures_in a).blocks 0; table = replicate (figures_in a).lanes no_lane }

    -- the handle that an opening with these gives has no record past the lanes
    none_past : handle_for τ a lent.table ≡ handle_for τ a []
    unfolding handle_for layout_of
    none_past = rw (drop_of_length-le lent.table {i = (figures_in a).lanes} (omega (arith, length-replicate (figures_in a).lanes no_lane)), drop-nil)

    -- opening it gives its handle and makes no store
    first_handle : Held τ a (handle_for τ a [])
    first_handle = go (good_number τ a h.distance h.figures h.table k.good lent room)
      where
        room : RoomFor h.figures lent
        room = subst (λ (f : Figures). RoomFor f lent) k.good.figures
            (record { bytes = omega (arith, length-replicate {A = ℕ} (figures_in a).blocks 0); records = omega (arith, length-replicate (figures_in a).lanes no_lane) })

        same : (open_of τ a lent).arena ≡ a
        same = idle_arena τ a h.distance h.figures h.table k.good lent room (λ l u. word_idle (lane_at h.table l) (idle l (lanes_out h.distance h.figures l u)))

        go : (open_of τ a lent).number ≡ 0 → Held τ a (handle_for τ a [])
        go e = rw (same, opened_handle τ a lent e, none_past) at (held_open τ a lent k.good.inv.arena.bytes.small e)

    pub first_arena : FirstArena τ a
    first_arena =
        let g = layout_in τ a in
        let i = held_inv a h k in
        record {
          ok = i.ok;
          whole = rw (k.good.distance, k.good.figures) (held_whole τ a h k);
          arena = i.arena;
          map_in = i.map_in;
          free_in = λ l u. rw (ap (λ (r : Lane). r.block.0) (first_found l u).is) (i.lane l u).block-in;
          sequence-in = λ l u. rw (ap (λ (r : Lane). r.sequence.0) (first_found l u).is) (i.lane l u).set_high;
          once = once_same g.I g.E g.N (map_block g a) (block_in h.table) (map_block g a) (free_of g a) (λ s u. refl)
              (λ l u. ap (λ (r : Lane). r.block.0) (first_found l u).is) i.once;
          handle = first_handle;
        }
