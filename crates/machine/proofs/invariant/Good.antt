-- An arena with the records of its handle, as opening gives them and as every store of a write keeps them: rules 1 to 4 pass,
-- the figures are the handle's, and the invariant holds. Such an arena opens, and opening it ends the writes that lack only their map
-- word; with every lane idle it stores nothing.
use mathlib.Core.Path.{◌≡◌, refl, sym, ap, ap₂, ◌∙◌, subst}
use mathlib.Core.List.{List, [], ◌∷◌}
use mathlib.Core.Bool.{true, false}
use Prim.Native.Nat.{ℕ, ◌+◌, ◌≤◌, ◌<◌}
use native.Mathlib.Omega.{arith}
use lib.ListN.{length}
use borrow.Author.Tests.{lt-ltb}
use Rattle.words.proofs.Laws.{length-put_word}
use Rattle.words.specs.Bytes.{Small}
use Rattle.layout.specs.Figures.{figures_allowed}
use Rattle.layout.specs.Place.{Layout, layout_of, InRange, at}
use Rattle.infoblock.specs.Info.{info_block_of, header_allowed, figures_of}
use Rattle.layout.specs.declared.Figures.{Figures}
use Rattle.format.proofs.Tests.{and_elim}
use Rattle.machine.specs.declared.lane.Lane.{Lane}
use Rattle.machine.specs.state.Lane.{lane_allowed, is_busy}
use Rattle.machine.specs.state.Handle.{lane_at}
use Rattle.machine.specs.state.Stores.{Store, stored, put_all}
use Rattle.machine.specs.calls.Opening.{Room, figures_in, layout_in, open_of, handle_for, extent_of}
use Rattle.machine.proofs.stores.Members.{each_one}
use Rattle.machine.proofs.stores.Stores.{put_all_one, put_all-none}
use Rattle.machine.proofs.invariant.Inv.{LaneInv, Inv}
use Rattle.machine.proofs.opening.Found.{finals, finals-none, idle_ended, mends_are}
use Rattle.machine.proofs.opening.Mends.{length-mends}
use Rattle.machine.proofs.opening.Ghosts.{opened_inv}
use Rattle.machine.proofs.opening.Consistent.{inv_consistent}
use Rattle.machine.proofs.opening.Described.{Described, described_same, info_kept}
use Rattle.machine.proofs.opening.Opens.{Opens, open_zero, zero_open, opens_consistent, consistent_opens, enough_for}
use Rattle.machine.proofs.opening.Kept.{kept_info, kept_opens}
use Rattle.machine.proofs.calls.Rule16.{lane_last}
use Rattle.layout.specs.declared.Told.{Told}
use Rattle.machine.specs.words.Valid.{RoomFor}

-- ---- rule 16 does not apply

pub lane-allowed : (g : Layout) (a : List ℕ) (l : ℕ) (r : Lane) → LaneInv g a l r → lane_allowed g r ≡ true
lane-allowed g a l r i =
    sym (lane_last g r i.block-in i.old-in i.half_in i.set_low i.set_high i.sector-in i.busy_in) ∙ lt-ltb r.made (g.W + 5) i.made_in

module _ (τ : Told) where
  pub record Good (a : List ℕ) (d : ℕ) (f : Figures) (lanes : List Lane) : Type 0 where
    pub info : Described τ a
    pub distance : τ.distance ≡ d
    pub figures : figures_in a ≡ f
    pub inv : Inv (layout_of d f) a lanes

module _ (τ : Told) where
  module _ (a : List ℕ) (d : ℕ) (f : Figures) (lanes : List Lane) (k : Good τ a d f lanes) where
    pub good_figures : figures_allowed f (length a) ≡ true
    good_figures = rw k.figures at (and_elim (header_allowed τ.next (info_block_of a)) (figures_allowed (figures_in a) (length a)) k.info.allowed).1

    -- a store at a place leaves the info blocks alone
    good_info : (st : Store) → InRange (layout_of d f) st.place → info_block_of (stored (layout_of d f) st a) ≡ info_block_of a
    good_info st = subst (λ (g : Layout). InRange g st.place → info_block_of (stored g st a) ≡ info_block_of a) (ap₂ layout_of k.distance k.figures) kept
      where
        kept : InRange (layout_in τ a) st.place → info_block_of (stored (layout_in τ a) st a) ≡ info_block_of a
        kept r = rw (put_all_one (layout_in τ a) [] st a, put_all-none) at
            (info_kept τ a k.info k.inv.arena.bytes.small (st ∷ []) (each_one (λ (su : Store). InRange (layout_in τ a) su.place) st r))

    pub good_stored : (st : Store) → InRange (layout_of d f) st.place → (lanes' : List Lane) → Inv (layout_of d f) (stored (layout_of d f) st a) lanes'
        → Good τ (stored (layout_of d f) st a) d f lanes'
    good_stored st r lanes' i = record {
      info = described_same τ a (stored (layout_of d f) st a) (length-put_word a (at (layout_of d f) st.place) st.value) (good_info st r) k.info;
      distance = k.distance;
      figures = ap figures_of (good_info st r) ∙ k.figures;
      inv = i;
    }

    -- ---- opening it

    pub good_opens : Opens τ a
    good_opens = consistent_opens τ a k.info (rw (k.distance, k.figures) (inv_consistent (layout_of d f) a lanes k.inv))

    module _ (work : Room) (room : RoomFor f work) where
      pub good_number : (open_of τ a work).number ≡ 0
      unfolding open_of
      good_number = zero_open τ a (extent_of work) good_opens (enough_for τ a work (rw k.figures room))

      pub good_arena : (open_of τ a work).arena ≡ put_all (layout_of d f) (finals (layout_of d f) lanes (layout_of d f).N) a
      unfolding open_of
      good_arena = rw (good_number, k.distance, k.figures)
          (ap (λ (x : List Store). put_all (layout_of d f) x a) (mends_are (layout_of d f) a lanes k.inv (layout_of d f).N (omega arith)))

      pub good_count : (open_of τ a work).mended ≡ length (finals (layout_of d f) lanes (layout_of d f).N)
      unfolding open_of
      good_count = rw (good_number, k.distance, k.figures)
          (sym (length-mends (layout_of d f) a (layout_of d f).N) ∙ ap length (mends_are (layout_of d f) a lanes k.inv (layout_of d f).N (omega arith)))

      -- with every lane idle it makes no store
      module _ (idle : (l : ℕ) → l < (layout_of d f).N → is_busy (lane_at lanes l) ≡ false) where
        none : finals (layout_of d f) lanes (layout_of d f).N ≡ []
        none = finals-none (layout_of d f) lanes (layout_of d f).N (λ l u. idle_ended (layout_of d f) a l (lane_at lanes l) (k.inv.lane l u) (idle l u))

        pub idle_arena : (open_of τ a work).arena ≡ a
        idle_arena = good_arena ∙ ap (λ (ss : List Store). put_all (layout_of d f) ss a) none ∙ put_all-none (layout_of d f) a

        pub idle_count : (open_of τ a work).mended ≡ 0
        idle_count = good_count ∙ ap length none

  -- what an accepted opening gives
  pub good_open : (a : List ℕ) (work : Room) → Small a → (open_of τ a work).number ≡ 0
      → Good τ (open_of τ a work).arena (open_of τ a work).handle.distance (open_of τ a work).handle.figures (open_of τ a work).handle.table
  unfolding open_of handle_for
  good_open a work small e =
      let o = (open_zero τ a (extent_of work) e).0 in
      let g = layout_in τ a in
      let all : g.N ≤ g.N = omega arith in
      rw e
      (record {
        info = (kept_opens τ a o small g.N all).info;
        distance = refl;
        figures = ap figures_of (kept_info τ a o small g.N all);
        inv = opened_inv g a (opens_consistent τ a o small) work.table (open_zero τ a (extent_of work) e).1.records;
      })
