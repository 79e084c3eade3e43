-- A valid arena that is mended for the lanes below n opens as it did: the same answer, the same arena in the end, the same handle. The
-- stores leave the info block alone, and what they leave to mend is the rest.
use mathlib.Core.Path.{◌≡◌, sym, ap, ◌∙◌}
use mathlib.Core.List.{List}
use mathlib.Core.Bool.{cond}
use Prim.Native.Nat.{ℕ, ◌≤◌}
use lib.Dec.{ltb}
use Rattle.words.specs.Bytes.{Small}
use Rattle.layout.specs.Place.{Layout, layout_of}
use Rattle.infoblock.specs.Info.{info_block_of, figures_of}
use Rattle.machine.specs.Rules.{answer}
use Rattle.machine.specs.state.Stores.{put_all}
use Rattle.machine.specs.calls.Opening.{Room, layout_in, mends, mended, open_number, work_after, handle_for, Extent}
use Rattle.machine.proofs.stores.Stores.{put_all-length}
use Rattle.machine.proofs.opening.Mends.{mends_arena, mends_fits}
use Rattle.machine.proofs.opening.Ghosts.{Consistent}
use Rattle.machine.proofs.opening.Consistent.{consistent_kept, mended_kept, found_kept}
use Rattle.machine.proofs.opening.Described.{described_same, info_kept}
use Rattle.machine.proofs.opening.Opens.{Opens, open-number, opens_consistent, consistent_opens}
use Rattle.layout.specs.declared.Told.{Told}
use Rattle.machine.specs.declared.lane.Lane.{Lane}

module _ (τ : Told) where
  module _ (a : List ℕ) (o : Opens τ a) (small : Small a) (n : ℕ) (few : n ≤ (layout_in τ a).N) where
    abbrev g : Layout
    g = layout_in τ a

    abbrev A : List ℕ
    A = put_all (layout_in τ a) (mends (layout_in τ a) a n) a

    judged : Consistent (layout_in τ a) a
    judged = opens_consistent τ a o small

    pub kept_info : info_block_of A ≡ info_block_of a
    kept_info = info_kept τ a o.info small (mends g a n) (λ st m. (mends_fits g judged.ok a judged.arena judged.lanes n few st m).range)

    pub kept_small : Small A
    kept_small = (mends_arena g judged.ok a judged.arena judged.lanes n).bytes.small

    pub kept_opens : Opens τ A
    kept_opens = consistent_opens τ A (described_same τ a A (put_all-length g (mends g a n) a) kept_info o.info) (rw kept_info (consistent_kept g a judged n few))

    pub kept_number : (room : Extent) → open_number τ A room ≡ open_number τ a room
    kept_number room =
        open-number τ A room kept_opens ∙ ap (λ (b : List ℕ). let g = layout_of τ.distance (figures_of b) in cond (ltb room.bytes g.I) 5 (cond (ltb room.records g.N) 21 0)) kept_info ∙ sym (open-number τ a room o)

    pub kept_mended : mended (layout_in τ A) A ≡ mended (layout_in τ a) a
    kept_mended = ap (λ (b : List ℕ). mended (layout_of τ.distance (figures_of b)) A) kept_info ∙ mended_kept g a judged n few

    pub kept_handle : (table : List Lane) → handle_for τ A table ≡ handle_for τ a table
    unfolding handle_for
    kept_handle table = rw (kept_info, put_all-length g (mends g a n) a, found_kept g a judged n few)

    pub kept_work : (work : Room) → work_after τ A work ≡ work_after τ a work
    unfolding work_after answer
    kept_work work = rw (kept_info, put_all-length g (mends g a n) a)
