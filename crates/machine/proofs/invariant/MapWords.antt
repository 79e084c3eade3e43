-- A map word that is replaced by another for the same block, and not a sloppy one, keeps the invariant: no sector's block changes, and no
-- word of a log.
use mathlib.Core.Path.{◌≡◌, refl, ap, ◌∙◌}
use mathlib.Core.Bool.{false}
use mathlib.Core.List.{List}
use Prim.Native.Nat.{ℕ, ◌<◌}
use native.Mathlib.Decide.{ℕ_discrete}
use Rattle.format.specs.MapWord.{block_of, sloppy_word}
use Rattle.layout.specs.Place.{Layout, layout_of}
use Rattle.layout.specs.declared.Figures.{Figures}
use Rattle.layout.specs.declared.Told.{Told}
use Rattle.machine.specs.declared.lane.Lane.{Lane}
use Rattle.machine.specs.state.Handle.{lane_at}
use Rattle.machine.specs.state.Stores.{stored}
use Rattle.machine.specs.state.Flog.{map_block}
use Rattle.machine.proofs.stores.Once.{once_same}
use Rattle.machine.proofs.stores.Stores.{stored_arena}
use Rattle.machine.proofs.stores.MapStores.{word_store, word_flog, word_other, word_here}
use Rattle.machine.proofs.invariant.Tidy.{tidy_word}
use Rattle.machine.proofs.invariant.Inv.{Inv, lane_frame}
use Rattle.machine.proofs.invariant.Good.{Good, good_stored}

module _ (g : Layout) (a : List ℕ) (lanes : List Lane) (i : Inv g a lanes) (s w : ℕ) (u : s < g.E) (small : w < 4294967296)
    (same : block_of s w ≡ map_block g a s) (clean : sloppy_word w ≡ false) where
  block_same : (t : ℕ) → t < g.E → map_block g (stored g (word_store s w) a) t ≡ map_block g a t
  block_same t v = go (ℕ_discrete t s)
    where
      go : Dec (t ≡ s) → map_block g (stored g (word_store s w) a) t ≡ map_block g a t
      go (yes e) = rw e (ap (block_of s) (word_here g i.ok a s w u i.arena small) ∙ same)
      go (no n) = ap (block_of t) (word_other g i.ok a s w u t v n)

  word_inv : Inv g (stored g (word_store s w) a) lanes
  word_inv = record {
    ok = i.ok;
    arena = stored_arena g i.ok a (word_store s w) i.arena;
    long = i.long;
    lane = λ l v. lane_frame g a (stored g (word_store s w) a) l (λ h k. word_flog g i.ok a s w u l h k v) (lane_at lanes l)
        (λ _. block_same (lane_at lanes l).sector.0 (i.lane l v).sector-in) (i.lane l v);
    apart = i.apart;
    once = once_same _ _ _ _ _ _ _ block_same (λ l _. refl) i.once;
    map_in = λ t v. rw (block_same t v) (i.map_in t v);
    tidy = tidy_word g i.ok a i.arena s w u small clean i.tidy;
  }

pub word_good : (τ : Told) (a : List ℕ) (d : ℕ) (f : Figures) (lanes : List Lane) → Good τ a d f lanes
    → (s w : ℕ) → s < (layout_of d f).E → w < 4294967296 → block_of s w ≡ map_block (layout_of d f) a s → sloppy_word w ≡ false
    → Good τ (stored (layout_of d f) (word_store s w) a) d f lanes
word_good τ a d f lanes k s w u small same clean =
    good_stored τ a d f lanes k (word_store s w) u lanes (word_inv (layout_of d f) a lanes k.inv s w u small same clean)
