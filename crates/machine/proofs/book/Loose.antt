-- Stores that no record and no map word speaks of: into the free block of an idle lane, and sector, old and new of its next half, whatever
-- their values. They change neither what opening finds nor what a sector holds.
use mathlib.Core.Path.{◌≡◌, refl, sym, ap, ap₂, ◌∙◌}
use mathlib.Core.Logic.{◌≢◌}
use mathlib.Core.List.Memᴰ
use mathlib.Core.List.{List, [], ◌∷◌}
use mathlib.Core.Bool.{false}
use Prim.Native.Nat.{ℕ, ◌-◌, ◌<◌}
use native.Mathlib.Omega.{arith}
use Rattle.words.specs.Word.{word}
use Rattle.words.proofs.Laws.{length-put_word}
use Rattle.format.specs.MapWord.{block_of}
use Rattle.format.proofs.Tests.{true_false}
use Rattle.layout.specs.Place.{Layout, Place, InRange, in_data, in_map, in_flog, at, layout_of}
use Rattle.layout.specs.declared.Told.{Told}
use Rattle.layout.proofs.Place.{at_inj}
use Rattle.machine.specs.declared.lane.Lane.{Lane}
use Rattle.machine.specs.state.Lane.{is_busy}
use Rattle.machine.specs.state.Handle.{Handle, lane_at, laid_out}
use Rattle.machine.specs.state.Stores.{Store, stored, put_all}
use Rattle.machine.specs.state.Flog.{map_block, map_word}
use Rattle.machine.specs.calls.Opening.{figures_in, layout_in, found_lane}
use Rattle.machine.specs.calls.Reading.{read_of}
use Rattle.machine.specs.claims.DemandTwo.{AllIdle}
use Rattle.machine.proofs.stores.Members.{Each}
use Rattle.machine.proofs.stores.Once.{once_same, free_unmapped}
use Rattle.machine.proofs.stores.Stores.{elsewhere, stored_arena, word_miss}
use Rattle.machine.proofs.invariant.Inv.{LaneInv, Inv, block_in, before_frame}
use Rattle.machine.proofs.invariant.Tidy.{tidy_outside}
use Rattle.machine.proofs.invariant.Good.{good_stored}
use Rattle.machine.proofs.invariant.Held.{Held, held_whole, sectors_in, lanes_out}
use Rattle.machine.proofs.calls.Running.{word_idle}
use Rattle.machine.proofs.row.Contents.{content_kept}
use Rattle.machine.proofs.row.Reads.{read_same}
use Rattle.machine.proofs.book.FirstArena.{first_found}

module _ (g : Layout) (lanes : List Lane) where
  pub data Loose (st : Store) : Type 0 where
    in_block : (l k : ℕ) → l < g.N → k < g.W → st.place ≡ in_data (block_in lanes l) k → Loose st
    in_half : (l k : ℕ) → l < g.N → k < 3 → st.place ≡ in_flog l (lane_at lanes l).half k → Loose st

  module _ (a : List ℕ) (i : Inv g a lanes) (st : Store) where
    loose_range : Loose st → InRange g st.place
    loose_range (in_block l k u v e) = rw e ((i.lane l u).block-in, v)
    loose_range (in_half l k u v e) = rw e (u, (i.lane l u).half_in, omega arith)

    -- it is not in the map, in the newer half of a lane, or a sequence word
    not_map : Loose st → (s : ℕ) → in_map s ≢ st.place
    not_map (in_block l k u v e) s d = true_false (cc)
    not_map (in_half l k u v e) s d = true_false (cc)

    not_newer : Loose st → (j k : ℕ) → j < g.N → in_flog j (1 - (lane_at lanes j).half) k ≢ st.place
    not_newer (in_block l k u v e) j q w d = true_false (cc)
    not_newer (in_half l k u v e) j q w d =
        let p : j ≡ l = cc in
        let z : 1 - (lane_at lanes j).half ≡ (lane_at lanes l).half = cc in
        omega (arith, (rw p at z), (i.lane l u).half_in)

    not_sequence : Loose st → (j : ℕ) → in_flog j (lane_at lanes j).half 3 ≢ st.place
    not_sequence (in_block l k u v e) j d = true_false (cc)
    not_sequence (in_half l k u v e) j d = let z : 3 ≡ k = cc in omega arith

    -- nor in a block that is mapped
    not_mapped : Loose st → (s k : ℕ) → s < g.E → in_data (map_block g a s) k ≢ st.place
    not_mapped (in_block l k u v e) s q w d =
        free_unmapped g.I g.E g.N (map_block g a) (block_in lanes) i.once s l w u (i.lane l u).block-in (cc)
    not_mapped (in_half l k u v e) s q w d = true_false (cc)

    -- the invariant goes on, with all lanes idle
    loose_inv : Loose st → ((l : ℕ) → l < g.N → is_busy (lane_at lanes l) ≡ false) → Inv g (stored g st a) lanes
    loose_inv o idle = record {
      ok = i.ok;
      arena = stored_arena g i.ok a st i.arena;
      long = i.long;
      lane = λ l u. own l u (i.lane l u) (idle l u);
      apart = i.apart;
      once = once_same _ _ _ _ _ _ _ same_map (λ _ _. refl) i.once;
      map_in = λ s u. rw (same_map s u) (i.map_in s u);
      tidy = tidy_outside g i.ok a st (loose_range o) (not_map o) i.tidy;
    }
      where
        away : (p : Place) → InRange g p → p ≢ st.place → word (stored g st a) (at g p) ≡ word a (at g p)
        away p r n = elsewhere g i.ok a st.place p st.value (loose_range o) r n

        same_map : (s : ℕ) → s < g.E → map_block g (stored g st a) s ≡ map_block g a s
        same_map s u = ap (block_of s) (away (in_map s) u (not_map o s))

        own : (l : ℕ) → l < g.N → LaneInv g a l (lane_at lanes l) → is_busy (lane_at lanes l) ≡ false → LaneInv g (stored g st a) l (lane_at lanes l)
        own l u w t = record {
          busy_in = w.busy_in;
          block-in = w.block-in;
          half_in = w.half_in;
          set_low = w.set_low;
          set_high = w.set_high;
          sector-in = w.sector-in;
          old-in = w.old-in;
          made_in = w.made_in;
          still = w.still;
          mapped = λ b. true_false (sym b ∙ t);
          written = λ k c d. absurd (omega (arith, w.still t));
          before = λ c. before_frame g a (stored g st a) l _ _ _ w.half_in
              (λ k q. away (in_flog l (1 - (lane_at lanes l).half) k) (u, omega arith, q) (not_newer o l k u))
              (away (in_flog l (lane_at lanes l).half 3) (u, w.half_in, omega arith) (not_sequence o l)) (w.before c);
          after = λ e. absurd (omega (arith, w.still t));
        }

module _ (τ : Told) (h : Handle) (idle : AllIdle h) where
  -- a list of such stores
  pub loose_held : (ss : List Store) (a : List ℕ) → Held τ a h → Each (Loose (laid_out h) h.table) ss → Held τ (put_all (laid_out h) ss a) h
  unfolding put_all
  loose_held [] a k o = k
  loose_held (st ∷ ss) a k o = loose_held ss (stored (laid_out h) st a) one (λ su m. o su (Memᴰ.tail m))
    where
      i : Inv (laid_out h) a h.table
      i = k.good.inv

      is : Loose (laid_out h) h.table st
      is = o st (Memᴰ.head refl)

      one : Held τ (stored (laid_out h) st a) h
      one = record {
        size = k.size ∙ sym (length-put_word a (at (laid_out h) st.place) st.value);
        good = good_stored τ a h.distance h.figures h.table k.good st (loose_range (laid_out h) h.table a i st is) h.table
            (loose_inv (laid_out h) h.table a i st is (λ l u. word_idle (lane_at h.table l) (idle l (lanes_out h.distance h.figures l u))));
      }

  module _ (ss : List Store) (a : List ℕ) (k : Held τ a h) (o : Each (Loose (laid_out h) h.table) ss) where
    abbrev b : List ℕ
    b = put_all (laid_out h) ss a

    i : Inv (laid_out h) a h.table
    i = k.good.inv

    k' : Held τ b h
    k' = loose_held ss a k o

    layout_is : layout_in τ a ≡ laid_out h
    layout_is = ap₂ layout_of k.good.distance k.good.figures

    pub loose_figures : figures_in b ≡ figures_in a
    loose_figures = k'.good.figures ∙ sym k.good.figures

    -- a place at which there is none
    miss : (p : Place) → InRange (laid_out h) p → ((st : Store) → Loose (laid_out h) h.table st → p ≢ st.place)
        → word b (at (laid_out h) p) ≡ word a (at (laid_out h) p)
    miss p r n = word_miss (laid_out h) i.ok ss a (at (laid_out h) p)
        (λ st m e. n st (o st m) (at_inj (laid_out h) i.ok p st.place r (loose_range (laid_out h) h.table a i st (o st m)) (sym e)))

    same_word : (s : ℕ) → s < (laid_out h).E → map_word (laid_out h) b s ≡ map_word (laid_out h) a s
    same_word s u = miss (in_map s) u (λ st l. not_map (laid_out h) h.table a i st l s)

    pub loose_map : (s : ℕ) → s < (layout_in τ a).E → map_block (layout_in τ b) b s ≡ map_block (layout_in τ a) a s
    loose_map s u = rw (loose_figures, layout_is) (ap (block_of s) (same_word s (rw layout_is at u)))

    pub loose_found : (l : ℕ) → l < (layout_in τ a).N → found_lane (layout_in τ b) b l ≡ found_lane (layout_in τ a) a l
    loose_found l u = (first_found τ b h k' idle l (rw loose_figures u)).is ∙ sym (first_found τ a h k idle l u).is

    pub loose_read : (s : ℕ) (buffer : List ℕ) → read_of b h s buffer ≡ read_of a h s buffer
    loose_read s buffer = read_same τ a b h h k k' refl refl s buffer
        (λ u. let v = sectors_in h.distance h.figures s u in
        content_kept h.distance h.figures i.ok (held_whole τ a h k) a b i.arena k'.good.inv.arena s (i.map_in s v) (same_word s v)
        (λ j w. miss (in_data (map_block (laid_out h) a s) j) (i.map_in s v, w) (λ st l. not_mapped (laid_out h) h.table a i st l s j v)))
