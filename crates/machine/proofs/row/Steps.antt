-- A start and a step leave what the row leaves. A data word goes to the lane's new block, which no sector is mapped to and no other
-- lane has; a word of the log touches no block and no map word; the map word makes the new block, then filled, the sector's.
use mathlib.Core.Path.{◌≡◌, refl, sym, ap, ◌∙◌}
use mathlib.Core.Logic.{◌≢◌}
use mathlib.Core.List.{List, []}
use mathlib.Core.Bool.{true, cond}
use Prim.Native.Nat.{ℕ, ◌+◌, ◌*◌, ◌/◌, ◌≤◌, ◌<◌}
use native.Mathlib.Omega.{arith}
use native.Mathlib.Decide.{ℕ_discrete, dec_lt}
use lib.Dec.{eqb}
use lib.ListN.{length, set}
use borrow.Author.Tests.{eq-eqb, ne_eqb}
use Rattle.words.specs.Word.{word}
use Rattle.words.proofs.Laws.{word_lt}
use Rattle.words.specs.Bytes.{Small}
use Rattle.format.proofs.Below.{below_nil}
use Rattle.format.proofs.Tests.{true_false}
use Rattle.layout.specs.Place.{Layout, layout_of, Place, in_data, in_map, in_flog, InRange, at}
use Rattle.layout.specs.declared.Figures.{Figures}
use Rattle.machine.specs.declared.lane.Lane.{Lane}
use Rattle.machine.specs.state.Handle.{Handle, lane_at, with_lane, laid_out}
use Rattle.machine.specs.state.Lane.{started_lane, stored_lane, finished_lane, is_busy}
use Rattle.machine.specs.state.Stores.{Store, stored}
use Rattle.machine.specs.state.Flog.{map_block}
use Rattle.machine.specs.calls.Writing.{plan_of, store_at, lane_stored}
use Rattle.machine.specs.models.Row.{Sector, holds, Flight, idle, flying, Row, put, stores_of, word_by_word, stepped}
use Rattle.machine.proofs.stores.Once.{free_unmapped, free-apart}
use Rattle.machine.proofs.stores.Stores.{Fits, elsewhere, stored-word, stored_arena}
use Rattle.machine.proofs.invariant.Inv.{Inv, block_in, lane_same, lane_other}
use Rattle.machine.proofs.stores.MapStores.{map_fits}
use Rattle.machine.proofs.invariant.Finish.{final_store}
use Rattle.machine.proofs.opening.Found.{last_next}
use Rattle.machine.proofs.stores.Kinds.{Kind, is_data, is_log, is_map, kind}
use Rattle.machine.proofs.invariant.Steps.{stored_more, stored_last}
use Rattle.machine.proofs.invariant.Held.{Held, held_whole}
use Rattle.machine.proofs.row.Contents.{content_of, Filled, content_kept, content_mapped}
use Rattle.machine.proofs.row.State.{Lent, LaneAs, Rep}
use Rattle.machine.proofs.row.Words.{kept_small, kept_old, kept_new, kept_length, kept_done}
use Rattle.layout.specs.declared.Told.{Told}

-- the last store of a write, in the row's words and in the layout's
pub last_store : (d : ℕ) (f : Figures) (n : ℕ) → eqb (n + 1) (stores_of f) ≡ eqb n ((layout_of d f).W + 4)
unfolding layout_of
last_store d f n = last_next n (f.size / 4)

-- a lane whose new block has not changed
lane_as : (d : ℕ) (f : Figures) (a a' : List ℕ) (r : Lane) (y : Flight)
    → ((k : ℕ) → k < (layout_of d f).W → word a' (at (layout_of d f) (in_data r.block.0 k)) ≡ word a (at (layout_of d f) (in_data r.block.0 k)))
    → LaneAs d f a r y → LaneAs d f a' r y
lane_as d f a a' r y e w = record {
  bytes = w.bytes;
  is = w.is;
  lent = λ b. let t = w.lent b in record { small = t.small; part = t.part; full = t.full; words = λ k c v. e k v ∙ t.words k c v };
}

module _ (τ : Told) where
  module _ (row : Row) (a : List ℕ) (h : Handle) (k : Rep τ row a h) (l : ℕ) (u : l < (laid_out h).N) where
    abbrev g : Layout
    g = laid_out h

    abbrev r : Lane
    r = lane_at h.table l

    i : Inv g a h.table
    i = k.held.good.inv

    -- one record replaced, and one lane of the row
    lanes_put : (a' : List ℕ) (q : Lane) (y : Flight) → LaneAs h.distance h.figures a' q y
        → ((j : ℕ) → j < g.N → j ≢ l → LaneAs h.distance h.figures a' (lane_at h.table j) (row.lane j))
        → (j : ℕ) → j < g.N → LaneAs h.distance h.figures a' (lane_at (set h.table l q) j) (put row.lane l y j)
    lanes_put a' q y own others j v = go (ℕ_discrete j l)
      where
        go : Dec (j ≡ l) → LaneAs h.distance h.figures a' (lane_at (set h.table l q) j) (put row.lane l y j)
        go (yes e) = rw (e, eq-eqb l l refl, lane_same h.table l q (omega (arith, i.long))) own
        go (no n) = rw (ne_eqb j l n, lane_other h.table l q j n) (others j v n)

    -- an accepted start stores nothing
    pub started : (s : ℕ) → Held τ a (with_lane h l (started_lane r s (map_block g a s)))
        → Rep τ (record { sector = row.sector; lane = put row.lane l (flying s 0 []) }) a (with_lane h l (started_lane r s (map_block g a s)))
    started s d = record {
      held = d;
      lane = lanes_put a (started_lane r s (map_block g a s)) (flying s 0 [])
          (record { bytes = []; is = refl; lent = λ _. begun }) (λ j v _. k.lane j v);
      sector = k.sector;
    }
      where
        begun : Lent h.distance h.figures a (started_lane r s (map_block g a s)) []
        begun = record {
          small = below_nil 256 (omega arith);
          part = λ _. refl;
          full = λ v. omega (arith, held_whole τ a h k.held);
          words = λ x c _. absurd (omega arith);
        }

    -- an accepted step: the store st, the record q, and the lane and the sectors of the row after it
    module _ (st : Store) (range : InRange g st.place) where
      same_word : (p : Place) → InRange g p → p ≢ st.place → word (stored g st a) (at g p) ≡ word a (at g p)
      same_word p = elsewhere g i.ok a st.place p st.value range

      moved : (q : Lane) (y : Flight) (sectors : ℕ → Sector) → Held τ (stored g st a) (with_lane h l q) → LaneAs h.distance h.figures (stored g st a) q y
          → ((j n : ℕ) → j < g.N → j ≢ l → in_data (lane_at h.table j).block.0 n ≢ st.place)
          → ((s : ℕ) → s < g.E → sectors s ≡ content_of h.distance h.figures (stored g st a) s)
          → Rep τ (record { sector = sectors; lane = put row.lane l y }) (stored g st a) (with_lane h l q)
      moved q y sectors d own away same = record {
        held = d;
        lane = lanes_put (stored g st a) q y own
            (λ j v n. lane_as h.distance h.figures a (stored g st a) (lane_at h.table j) (row.lane j)
            (λ m c. same_word (in_data (lane_at h.table j).block.0 m) ((i.lane j v).block-in, c) (away j m v n)) (k.lane j v));
        sector = same;
      }

      -- a sector of which the store is in neither map word nor block
      kept : (s : ℕ) → s < g.E → in_map s ≢ st.place → ((n : ℕ) → in_data (map_block g a s) n ≢ st.place)
          → row.sector s ≡ content_of h.distance h.figures (stored g st a) s
      kept s v nm nd =
          k.sector s v
          ∙ sym (content_kept h.distance h.figures i.ok (held_whole τ a h k.held) a (stored g st a) i.arena (stored_arena g i.ok a st i.arena) s
          (i.map_in s v) (same_word (in_map s) v nm) (λ n c. same_word (in_data (map_block g a s) n) (i.map_in s v, c) (nd n)))

      -- the words of the lane's new block: the first m, where the store is not, and those from m on
      filled : (buffer : List ℕ) (m n : ℕ) → Filled g a r.block.0 buffer m
          → ((x : ℕ) → m ≤ x → x < n → x < g.W → word (stored g st a) (at g (in_data r.block.0 x)) ≡ word buffer x)
          → ((x : ℕ) → x < m → in_data r.block.0 x ≢ st.place) → Filled g (stored g st a) r.block.0 buffer n
      filled buffer m n old new away x c d = go (dec_lt x m)
        where
          go : Dec (x < m) → word (stored g st a) (at g (in_data r.block.0 x)) ≡ word buffer x
          go (yes e) = same_word (in_data r.block.0 x) ((i.lane l u).block-in, d) (away x e) ∙ old x e d
          go (no e) = new x (omega arith) c d

    -- ---- the stores of an accepted step

    module _ (b : is_busy r ≡ true) (buffer : List ℕ) (small : Small buffer) (size : length buffer ≡ h.figures.size) where
      -- what the write had before the step, and what it keeps after it
      abbrev had : List ℕ
      had = (k.lane l u).bytes

      abbrev bytes : List ℕ
      bytes = word_by_word h.figures r.made had buffer

      flight : row.lane l ≡ flying r.sector.0 r.made had
      flight = (k.lane l u).is ∙ rw b

      lent : Lent h.distance h.figures a r had
      lent = (k.lane l u).lent b

      -- the words stored so far stay
      so_far : Filled g a r.block.0 bytes r.made
      unfolding layout_of
      so_far x c d = lent.words x c d ∙ sym (kept_old h.figures r.made had buffer (λ v. lent.part (omega arith)) x c)

      bytes_small : Small bytes
      bytes_small = kept_small h.figures r.made had buffer lent.small small

      part : r.made + 1 ≤ g.W → length bytes ≡ 4 * (r.made + 1)
      unfolding layout_of
      part v = kept_length h.figures r.made had buffer (omega arith) (lent.part (omega arith)) size

      done : g.W ≤ r.made → bytes ≡ had
      unfolding layout_of
      done v = kept_done h.figures r.made had buffer (omega arith)

      full : g.W ≤ r.made + 1 → length bytes ≡ h.figures.size
      full v = go (dec_lt r.made g.W)
        where
          go : Dec (r.made < g.W) → length bytes ≡ h.figures.size
          go (yes c) = omega (arith, part (omega arith), held_whole τ a h k.held)
          go (no c) = ap length (done (omega arith)) ∙ lent.full (omega arith)

      -- one store more, not the last
      more : (a' : List ℕ) → Filled g a' r.block.0 bytes (r.made + 1)
          → LaneAs h.distance h.figures a' (stored_lane r) (flying r.sector.0 (r.made + 1) bytes)
      more a' w = record { bytes = bytes; is = rw b; lent = λ _. record { small = bytes_small; part = part; full = full; words = w } }

      abbrev Next : Row
      Next = record { sector = row.sector; lane = put row.lane l (flying r.sector.0 (r.made + 1) bytes) }

      abbrev After : Store → Lane → Row → Type 0
      After st q next = Held τ (stored g st a) (with_lane h l q) → Rep τ next (stored g st a) (with_lane h l q)

      data_step : r.made < g.W → After (record { place = in_data r.block.0 r.made; value = word buffer r.made }) (stored_lane r) Next
      data_step c d =
          moved st fits.range _ _ row.sector d
          (more _ (filled st fits.range bytes r.made (r.made + 1) so_far here (λ x v e. omega (arith, word_no e)))) others
          (λ s v. kept st fits.range s v (λ e. true_false (cc)) (λ n e. unmapped s v (block_no e)))
        where
          st : Store
          st = record { place = in_data r.block.0 r.made; value = word buffer r.made }

          fits : Fits g st
          fits = record { range = ((i.lane l u).block-in, c); small = word_lt buffer r.made small }

          added : word bytes r.made ≡ word buffer r.made
          added = unfold layout_of in (kept_new h.figures r.made had buffer c (lent.part (omega arith)))

          block_no : {x y x' y' : ℕ} → in_data x y ≡ in_data x' y' → x ≡ x'
          block_no e = cc

          word_no : {x y x' y' : ℕ} → in_data x y ≡ in_data x' y' → y ≡ y'
          word_no e = cc

          here : (x : ℕ) → r.made ≤ x → x < r.made + 1 → x < g.W → word (stored g st a) (at g (in_data r.block.0 x)) ≡ word bytes x
          here x v w _ = let e : x ≡ r.made = omega arith in rw e (stored-word g i.ok a st i.arena fits ∙ sym added)

          others : (j n : ℕ) → j < g.N → j ≢ l → in_data (lane_at h.table j).block.0 n ≢ st.place
          others j n v d e =
              free-apart g.I g.E g.N (map_block g a) (block_in h.table) i.once j l v u (i.lane j v).block-in d (block_no e)

          unmapped : (s : ℕ) → s < g.E → map_block g a s ≢ r.block.0
          unmapped s v = free_unmapped g.I g.E g.N (map_block g a) (block_in h.table) i.once s l v u (i.lane l u).block-in

      flog_step : (j v : ℕ) → j < 4 → r.made ≡ g.W + j → After (record { place = in_flog l r.half j; value = v }) (stored_lane r) Next
      flog_step j v c m d =
          moved st range _ _ row.sector d
          (more _ (filled st range bytes _ _ so_far (λ x p q w. absurd (omega arith)) (λ x _. no_block _ x))) (λ x n _ _. no_block _ n)
          (λ s w. kept st range s w (λ e. true_false (cc)) (no_block _))
        where
          st : Store
          st = record { place = in_flog l r.half j; value = v }

          range : InRange g (in_flog l r.half j)
          range = (u, (i.lane l u).half_in, c)

          no_block : (x y : ℕ) → in_data x y ≢ in_flog l r.half j
          no_block x y e = true_false (cc)

      -- the last store: the sector holds what was kept, and the lane is idle
      abbrev Landed : Row
      Landed = record { sector = put row.sector r.sector.0 (holds bytes); lane = put row.lane l idle }

      map_step : r.made ≡ g.W + 4 → After (final_store r) (finished_lane r) Landed
      map_step m d =
          moved st fits.range _ idle (put row.sector s (holds bytes)) d (record { bytes = []; is = refl; lent = λ e. true_false (sym e) })
          (λ x n _ _. no_block _ n) (λ t v. content t v (ℕ_discrete t s))
        where
          s : ℕ
          s = r.sector.0

          st : Store
          st = final_store r

          fits : Fits g (final_store r)
          fits = map_fits g i.ok a i.arena _ _ (i.lane l u).sector-in (i.lane l u).block-in

          no_block : (x y : ℕ) → in_data x y ≢ in_map r.sector.0
          no_block x y e = true_false (cc)

          content : (t : ℕ) → t < g.E → Dec (t ≡ r.sector.0)
              → put row.sector r.sector.0 (holds bytes) t ≡ content_of h.distance h.figures (stored g (final_store r) a) t
          content t v (yes e) = rw (e, eq-eqb s s refl)
              (sym (content_mapped h.distance h.figures i.ok (held_whole τ a h k.held) _ (stored_arena g i.ok a st i.arena) s
              r.block.0 (i.lane l u).block-in (stored-word g i.ok a st i.arena fits) bytes bytes_small (full (omega arith))
              (filled st fits.range bytes _ _ so_far (λ x p q w. absurd (omega arith)) (λ x _. no_block _ x))))
          content t v (no n) = rw (ne_eqb t s n) (kept st fits.range t v (λ e. n (cc)) (no_block _))

      -- any store
      pub step_any : After (store_at g (plan_of l r) buffer r.made) (lane_stored g r) (stepped word_by_word h.figures row l buffer (row.lane l))
      step_any = rw (flight, last_store h.distance h.figures r.made) (go (kind g (plan_of l r) buffer r.made (i.lane l u).made_in))
        where
          go : Kind g (plan_of l r) buffer r.made
              → After (store_at g (plan_of l r) buffer r.made) (lane_stored g r) (cond (eqb r.made (g.W + 4)) Landed Next)
          go (is_data c e) = rw (e, stored_more g r (λ x. omega arith), ne_eqb r.made (g.W + 4) (λ x. omega arith)) (data_step c)
          go (is_log j c m e) = rw (e, stored_more g r (λ x. omega arith), ne_eqb r.made (g.W + 4) (λ x. omega arith)) (flog_step j _ c m)
          go (is_map m e) = rw (e, stored_last g r (omega arith), eq-eqb r.made _ m) (map_step m)
