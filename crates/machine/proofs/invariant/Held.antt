-- What every call through a good handle keeps, accepted or refused: start, step and whole write leave an arena and a handle that are
-- good again. Rules 16, 21, 7 and 18 never apply to such a handle.
use mathlib.Core.Path.{◌≡◌, refl, sym, ◌∙◌}
use mathlib.Core.Logic.{◌≢◌}
use mathlib.Core.List.{List}
use mathlib.Core.Bool.{Bool, true, false, cond, ◌&&◌}
use Prim.Native.Nat.{ℕ, zero, suc, ◌*◌, ◌<◌, ◌≤◌}
use native.Mathlib.Omega.{arith}
use lib.Dec.{eqb}
use lib.ListN.{length}
use borrow.Author.Tests.{eqb-true, eq-eqb, le-ltb}
use Rattle.words.proofs.Laws.{length-put_word}
use Rattle.words.specs.Bytes.{Small}
use Rattle.format.specs.MapWord.{bad_word, sloppy_word}
use Rattle.format.proofs.Tests.{true_false, and_intro, every_intro, some_elim}
use Rattle.format.proofs.MapWord.{bad_word_false}
use Rattle.layout.specs.Place.{layout_of, at}
use Rattle.layout.specs.declared.Figures.{Figures}
use Rattle.layout.proofs.Allowed.{allowed_of, size_words}
use Rattle.machine.specs.declared.lane.Lane.{Lane}
use Rattle.machine.specs.state.Handle.{Handle, bare_of, lane_at, handle_allowed, records_allowed, with_lane, laid_out, table_short}
use Rattle.machine.specs.state.Lane.{lane_allowed, started_lane, write_stores, is_busy}
use Rattle.machine.specs.state.Stores.{Store, stored}
use Rattle.machine.specs.state.Flog.{map_word, map_block}
use Rattle.machine.specs.calls.Opening.{Room, open_of, handle_for, layout_in, mends}
use Rattle.machine.specs.calls.Judging.{in_flight}
use Rattle.machine.specs.calls.Writing.{
  plan_of,
  store_at,
  lane_stored,
  Outcome,
  start_number,
  start_of,
  step_number,
  step_of,
  steps_of,
  write_number,
  write_of,
}
use Rattle.machine.proofs.calls.Accepted.{start_found, step_found}
use Rattle.machine.proofs.stores.Stores.{put_all-length}
use Rattle.machine.proofs.calls.Rule16.{handle_last}
use Rattle.machine.proofs.stores.Kinds.{plan-ok, store_range}
use Rattle.machine.proofs.invariant.Steps.{start_inv, step_inv}
use Rattle.machine.proofs.invariant.Good.{Good, good_figures, good_stored, good_open, lane-allowed}
use Rattle.layout.specs.declared.Told.{Told}

-- ---- the layout's figures are the handle's

module _ (d : ℕ) (f : Figures) where
  pub lanes-in : (l : ℕ) → l < f.lanes → l < (layout_of d f).N
  unfolding layout_of
  lanes-in l u = u

  pub sectors_in : (s : ℕ) → s < f.sectors → s < (layout_of d f).E
  unfolding layout_of
  sectors_in s u = u

  pub sectors_out : (s : ℕ) → s < (layout_of d f).E → s < f.sectors
  unfolding layout_of
  sectors_out s u = u

  pub lanes_out : (l : ℕ) → l < (layout_of d f).N → l < f.lanes
  unfolding layout_of
  lanes_out l u = u

  blocks_out : (b : ℕ) → b < (layout_of d f).I → b < f.blocks
  unfolding layout_of
  blocks_out b u = u

-- no lane has the sector in flight
not_flying : (lanes : List Lane) (n s : ℕ) → in_flight lanes n s ≡ false → (j : ℕ) → j < n → is_busy (lane_at lanes j) ≡ true
    → (lane_at lanes j).sector.0 ≢ s
unfolding in_flight
not_flying lanes n s e j u b d =
    true_false (sym (and_intro _ _ b (eq-eqb (lane_at lanes j).sector.0 s d))
    ∙ some_elim n (λ l. is_busy (lane_at lanes l) && eqb (lane_at lanes l).sector.0 s) e j u)

module _ (τ : Told) where
  -- the handle of the arena: made for its length, with its figures and records that agree with it
  pub record Held (a : List ℕ) (h : Handle) : Type 0 where
    pub size : h.length ≡ length a
    pub good : Good τ a h.distance h.figures h.table

  -- an arena and a handle after a call
  abbrev HeldAfter : Outcome → Type 0
  HeldAfter o = Held o.arena o.handle

module _ (τ : Told) where
  -- an accepted opening gives one
  pub held_open : (a : List ℕ) (work : Room) → Small a → (open_of τ a work).number ≡ 0 → Held τ (open_of τ a work).arena (open_of τ a work).handle
  held_open a work small e = record { size = same e; good = good_open τ a work small e }
    where
      same : (open_of τ a work).number ≡ 0 → (open_of τ a work).handle.length ≡ length (open_of τ a work).arena
      same d = unfold open_of handle_for in (rw d (sym (put_all-length (layout_in τ a) (mends (layout_in τ a) a (layout_in τ a).N) a)))

  -- ---- rules 16, 21, 7 and 18 never apply

  module _ (a : List ℕ) (h : Handle) (k : Held τ a h) where
    pub held_allowed : handle_allowed (bare_of h) (length a) ≡ true
    held_allowed =
        sym (handle_last (bare_of h) (length a) k.good.info.size k.size (rw k.good.distance at k.good.info.layout))
        ∙ good_figures τ a h.distance h.figures h.table k.good

    pub held_long : h.figures.lanes ≤ length h.table
    unfolding layout_of
    held_long = k.good.inv.long

    pub held_short : table_short h ≡ false
    unfolding table_short
    held_short = le-ltb (length h.table) h.figures.lanes held_long

    pub held_records : records_allowed h ≡ true
    unfolding records_allowed
    held_records = every_intro h.figures.lanes (λ l. lane_allowed (laid_out h) (lane_at h.table l))
        (λ l u. lane-allowed (laid_out h) a l (lane_at h.table l) (k.good.inv.lane l (lanes-in h.distance h.figures l u)))

    pub held_word : (s : ℕ) → s < h.figures.sectors → bad_word h.figures.blocks (map_word (laid_out h) a s) ≡ false
    held_word s u =
        bad_word_false h.figures.blocks s (map_word (laid_out h) a s)
        (blocks_out h.distance h.figures _ (k.good.inv.map_in s (sectors_in h.distance h.figures s u)))

    pub held_clean : (s : ℕ) → s < h.figures.sectors → sloppy_word (map_word (laid_out h) a s) ≡ false
    held_clean s u = k.good.inv.tidy.words s (sectors_in h.distance h.figures s u)

    -- a sector is whole words
    pub held_whole : h.figures.size ≡ 4 * (laid_out h).W
    unfolding layout_of
    held_whole =
        let z = size_words h.figures (length a) (allowed_of h.figures (length a) (good_figures τ a h.distance h.figures h.table k.good)) in
        omega (arith, z.0)

  -- ---- the calls

  pub good_start : (a : List ℕ) (h : Handle) (l s : ℕ) → Held τ a h → HeldAfter τ (start_of a h l s)
  unfolding start_of
  good_start a h l s k = go (eqb (start_number a h l s) 0) (λ t. eqb-true _ _ t)
    where
      go : (t : Bool) → (t ≡ true → start_number a h l s ≡ 0)
          → Held τ a (cond t (with_lane h l (started_lane (lane_at h.table l) s (map_block (laid_out h) a s))) h)
      go true f =
          let d = start_found a h l s (f refl) in
          record {
            size = k.size;
            good = record {
              info = k.good.info;
              distance = k.good.distance;
              figures = k.good.figures;
              inv = start_inv (laid_out h) a h.table l s k.good.inv (lanes-in h.distance h.figures l d.lane) d.idle
                  (sectors_in h.distance h.figures s d.sector) (λ j u. not_flying h.table h.figures.lanes s d.free j (lanes_out h.distance h.figures j u));
            };
          }
      go false f = k

  pub good_step : (a : List ℕ) (h : Handle) (l : ℕ) (buffer : List ℕ) → Small buffer → Held τ a h → HeldAfter τ (step_of a h l buffer)
  unfolding step_of
  good_step a h l buffer small k = go (eqb (step_number a h l buffer) 0) (λ t. eqb-true _ _ t)
    where
      st : Store
      st = store_at (laid_out h) (plan_of l (lane_at h.table l)) buffer (lane_at h.table l).made

      go : (t : Bool) → (t ≡ true → step_number a h l buffer ≡ 0)
          → Held τ (cond t (stored (laid_out h) st a) a) (cond t (with_lane h l (lane_stored (laid_out h) (lane_at h.table l))) h)
      go true f =
          let d = step_found a h l buffer (f refl) in
          let g = laid_out h in
          let u = lanes-in h.distance h.figures l d.lane in
          let i = k.good.inv in
          record {
            size = k.size ∙ sym (length-put_word a (at g st.place) st.value);
            good = good_stored τ a h.distance h.figures h.table k.good st (store_range g _ (plan-ok g a h.table l i u) buffer _ (i.lane l u).made_in) _
                (step_inv g a h.table l i u d.busy buffer small);
          }
      go false f = k

  good_steps : (n : ℕ) (a : List ℕ) (h : Handle) (l : ℕ) (buffer : List ℕ) → Small buffer → Held τ a h → HeldAfter τ (steps_of n a h l buffer)
  unfolding steps_of
  good_steps zero a h l buffer small k = k
  good_steps (suc n) a h l buffer small k =
      let o = steps_of n a h l buffer in
      good_step o.arena o.handle l buffer small (good_steps n a h l buffer small k)

  pub good_write : (a : List ℕ) (h : Handle) (l s : ℕ) (buffer : List ℕ) → Small buffer → Held τ a h → HeldAfter τ (write_of a h l s buffer)
  unfolding write_of
  good_write a h l s buffer small k = go (eqb (write_number a h l s buffer) 0)
    where
      o : Outcome
      o = start_of a h l s

      e : Outcome
      e = steps_of (write_stores (laid_out h)) o.arena o.handle l buffer

      go : (t : Bool) → Held τ (cond t e.arena a) (cond t e.handle h)
      go true = good_steps (write_stores (laid_out h)) o.arena o.handle l buffer small (good_start a h l s k)
      go false = k
