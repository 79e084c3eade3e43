-- What every store of a write and of an opening keeps of an arena, every call keeps, every opening and every history: a call makes such stores,
-- one after another, or none.
use mathlib.Core.Path.{◌≡◌, refl, sym, ap, subst}
use mathlib.Core.List.Memᴰ
use mathlib.Core.List.{List, [], ◌∷◌}
use mathlib.Core.Bool.{true}
use Prim.Native.Nat.{ℕ, zero, suc, ◌+◌, ◌≤◌, ◌<◌}
use native.Mathlib.Omega.{arith}
use lib.Dec.{eqb}
use lib.ListN.{length}
use borrow.Author.Tests.{eqb-true}
use Rattle.words.specs.Bytes.{Small}
use Rattle.format.specs.MapWord.{mapped_to}
use Rattle.format.proofs.Tests.{true_false, by_bool}
use Rattle.layout.specs.Figures.{Allowed}
use Rattle.layout.specs.Place.{Layout, LayoutOk, layout_of, in_map, InRange}
use Rattle.layout.specs.declared.Figures.{Figures}
use Rattle.layout.specs.declared.Told.{Told}
use Rattle.machine.specs.state.Handle.{Handle, lane_at, laid_out}
use Rattle.machine.specs.state.Lane.{started_lane, write_stores}
use Rattle.machine.specs.state.Stores.{Store, stored, put_all}
use Rattle.machine.specs.state.Flog.{map_block, newer_word}
use Rattle.machine.specs.calls.Order.{Call, read, start, step, write}
use Rattle.machine.specs.calls.Opening.{Room, extent_of, figures_in, layout_in, lane_readable, mend_store, mends, open_of, cut_open_of}
use Rattle.machine.specs.calls.Writing.{Plan, plan_of, store_at, first_stores, start_of, step_number, step_of, write_number, write_of}
use Rattle.machine.specs.calls.History.{runs, State, after, Event, called, opened, after_event, run_events, opened_from, SmallEvents}
use Rattle.machine.specs.calls.Asides.{Happening, latest_of, AllHarmless}
use Rattle.machine.specs.words.Running.{HandleOk}
use Rattle.machine.specs.claims.DemandTwo.{leaves}
use Rattle.machine.proofs.stores.Stores.{Arena, put_all_arena}
use Rattle.machine.proofs.stores.Kinds.{Kind, is_data, is_log, is_map, kind, PlanOk, store_range, first_more}
use Rattle.machine.proofs.opening.Described.{allowed_arena, described_figures, described_layout, described_arena}
use Rattle.machine.proofs.opening.Opens.{Opens, open_zero, lanes_pass, opened_figures}
use Rattle.machine.proofs.opening.Mends.{readable_of, mends-take, mend_keeps, mends_arena}
use Rattle.machine.proofs.calls.Accepted.{start_found, step_found, write_found}
use Rattle.machine.proofs.calls.Running.{handle_ok, records_ok}
use Rattle.machine.proofs.calls.Tables.{layout, plan}
use Rattle.machine.proofs.calls.Whole.{steps_all, begun_ok}
use Rattle.machine.proofs.invariant.Held.{lanes-in, held_open}
use Rattle.machine.proofs.invariant.Asides.{latest_state}
use Rattle.machine.proofs.invariant.Histories.{HeldIn, held_small, held_figures, held_event, alike_event, opening_cases}

-- a store of a write or of an opening: at a place of the arena, and at a map word flags 11 and a block
pub record Made (g : Layout) (st : Store) : Type 0 where
  pub range : InRange g st.place
  pub mapped : (s : ℕ) → st.place ≡ in_map s → (b : ℕ) × (b < g.I) × (st.value ≡ mapped_to b)

store_made : (g : Layout) (p : Plan) → PlanOk g p → (bytes : List ℕ) (k : ℕ) → k < g.W + 5 → Made g (store_at g p bytes k)
store_made g p o bytes k h = record { range = store_range g p o bytes k h; mapped = λ s e. go s e (kind g p bytes k h) }
  where
    go : (s : ℕ) → (store_at g p bytes k).place ≡ in_map s → Kind g p bytes k → (b : ℕ) × (b < g.I) × ((store_at g p bytes k).value ≡ mapped_to b)
    go s e (is_data u f) = true_false (cc (ap (λ (st : Store). st.place) f))
    go s e (is_log j u _ f) = true_false (cc (ap (λ (st : Store). st.place) f))
    go s e (is_map _ f) = (p.new, o.new-in, ap (λ (st : Store). st.value) f)

-- what is kept of an arena, by its figures: by no store, by one store after another, and by each such store
pub record Keeps (R : Figures → List ℕ → List ℕ → Type 0) : Type 0 where
  pub none : (f : Figures) (a : List ℕ) → R f a a
  pub both : (f : Figures) (a b c : List ℕ) → R f a b → R f b c → R f a c
  pub one : (d : ℕ) (f : Figures) (n : ℕ) → Allowed f n → LayoutOk (layout_of d f) → (a : List ℕ) → Arena (layout_of d f) a → (st : Store)
      → Made (layout_of d f) st → R f a (stored (layout_of d f) st a)

module _ (R : Figures → List ℕ → List ℕ → Type 0) (keeps : Keeps R) where
  module _ (d : ℕ) (f : Figures) (n : ℕ) (allowed : Allowed f n) (ok : LayoutOk (layout_of d f)) (a : List ℕ) (r : Arena (layout_of d f) a) where
    abbrev g : Layout
    g = layout_of d f

    -- the first k stores of a write
    first_kept : (p : Plan) → PlanOk g p → (bytes : List ℕ) (k : ℕ) → k ≤ g.W + 5 → R f a (put_all g (first_stores g p bytes k) a)
    first_kept p o bytes zero h = unfold first_stores put_all in (keeps.none f a)
    first_kept p o bytes (suc k) h =
        rw (← first_more g p bytes a k)
        (keeps.both f a _ _ (first_kept p o bytes k (omega arith))
        (keeps.one d f n allowed ok (put_all g (first_stores g p bytes k) a) (put_all_arena g ok (first_stores g p bytes k) a r) (store_at g p bytes k)
        (store_made g p o bytes k (omega arith))))

    -- the stores of an opening for the lanes below m
    mends_kept : ((l : ℕ) → l < g.N → lane_readable g a l ≡ true) → (m : ℕ) → m ≤ g.N → R f a (put_all g (mends g a m) a)
    mends_kept readable m few = mend_keeps g a (R f a) (keeps.none f a) m
        (λ l v _ k. let p = readable_of g a l (readable l (omega arith)) in
        keeps.both f a _ _ k (keeps.one d f n allowed ok (put_all g (mends g a l) a) (mends_arena g ok a r readable l) (mend_store g a l)
        (record { range = p.sector; mapped = λ s e. (newer_word g a l 2, p.new, refl) })))

  -- ---- the calls

  module _ (a : List ℕ) (h : Handle) (small : Small a) where
    arena : HandleOk h (length a) → Arena (laid_out h) a
    arena k = allowed_arena h.distance h.figures a k.figures k.size.multiple small

    step_kept : (l : ℕ) (buffer : List ℕ) → R h.figures a (step_of a h l buffer).arena
    unfolding step_of
    step_kept l buffer = by_bool (eqb (step_number a h l buffer) 0) _
        (λ t. let found = step_found a h l buffer (eqb-true _ _ t) in
        let k = handle_ok h (length a) found.judged.handle in
        let r = lane_at h.table l in
        let range = records_ok h found.judged.records l found.lane in
        let p = plan (laid_out h) l r (lanes-in h.distance h.figures l found.lane) range in
        rw t (keeps.one h.distance h.figures (length a) k.figures (layout h a k) a (arena k) _
        (store_made (laid_out h) (plan_of l r) p buffer r.made range.made)))
        (λ t. rw t (keeps.none h.figures a))

    -- a start stores nothing, so that a whole write makes the stores of its plan
    write_kept : (l s : ℕ) (buffer : List ℕ) → write_number a h l s buffer ≡ 0 → R h.figures a (write_of a h l s buffer).arena
    unfolding write_of start_of
    write_kept l s buffer e =
        let w = write_found a h l s buffer e in
        let found = start_found a h l s w.start in
        let k = handle_ok h (length a) found.judged.handle in
        let begun = started_lane (lane_at h.table l) s (map_block (laid_out h) a s) in
        let range = begun_ok a h l s found in
        let p = plan (laid_out h) l begun (lanes-in h.distance h.figures l found.lane) range in
        let all = steps_all a h l begun buffer found.judged found.lane refl range w.size in
        rw (e, w.start, all)
        (first_kept h.distance h.figures (length a) k.figures (layout h a k) a (arena k) (plan_of l begun) p buffer (write_stores (laid_out h)) (omega arith))

    pub calls_kept : (c : Call) → R h.figures a (after (record { arena = a; handle = h }) c).arena
    calls_kept (read s buffer) = keeps.none h.figures a
    calls_kept (start l s) = unfold start_of in (keeps.none h.figures a)
    calls_kept (step l buffer) = step_kept l buffer
    calls_kept (write l s buffer) = by_bool (eqb (write_number a h l s buffer) 0) _
        (λ t. write_kept l s buffer (eqb-true _ _ t))
        (λ t. unfold write_of in (rw t (keeps.none h.figures a)))

  -- ---- openings

  module _ (τ : Told) where
    -- the stores for the lanes below n
    part_kept : (a : List ℕ) → Small a → Opens τ a → (n : ℕ) → n ≤ (layout_in τ a).N → R (figures_in a) a (put_all (layout_in τ a) (mends (layout_in τ a) a n) a)
    part_kept a small o =
        mends_kept τ.distance (figures_in a) (length a) (described_figures τ a o.info) (described_layout τ a o.info) a
        (described_arena τ a o.info small) (lanes_pass (layout_in τ a) a o.lanes)

    pub open_kept : (a : List ℕ) (work : Room) → Small a → R (figures_in a) a (open_of τ a work).arena
    unfolding open_of
    open_kept a work small = by_bool (eqb (open_of τ a work).number 0) _
        (λ t. rw t (part_kept a small (open_zero τ a (extent_of work) (eqb-true _ _ t)).0 (layout_in τ a).N (omega arith)))
        (λ t. rw t (keeps.none (figures_in a) a))

    pub cut_kept : (a : List ℕ) (work : Room) (k : ℕ) → Small a → R (figures_in a) a (cut_open_of τ a work k).arena
    unfolding cut_open_of
    cut_kept a work k small = by_bool (eqb (cut_open_of τ a work k).number 0) _
        (λ t. let r = mends-take (layout_in τ a) a (layout_in τ a).N k in
        rw (t, r.2) (part_kept a small (open_zero τ a (extent_of work) (eqb-true _ _ t)).0 r.0 r.1))
        (λ t. rw t (keeps.none (figures_in a) a))

    -- ---- histories

    event_kept : (x : State) (e : Event) → HeldIn τ x → R x.handle.figures x.arena (after_event τ x e).arena
    event_kept x (called c) k = calls_kept x.arena x.handle (held_small τ x k) c
    event_kept x (opened work) k = opening_cases τ x work (λ (y : State). R x.handle.figures x.arena y.arena)
        (λ _. rw (held_figures τ x k) at (open_kept x.arena work (held_small τ x k))) (keeps.none x.handle.figures x.arena)

    events_kept : (x : State) (es : List Event) → SmallEvents es → HeldIn τ x → R x.handle.figures x.arena (run_events τ x es).arena
    unfolding runs
    events_kept x [] small k = keeps.none x.handle.figures x.arena
    events_kept x (e ∷ es) small k =
        keeps.both x.handle.figures x.arena (after_event τ x e).arena (run_events τ (after_event τ x e) es).arena (event_kept x e k)
        (rw (alike_event τ x e k).figures at
        (events_kept (after_event τ x e) es (λ d m. small d (Memᴰ.tail m)) (held_event τ x e (small e (Memᴰ.head refl)) k)))

    -- from before the opening on
    pub opened_kept : (a : List ℕ) (work : Room) (es : List Event) → Small a → SmallEvents es → (open_of τ a work).number ≡ 0
        → R (figures_in a) a (run_events τ (opened_from τ a work) es).arena
    opened_kept a work es small smalls e =
        let x = opened_from τ a work in
        keeps.both (figures_in a) a x.arena (run_events τ x es).arena (open_kept a work small)
        (subst (λ (f : Figures). R f x.arena (run_events τ x es).arena) (opened_figures τ a work e) (events_kept x es smalls (held_open τ a work small e)))

    pub history_kept : (a : List ℕ) (work : Room) (hs : List Happening) → Small a → SmallEvents (latest_of hs) → (open_of τ a work).number ≡ 0
        → AllHarmless τ (opened_from τ a work) hs → R (figures_in a) a (leaves τ a work hs).arena
    history_kept a work hs small smalls e harmless =
        subst (λ (z : State). R (figures_in a) a z.arena) (sym (latest_state τ hs (opened_from τ a work) harmless)) (opened_kept a work (latest_of hs) small smalls e)
