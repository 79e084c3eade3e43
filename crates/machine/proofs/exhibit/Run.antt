-- The run of `Exhibited`: any arena with its figures that opens and changes nothing follows the book.
use mathlib.Core.Path.{◌≡◌, refl, sym, ap, ◌∙◌, subst}
use mathlib.Core.Logic.{◌≢◌, inl, inr}
use mathlib.Core.List.Memᴰ
use mathlib.Core.List.{List, [], ◌∷◌, ◌++◌, map}
use Prim.Native.Nat.{ℕ, ◌≤◌, ◌<◌}
use native.Mathlib.Omega.{arith}
use lib.ListN.{length, replicate}
use borrow.Author.Tests.{lt-ltb, le-ltb}
use Rattle.words.specs.Bytes.{Small}
use Rattle.layout.specs.Figures.{fresh_figures}
use Rattle.layout.specs.Place.{layout_of}
use Rattle.machine.specs.Rules.{answer}
use Rattle.machine.specs.state.Handle.{no_handle, lane_at}
use Rattle.machine.specs.state.Flog.{map_word}
use Rattle.machine.specs.calls.Opening.{Room, extent_of, layout_in, figures_in, open_number, open_of, cut_open_of}
use Rattle.machine.specs.calls.Writing.{step_of}
use Rattle.machine.specs.calls.History.{runs, Call, read, start, step, write, State, run, reply, after_event, SmallCall, SmallCalls, Event, called, opened, opened_from, SmallEvent, SmallEvents}
use Rattle.machine.specs.calls.Asides.{Happening, latest, aside, tried, shortened, latest_of, after_one, AllHarmless}
use Rattle.machine.specs.models.Row.{OneBuffer, first_row}
use Rattle.machine.specs.claims.DemandTwo.{AllIdle, leaves}
use Rattle.machine.specs.models.Book.{Entry, book_after, last_words}
use Rattle.machine.specs.claims.DemandThree.{lends, Ready, Listed}
use Rattle.machine.specs.words.Valid.{RoomFor}
use Rattle.machine.specs.claims.Opening.{CutsTold}
use Rattle.machine.proofs.opening.Opens.{open-number, open_zero, opened_figures, opened_idle}
use Rattle.machine.proofs.calls.Accepted.{step_found}
use Rattle.machine.proofs.calls.Lent.{table_claim}
use Rattle.machine.proofs.calls.Running.{handle_ok, running_claim}
use Rattle.machine.proofs.opening.Opening.{opening_claim}
use Rattle.machine.proofs.stores.Members.{Each, each_more, each_one, each_append, each_replicate}
use Rattle.machine.proofs.invariant.Held.{held_open}
use Rattle.machine.proofs.invariant.Histories.{HeldIn}
use Rattle.machine.proofs.book.Entries.{entry_of}
use Rattle.machine.proofs.book.FirstArena.{FirstArena, first_arena}
use Rattle.machine.proofs.book.Sim.{Sim, number_of}
use Rattle.machine.proofs.book.SimRun.{sim_start}
use Rattle.machine.proofs.book.AfterCut.{after-cut}
use Rattle.machine.proofs.book.Orderly.{Goes, orderly_premise, orderly_sim}
use Rattle.machine.proofs.exhibit.LentBytes.{LendsIn, lent_one}
use Rattle.machine.proofs.exhibit.Book.{together, further, onward, unsequenced_by, both, goes_finished, goes_together, goes_unsequenced, then_refused, goes_all, one_last}
use Rattle.layout.specs.Told.{alone}

-- no layout of 48: refused with 16
refused_layout : (b : List ℕ) (work : Room) → (open_of (alone 48) b work).number ≢ 0
unfolding open_of open_number answer
refused_layout b work e = omega arith

refused-cut_layout : (b : List ℕ) (work : Room) (k : ℕ) → (cut_open_of (alone 48) b work k).number ≢ 0
unfolding cut_open_of open_number answer
refused-cut_layout b work k e = omega arith

-- ---- an arena that opens and changes nothing

-- such an arena, room to work and room whose table is short, and the bytes that the calls lend
pub record Given (d : ℕ) (a : List ℕ) (work short : Room) (bytes : ℕ → List ℕ) (buffer : List ℕ) : Type 0 where
  pub small : Small a
  pub opens : (open_of (alone d) a work).number ≡ 0
  pub same : (open_of (alone d) a work).arena ≡ a
  pub figures : figures_in a ≡ fresh_figures 512 60 4
  pub unwritten : (s : ℕ) → s < 60 → map_word (layout_in (alone d) a) a s ≡ 0
  pub room : RoomFor (fresh_figures 512 60 4) work
  pub small_work : Small work.work
  pub short_bytes : 64 ≤ length short.work
  pub short_records : length short.table < 4
  pub size : (l : ℕ) → length (bytes l) ≡ 512
  pub small_bytes : (l : ℕ) → l < 3 → Small (bytes l)
  pub size_buffer : length buffer ≡ 512
  pub small_buffer : Small buffer

module _ (d : ℕ) (a : List ℕ) (work short : Room) (bytes : ℕ → List ℕ) (buffer : List ℕ) (g : Given d a work short bytes buffer) where
  abbrev y : State
  y = opened_from (alone d) a work

  abbrev calls : List Call
  calls = together bytes ++ further bytes buffer

  held : HeldIn (alone d) y
  held = held_open (alone d) a work g.small g.opens

  idle : AllIdle y.handle
  idle = opened_idle (alone d) a work g.opens

  pub figures : figures_in y.arena ≡ fresh_figures 512 60 4
  figures = ap figures_in g.same ∙ g.figures

  pub unwritten : (s : ℕ) → s < 60 → map_word (layout_in (alone d) y.arena) y.arena s ≡ 0
  unwritten s u = rw g.same (g.unwritten s u)

  first : FirstArena (alone d) y.arena
  first = first_arena (alone d) y.arena y.handle held idle

  sim : Sim (alone d) y.arena bytes [] y
  sim = sim_start (alone d) y.arena y.handle bytes held idle

  -- a call that lends bytes, and its lane's
  abbrev Fit : Call → Type 0
  Fit c = SmallCall c × lends bytes c

  each_together : Each Fit (together bytes)
  each_together =
      each_more Fit (start 0 7) _ (tt, tt) (each_more Fit (start 1 8) _ (tt, tt)
      (each_more Fit (step 0 (bytes 0)) _ fit_0 (each_more Fit (step 1 (bytes 1)) _ (g.small_bytes 1 (omega arith), refl)
      (each_replicate Fit 131 _ fit_0))))
    where
      fit_0 : Fit (step 0 (bytes 0))
      fit_0 = (g.small_bytes 0 (omega arith), refl)

  each : Each Fit calls
  each = each_append Fit (together bytes) (further bytes buffer) each_together
      (each_more Fit (start 0 9) _ (tt, tt) (each_more Fit (read 7 buffer) _ (g.small_buffer, tt)
      (each_one Fit (write 2 10 (bytes 2)) (g.small_bytes 2 (omega arith), refl))))

  each_finished : Each Fit (together bytes ++ onward bytes)
  each_finished = each_append Fit (together bytes) (onward bytes) each_together
      (each_more Fit (step 0 (bytes 0)) _ (g.small_bytes 0 (omega arith), refl)
      (each_replicate Fit 132 _ (g.small_bytes 1 (omega arith), refl)))

  each_unsequenced : Each Fit (unsequenced_by bytes)
  each_unsequenced =
      each_more Fit (start 0 7) _ (tt, tt) (each_more Fit (start 1 8) _ (tt, tt)
      (each_append Fit (replicate 131 (step 0 (bytes 0))) _ (each_replicate Fit 131 _ (g.small_bytes 0 (omega arith), refl))
      (each_replicate Fit 131 _ (g.small_bytes 1 (omega arith), refl))))

  smalls : SmallCalls calls
  smalls c m = (each c m).0

  ran : Goes (alone d) y.arena bytes [] calls (entry_of 2 10 133 ∷ both 132 1)
  ran = goes_all (alone d) y.arena first figures unwritten bytes g.size buffer g.size_buffer

  pub ran-finished : Goes (alone d) y.arena bytes [] (together bytes ++ onward bytes) (both 133 133)
  ran-finished = goes_finished (alone d) y.arena first figures unwritten bytes g.size

  pub ran-unsequenced : Goes (alone d) y.arena bytes [] (unsequenced_by bytes) (both 131 131)
  ran-unsequenced = goes_unsequenced (alone d) y.arena first figures unwritten bytes g.size

  -- a read, and an opening that changes nothing
  before : List Happening
  before = latest (called (read 7 buffer)) ∷ latest (opened work) ∷ []

  reached : y ≡ leaves (alone d) a work before
  unfolding runs before
  reached = rw (g.same, g.opens, g.same)

  ready : Ready (alone d) y
  ready = record {
    found = a;
    room = work;
    history = before;
    small = g.small;
    small_history = unfold before latest_of in
        (each_more SmallEvent (called (read 7 buffer)) _ g.small_buffer (each_one SmallEvent (opened work) g.small_work));
    opens = g.opens;
    harmless = unfold before in (tt, (tt, tt));
    reached = reached;
    idle = idle;
  }

  -- a list of calls that lend their bytes, and go as the book says
  listed_as : (cs : List Call) (b : List Entry) → Each Fit cs → Goes (alone d) y.arena bytes [] cs b → Listed (alone d) y cs bytes
  listed_as cs b fit go =
      let small : SmallCalls cs = λ c m. (fit c m).0 in
      let p = orderly_premise (alone d) y.arena bytes first cs [] y sim small go.orderly in
      record { ready = ready; small = small; differ = p.1; same_bytes = p.0 }

  pub listed : Listed (alone d) y calls bytes
  listed = listed_as calls _ each ran

  pub finished : Listed (alone d) y (together bytes ++ onward bytes) bytes
  finished = listed_as (together bytes ++ onward bytes) _ each_finished ran-finished

  pub before-sequence : Listed (alone d) y (unsequenced_by bytes) bytes
  before-sequence = listed_as (unsequenced_by bytes) _ each_unsequenced ran-unsequenced

  pub some_history : length listed.ready.history ≡ 2
  unfolding listed listed_as ready before
  some_history = refl

  -- the run as a history
  abbrev events : List Event
  events = map called calls ++ (opened work ∷ [])

  abbrev history : List Happening
  history = aside (no_handle []) (step 0 (bytes 0)) ∷ shortened d short 1 ∷ tried 48 work ∷ map latest events

  latest_all : (es : List Event) → latest_of (map latest es) ≡ es
  unfolding latest_of
  latest_all [] = refl
  latest_all (e ∷ es) = ap (λ (ds : List Event). e ∷ ds) (latest_all es)

  harmless_all : (es : List Event) (x : State) → AllHarmless (alone d) x (map latest es)
  harmless_all [] x = tt
  harmless_all (e ∷ es) x = (tt, harmless_all es (after_event (alone d) x e))

  -- an empty handle is refused with 16, a short table with 21, and a layout that there is not with 16
  pub harmless : AllHarmless (alone d) y history
  unfolding runs
  harmless = (
    refused_step,
    (
      rw (running_claim.step_refused y.arena (no_handle []) 0 (bytes 0) refused_step).arena refused_cut,
      (
        refused_layout (after_one (alone d) (after_one (alone d) y (aside (no_handle []) (step 0 (bytes 0)))) (shortened d short 1)).arena work,
        harmless_all events (runs (after_one (alone d)) y (aside (no_handle []) (step 0 (bytes 0)) ∷ shortened d short 1 ∷ tried 48 work ∷ [])),
      ),
    ),
  )
    where
      refused_step : (step_of y.arena (no_handle []) 0 (bytes 0)).number ≢ 0
      refused_step e =
          let k = handle_ok (no_handle []) (length y.arena) (step_found y.arena (no_handle []) 0 (bytes 0) (unfold step_of in e)).judged.handle in
          omega (arith, k.match, k.size.least)

      refused_cut : (cut_open_of (alone d) y.arena short 1).number ≢ 0
      refused_cut e =
          let z = ((opening_claim (alone d)).cut y.arena short 1).number in
          let few = (open_zero (alone d) y.arena (extent_of short) (unfold open_of in (sym z ∙ e))).1.records in
          unfold layout_of fresh_figures in (omega (arith, rw figures at few, g.short_records))

  pub small_events : SmallEvents (latest_of history)
  unfolding latest_of
  small_events = rw (latest_all (map called calls ++ (opened work ∷ []))) (each_append SmallEvent (map called calls) (opened work ∷ [])
      (λ e m. let r = Memᴰ.of_map called calls m in rw (← r.2) (smalls r.0 r.1)) (each_one SmallEvent (opened work) g.small_work))

  pub one_buffer : OneBuffer (figures_in a) (first_row y) (latest_of history)
  unfolding latest_of
  one_buffer = subst (OneBuffer (figures_in a) (first_row y)) (sym (latest_all events)) (lent_one bytes (figures_in a) _ (first_row y)
      (each_append (LendsIn bytes) (map called calls) (opened work ∷ [])
      (λ e m. let r = Memᴰ.of_map called calls m in rw (← r.2) (each r.0 r.1).1) (each_one (LendsIn bytes) (opened work) tt))
      (λ l. tt))

  pub refused : (reply (run y (together bytes)) (start 0 9)).number ≡ 12
  refused =
      let t = goes_together (alone d) y.arena first figures unwritten bytes g.size in
      let z = orderly_sim (alone d) y.arena bytes first (together bytes) [] y sim (λ c m. (each_together c m).0) t.orderly in
      number_of (alone d) y.arena bytes first _ _ z (start 0 9) ∙ rw t.book (then_refused (alone d) y.arena first figures unwritten bytes g.size)

  pub tallies : book_after (alone d) y.arena [] calls ≡ entry_of 2 10 133 ∷ both 132 1
  tallies = ran.book

  pub mended : (open_of (alone d) (run y calls).arena work).mended ≡ 1
  unfolding fresh_figures
  mended =
      let z = orderly_sim (alone d) y.arena bytes first calls [] y sim smalls ran.orderly in
      (after-cut (alone d) y.arena bytes first _ _ z y.handle held work (rw figures g.room)).mended
      ∙ ap (λ (b : List Entry). length (last_words (alone d) y.arena b)) ran.book ∙ one_last (alone d) y.arena first figures unwritten bytes g.size

  -- the records past the lanes, 4 and on, are as they came
  pub past : (l : ℕ) → 4 ≤ l → lane_at (run y calls).handle.table l ≡ lane_at work.table l
  unfolding fresh_figures
  past l u =
      table_claim.list_past y calls l (rw (opened_figures (alone d) a work g.opens, g.figures) u)
      ∙ table_claim.opening d a work l (rw g.figures u)

  -- a table that lacks a record
  pub few-records : (open_of (alone d) a short).number ≡ 21
  unfolding open_of layout_of fresh_figures
  few-records =
      open-number (alone d) a (extent_of short) (open_zero (alone d) a (extent_of work) g.opens).0
      ∙ rw (g.figures, le-ltb (length short.work) 64 g.short_bytes, lt-ltb (length short.table) 4 g.short_records)

  -- a cut opening in the handle's layout, and one in a layout that there is not
  pub cuts_told : CutsTold (alone d) (record { layout = d; room = work; stores = 0 } ∷ record { layout = 48; room = work; stores = 1 } ∷ []) (run y calls).arena
  cuts_told = (inl refl, (inr (refused-cut_layout _ work 1), tt))
