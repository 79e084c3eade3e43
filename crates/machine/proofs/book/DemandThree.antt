-- Demand 3, put together: the list and the list taken apart are followed in the book at every prefix, and what the claim says is what holds
-- of a book.
use mathlib.Core.Path.{◌≡◌, sym, ◌∙◌, ap₂}
use mathlib.Core.List.Memᴰ
use mathlib.Core.List.Permᴰ
use mathlib.Core.List.{List, [], ◌++◌, Memᴰ, Permᴰ}
use Prim.Native.Nat.{ℕ}
use native.Mathlib.Omega.{arith}
use mathlib.Core.Logic.{inr, ⊎_elim}
use Rattle.layout.specs.Place.{layout_of}
use Rattle.machine.specs.state.Lane.{write_stores}
use Rattle.machine.specs.state.Stores.{Store, put_all}
use Rattle.machine.specs.calls.Opening.{Room, figures_in, layout_in}
use Rattle.machine.specs.calls.History.{Call, State, run, replies, SmallCalls, opened_from}
use Rattle.machine.specs.claims.DemandTwo.{AllIdle}
use Rattle.machine.specs.models.Book.{Entry, book_after, book_replies, kept}
use Rattle.machine.specs.claims.DemandThree.{Differ, begun, Lends, taken_apart, Ready, Listed, AsBooked, AfterCut, Fewer, Survive, AfterAnyCut, OneByOne, Promised, DemandThree}
use Rattle.machine.specs.calls.Asides.{latest_of}
use Rattle.machine.proofs.invariant.Asides.{latest_state, beside_list}
use Rattle.machine.proofs.invariant.Held.{held_open}
use Rattle.machine.proofs.invariant.Histories.{HeldIn, held_events}
use Rattle.machine.proofs.book.FirstArena.{FirstArena, first_arena}
use Rattle.machine.proofs.stores.Stores.{put_all-length, put_all_arena}
use Rattle.machine.proofs.book.Stores.{EntryOk, BookOk, share_none, kept_order, kept_same}
use Rattle.machine.proofs.book.Sim.{Sim}
use Rattle.machine.proofs.book.SimRun.{sim_start, sim_run}
use Rattle.machine.proofs.book.AfterCut.{after-cut}
use Rattle.machine.proofs.book.AnyCut.{kept_survive, after_any_cut}
use Rattle.machine.proofs.book.Alike.{open_alike}
use Rattle.machine.proofs.book.Entries.{Less, fewer_like, fewer_differ}
use Rattle.machine.proofs.book.TakenApart.{ComesTo, apart_alike, lends_left, begun_left}
use Rattle.machine.proofs.book.OneByOne.{perm_in, perm_differ, one_by_one}
use Rattle.layout.specs.Told.{alone}
use Rattle.layout.specs.declared.Told.{Told}
use Rattle.machine.specs.words.Valid.{RoomFor}

module _ (τ : Told) where
  -- an arena that was opened, after any history
  ready_held : (x : State) → Ready τ x → HeldIn τ x
  ready_held x r = rw (r.reached ∙ latest_state τ r.history (opened_from τ r.found r.room) r.harmless)
      (held_events τ (opened_from τ r.found r.room) (latest_of r.history) r.small_history
      (held_open τ r.found r.room r.small r.opens))

  module _ (x : State) (k : HeldIn τ x) (idle : AllIdle x.handle) (bytes : ℕ → List ℕ) where
    first : FirstArena τ x.arena
    first = first_arena τ x.arena x.handle k idle

    begin : Sim τ x.arena bytes [] x
    begin = sim_start τ x.arena x.handle bytes k idle

    -- a list whose writes share no lane and no sector and lend their bytes
    record Fair (cs : List Call) : Type 0 where
      small : SmallCalls cs
      differ : Differ (begun x cs)
      lent : Lends bytes x cs

    fair_left : (p rest cs : List Call) → p ++ rest ≡ cs → Fair cs → Fair p
    fair_left p rest cs e f = record {
      small = λ c m. f.small c (rw e at (Memᴰ.append_left rest m));
      differ = begun_left p rest x (rw e f.differ);
      lent = lends_left bytes p rest x (rw e f.lent);
    }

    follow : (cs : List Call) → Fair cs
        → (replies x cs ≡ book_replies τ x.arena bytes [] cs) × Sim τ x.arena bytes (book_after τ x.arena [] cs) (run x cs)
    follow cs f = sim_run τ x.arena bytes first cs [] x begin f.small f.lent f.differ (λ d e m. absurd (Memᴰ.not-nil m))

    as_booked : (p : List Call) → Fair p → AsBooked τ x bytes p
    as_booked p f =
        let r = follow p f in
        record { answers = r.0; arena = λ stores s. r.1.arena ∙ kept_order τ x.arena bytes first (book_after τ x.arena [] p) r.1.ok stores s }

    cut_anywhere : (p : List Call) → Fair p → (work : Room) → RoomFor (figures_in x.arena) work
        → AfterCut τ x.arena x.handle bytes (run x p).arena (book_after τ x.arena [] p) work
    cut_anywhere p f work room =
        after-cut τ x.arena bytes first (book_after τ x.arena [] p) (run x p) (follow p f).1 x.handle k work room

    -- the writes of such a list with fewer stores
    fewer_ok : (b c : List Entry) → Fewer b c → BookOk τ x.arena bytes c → BookOk τ x.arena bytes b
    fewer_ok b c f o = record { each = λ e m. let r = fewer_like b c f e m in less e r.0 r.2 (o.each r.0 r.1); differ = fewer_differ b c f o.differ }
      where
        less : (d e : Entry) → Less d e → EntryOk τ x.arena bytes e → EntryOk τ x.arena bytes d
        less d e l q = record {
          lane_in = rw l.0 q.lane_in;
          sector-in = rw l.1 q.sector-in;
          tally_in = omega (arith, l.2, q.tally_in);
          small = λ u. rw l.0 (q.small (omega (arith, l.2)));
          size = λ u. rw l.0 (q.size (omega (arith, l.2)));
        }

    any_cut : (p : List Call) → Fair p → (b : List Entry) → Fewer b (book_after τ x.arena [] p) → (stores : List Store) → Survive τ x.arena bytes b stores
        → (room : Room) → RoomFor (figures_in x.arena) room → AfterAnyCut τ x.arena x.handle bytes b stores room
    any_cut p f b w stores s room enough =
        let o = fewer_ok b (book_after τ x.arena [] p) w (follow p f).1.ok in
        let after = after_any_cut τ x.arena x.handle k idle bytes b o in
        let g = layout_in τ x.arena in
        let ss = kept τ x.arena bytes b in
        record {
          after = after stores s room enough;
          alike = open_alike τ x.arena x.handle bytes b room (put_all g ss x.arena) (put_all g stores x.arena)
              (after ss (kept_survive τ x.arena bytes b) room enough) (after stores s room enough)
              (put_all-length g stores x.arena ∙ sym (put_all-length g ss x.arena))
              (put_all_arena g first.ok ss x.arena first.arena).bytes.small (put_all_arena g first.ok stores x.arena first.arena).bytes.small;
        }

    finished : (cs : List Call) → Fair cs
        → ((e : Entry) → Memᴰ e (book_after τ x.arena [] cs) → e.tally ≡ write_stores (layout_in τ x.arena))
        → (ws : List Entry) → Permᴰ ws (book_after τ x.arena [] cs) → OneByOne x bytes cs ws
    finished cs f full ws p =
        let z = (follow cs f).1 in
        let b = book_after τ x.arena [] cs in
        let w = one_by_one τ x.arena bytes first ws [] x begin (λ e m. absurd (Memᴰ.not-nil m))
        (λ e m. (z.ok.each e (perm_in p e m), full e (perm_in p e m))) (perm_differ (Permᴰ.symm p) z.ok.differ)
        (λ d e m. absurd (Memᴰ.not-nil m)) in
        record {
          answers = w.answers;
          arena = w.sim.arena ∙ sym (z.arena ∙ kept_order τ x.arena bytes first b z.ok (kept τ x.arena bytes w.book)
              (kept_same τ x.arena bytes w.book b (record {
                to = λ e m. perm_in p e (⊎_elim (λ n. absurd (Memᴰ.not-nil n)) (λ n. n) (w.to e m));
                from = λ e m. w.from e (inr (perm_in (Permᴰ.symm p) e m));
              })));
        }

  demand_three_promised : (x : State) (cs : List Call) (bytes : ℕ → List ℕ) → Listed τ x cs bytes → Promised τ x cs bytes
  demand_three_promised x cs bytes l = record {
    booked = λ p rest e. as_booked x k idle bytes p (fair_left x k idle bytes p rest cs e fair);
    share_none = share_none τ x.arena bytes (first x k idle bytes) (book_after τ x.arena [] cs) (follow x k idle bytes cs fair).1.ok;
    finished = finished x k idle bytes cs fair;
    whole = apart.state;
    cut_booked = λ p rest e. as_booked x k idle bytes p (fair_left x k idle bytes p rest parts e fair_parts);
    cut = λ p rest e. cut_anywhere x k idle bytes p (fair_left x k idle bytes p rest parts e fair_parts);
    any_cut = λ p rest e. any_cut x k idle bytes p (fair_left x k idle bytes p rest parts e fair_parts);
  }
    where
      k : HeldIn τ x
      k = ready_held x l.ready

      idle : AllIdle x.handle
      idle = l.ready.idle

      fair : Fair x k idle bytes cs
      fair = record { small = l.small; differ = l.differ; lent = l.same_bytes }

      parts : List Call
      parts = taken_apart (layout_in τ x.arena) x cs

      apart : ComesTo bytes x (taken_apart (layout_in τ x.arena) x cs) cs
      apart = apart_alike bytes (layout_in τ x.arena) cs x (ap₂ layout_of (sym k.good.distance) (sym k.good.figures))

      fair_parts : Fair x k idle bytes (taken_apart (layout_in τ x.arena) x cs)
      fair_parts = record { small = apart.small l.small; differ = rw apart.begins l.differ; lent = apart.lent l.same_bytes }

pub demand_three : DemandThree
demand_three = record { promised = λ d. demand_three_promised (alone d); beside = λ d. beside_list (alone d) }
