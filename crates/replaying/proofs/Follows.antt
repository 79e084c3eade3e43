-- A replay is a history of calls and openings, and its row goes with its ledger: record by record, the call is the event's, an opening is
-- never refused and leaves the work buffer as it was, and what the record answered is noted.
use mathlib.Core.Path.{◌≡◌, refl, sym, ap, ap₂, ◌∙◌, subst}
use mathlib.Core.Logic.{⊎_elim}
use mathlib.Core.List.Memᴰ
use mathlib.Core.List.{List, [], ◌∷◌, ◌++◌, map}
use Prim.Native.Nat.{ℕ, suc, ◌+◌, ◌*◌, ◌/◌, ◌≤◌}
use native.Mathlib.Omega.{arith}
use lib.Dec.{eqb}
use lib.ListN.{length, drop, replicate}
use borrow.Author.Tests.{le-ltb}
use Rattle.words.specs.Bytes.{Small}
use Rattle.format.proofs.Tests.{by_bool}
use Rattle.format.specs.declared.numbers.LaneNo.{LaneNo}
use Rattle.format.specs.declared.numbers.SectorNo.{SectorNo}
use Rattle.layout.specs.Sizes.{max_size}
use Rattle.layout.specs.Told.{alone_near}
use Rattle.layout.specs.declared.Figures.{Figures}
use Rattle.machine.specs.Rules.{answer}
use Rattle.machine.specs.calls.Opening.{Opening, extent_of, open_of}
use Rattle.machine.specs.calls.History.{
  says,
  runs,
  Call,
  start,
  step,
  State,
  Reply,
  Event,
  called,
  opened,
  after_event,
  reply,
  reply_event,
  run_events,
  reply_events,
  SmallEvent,
  SmallEvents,
}
use Rattle.machine.specs.models.Row.{Row, stores_of, word_by_word, row_number, row_reply, row_after, row_open_number, row_work, row_reply_event, row_after_event, row_replies}
use Rattle.machine.specs.words.Valid.{RoomFor}
use Rattle.machine.proofs.invariant.Held.{held_long}
use Rattle.machine.proofs.invariant.Histories.{alike_event}
use Rattle.machine.proofs.row.Events.{RepIn, accepted, event_reply, event_rep}
use Rattle.runlog.specs.declared.record.Record.{Record}
use Rattle.runlog.specs.declared.record.Record.TheVariants.{Start, Step, Cut}
use Rattle.runlog.specs.Claims.{Fits, AllFit}
use Rattle.replaying.specs.Replay.{Point, own_table, room_of, step_bytes, ran, answered, run_all, answers_all}
use Rattle.replaying.specs.Ledger.{Ledger, noted, all_noted}
use Rattle.replaying.specs.Claims.{event_of, events_of, CutsOpen}
use Rattle.replaying.proofs.Lent.{lent_small, lent_length, lent-word}
use Rattle.replaying.proofs.Spare.{Spare, spare_call, spare_open, open_same}
use Rattle.replaying.proofs.Noted.{Noted, started_noted, stepped_noted, reopened_noted}

-- a point without its work buffer
abbrev pub state_of : Point → State
state_of x = record { arena = x.arena; handle = x.handle }

-- the work buffer after the first opening: long enough, and as an opening leaves it
pub record Cleared (f : Figures) (w : List ℕ) : Type 0 where
  pub small : Small w
  pub room : f.blocks ≤ length w
  pub same : replicate f.blocks 0 ++ drop f.blocks w ≡ w

-- what figures say of sectors
pub record Sized (f : Figures) : Type 0 where
  pub whole : f.size ≡ 4 * (f.size / 4)
  pub size : f.size ≤ max_size

module _ (row₀ : Row) (w : List ℕ) where
  -- where a replay stands
  pub record Stands (f : Figures) (s : Sized f) (x : Point) (row : Row) (k : Ledger) : Type 0 where
    pub rep : RepIn alone_near row (state_of x)
    pub work : x.work ≡ w
    pub table : Spare f.lanes x.handle.table
    pub noted : Noted f s.whole row₀ row k

  -- one record
  record One (f : Figures) (s : Sized f) (i : ℕ) (x : Point) (r : Record) (row : Row) (k : Ledger) : Type 0 where
    number : answered i x r ≡ (reply_event alone_near (state_of x) (event_of f.size w i r)).number
    state : state_of (ran i x r) ≡ after_event alone_near (state_of x) (event_of f.size w i r)
    work : (ran i x r).work ≡ w
    table : Spare f.lanes (ran i x r).handle.table
    opens : CutsOpen (r ∷ []) (answered i x r ∷ [])
    noted : Noted f s.whole row₀ (row_after_event word_by_word f row (event_of f.size w i r)) (noted (stores_of f) f.lanes k i r (answered i x r))

  module _ (x : Point) (row : Row) (k : Ledger) (i : ℕ) (s : Sized x.handle.figures) (d : Stands x.handle.figures s x row k) where
    abbrev f : Figures
    f = x.handle.figures

    -- a call answers as the row does
    call_same : (c : Call) → (reply (state_of x) c).number ≡ (row_reply f row c).number
    unfolding row_reply_event
    call_same c = ap (λ (y : Reply). y.number) (event_reply alone_near row (state_of x) d.rep (called c))

    start_one : (l : LaneNo) (t : SectorNo) → One f s i x (Start l t) row k
    unfolding row_after_event row_after row_reply CutsOpen
    start_one l t = record {
      number = refl;
      state = refl;
      work = d.work;
      table = spare_call x.arena x.handle (start l.0 t.0) d.table;
      opens = tt;
      noted = rw (call_same (start l.0 t.0)) (by_bool (eqb (row_number f row (start l.0 t.0)) 0) _
          (λ z. rw z (started_noted f s.whole row₀ row k d.noted l.0 t.0)) (λ z. rw z d.noted));
    }

    abbrev buffer : List ℕ
    buffer = step_bytes f.size i

    step_one : i ≤ 8192 → (l : LaneNo) → One f s i x (Step l) row k
    unfolding row_after_event row_after row_reply CutsOpen
    step_one u l = record {
      number = refl;
      state = refl;
      work = d.work;
      table = spare_call x.arena x.handle (step l.0 buffer) d.table;
      opens = tt;
      noted = rw (call_same (step l.0 buffer)) (by_bool (eqb (row_number f row (step l.0 buffer)) 0) _
          (λ z. rw z (stepped_noted f s.whole row₀ row k d.noted l.0 i buffer (lent_length f.size i s.size)
          (λ n v. lent-word f.size i s.size u n (omega (arith, s.whole)))))
          (λ z. rw z d.noted));
    }

    -- an opening is accepted, in the arena and in the row
    module _ (c : Cleared f w) where
      -- with a fresh table, and with the table as it is
      abbrev o : Opening
      o = open_of alone_near x.arena (room_of w own_table)

      abbrev o' : Opening
      o' = open_of alone_near x.arena (room_of w x.handle.table)

      room : RoomFor f (room_of w own_table)
      room = record { bytes = c.room; records = omega (arith, held_long alone_near x.arena x.handle d.rep.held, d.table.size) }

      open_zero : o.number ≡ 0
      open_zero = accepted alone_near row (state_of x) d.rep (room_of w own_table) room

      row_zero : row_open_number f (extent_of (room_of w own_table)) ≡ 0
      unfolding row_open_number answer
      row_zero = rw (le-ltb (length w) f.blocks c.room, le-ltb (length own_table) f.lanes room.records)

      open_work : o.work ≡ w
      open_work =
          ap (λ (y : Reply). y.buffer) (event_reply alone_near row (state_of x) d.rep (opened (room_of w own_table)))
          ∙ unfold row_reply_event row_work in (rw (le-ltb (length w) f.blocks c.room) c.same)

      same : o' ≡ o
      same = open_same x.arena w x.handle.table (rw d.rep.held.good.figures d.table) open_zero

      also_zero : o'.number ≡ 0
      also_zero = ap (λ (y : Opening). y.number) same ∙ open_zero

      cut_one : One f s i x Cut row k
      unfolding row_after_event CutsOpen
      cut_one = rw d.work (record {
        number = ap (λ (y : Opening). y.number) same;
        state = rw (same, open_zero);
        work = rw same open_work;
        table = rw same (rw d.rep.held.good.figures at (spare_open x.arena w));
        opens = (also_zero, tt);
        noted = rw (also_zero, row_zero) (reopened_noted f s.whole row₀ row k d.noted);
      })

    one : Cleared f w → i ≤ 8192 → (r : Record) → Fits r → One f s i x r row k
    one c u (Start l t) p = start_one l t
    one c u (Step l) p = step_one u l
    one c u Cut p = cut_one c

  -- ---- all records

  -- the events lend bytes below 256
  event_small : (f : Figures) → Cleared f w → (i : ℕ) (r : Record) → Fits r → SmallEvent (event_of f.size w i r)
  event_small f c i (Start l t) p = tt
  event_small f c i (Step l) p = lent_small f.size i
  event_small f c i Cut p = c.small

  pub events_small : (f : Figures) → Cleared f w → (rs : List Record) (i : ℕ) → AllFit rs → SmallEvents (events_of f.size w i rs)
  unfolding events_of AllFit
  events_small f c [] i p e m = absurd (Memᴰ.not-nil m)
  events_small f c (r ∷ rs) i p e m = ⊎_elim (λ q. subst SmallEvent (sym q) (event_small f c i r p.0)) (events_small f c rs (suc i) p.1 e) (Memᴰ.cases_cons m)

  cuts_more : (r : Record) (n : ℕ) (rs : List Record) (ns : List ℕ) → CutsOpen (r ∷ []) (n ∷ []) → CutsOpen rs ns → CutsOpen (r ∷ rs) (n ∷ ns)
  unfolding CutsOpen
  cuts_more (Start l t) n rs ns p q = q
  cuts_more (Step l) n rs ns p q = q
  cuts_more Cut n rs ns p q = (p.0, q)

  module _ (f : Figures) (s : Sized f) (c : Cleared f w) where
    abbrev from : ℕ → List Record → List Event
    from i rs = events_of f.size w i rs

    -- all records, from a point that row₁ stands for
    pub record Followed (i : ℕ) (x : Point) (rs : List Record) (row₁ : Row) (k : Ledger) : Type 0 where
      pub numbers : answers_all i x rs ≡ map (λ (y : Reply). y.number) (reply_events alone_near (state_of x) (from i rs))
      pub in_row : answers_all i x rs ≡ map (λ (y : Reply). y.number) (row_replies word_by_word f row₁ (from i rs))
      pub state : state_of (run_all i x rs) ≡ run_events alone_near (state_of x) (from i rs)
      pub cuts : CutsOpen rs (answers_all i x rs)
      pub row : Row
      pub stands : Stands f s (run_all i x rs) row (all_noted (stores_of f) f.lanes k i rs (answers_all i x rs))
      pub figures : (run_all i x rs).handle.figures ≡ f

    -- one record, where the figures are f
    record Next (i : ℕ) (x : Point) (row : Row) (k : Ledger) (r : Record) (y : Figures) (t : Sized y) : Type 0 where
      one : One y t i x r row k
      reply : reply_event alone_near (state_of x) (event_of y.size w i r) ≡ row_reply_event y row (event_of y.size w i r)
      rep : RepIn alone_near (row_after_event word_by_word y row (event_of y.size w i r)) (after_event alone_near (state_of x) (event_of y.size w i r))

    next_of : (i : ℕ) (x : Point) (row : Row) (k : Ledger) → x.handle.figures ≡ f → Stands f s x row k → i ≤ 8192 → (r : Record) → Fits r
        → Next i x row k r f s
    next_of i x row k g d u r p = subst
        (λ (y : Figures). (t : Sized y) → Cleared y w → Stands y t x row k → SmallEvent (event_of y.size w i r) → Next i x row k r y t) g
        (λ t v e small.
        let event = event_of x.handle.figures.size w i r in
        record {
          one = one x row k i t e v u r p;
          reply = event_reply alone_near row (state_of x) e.rep event;
          rep = event_rep alone_near row (state_of x) e.rep event small;
        })
        s c d (event_small f c i r p)

    pub follow : (rs : List Record) (i : ℕ) (x : Point) (row : Row) (k : Ledger) → x.handle.figures ≡ f → Stands f s x row k → AllFit rs
        → i + length rs ≤ 8193 → Followed i x rs row k
    unfolding answers_all run_all events_of says runs CutsOpen all_noted AllFit
    follow [] i x row k g d p u = record { numbers = refl; in_row = refl; state = refl; cuts = tt; row = row; stands = d; figures = g }
    follow (r ∷ rs) i x row k g d p u =
        let e = event_of f.size w i r in
        let q = next_of i x row k g d (omega arith) r p.0 in
        let a = q.one in
        let row' = row_after_event word_by_word f row e in
        let g' = ap (λ (y : State). y.handle.figures) a.state ∙ (alike_event alone_near (state_of x) e d.rep.held).figures ∙ g in
        let d' : Stands f s (ran i x r) row' (noted (stores_of f) f.lanes k i r (answered i x r)) = record {
          rep = subst (λ (y : State). RepIn alone_near row' y) (sym a.state) q.rep;
          work = a.work;
          table = a.table;
          noted = a.noted;
        } in
        let h = follow rs (suc i) (ran i x r) row' (noted (stores_of f) f.lanes k i r (answered i x r)) g' d' p.1 (omega arith) in
        record {
          numbers = ap₂ {C = List ℕ} (λ n ns. n ∷ ns) a.number
              (h.numbers ∙ ap (λ (y : State). map (λ (z : Reply). z.number) (reply_events alone_near y (from (suc i) rs))) a.state);
          in_row = ap₂ {C = List ℕ} (λ n ns. n ∷ ns) (a.number ∙ ap (λ (z : Reply). z.number) q.reply) h.in_row;
          state = h.state ∙ ap (λ (y : State). run_events alone_near y (from (suc i) rs)) a.state;
          cuts = cuts_more r _ rs _ a.opens h.cuts;
          row = h.row;
          stands = h.stands;
          figures = h.figures;
        }
