-- The claim about a replay: the first opening stands for the row that the arena begins with and a ledger without lines, the records keep
-- that, and what the row holds is read.
use mathlib.Core.Path.{◌≡◌, refl, sym, ap, ◌∙◌, subst}
use mathlib.Core.Logic.{◌≢◌, inl}
use mathlib.Core.Bool.{false}
use mathlib.Core.List.{List, [], ◌∷◌, ◌++◌, map}
use Prim.Native.Nat.{ℕ, suc, ◌+◌, ◌≤◌, ◌<◌}
use native.Mathlib.Omega.{arith}
use lib.Dec.{eqb, leb}
use lib.ListN.{length, drop, replicate, length-append, length-replicate}
use lib.Seq.{drop_at}
use borrow.Author.Tests.{leb-true, leb-false, le-ltb, ne_eqb}
use Rattle.words.specs.Word.{word}
use Rattle.words.specs.Bytes.{Small}
use Rattle.format.proofs.Below.{below_append, below_replicate, below_drop}
use Rattle.format.proofs.Tests.{by_bool}
use Rattle.layout.proofs.Allowed.{pair_fitting}
use Rattle.layout.specs.Place.{layout_of}
use Rattle.layout.specs.Told.{alone_near}
use Rattle.layout.specs.declared.Figures.{Figures}
use Rattle.machine.specs.Rules.{answer}
use Rattle.machine.specs.calls.Opening.{Room, extent_of, Opening, figures_in, open_of}
use Rattle.machine.specs.calls.Reading.{read_of}
use Rattle.machine.specs.calls.History.{State, Reply, opened, after_event, opened_from}
use Rattle.machine.specs.models.Row.{Sector, Row, stores_of, word_by_word, row_number, row_read, row_open_number, row_after_event, row_replies, first_row, reopened}
use Rattle.machine.proofs.opening.Described.{described_figures}
use Rattle.machine.proofs.opening.Opening.{opening_claim}
use Rattle.machine.proofs.opening.Opens.{open_zero, opened_figures, opened_idle}
use Rattle.machine.specs.words.Valid.{RoomFor}
use Rattle.machine.specs.claims.Rest.{RestKept}
use Rattle.machine.proofs.opening.Room.{table_suffices}
use Rattle.machine.proofs.calls.Kept.{opened_kept}
use Rattle.machine.proofs.calls.Rest.{rest_keeps}
use Rattle.machine.proofs.invariant.Held.{held_open, held_whole}
use Rattle.machine.proofs.invariant.Histories.{alike_open}
use Rattle.machine.proofs.row.Answers.{read_is}
use Rattle.machine.proofs.row.Reads.{read_by, read_holds}
use Rattle.machine.proofs.row.Events.{RepIn, accepted, event_rep}
use Rattle.machine.proofs.row.Follows.{first_rep}
use Rattle.runlog.specs.Log.{max_log, log_of}
use Rattle.runlog.specs.Claims.{AllFit}
use Rattle.runlog.specs.declared.record.Record.{Record}
use Rattle.runlog.proofs.Logs.{log_claim}
use Rattle.replaying.specs.Replay.{Point, Replay, own_table, room_of, opened_point, ran, run_all, answers_all, replay_from, replay_of}
use Rattle.replaying.specs.Ledger.{Written, as_opened, by, Ledger, no_lines, cut_noted, all_noted}
use Rattle.replaying.specs.Claims.{CutsOpen, SectorReads, ReadsBy, numbers, last, events, ReplayFor, RefusedFor, ReplayClaim}
use Rattle.replaying.proofs.Spare.{spare_open}
use Rattle.replaying.proofs.Noted.{SectorNoted, Noted, reopened_noted}
use Rattle.replaying.proofs.Follows.{state_of, Cleared, Sized, events_small, Followed, follow}

-- ---- the records of a log

count_records : (log : List ℕ) → 0 + length (log_of log).records ≤ 8193
count_records log = omega (arith, log_claim.few log)

fit_records : (log : List ℕ) → Small log → AllFit (log_of log).records
fit_records log small = by_bool (leb (length log) max_log) _
    (λ t. (log_claim.every log small (leb-true _ _ t)).0)
    (λ t. rw (log_claim.longer log (leb-false _ _ t)) (unfold AllFit in tt))

-- an answer for each record
pub answers_length : (i : ℕ) (x : Point) (rs : List Record) → length (answers_all i x rs) ≡ length rs
unfolding answers_all
answers_length i x [] = refl
answers_length i x (r ∷ rs) = ap suc (answers_length (suc i) (ran i x r) rs)

-- ---- reading

-- a read of the row goes by the sector alone
row-read : (f : Figures) (row : Row) (s : ℕ) (buffer : List ℕ) → row_read f row s buffer ≡ read_by f (row.sector s) s buffer
unfolding row_read row_number answer
row-read f row s buffer = refl

module _ (f : Figures) (z : Sized f) where
  -- what a sector holds, against what the ledger says of it
  sector_reads : (c₀ c : Sector) (k : Written) → SectorNoted f z.whole c₀ c k → (s : ℕ) (buffer : List ℕ) → s < f.sectors → length buffer ≡ f.size
      → SectorReads f.size (read_by f c₀ s buffer) (read_by f c s buffer) k
  unfolding word
  sector_reads c₀ c as_opened n s buffer u v = ap (λ (d : Sector). read_by f d s buffer) n
  sector_reads c₀ c (by is) n s buffer u v =
      rw (n.holds, read_holds f n.bytes s buffer u v) (record { number = refl; bytes = n.size; words = λ k w. n.words k w w })

  -- an arena and handle that a row stands for, against the first
  reads_by : (x y : State) (row₀ row : Row) (k : Ledger) → x.handle.figures ≡ f → y.handle.figures ≡ f → RepIn alone_near row₀ x → RepIn alone_near row y
      → Noted f z.whole row₀ row k → (s : ℕ) (buffer : List ℕ) → s < f.sectors → length buffer ≡ f.size
      → SectorReads f.size (read_of x.arena x.handle s buffer) (read_of y.arena y.handle s buffer) (k.sector s)
  reads_by x y row₀ row k g g' r r' n s buffer u v =
      rw (read_is alone_near row₀ x.arena x.handle r s buffer, read_is alone_near row y.arena y.handle r' s buffer, g, g')
      (rw (row-read f row₀ s buffer, row-read f row s buffer)
      (sector_reads (row₀.sector s) (row.sector s) (k.sector s) (n.sector s) s buffer u v))

-- ---- the first opening

module _ (a work : List ℕ) (small : Small a) (small_work : Small work) (e : (open_of alone_near a (room_of work own_table)).number ≡ 0) where
  abbrev lent : Room
  lent = room_of work own_table

  abbrev first : State
  first = opened_from alone_near a lent

  abbrev f : Figures
  f = first.handle.figures

  figures_are : f ≡ figures_in a
  figures_are = opened_figures alone_near a lent e

  rep₀ : RepIn alone_near (first_row first) first
  rep₀ = first_rep alone_near first (held_open alone_near a lent small e) (opened_idle alone_near a lent e)

  room : (figures_in a).blocks ≤ length work
  room = (((opening_claim alone_near).answers a lent small).accepts e).1.bytes

  sized : Sized f
  sized = record {
    whole = unfold layout_of in (held_whole alone_near first.arena first.handle rep₀.held);
    size =
        let d = (open_zero alone_near a (extent_of lent) (unfold open_of in e)).0.info in
        rw figures_are (pair_fitting _ _ (described_figures alone_near a d).sizes).most;
  }

  cleared : Cleared f (open_of alone_near a lent).work
  cleared = rw (figures_are, work_is) (record {
    small = below_append 256 (replicate n 0) (drop n work) (below_replicate 256 n 0 (omega arith)) (below_drop 256 n work small_work);
    room = omega (arith, length-append (replicate n 0) (drop n work), length-replicate {A = ℕ} n 0);
    same = rw (drop_at (replicate {A = ℕ} n 0) (drop n work) n (length-replicate {A = ℕ} n 0));
  })
    where
      n : ℕ
      n = (figures_in a).blocks

      work_is : (open_of alone_near a lent).work ≡ replicate (figures_in a).blocks 0 ++ drop (figures_in a).blocks work
      work_is = unfold layout_of in (((opening_claim alone_near).work a lent).cleared (inl e))

  -- ---- the records of a log

  module _ (log : List ℕ) (small_log : Small log) where
    abbrev x : Point
    x = opened_point (open_of alone_near a lent)

    abbrev records : List Record
    records = (log_of log).records

    followed : Followed (first_row first) (open_of alone_near a lent).work f sized cleared 0 x records (first_row first) no_lines
    followed = follow (first_row first) (open_of alone_near a lent).work f sized cleared records 0 x (first_row first) no_lines refl
        (record {
          rep = rep₀;
          work = refl;
          table = rw figures_are (spare_open a work);
          noted = record { lane = λ l. tt; sector = λ s. refl };
        })
        (fit_records log small_log) (count_records log)

    replay_is : replay_of a work log ≡ replay_from (log_of log) x
    unfolding replay_of
    replay_is = rw e

    abbrev end : State
    end = last a work log

    last_is : state_of (run_all 0 x records) ≡ end
    last_is = followed.state

    rep_last : RepIn alone_near followed.row end
    rep_last = subst (λ (y : State). RepIn alone_near followed.row y) last_is followed.stands.rep

    last_figures : end.handle.figures ≡ f
    last_figures = ap (λ (y : State). y.handle.figures) (sym last_is) ∙ followed.figures

    -- opened again
    module _ (again : Room) (u : RoomFor (figures_in a) again) where
      room_is : RoomFor end.handle.figures again
      room_is = rw (last_figures, figures_are) u

      opens : (open_of alone_near end.arena again).number ≡ 0
      opens = accepted alone_near followed.row end rep_last again room_is

      opened_again : after_event alone_near end (opened again) ≡ opened_from alone_near end.arena again
      opened_again = rw opens

      row_again : row_after_event word_by_word end.handle.figures followed.row (opened again) ≡ reopened f followed.row
      unfolding row_after_event row_open_number answer
      row_again = rw (le-ltb _ _ room_is.bytes, le-ltb _ _ room_is.records, last_figures)

      rep_again : Small again.work → RepIn alone_near (reopened f followed.row) (opened_from alone_near end.arena again)
      rep_again q = subst (λ (y : State). RepIn alone_near (reopened f followed.row) y) opened_again
          (subst (λ (y : Row). RepIn alone_near y (after_event alone_near end (opened again))) row_again
          (event_rep alone_near followed.row end rep_last (opened again) q))

      again_figures : (opened_from alone_near end.arena again).handle.figures ≡ f
      again_figures = (alike_open alone_near end again rep_last.held opens).figures ∙ last_figures

    -- the answers, and the ledger that they give
    abbrev given : List ℕ
    given = answers_all 0 x records

    numbers_are : numbers a work log ≡ given
    numbers_are = ap (λ (p : Replay). p.numbers) replay_is

    -- the same as the row answers
    pub numbers_in_row : numbers a work log ≡ map (λ (r : Reply). r.number) (row_replies word_by_word f (first_row first) (events a work log))
    numbers_in_row = numbers_are ∙ followed.in_row

    abbrev lines : List ℕ → Ledger
    lines ns = all_noted (stores_of f) f.lanes no_lines 0 records ns

    pub replay_for : ReplayFor a work log
    replay_for = record {
      count = ap (λ (ns : List ℕ). length ns) numbers_are ∙ answers_length 0 x records;
      whole = λ t. rw (replay_is, t) (refl, refl);
      stops = λ t. rw (replay_is, t) (refl, refl);
      answers = numbers_are ∙ followed.numbers;
      arena = rw replay_is (ap (λ (y : State). y.arena) last_is);
      buffer = rw replay_is followed.stands.work;
      cuts = subst (CutsOpen records) (sym numbers_are) followed.cuts;
      rest = rw (replay_is, ap (λ (y : State). y.arena) last_is) (opened_kept RestKept rest_keeps alone_near a lent (events a work log) small
          (events_small (first_row first) _ f cleared records 0 (fit_records log small_log)) e);
      sectors = subst (λ (ns : List ℕ). ReadsBy first end (lines ns).sector) (sym numbers_are)
          (reads_by f sized first end (first_row first) followed.row (lines given) refl last_figures rep₀ rep_last followed.stands.noted);
      opens = opens;
      reopened = λ again q u. subst
          (λ (ns : List ℕ). ReadsBy first (opened_from alone_near end.arena again) (cut_noted (stores_of f) f.lanes (lines ns)).sector) (sym numbers_are)
          (reads_by f sized first (opened_from alone_near end.arena again) (first_row first) (reopened f followed.row) _ refl
          (again_figures again u) rep₀ (rep_again again u q)
          (reopened_noted f sized.whole (first_row first) followed.row (lines given) followed.stands.noted));
    }

-- ---- a refused opening

module _ (a work log : List ℕ) (n : (open_of alone_near a (room_of work own_table)).number ≢ 0) where
  abbrev o : Opening
  o = open_of alone_near a (room_of work own_table)

  refused_is : replay_of a work log ≡ record { first = o.number; numbers = []; stopped = false; at = 0; arena = o.arena; work = o.work }
  unfolding replay_of
  refused_is = rw (ne_eqb o.number 0 n)

  refused_for : RefusedFor a work log
  refused_for = record {
    first = rw refused_is;
    numbers = rw refused_is;
    stopped = rw refused_is;
    at = rw refused_is;
    arena = rw refused_is ((opening_claim alone_near).refused a (room_of work own_table) n).arena;
    buffer = rw refused_is;
  }

-- ---- its own table

enough : (a work : List ℕ) → (open_of alone_near a (room_of work own_table)).number ≢ 21
enough a work = table_suffices alone_near a (room_of work own_table) (omega arith)

never_short : (a work log : List ℕ) → (replay_of a work log).first ≢ 21
unfolding replay_of
never_short a work log e = by_bool (eqb (open_of alone_near a (room_of work own_table)).number 0) _
    (λ t. let z : ◌≡◌ {A = ℕ} 0 21 = rw t at e in omega arith) (λ t. enough a work (rw t at e))

pub replay_claim : ReplayClaim
replay_claim = record {
  opened = λ a work log small small_work small_log e.
      (ap (λ (p : Replay). p.first) (replay_is a work small small_work e log small_log), replay_for a work small small_work e log small_log);
  refused = refused_for;
  long = never_short;
}
