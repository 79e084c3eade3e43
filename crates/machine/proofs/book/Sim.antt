-- An arena and its latest handle against the book: the arena is the first one with the book's stores put in, the lanes are the book's.
-- Every call answers as the book does.
use mathlib.Core.Path.{◌≡◌, refl, sym, ap, ap₂, ◌∙◌}
use mathlib.Core.List.{List, [], Memᴰ}
use mathlib.Core.Bool.{true, false, cond, not, ◌&&◌}
use Prim.Native.Nat.{ℕ, ◌<◌}
use native.Mathlib.Omega.{arith}
use lib.Dec.{eqb, leb, ltb}
use borrow.Author.Tests.{leb-true, leb-false, le-leb, lt-ltb, ltb-true, ltb-false, eqb-true, eq-eqb, ne_eqb, not-true, not-false}
use Rattle.format.specs.MapWord.{flags_of, reading_of}
use Rattle.format.proofs.Tests.{true_false, by_bool, and_elim, and_intro}
use Rattle.format.proofs.MapWord.{flags_mapped}
use Rattle.format.proofs.InNumbers.{map_words}
use Rattle.layout.specs.Place.{layout_of}
use Rattle.layout.specs.declared.Figures.{Figures}
use Rattle.machine.specs.state.Lane.{write_stores, is_busy}
use Rattle.machine.specs.state.Handle.{Handle, lane_at, laid_out}
use Rattle.machine.specs.state.Flog.{map_word, free_of}
use Rattle.machine.specs.calls.Opening.{figures_in, layout_in, handle_for}
use Rattle.machine.specs.calls.Reading.{Read, read_of}
use Rattle.machine.specs.calls.Judging.{in_flight, tests, call_number}
use Rattle.machine.specs.calls.Order.{
  Rule,
  bad_handle,
  short_table,
  bad_records,
  no_such_sector,
  wrong_buffer,
  no_such_lane,
  lane_busy,
  lane_idle,
  sector_busy,
  bad_map_word,
  sloppy_map_word,
  bad_sector,
  number,
  order,
}
use Rattle.machine.specs.calls.Writing.{start_of, step_of, write_of}
use Rattle.machine.specs.models.Row.{holds, row_read}
use Rattle.machine.specs.calls.History.{Call, read, start, step, write, State, just_number, reply}
use Rattle.machine.specs.models.Book.{
  Entry,
  bad_bits,
  in_flight_yet,
  lane_flies,
  sector_flies,
  book_tests,
  book_number,
  bytes_of,
  sector_done,
  book_read,
  book_reply,
}
use Rattle.machine.specs.claims.DemandThree.{Differ}
use Rattle.machine.proofs.invariant.Held.{held_allowed, held_short, held_records, held_word, held_clean, lanes-in, sectors_in, lanes_out}
use Rattle.machine.proofs.invariant.Histories.{HeldIn}
use Rattle.machine.proofs.book.Entries.{any_some, any_false}
use Rattle.machine.proofs.rules.Rules.{alike}
use Rattle.machine.proofs.rules.Running.{Needs, guarded}
use Rattle.machine.proofs.row.Reads.{read_by}
use Rattle.machine.proofs.book.FirstArena.{FirstArena}
use Rattle.machine.proofs.book.Stores.{booked, BookOk, kept_map}
use Rattle.machine.proofs.book.Lanes.{LaneOf, busy_is, flight_is}
use Rattle.machine.proofs.book.Reads.{word_new, read_old, read_new}
use Rattle.layout.specs.declared.Told.{Told}

-- a read's number, and its buffer where it is accepted
read_parts : (a : List ℕ) (h : Handle) (s : ℕ) (buffer : List ℕ) → read_of a h s buffer
    ≡ record { number = call_number a h (read s buffer); buffer = cond (eqb (call_number a h (read s buffer)) 0) (read_of a h s buffer).buffer buffer }
unfolding read_of
read_parts a h s buffer = by_bool (eqb (call_number a h (read s buffer)) 0) _ (λ t. rw t) (λ t. rw t)

-- an accepted read of a sector that holds bytes gives them
holds_read : (f : Figures) (bytes : List ℕ) (s : ℕ) (buffer : List ℕ) → (read_by f (holds bytes) s buffer).number ≡ 0
    → (read_by f (holds bytes) s buffer).buffer ≡ bytes
unfolding row_read
holds_read f bytes s buffer e = rw e

-- a bad sector by the bits of its map word
bad-bits : (w : ℕ) → eqb (reading_of (flags_of w)) 1 ≡ bad_bits w
bad-bits w = by_bool (bad_bits w) _
    (λ t. let p = and_elim (leb 0x40000000 w) (ltb w 0x80000000) t in
    map_words.rule_15_back w (leb-true 0x40000000 w p.0, ltb-true w 0x80000000 p.1) ∙ sym t)
    (λ t. by_bool (eqb (reading_of (flags_of w)) 1) _
    (λ u. let b = map_words.rule_15 w u in
    absurd (true_false (sym (and_intro _ _ (le-leb 0x40000000 w b.0) (lt-ltb w 0x80000000 b.1)) ∙ t)))
    (λ u. u ∙ sym t))

module _ (τ : Told) where
  pub record Sim (a : List ℕ) (bytes : ℕ → List ℕ) (b : List Entry) (y : State) : Type 0 where
    pub arena : y.arena ≡ booked τ a bytes b
    pub figures : y.handle.figures ≡ figures_in a
    pub lanes : (l : ℕ) → l < (layout_in τ a).N → LaneOf τ a b l (lane_at y.handle.table l)
    pub ok : BookOk τ a bytes b
    pub held : HeldIn τ y

  -- the bytes of the write to a sector
  bytes-of : (a : List ℕ) (bytes : ℕ → List ℕ) (e : Entry) (b : List Entry) → Differ b → Memᴰ e b → in_flight_yet τ a e ≡ false → (buffer : List ℕ)
      → bytes_of τ a bytes b e.sector buffer ≡ bytes e.lane
  unfolding bytes_of
  bytes-of a bytes e b f (Memᴰ.head p) t buffer = rw (← p, eq-eqb e.sector e.sector refl, t)
  bytes-of a bytes e b f (Memᴰ.tail {x = d} {xs = c} m) t buffer =
      rw (ne_eqb d.sector e.sector (f.0 e m).1) (bytes-of a bytes e c f.1 m t buffer)

  module _ (a : List ℕ) (bytes : ℕ → List ℕ) (x : FirstArena τ a) (b : List Entry) (y : State) (z : Sim a bytes b y) where
    flies : (l : ℕ) → l < (figures_in a).lanes → is_busy (lane_at y.handle.table l) ≡ lane_flies τ a b l
    flies l u = busy_is τ a b z.ok.differ l (lane_at y.handle.table l) (z.lanes l (lanes-in τ.distance (figures_in a) l u))

    flights : (s : ℕ) → in_flight y.handle.table (figures_in a).lanes s ≡ sector_flies τ a b s
    flights = flight_is τ a b z.ok.differ (figures_in a).lanes y.handle.table (λ l u. z.lanes l (lanes-in τ.distance (figures_in a) l u))
        (λ e m. lanes_out τ.distance (figures_in a) e.lane (z.ok.each e m).lane_in)

    -- the handle's layout is the first arena's
    pub layout_is : laid_out y.handle ≡ layout_in τ a
    layout_is = ap₂ layout_of (sym z.held.good.distance) z.figures

    -- ---- what a sector's writes have come to

    -- a write to it is finished, or none has stored its map word
    pub record Finished (s : ℕ) : Type 0 where
      pub entry : Entry
      pub member : Memᴰ entry b
      pub sector : entry.sector ≡ s
      pub whole : entry.tally ≡ write_stores (layout_in τ a)
      pub landed : in_flight_yet τ a entry ≡ false

    finished : (s : ℕ) → sector_done τ a b s ≡ true → Finished s
    finished s t = go (any_some (λ e. eqb e.sector s && not (in_flight_yet τ a e)) b t)
      where
        go : ((e : Entry) × Memᴰ e b × (eqb e.sector s && not (in_flight_yet τ a e) ≡ true)) → Finished s
        go (e, m, q) =
            let p = and_elim (eqb e.sector s) (not (in_flight_yet τ a e)) q in
            let t = not-true (in_flight_yet τ a e) p.1 in
            record {
              entry = e;
              member = m;
              sector = eqb-true e.sector s p.0;
              whole = omega (arith, ltb-false e.tally (write_stores (layout_in τ a)) t, (z.ok.each e m).tally_in);
              landed = t;
            }

    early : (s : ℕ) → sector_done τ a b s ≡ false → (e : Entry) → Memᴰ e b → e.sector ≡ s → e.tally < write_stores (layout_in τ a)
    early s t e m p =
        ltb-true _ _ (not-false _ (rw (eq-eqb e.sector s p) at (any_false (λ d. eqb d.sector s && not (in_flight_yet τ a d)) b t e m)))

    -- ---- answers

    -- bad is what was so in the first arena and has no finished write
    bad_is : (s : ℕ) → s < (figures_in a).sectors → tests y.arena y.handle (bad_sector s) ≡ book_tests τ a b (bad_sector s)
    bad_is s u = rw (layout_is, z.arena) (by_bool (sector_done τ a b s) _
        (λ t. let d = finished s t in
        let c : free_of (layout_in τ a) a d.entry.lane < 1073741824 =
        omega (arith, x.free_in d.entry.lane (z.ok.each d.entry d.member).lane_in, x.ok.small) in
        rw (t, ← d.sector, word_new τ a bytes x b z.ok d.entry d.member d.whole, flags_mapped _ c))
        (λ t. rw (t, kept_map τ a bytes x b z.ok s (sectors_in τ.distance (figures_in a) s u) (early s t)) (bad-bits (map_word (layout_in τ a) a s))))

    agree : (r : Rule) → Needs (figures_in a) r → tests y.arena y.handle r ≡ book_tests τ a b r
    agree bad_handle u = rw (held_allowed τ y.arena y.handle z.held)
    agree short_table u = held_short τ y.arena y.handle z.held
    agree bad_records u = rw (held_records τ y.arena y.handle z.held)
    agree (no_such_sector s) u = rw z.figures
    agree (wrong_buffer n) u = rw z.figures
    agree (no_such_lane l) u = rw z.figures
    agree (lane_busy l) u = flies l u
    agree (lane_idle l) u = ap not (flies l u)
    agree (sector_busy s) u = rw z.figures (flights s)
    agree (bad_map_word s) u = held_word τ y.arena y.handle z.held s (rw z.figures u)
    agree (sloppy_map_word s) u = held_clean τ y.arena y.handle z.held s (rw z.figures u)
    agree (bad_sector s) u = bad_is s u

    pub number_is : (c : Call) → call_number y.arena y.handle c ≡ book_number τ a b c
    unfolding call_number book_number
    number_is c = alike number (Needs (figures_in a)) (book_tests τ a b) (tests y.arena y.handle) agree (order c)
        (guarded (figures_in a) (book_tests τ a b) (λ l. leb-false _ l) (λ s. leb-false _ s) c)

    pub number_of : (c : Call) → (reply y c).number ≡ book_number τ a b c
    number_of (read s buffer) = unfold read_of in (number_is (read s buffer))
    number_of (start l s) = unfold start_of in (number_is (start l s))
    number_of (step l buffer) = unfold step_of in (number_is (step l buffer))
    number_of (write l s buffer) = unfold write_of in (number_is (write l s buffer))

    -- ---- reads

    -- an accepted read gives the bytes of a finished write, and else what the first arena gives
    read_buffer : (s : ℕ) (buffer : List ℕ) → book_number τ a b (read s buffer) ≡ 0
        → (read_of y.arena y.handle s buffer).buffer ≡ cond (sector_done τ a b s) (bytes_of τ a bytes b s buffer) (read_of a (handle_for τ a []) s buffer).buffer
    read_buffer s buffer zero_number = by_bool (sector_done τ a b s) _
        (λ t. let d = finished s t in
        let new = read_new τ a bytes x b z.ok y.arena y.handle z.held z.figures z.arena s buffer d.entry d.member d.whole d.sector in
        rw (t, ← d.sector, bytes-of a bytes d.entry b z.ok.differ d.member d.landed buffer)
        (rw d.sector (ap (λ (r : Read). r.buffer) new ∙ holds_read (figures_in a) (bytes d.entry.lane) s buffer
        (ap (λ (r : Read). r.number) (sym new) ∙ number_of (read s buffer) ∙ zero_number))))
        (λ t. rw t (ap (λ (r : Read). r.buffer)
        (read_old τ a bytes x b z.ok y.arena y.handle z.held z.figures z.arena s buffer (handle_for τ a []) x.handle (early s t))))

    read_is : (s : ℕ) (buffer : List ℕ) → read_of y.arena y.handle s buffer ≡ book_read τ a bytes b s buffer
    unfolding book_read
    read_is s buffer = read_parts y.arena y.handle s buffer ∙ rw (number_is (read s buffer)) (by_bool (eqb (book_number τ a b (read s buffer)) 0) _
        (λ t. rw (t, read_buffer s buffer (eqb-true _ _ t))) (λ t. rw t))

    pub reply_is : (c : Call) → reply y c ≡ book_reply τ a bytes b c
    unfolding book_reply
    reply_is (read s buffer) = ap (λ (r : Read). record { number = r.number; buffer = r.buffer; mended = 0 }) (read_is s buffer)
    reply_is (start l s) = ap just_number (number_of (start l s))
    reply_is (step l buffer) = ap just_number (number_of (step l buffer))
    reply_is (write l s buffer) = ap just_number (number_of (write l s buffer))
