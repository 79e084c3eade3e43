-- A cut that keeps any set of the stores before each sequence word. The stores of the writes without one are loose: the first arena with
-- them put in is as good a first arena, in which the other writes are made in turn, and what holds after a cut there is what the claim says.
use mathlib.Core.Path.{◌≡◌, refl, sym, ap, ap₂, ◌∙◌, subst}
use mathlib.Core.Logic.{◌⊎◌, inl, inr, ⊎_elim}
use mathlib.Core.List.Memᴰ
use mathlib.Core.List.{List, [], ◌∷◌, ◌++◌, map, Memᴰ}
use mathlib.Core.Bool.{cond, Bool}
use Prim.Native.Nat.{ℕ, ◌+◌, ◌-◌, ◌/◌, ◌≤◌, ◌<◌}
use native.Mathlib.Omega.{arith}
use lib.Dec.{eqb, leb}
use borrow.Author.Tests.{eqb-false, ne_eqb, leb-true, leb-false, le-leb}
use Rattle.format.specs.Sequence.{successor}
use Rattle.format.proofs.Tests.{by_bool}
use Rattle.layout.specs.Place.{Layout, layout_of}
use Rattle.layout.specs.declared.Told.{Told}
use Rattle.machine.specs.declared.lane.Lane.{Lane}
use Rattle.machine.specs.state.Lane.{write_stores}
use Rattle.machine.specs.state.Handle.{Handle, lane_at, laid_out}
use Rattle.machine.specs.state.Stores.{Store, put_all}
use Rattle.machine.specs.state.Flog.{newer_half, newer_word, free_of}
use Rattle.machine.specs.calls.Opening.{Room, figures_in, layout_in, found_lane, open_of}
use Rattle.machine.specs.calls.History.{State}
use Rattle.machine.specs.calls.Writing.{Plan}
use Rattle.machine.specs.words.Records.{Idle}
use Rattle.machine.specs.words.Valid.{RoomFor}
use Rattle.machine.specs.models.Book.{Entry, lacks_map_word, last_words, kept, plan_in}
use Rattle.machine.specs.claims.DemandTwo.{AllIdle}
use Rattle.machine.specs.claims.DemandThree.{SequenceStored, AfterCut, before_sequence, MayKeep, Survive}
use Rattle.machine.proofs.stores.Members.{Each, each_none, each_more}
use Rattle.machine.proofs.stores.Stores.{Fits, Agree, put_all-append, any_order}
use Rattle.machine.proofs.stores.Kinds.{Kind, is_data, is_log, is_map, kind}
use Rattle.machine.proofs.invariant.Held.{Held, lanes-in}
use Rattle.machine.proofs.book.Entries.{retally}
use Rattle.machine.proofs.book.FirstArena.{FirstArena, first_found, first_arena}
use Rattle.machine.proofs.book.Places.{first_in, first_out}
use Rattle.machine.proofs.book.Stores.{booked, store_of, KeptAs, EntryOk, entry_like, BookOk, book_like, kept_from, kept_out, kept_fits, kept_agree}
use Rattle.machine.proofs.book.Sim.{Sim}
use Rattle.machine.proofs.book.SimRun.{sim_start}
use Rattle.machine.proofs.book.AfterCut.{after-cut}
use Rattle.machine.proofs.book.InTurn.{sim_turn}
use Rattle.machine.proofs.book.Loose.{Loose, in_block, in_half, loose_held, loose_figures, loose_map, loose_found, loose_read}

-- whether a write's sequence word is stored
abbrev pub sequenced : List ℕ → Entry → Bool
sequenced a e = leb ((figures_in a).size / 4 + 4) e.tally

module _ (τ : Told) (a : List ℕ) where
  -- the stores of a write that are kept in any case, and those that may be
  abbrev firm_tally : Entry → ℕ
  firm_tally e = cond (sequenced a e) e.tally 0

  abbrev may_tally : Entry → ℕ
  may_tally e = cond (sequenced a e) e.tally (cond (eqb e.tally 0) 0 (before_sequence a))

  -- a map word is lacking of no other write
  lacks_firm : (e : Entry) → lacks_map_word τ a (retally firm_tally e) ≡ lacks_map_word τ a e
  unfolding layout_of
  lacks_firm e = by_bool (sequenced a e) _ (λ t. rw t)
      (λ t. let u = leb-false _ e.tally t in
      rw (t, ne_eqb (0 + 1) (write_stores (layout_in τ a)) (λ p. omega arith), ne_eqb (e.tally + 1) (write_stores (layout_in τ a)) (λ p. omega arith)))

  last_firm : (b : List Entry) → last_words τ a (map (retally firm_tally) b) ≡ last_words τ a b
  unfolding last_words
  last_firm [] = refl
  last_firm (e ∷ b) = rw (lacks_firm e, last_firm b)

  -- each write's first stores, as many as its tally, are such a set
  pub kept_survive : (bytes : ℕ → List ℕ) (b : List Entry) → Survive τ a bytes b (kept τ a bytes b)
  kept_survive bytes b = record {
    known = λ st m. let r = kept_out τ a bytes b st m in (r.entry, r.member, may r.entry r.number st r.early r.is);
    all = λ e m u st n. let r = first_out (layout_in τ a) (plan_in τ a e) (bytes e.lane) _ st n in
        kept_from τ a bytes b st (record { entry = e; member = m; number = r.0; early = omega (arith, r.1, u); is = r.2 });
  }
    where
      may : (e : Entry) (j : ℕ) (st : Store) → j < e.tally → st ≡ store_of τ a bytes e j → MayKeep τ a bytes e st
      may e j st u is = record {
        once_stored = λ v. Memᴰ.cast is (first_in (layout_in τ a) (plan_in τ a e) (bytes e.lane) e.tally j u);
        before = λ n. (omega arith, Memᴰ.cast is (first_in (layout_in τ a) (plan_in τ a e) (bytes e.lane) (before_sequence a) j (early n)));
      }
        where
          early : (SequenceStored a e → ⊥) → j < before_sequence a
          early n = by_bool (sequenced a e) _ (λ t. absurd (n (leb-true _ e.tally t))) (λ t. let v = leb-false _ e.tally t in omega arith)

module _ (τ : Told) (a : List ℕ) (h : Handle) (k : Held τ a h) (idle : AllIdle h) (bytes : ℕ → List ℕ) (c : List Entry) (o : BookOk τ a bytes c) where
  abbrev g : Layout
  g = layout_in τ a

  first : FirstArena τ a
  first = first_arena τ a h k idle

  laid : g ≡ laid_out h
  laid = ap₂ layout_of k.good.distance k.good.figures

  abbrev firm : List Entry
  firm = map (retally (firm_tally τ a)) c

  abbrev may : List Entry
  may = map (retally (may_tally τ a)) c

  firm_ok : BookOk τ a bytes firm
  firm_ok = book_like τ a bytes (firm_tally τ a) c o (λ e p. by_bool (sequenced a e) _
      (λ t. entry_like τ a bytes (firm_tally τ a) e p (rw t p.tally_in) (λ u. rw t at u))
      (λ t. entry_like τ a bytes (firm_tally τ a) e p (rw t (omega arith)) (λ u. absurd (let v = rw t at u in omega arith))))

  may_ok : BookOk τ a bytes may
  unfolding layout_of
  may_ok = book_like τ a bytes (may_tally τ a) c o (λ e p. by_bool (sequenced a e) _
      (λ t. entry_like τ a bytes (may_tally τ a) e p (rw t p.tally_in) (λ u. rw t at u))
      (λ t. by_bool (eqb e.tally 0) _
      (λ v. entry_like τ a bytes (may_tally τ a) e p (rw (t, v) (omega arith)) (λ u. absurd (let w = rw (t, v) at u in omega arith)))
      (λ v. entry_like τ a bytes (may_tally τ a) e p (rw (t, v) (omega arith)) (λ u. let w = eqb-false e.tally 0 v in omega arith))))

  -- ---- a store that a cut may keep

  may_keep : (e : Entry) → Memᴰ e c → (st : Store) → MayKeep τ a bytes e st → KeptAs τ a bytes may st
  may_keep e m st w = by_bool (sequenced a e) _
      (λ t. let r = first_out g (plan_in τ a e) (bytes e.lane) e.tally st (w.once_stored (leb-true _ e.tally t)) in
      record { entry = retally (may_tally τ a) e; member = Memᴰ.map (retally (may_tally τ a)) m; number = r.0; early = rw t r.1; is = r.2 })
      (λ t. let q = w.before (λ u. let v = leb-false _ e.tally t in omega arith) in
      let r = first_out g (plan_in τ a e) (bytes e.lane) (before_sequence a) st q.1 in
      record {
        entry = retally (may_tally τ a) e;
        member = Memᴰ.map (retally (may_tally τ a)) m;
        number = r.0;
        early = rw (t, ne_eqb e.tally 0 (λ z. omega (arith, q.0))) r.1;
        is = r.2;
      })

  -- a lane's record by the first arena
  found_block : (l : ℕ) → l < g.N → free_of g a l ≡ (lane_at h.table l).block.0
  found_block l u = ap (λ (r : Lane). r.block.0) (first_found τ a h k idle l u).is

  found_half : (l : ℕ) → l < g.N → 1 - newer_half g a l ≡ (lane_at h.table l).half
  found_half l u = ap (λ (r : Lane). r.half) (first_found τ a h k idle l u).is

  -- one before the sequence word is loose
  early_loose : (e : Entry) → e.lane < g.N → (j : ℕ) → j < g.W + 3 → Loose g h.table (store_of τ a bytes e j)
  early_loose e u j v = go (kind g (plan_in τ a e) (bytes e.lane) j (omega arith))
    where
      go : Kind g (plan_in τ a e) (bytes e.lane) j → Loose g h.table (store_of τ a bytes e j)
      go (is_data w is) = in_block e.lane j u w (rw (is, found_block e.lane u))
      go (is_log i w n is) = in_half e.lane i u (omega arith) (rw (is, found_half e.lane u))
      go (is_map n is) = absurd (omega arith)

  -- a store that a cut keeps is loose or firm
  loose_or_firm : (e : Entry) → Memᴰ e c → (st : Store) → MayKeep τ a bytes e st → Loose g h.table st ⊎ Memᴰ st (kept τ a bytes firm)
  unfolding layout_of
  loose_or_firm e m st w = by_bool (sequenced a e) _
      (λ t. let r = first_out g (plan_in τ a e) (bytes e.lane) e.tally st (w.once_stored (leb-true _ e.tally t)) in
      inr (kept_from τ a bytes firm st
      (record { entry = retally (firm_tally τ a) e; member = Memᴰ.map (retally (firm_tally τ a)) m; number = r.0; early = rw t r.1; is = r.2 })))
      (λ t. let q = w.before (λ u. let v = leb-false _ e.tally t in omega arith) in
      let r = first_out g (plan_in τ a e) (bytes e.lane) (before_sequence a) st q.1 in
      inl (rw r.2 (early_loose e (o.each e m).lane_in r.0 (omega (arith, r.1)))))

  -- the loose ones of a list of such stores
  record Split (ss : List Store) : Type 0 where
    loose : List Store
    each : Each (Loose g h.table) loose
    from : (st : Store) → Memᴰ st loose → Memᴰ st ss
    to : (st : Store) → Memᴰ st ss → Memᴰ st loose ⊎ Memᴰ st (kept τ a bytes firm)

  split : (ss : List Store) → ((st : Store) → Memᴰ st ss → (e : Entry) × Memᴰ e c × MayKeep τ a bytes e st) → Split ss
  split [] f = record { loose = []; each = each_none (Loose g h.table); from = λ st m. m; to = λ st m. inl m }
  split (su ∷ ss) f = go (loose_or_firm w.0 w.1 su w.2) (split ss (λ st m. f st (Memᴰ.tail m)))
    where
      w : (e : Entry) × Memᴰ e c × MayKeep τ a bytes e su
      w = f su (Memᴰ.head refl)

      go : Loose g h.table su ⊎ Memᴰ su (kept τ a bytes firm) → Split ss → Split (su ∷ ss)
      go (inl p) s = record {
        loose = su ∷ s.loose;
        each = each_more (Loose g h.table) su s.loose p s.each;
        from = λ st m. ⊎_elim (λ e. Memᴰ.head e) (λ n. Memᴰ.tail (s.from st n)) (Memᴰ.cases_cons m);
        to = λ st m. ⊎_elim (λ e. inl (Memᴰ.head e)) (λ n. ⊎_elim (λ q. inl (Memᴰ.tail q)) (λ q. inr q) (s.to st n)) (Memᴰ.cases_cons m);
      }
      go (inr p) s = record {
        loose = s.loose;
        each = s.each;
        from = λ st m. Memᴰ.tail (s.from st m);
        to = λ st m. ⊎_elim (λ e. inr (Memᴰ.cast e p)) (λ n. s.to st n) (Memᴰ.cases_cons m);
      }

  module _ (stores : List Store) (s : Survive τ a bytes c stores) where
    parts : Split stores
    parts = split stores s.known

    each : Each (Loose (laid_out h) h.table) parts.loose
    each = rw laid at parts.each

    -- the first arena with the loose stores put in
    abbrev a₂ : List ℕ
    a₂ = put_all (laid_out h) parts.loose a

    k₂ : Held τ a₂ h
    k₂ = loose_held τ h idle parts.loose a k each

    first₂ : FirstArena τ a₂
    first₂ = first_arena τ a₂ h k₂ idle

    figures : figures_in a₂ ≡ figures_in a
    figures = loose_figures τ h idle parts.loose a k each

    found : (l : ℕ) → l < g.N → found_lane (layout_in τ a₂) a₂ l ≡ found_lane g a l
    found = loose_found τ h idle parts.loose a k each

    plan_same : (e : Entry) → EntryOk τ a bytes e → plan_in τ a₂ e ≡ plan_in τ a e
    plan_same e p =
        let q = found e.lane p.lane_in in
        rw (
          loose_map τ h idle parts.loose a k each e.sector p.sector-in,
          ap (λ (r : Lane). r.block.0) q,
          ap (λ (r : Lane). r.half) q,
          ap (λ (r : Lane). r.sequence.0) q,
        )

    firm_ok₂ : BookOk τ a₂ bytes firm
    firm_ok₂ = record {
      each = λ e m. let p = firm_ok.each e m in record {
        lane_in = rw figures p.lane_in;
        sector-in = rw figures p.sector-in;
        tally_in = rw figures p.tally_in;
        small = p.small;
        size = rw figures p.size;
      };
      differ = firm_ok.differ;
    }

    kept_plan : (b : List Entry) → ((e : Entry) → Memᴰ e b → EntryOk τ a bytes e) → kept τ a₂ bytes b ≡ kept τ a bytes b
    unfolding kept
    kept_plan [] f = refl
    kept_plan (e ∷ b) f = rw (plan_same e (f e (Memᴰ.head refl)), figures, kept_plan b (λ d m. f d (Memᴰ.tail m)))

    -- a run that leaves the firm stores there
    ran : (y : State) × Sim τ a₂ bytes firm y
    ran = sim_turn τ a₂ bytes first₂ (record { arena = a₂; handle = h }) (sim_start τ a₂ h bytes k₂ idle) firm firm_ok₂

    known_may : (st : Store) → Memᴰ st stores → Memᴰ st (kept τ a bytes may)
    known_may st m = let w = s.known st m in kept_from τ a bytes may st (may_keep w.0 w.1 st w.2)

    -- which are all the stores that the cut keeps
    firm_kept : (st : Store) → Memᴰ st (kept τ a bytes firm) → Memᴰ st stores
    firm_kept st m = let r = kept_out τ a bytes firm st m in go r.number r.early r.is (Memᴰ.of_map (retally (firm_tally τ a)) c r.member)
      where
        go : {d : Entry} (j : ℕ) → j < d.tally → st ≡ store_of τ a bytes d j → ((e : Entry) × Memᴰ e c × (retally (firm_tally τ a) e ≡ d)) → Memᴰ st stores
        go j u is (e, n, p) = by_bool (sequenced a e) _
            (λ t. let v : j < e.tally = rw (← p, t) at u in
            s.all e n (leb-true _ e.tally t) st (Memᴰ.cast (rw (← p) at is) (first_in g (plan_in τ a e) (bytes e.lane) _ j (omega arith))))
            (λ t. absurd (let v : j < 0 = rw (← p, t) at u in omega arith))

    loose_first : booked τ a₂ bytes firm ≡ put_all g (parts.loose ++ kept τ a bytes firm) a
    loose_first = rw (kept_plan firm firm_ok.each, figures, ← laid) (sym (put_all-append g parts.loose (kept τ a bytes firm) a))

    arena_is : ran.0.arena ≡ put_all g stores a
    arena_is =
        ran.1.arena ∙ loose_first
        ∙ sym (any_order g first.ok stores (parts.loose ++ kept τ a bytes firm) a first.arena fits (agree (kept_agree τ a bytes first may may_ok))
        (λ st m. ⊎_elim (λ n. Memᴰ.append_left (kept τ a bytes firm) n) (λ n. Memᴰ.append_right parts.loose n) (parts.to st m))
        (λ st m. ⊎_elim (parts.from st) (firm_kept st) (Memᴰ.append_cases parts.loose m)))
      where
        fits : Each (Fits g) stores
        fits st m = kept_fits τ a bytes first may may_ok st (known_may st m)

        agree : Agree (kept τ a bytes may) → Agree stores
        agree f = unfold Agree in (λ st su m n. f st su (known_may st m) (known_may su n))

    module _ (room : Room) (enough : RoomFor (figures_in a) room) where
      there : AfterCut τ a₂ h bytes (put_all g stores a) firm room
      there = rw arena_is at (after-cut τ a₂ bytes first₂ firm ran.0 ran.1 h k₂ room (rw figures enough))

      firm_stored : (e : Entry) → SequenceStored a e → SequenceStored a₂ (retally (firm_tally τ a) e)
      firm_stored e u = rw (figures, le-leb _ e.tally u) u

      stored_firm : (e d : Entry) → retally (firm_tally τ a) e ≡ d → SequenceStored a₂ d → SequenceStored a e
      stored_firm e d p u = by_bool (sequenced a e) _ (λ t. leb-true _ e.tally t)
          (λ t. absurd (let v : (figures_in a).size / 4 + 4 ≤ 0 = rw (← p, figures, t) at u in omega arith))

      last_same : (b : List Entry) → ((e : Entry) → Memᴰ e b → EntryOk τ a bytes e) → last_words τ a₂ b ≡ last_words τ a b
      unfolding last_words
      last_same [] f = refl
      last_same (e ∷ b) f =
          rw (ap (λ (p : Plan). p.new) (plan_same e (f e (Memᴰ.head refl))), figures, last_same b (λ d m. f d (Memᴰ.tail m)))

      last-words : last_words τ a₂ firm ≡ last_words τ a c
      last-words = last_same firm firm_ok.each ∙ last_firm τ a c

      pub after_any_cut : AfterCut τ a h bytes (put_all g stores a) c room
      after_any_cut = record {
        number = there.number;
        layout = there.layout;
        figures = there.figures ∙ figures;
        idle = there.idle;
        past = λ l u. there.past l (rw figures u);
        moved = λ e m v.
            subst (λ (p : Plan). Idle p.old (1 - p.half) (successor p.sequence) (lane_at (open_of τ (put_all g stores a) room).handle.table e.lane))
            (plan_same e (o.each e m)) (there.moved (retally (firm_tally τ a) e) (Memᴰ.map (retally (firm_tally τ a)) m) (firm_stored e v));
        unmoved = λ l u n. unmoved l u (there.unmoved l (rw figures u) (none (λ e. e.lane) (λ e. refl) l n));
        stores = rw last-words at there.stores;
        arena = rw (last-words, figures) at there.arena;
        pending = rw last-words at there.pending;
        mended = rw last-words at there.mended;
        new = λ e m v buffer size. there.new (retally (firm_tally τ a) e) (Memᴰ.map (retally (firm_tally τ a)) m) (firm_stored e v) buffer (rw figures size);
        as_before = λ s n buffer. there.as_before s (none (λ e. e.sector) (λ e. refl) s n) buffer ∙ loose_read τ h idle parts.loose a k each s buffer;
        once = rw figures at there.once;
        cuts = there.cuts;
      }
        where
          -- none of the firm writes with this lane, or to this sector
          none : (of : Entry → ℕ) → ((e : Entry) → of e ≡ of (retally (firm_tally τ a) e)) → (n : ℕ)
              → ((e : Entry) → Memᴰ e c → of e ≡ n → SequenceStored a e → ⊥) → (d : Entry) → Memᴰ d firm → of d ≡ n → SequenceStored a₂ d → ⊥
          none of same n f d m p v =
              let w = Memᴰ.of_map (retally (firm_tally τ a)) c m in
              f w.0 w.1 (same w.0 ∙ ap of w.2 ∙ p) (stored_firm w.0 d w.2 v)

          unmoved : {r : Lane} (l : ℕ) → l < (figures_in a).lanes
              → Idle (free_of (layout_in τ a₂) a₂ l) (1 - newer_half (layout_in τ a₂) a₂ l) (successor (newer_word (layout_in τ a₂) a₂ l 3)) r
              → Idle (free_of g a l) (1 - newer_half g a l) (successor (newer_word g a l 3)) r
          unmoved l u i =
              let q = found l (lanes-in τ.distance (figures_in a) l u) in
              rw (ap (λ (r : Lane). r.block.0) q, ap (λ (r : Lane). r.half) q, ap (λ (r : Lane). r.sequence.0) q) at i
