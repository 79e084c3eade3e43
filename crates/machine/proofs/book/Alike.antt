-- Two arenas after a cut with one book open alike: what holds after a cut fixes the handle, its table, the mended lanes and every read.
use mathlib.Core.Path.{◌≡◌, sym, ap, ◌∙◌}
use mathlib.Core.List.{List, Memᴰ}
use mathlib.Core.Bool.{Bool, true, false, ◌&&◌}
use Prim.Native.Nat.{ℕ, ◌<◌}
use native.Mathlib.Decide.{ℕ_discrete}
use lib.Dec.{eqb, leb}
use lib.ListN.{length}
use lib.Seq.{ext_get_or}
use borrow.Author.Tests.{eqb-true, ne_eqb, eq-eqb, leb-true, leb-false, le-leb}
use Rattle.words.specs.Bytes.{Small}
use Rattle.format.proofs.Tests.{true_false, by_bool, and_elim, and_intro}
use Rattle.layout.specs.declared.Figures.{Figures}
use Rattle.layout.specs.declared.Told.{Told}
use Rattle.machine.specs.Rules.{answer}
use Rattle.machine.specs.state.Lane.{no_lane}
use Rattle.machine.specs.state.Handle.{Handle, lane_at}
use Rattle.machine.specs.calls.Opening.{Room, figures_in, handle_for, Opening, open_of}
use Rattle.machine.specs.calls.Reading.{read_of}
use Rattle.machine.specs.models.Row.{Sector, row_read, row_number}
use Rattle.machine.specs.models.Book.{Entry, any_entry}
use Rattle.machine.specs.claims.DemandThree.{SequenceStored, AfterCut, OpenAlike}
use Rattle.machine.proofs.opening.Opens.{opened_handle}
use Rattle.machine.proofs.calls.Lent.{opening_size}
use Rattle.machine.proofs.calls.Records.{idle_whole}
use Rattle.machine.proofs.invariant.Held.{Held, held_open}
use Rattle.machine.proofs.row.Reads.{read_by, held_read}
use Rattle.machine.proofs.book.Entries.{any_some, any_false}
use Rattle.machine.proofs.book.AnyCut.{sequenced}

-- a buffer of another length is refused whatever the sector holds
read_wrong : (f : Figures) (c d : Sector) (s : ℕ) (buffer : List ℕ) → eqb (length buffer) f.size ≡ false → read_by f c s buffer ≡ read_by f d s buffer
unfolding row_read row_number answer
read_wrong f c d s buffer e = by_bool (leb f.sectors s) _ (λ t. rw t) (λ t. rw (t, e))

same_handle : (x y : Handle) → x.length ≡ y.length → x.distance ≡ y.distance → x.figures ≡ y.figures → x.table ≡ y.table → x ≡ y
same_handle x y p q r s = rw (← p, ← q, ← r, ← s)

-- a write for which a test holds and whose sequence word is stored, or none
record Found (a : List ℕ) (b : List Entry) (t : Entry → Bool) : Type 0 where
  entry : Entry
  member : Memᴰ entry b
  test : t entry ≡ true
  stored : SequenceStored a entry

module _ (a : List ℕ) (b : List Entry) (t : Entry → Bool) where
  abbrev both : Entry → Bool
  both e = t e && sequenced a e

  found : any_entry both b ≡ true → Found a b t
  found z =
      let w = any_some both b z in
      let p = and_elim (t w.0) _ w.2 in
      record { entry = w.0; member = w.1; test = p.0; stored = leb-true _ w.0.tally p.1 }

  none : any_entry both b ≡ false → (e : Entry) → Memᴰ e b → t e ≡ true → SequenceStored a e → ⊥
  none z e m p u = true_false (sym (and_intro (t e) _ p (le-leb _ e.tally u)) ∙ any_false both b z e m)

module _ (τ : Told) (a : List ℕ) (h : Handle) (bytes : ℕ → List ℕ) (b : List Entry) (room : Room) where
  module _ (A B : List ℕ) (p : AfterCut τ a h bytes A b room) (q : AfterCut τ a h bytes B b room) (size : length B ≡ length A) (small_A : Small A) (small_B : Small B) where
    abbrev x : Opening
    x = open_of τ A room

    abbrev y : Opening
    y = open_of τ B room

    lane_same : (l : ℕ) → lane_at y.handle.table l ≡ lane_at x.handle.table l
    lane_same l = by_bool (leb (figures_in a).lanes l) _
        (λ t. let u = leb-true _ l t in q.past l u ∙ sym (p.past l u))
        (λ t. by_bool (any_entry (both a b on) b) _ (λ z. moved (found a b on z)) (λ z. unmoved (leb-false _ l t) (none a b on z)))
      where
        on : Entry → Bool
        on e = eqb e.lane l

        moved : Found a b on → lane_at y.handle.table l ≡ lane_at x.handle.table l
        moved f = rw (← eqb-true f.entry.lane l f.test)
            (idle_whole _ _ _ _ (q.moved f.entry f.member f.stored) ∙ sym (idle_whole _ _ _ _ (p.moved f.entry f.member f.stored)))

        unmoved : l < (figures_in a).lanes → ((e : Entry) → Memᴰ e b → on e ≡ true → SequenceStored a e → ⊥)
            → lane_at y.handle.table l ≡ lane_at x.handle.table l
        unmoved u n =
            let m : (e : Entry) → Memᴰ e b → e.lane ≡ l → SequenceStored a e → ⊥ = λ e k z. n e k (eq-eqb e.lane l z) in
            idle_whole _ _ _ _ (q.unmoved l u m) ∙ sym (idle_whole _ _ _ _ (p.unmoved l u m))

    same_table : y.handle.table ≡ x.handle.table
    same_table = ext_get_or no_lane _ _ (opening_size τ B room ∙ sym (opening_size τ A room)) (λ l _. lane_same l)

    handle : y.handle ≡ x.handle
    unfolding handle_for
    handle = same_handle y.handle x.handle
        (ap (λ (k : Handle). k.length) (opened_handle τ B room q.number) ∙ size ∙ sym (ap (λ (k : Handle). k.length) (opened_handle τ A room p.number)))
        (q.layout.0 ∙ sym p.layout.0) (q.figures ∙ sym p.figures) same_table

    held_x : Held τ x.arena x.handle
    held_x = held_open τ A room small_A p.number

    held_y : Held τ y.arena y.handle
    held_y = held_open τ B room small_B q.number

    reads : (s : ℕ) (buffer : List ℕ) → read_of y.arena y.handle s buffer ≡ read_of x.arena x.handle s buffer
    reads s buffer = by_bool (any_entry (both a b to) b) _ (λ z. new (found a b to z) (ℕ_discrete (length buffer) (figures_in a).size))
        (λ z. let m : (e : Entry) → Memᴰ e b → e.sector ≡ s → SequenceStored a e → ⊥ = λ e k w. none a b to z e k (eq-eqb e.sector s w) in
        q.as_before s m buffer ∙ sym (p.as_before s m buffer))
      where
        to : Entry → Bool
        to e = eqb e.sector s

        new : Found a b to → Dec (length buffer ≡ (figures_in a).size) → read_of y.arena y.handle s buffer ≡ read_of x.arena x.handle s buffer
        new f (yes e) = rw (← eqb-true f.entry.sector s f.test)
            (q.new f.entry f.member f.stored buffer e ∙ sym (p.new f.entry f.member f.stored buffer e))
        new f (no n) =
            held_read τ y.arena y.handle held_y s buffer
            ∙ rw (q.figures, p.figures) (read_wrong (figures_in a) _ _ s buffer (ne_eqb (length buffer) (figures_in a).size n))
            ∙ sym (held_read τ x.arena x.handle held_x s buffer)

    pub open_alike : OpenAlike τ A B room
    open_alike = record {
      number = q.number ∙ sym p.number;
      handle = handle;
      mended = q.mended ∙ sym p.mended;
      stores = record {
        to = λ st m. p.stores.from st (q.stores.to st m);
        from = λ st m. q.stores.from st (p.stores.to st m);
      };
      reads = reads;
    }
