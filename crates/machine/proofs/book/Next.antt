-- What a start and a step do to a book: a start adds an entry with no store, and a step adds one store to the lane's write.
use mathlib.Core.Path.{◌≡◌, sym, ap, ◌∙◌}
use mathlib.Core.Logic.{◌≢◌}
use mathlib.Core.List.Memᴰ
use mathlib.Core.List.{List, [], ◌∷◌, map, Memᴰ}
use Prim.Native.Nat.{ℕ, ◌+◌, ◌≤◌, ◌<◌}
use native.Mathlib.Omega.{arith}
use native.Mathlib.Decide.{ℕ_discrete}
use lib.ListN.{length}
use borrow.Author.Tests.{eq-eqb, ne_eqb}
use Rattle.words.specs.Bytes.{Small}
use Rattle.machine.specs.declared.lane.Lane.{Lane}
use Rattle.machine.specs.state.Lane.{write_stores}
use Rattle.machine.specs.state.Stores.{Store, stored}
use Rattle.machine.specs.calls.Opening.{figures_in, layout_in}
use Rattle.machine.specs.calls.Writing.{lane_stored}
use Rattle.machine.specs.models.Book.{Entry, kept}
use Rattle.machine.proofs.stores.Members.{each_more}
use Rattle.machine.proofs.stores.Stores.{put_all_one}
use Rattle.machine.proofs.book.Entries.{entry_of, Unused, same_entry, differ_retally, retally, one_more}
use Rattle.machine.proofs.book.FirstArena.{FirstArena}
use Rattle.machine.proofs.book.Stores.{booked, store_of, EntryOk, entry_like, BookOk, kept_more}
use Rattle.machine.proofs.book.Lanes.{lane_with, lane-stored, LaneOf, untouched, written}
use Rattle.layout.specs.declared.Told.{Told}

-- ---- a step

-- one more for the write on the lane, and none for any other
more_here : (l : ℕ) (e : Entry) → e.lane ≡ l → one_more l e ≡ e.tally + 1
more_here l e p = rw (eq-eqb e.lane l p)

more_none : (l : ℕ) (e : Entry) → e.lane ≢ l → one_more l e ≡ e.tally
more_none l e n = rw (ne_eqb e.lane l n)

module _ (τ : Told) where
  -- ---- a start

  module _ (b : List Entry) (l s : ℕ) where
    pub new_ok : (a : List ℕ) (bytes : ℕ → List ℕ) → BookOk τ a bytes b → l < (layout_in τ a).N → s < (layout_in τ a).E
        → Unused b l s → BookOk τ a bytes (entry_of l s 0 ∷ b)
    new_ok a bytes o u v f = record {
      each = each_more (EntryOk τ a bytes) (entry_of l s 0) b new o.each;
      differ = (λ d m. (λ p. (f d m).0 (sym p), λ p. (f d m).1 (sym p)), o.differ);
    }
      where
        new : EntryOk τ a bytes (entry_of l s 0)
        new = record { lane_in = u; sector-in = v; tally_in = omega arith; small = λ q. absurd (omega arith); size = λ q. absurd (omega arith) }

    -- the other lanes
    pub new_other : (a : List ℕ) (j : ℕ) → j ≢ l → (r : Lane) → LaneOf τ a b j r → LaneOf τ a (entry_of l s 0 ∷ b) j r
    new_other a j n r (untouched w f) =
        untouched w (each_more (λ (d : Entry). d.lane ≢ j) (entry_of l s 0) b (λ p. n (sym p)) f)
    new_other a j n r (written d m p w) = written d (Memᴰ.tail m) p w

  -- the other lanes
  pub more_other : (a : List ℕ) (b : List Entry) (l j : ℕ) → j ≢ l → (r : Lane) → LaneOf τ a b j r → LaneOf τ a (map (retally (one_more l)) b) j r
  more_other a b l j n r (untouched w f) = untouched w (λ d i. let v = Memᴰ.of_map (retally (one_more l)) b i in rw (← v.2) (f v.0 v.1))
  more_other a b l j n r (written d i w t) =
      written (retally (one_more l) d) (Memᴰ.map (retally (one_more l)) i) w (t ∙ rw (more_none l d (λ k. n (sym w ∙ k))))

  -- the write e on lane l makes its next store
  module _ (a : List ℕ) (bytes : ℕ → List ℕ) (x : FirstArena τ a) (b : List Entry) (o : BookOk τ a bytes b) (l : ℕ) (e : Entry) (m : Memᴰ e b)
      (p : e.lane ≡ l) (flies : e.tally < write_stores (layout_in τ a)) (small : Small (bytes l)) (size : length (bytes l) ≡ (figures_in a).size) where
    only : (d : Entry) → Memᴰ d b → d.lane ≡ l → d ≡ e
    only d n k = same_entry b o.differ d e n m (k ∙ sym p)

    more_entry : (d : Entry) → Memᴰ d b → Dec (d.lane ≡ l) → EntryOk τ a bytes (retally (one_more l) d)
    more_entry d n (yes k) =
        let q = o.each d n in
        let t = more_here l d k in
        record {
          lane_in = q.lane_in;
          sector-in = q.sector-in;
          tally_in = omega (arith, ap (λ (v : Entry). v.tally) (only d n k));
          small = λ _. rw k small;
          size = λ _. rw k size;
        }
    more_entry d n (no k) =
        let q = o.each d n in
        let t = more_none l d k in
        entry_like τ a bytes (one_more l) d q (omega (arith, q.tally_in)) (λ w. omega arith)

    pub more_ok : BookOk τ a bytes (map (retally (one_more l)) b)
    more_ok = record {
      each = λ d n. let w = Memᴰ.of_map (retally (one_more l)) b n in rw (← w.2) (more_entry w.0 w.1 (ℕ_discrete w.0.lane l));
      differ = differ_retally (one_more l) b o.differ;
    }

    pub more_arena : booked τ a bytes (map (retally (one_more l)) b)
        ≡ stored (layout_in τ a) (store_of τ a bytes e e.tally) (booked τ a bytes b)
    more_arena =
        kept_more τ a bytes x (one_more l) (st ∷ []) b more_ok (λ d n. grows d (ℕ_discrete d.lane l)) (λ d n. added d n (ℕ_discrete d.lane l))
        (λ su n. record {
          entry = retally (one_more l) e;
          member = Memᴰ.map (retally (one_more l)) m;
          number = e.tally;
          early = omega (arith, more_here l e p);
          is = Memᴰ.eq_of_singleton n;
        })
        ∙ put_all_one (layout_in τ a) (kept τ a bytes b) st a
      where
        st : Store
        st = store_of τ a bytes e e.tally

        grows : (d : Entry) → Dec (d.lane ≡ l) → d.tally ≤ one_more l d
        grows d (yes k) = omega (arith, more_here l d k)
        grows d (no k) = omega (arith, more_none l d k)

        added : (d : Entry) → Memᴰ d b → Dec (d.lane ≡ l) → (k : ℕ) → d.tally ≤ k → k < one_more l d → Memᴰ (store_of τ a bytes d k) (st ∷ [])
        added d n (yes w) k i j =
            let t : k ≡ d.tally = omega (arith, more_here l d w) in
            Memᴰ.head (ap (store_of τ a bytes d) t ∙ ap (λ (v : Entry). store_of τ a bytes v v.tally) (only d n w))
        added d n (no w) k i j = absurd (omega (arith, more_none l d w))

    -- the lane itself
    pub more_lane : LaneOf τ a (map (retally (one_more l)) b) l (lane_stored (layout_in τ a) (lane_with τ a e))
    more_lane = written (retally (one_more l) e) (Memᴰ.map (retally (one_more l)) m) p (lane-stored τ a e flies ∙ rw (more_here l e p))
