-- The stores of a book: each can be made, no two disagree on a place and no two writes share one, so that their order does not matter;
-- and what more tallies add to them.
use mathlib.Core.Path.{◌≡◌, refl, ap, subst}
use mathlib.Core.Logic.{◌≢◌, ◌⊎◌, inl, inr, ⊎_elim}
use mathlib.Core.List.Memᴰ
use mathlib.Core.List.{
  List,
  [],
  ◌∷◌,
  ◌++◌,
  map,
  Memᴰ,
}
use Prim.Native.Nat.{ℕ, ◌≤◌, ◌<◌}
use native.Mathlib.Omega.{arith}
use native.Mathlib.Decide.{dec_lt}
use lib.ListN.{length}
use Rattle.words.specs.Word.{word}
use Rattle.words.specs.Bytes.{Small}
use Rattle.format.proofs.Tests.{true_false}
use Rattle.layout.specs.Place.{Place, InRange, in_data, in_map, at}
use Rattle.layout.proofs.Place.{at_inj}
use Rattle.machine.specs.state.Lane.{write_stores}
use Rattle.machine.specs.state.Stores.{Store, put_all}
use Rattle.machine.specs.state.Flog.{map_block, map_word, free_of}
use Rattle.machine.specs.calls.Opening.{figures_in, layout_in}
use Rattle.machine.specs.calls.Writing.{store_at}
use Rattle.machine.specs.models.Book.{Entry, plan_in, stores_in, kept}
use Rattle.machine.specs.claims.DemandThree.{Differ, SameMembers, ShareNone}
use Rattle.machine.proofs.stores.Members.{Each}
use Rattle.machine.proofs.stores.Once.{free-apart, free_unmapped}
use Rattle.machine.proofs.stores.Stores.{Fits, Agree, any_order, word_miss, word-hit}
use Rattle.machine.proofs.stores.Kinds.{Kind, is_data, is_log, is_map, kind, PlanOk, store_fits, store_range}
use Rattle.machine.proofs.book.Places.{place_once, place_apart, first_in, first_out}
use Rattle.machine.proofs.book.Entries.{Far, differ_pair, retally, differ_retally}
use Rattle.machine.proofs.book.FirstArena.{FirstArena}
use Rattle.layout.specs.declared.Told.{Told}

module _ (τ : Told) where
  -- ---- the members of a book's stores

  module _ (a : List ℕ) (bytes : ℕ → List ℕ) where
    -- store number k of a write
    abbrev pub store_of : Entry → ℕ → Store
    store_of e k = store_at (layout_in τ a) (plan_in τ a e) (bytes e.lane) k

    -- the first arena with a book's stores put in
    abbrev pub booked : List Entry → List ℕ
    booked b = put_all (layout_in τ a) (kept τ a bytes b) a

    pub record KeptAs (b : List Entry) (st : Store) : Type 0 where
      pub entry : Entry
      pub member : Memᴰ entry b
      pub number : ℕ
      pub early : number < entry.tally
      pub is : st ≡ store_of entry number

    kept_in : (e : Entry) (b : List Entry) → Memᴰ e b → (k : ℕ) → k < e.tally → Memᴰ (store_of e k) (kept τ a bytes b)
    unfolding kept
    kept_in e b (Memᴰ.head {x = d} p) k u =
        Memᴰ.append_left _ (Memᴰ.cast (ap (λ (y : Entry). store_of y k) p)
        (first_in (layout_in τ a) (plan_in τ a d) (bytes d.lane) d.tally k (subst (λ (y : Entry). k < y.tally) p u)))
    kept_in e b (Memᴰ.tail {x = d} {xs = c} m) k u = Memᴰ.append_right (stores_in τ a bytes d d.tally) (kept_in e c m k u)

    pub kept_from : (b : List Entry) (st : Store) → KeptAs b st → Memᴰ st (kept τ a bytes b)
    kept_from b st r = Memᴰ.cast r.is (kept_in r.entry b r.member r.number r.early)

    pub kept_out : (b : List Entry) (st : Store) → Memᴰ st (kept τ a bytes b) → KeptAs b st
    unfolding kept
    kept_out [] st m = absurd (Memᴰ.not-nil m)
    kept_out (e ∷ b) st m = go (Memᴰ.append_cases (stores_in τ a bytes e e.tally) m) (λ v. kept_out b st v)
      where
        go : Memᴰ st (stores_in τ a bytes e e.tally) ⊎ Memᴰ st (kept τ a bytes b) → (Memᴰ st (kept τ a bytes b) → KeptAs b st)
            → KeptAs (e ∷ b) st
        go (inl v) ih =
            let r = first_out (layout_in τ a) (plan_in τ a e) (bytes e.lane) e.tally st v in
            record { entry = e; member = Memᴰ.head refl; number = r.0; early = r.1; is = r.2 }
        go (inr v) ih =
            let r = ih v in
            record { entry = r.entry; member = Memᴰ.tail r.member; number = r.number; early = r.early; is = r.is }

    -- books with the same entries have the same stores
    pub kept_same : (b c : List Entry) → SameMembers b c → SameMembers (kept τ a bytes b) (kept τ a bytes c)
    kept_same b c s = record { to = λ st. move b c s.to st; from = λ st. move c b s.from st }
      where
        move : (b c : List Entry) → ((e : Entry) → Memᴰ e b → Memᴰ e c) → (st : Store) → Memᴰ st (kept τ a bytes b)
            → Memᴰ st (kept τ a bytes c)
        move b c f st m = let r = kept_out b st m in Memᴰ.cast r.is (kept_in r.entry c (f r.entry r.member) r.number r.early)

    -- ---- entries in range

    pub record EntryOk (e : Entry) : Type 0 where
      pub lane_in : e.lane < (layout_in τ a).N
      pub sector-in : e.sector < (layout_in τ a).E
      pub tally_in : e.tally ≤ write_stores (layout_in τ a)
      -- a write that has made a store was handed S bytes
      pub small : 0 < e.tally → Small (bytes e.lane)
      pub size : 0 < e.tally → length (bytes e.lane) ≡ (figures_in a).size

    -- the same write with another tally
    pub entry_like : (t : Entry → ℕ) (e : Entry) → EntryOk e → t e ≤ write_stores (layout_in τ a) → (0 < t e → 0 < e.tally) → EntryOk (retally t e)
    entry_like t e o u v = record {
      lane_in = o.lane_in;
      sector-in = o.sector-in;
      tally_in = u;
      small = λ w. o.small (v w);
      size = λ w. o.size (v w);
    }

    pub record BookOk (b : List Entry) : Type 0 where
      pub each : (e : Entry) → Memᴰ e b → EntryOk e
      pub differ : Differ b

    -- the same writes with other tallies
    pub book_like : (t : Entry → ℕ) (b : List Entry) → BookOk b → ((e : Entry) → EntryOk e → EntryOk (retally t e)) → BookOk (map (retally t) b)
    book_like t b o f = record {
      each = λ d m. let w = Memᴰ.of_map (retally t) b m in rw (← w.2) (f w.0 (o.each w.0 w.1));
      differ = differ_retally t b o.differ;
    }

    module _ (x : FirstArena τ a) where
      plan-in : (e : Entry) → EntryOk e → PlanOk (layout_in τ a) (plan_in τ a e)
      plan-in e o = record {
        lane_in = o.lane_in;
        sector-in = o.sector-in;
        old-in = x.map_in e.sector o.sector-in;
        new-in = x.free_in e.lane o.lane_in;
        half_in = omega arith;
        sequence-in = omega (arith, x.sequence-in e.lane o.lane_in);
      }

      -- two writes share no place
      writes_apart : (e d : Entry) → EntryOk e → EntryOk d → Far e d → (k j : ℕ) → k < write_stores (layout_in τ a) → j < write_stores (layout_in τ a)
          → (store_of e k).place ≢ (store_of d j).place
      writes_apart e d p q f k j u v =
          let g = layout_in τ a in
          place_apart g (plan_in τ a e) (plan_in τ a d) (bytes e.lane) (bytes d.lane) k j u v
          (free-apart g.I g.E g.N (map_block g a) (free_of g a) x.once e.lane d.lane p.lane_in q.lane_in
          (x.free_in e.lane p.lane_in) f.0) f.0 f.1

      -- nor a word
      pub share_none : (b : List Entry) → BookOk b → ShareNone τ a bytes b
      share_none b o e d m n ne st su s t z =
          let g = layout_in τ a in
          let i = first_out g (plan_in τ a e) (bytes e.lane) (write_stores g) st s in
          let j = first_out g (plan_in τ a d) (bytes d.lane) (write_stores g) su t in
          let p = o.each e m in
          let q = o.each d n in
          ⊎_elim (λ w. ne (ap (λ (y : Entry). y.lane) w))
          (λ f. writes_apart e d p q f i.0 j.0 i.1 j.1
          (at_inj g x.ok _ _ (store_range g _ (plan-in e p) _ i.0 i.1) (store_range g _ (plan-in d q) _ j.0 j.1)
          (rw (i.2, j.2) at z)))
          (differ_pair e d b o.differ m n)

      module _ (b : List Entry) (o : BookOk b) where
        late : (e : Entry) → Memᴰ e b → (k : ℕ) → k < e.tally → k < write_stores (layout_in τ a)
        late e m k u = omega (arith, (o.each e m).tally_in)

        pub kept_fits : Each (Fits (layout_in τ a)) (kept τ a bytes b)
        kept_fits st m =
            let r = kept_out b st m in
            let q = o.each r.entry r.member in
            rw r.is (store_fits (layout_in τ a) x.ok (plan_in τ a r.entry) (plan-in r.entry q) (bytes r.entry.lane)
            (q.small (omega (arith, r.early))) r.number (late r.entry r.member r.number r.early))

        pub kept_agree : Agree (kept τ a bytes b)
        unfolding Agree
        kept_agree st su m n e = go (kept_out b st m) (kept_out b su n)
          where
            same : (d c : Entry) (k j : ℕ) → d ≡ c → k < write_stores (layout_in τ a) → j < write_stores (layout_in τ a)
                → (store_of d k).place ≡ (store_of c j).place → (store_of d k).value ≡ (store_of c j).value
            same d c k j p u v z = rw p
                (ap (λ (w : ℕ). (store_of c w).value) (place_once (layout_in τ a) (plan_in τ a c) (bytes c.lane) k j u v (rw p at z)))

            go : KeptAs b st → KeptAs b su → st.value ≡ su.value
            go r s =
                let u = late r.entry r.member r.number r.early in
                let v = late s.entry s.member s.number s.early in
                let z : (store_of r.entry r.number).place ≡ (store_of s.entry s.number).place = rw (r.is, s.is) at e in
                rw (r.is, s.is)
                (⊎_elim (λ p. same r.entry s.entry r.number s.number p u v z)
                (λ f. absurd (writes_apart r.entry s.entry (o.each _ r.member) (o.each _ s.member) f r.number s.number u v z))
                (differ_pair r.entry s.entry b o.differ r.member s.member))

        -- in any order
        pub kept_order : (stores : List Store) → SameMembers stores (kept τ a bytes b)
            → booked b ≡ put_all (layout_in τ a) stores a
        kept_order stores s = any_order (layout_in τ a) x.ok (kept τ a bytes b) stores a x.arena kept_fits kept_agree s.from s.to

        -- a store that was made
        pub kept_here : (e : Entry) → Memᴰ e b → (k : ℕ) → k < e.tally
            → word (booked b) (at (layout_in τ a) (store_of e k).place) ≡ (store_of e k).value
        kept_here e m k u = word-hit (layout_in τ a) x.ok (kept τ a bytes b) a x.arena kept_fits kept_agree (store_of e k) (kept_in e b m k u)

        -- a place that no write has stored to
        kept_away : (p : Place) → InRange (layout_in τ a) p
            → ((e : Entry) → Memᴰ e b → (k : ℕ) → k < e.tally → (store_of e k).place ≡ p → Kind (layout_in τ a) (plan_in τ a e) (bytes e.lane) k → ⊥)
            → word (booked b) (at (layout_in τ a) p) ≡ word a (at (layout_in τ a) p)
        kept_away p v n = word_miss (layout_in τ a) x.ok (kept τ a bytes b) a (at (layout_in τ a) p)
            (λ st m z. let r = kept_out b st m in
            n r.entry r.member r.number r.early
            (rw r.is at (at_inj (layout_in τ a) x.ok st.place p (kept_fits st m).range v z))
            (kind (layout_in τ a) _ _ r.number (late r.entry r.member r.number r.early)))

        -- the map word of a sector whose write, if any, has not stored it
        pub kept_map : (s : ℕ) → s < (layout_in τ a).E
            → ((e : Entry) → Memᴰ e b → e.sector ≡ s → e.tally < write_stores (layout_in τ a))
            → map_word (layout_in τ a) (booked b) s ≡ map_word (layout_in τ a) a s
        kept_map s u n = kept_away (in_map s) u go
          where
            go : (e : Entry) → Memᴰ e b → (k : ℕ) → k < e.tally → (store_of e k).place ≡ in_map s
                → Kind (layout_in τ a) (plan_in τ a e) (bytes e.lane) k → ⊥
            go e m k v z (is_data _ y) = true_false (cc)
            go e m k v z (is_log j _ _ y) = true_false (cc)
            go e m k v z (is_map i y) = omega (arith, n e m (cc))

        -- the words of a block that is mapped in the first arena: every write has its own free block
        pub kept_data : (s : ℕ) → s < (layout_in τ a).E → (k : ℕ) → k < (layout_in τ a).W
            → word (booked b) (at (layout_in τ a) (in_data (map_block (layout_in τ a) a s) k))
            ≡ word a (at (layout_in τ a) (in_data (map_block (layout_in τ a) a s) k))
        kept_data s u i w = kept_away (in_data (map_block (layout_in τ a) a s) i) (x.map_in s u, w) go
          where
            go : (e : Entry) → Memᴰ e b → (k : ℕ) → k < e.tally → (store_of e k).place ≡ in_data (map_block (layout_in τ a) a s) i
                → Kind (layout_in τ a) (plan_in τ a e) (bytes e.lane) k → ⊥
            go e m k v z (is_data _ y) =
                let g = layout_in τ a in
                let l = (o.each e m).lane_in in
                free_unmapped g.I g.E g.N (map_block g a) (free_of g a) x.once s e.lane u l (x.free_in e.lane l) (cc)
            go e m k v z (is_log j _ _ y) = true_false (cc)
            go e m k v z (is_map _ y) = true_false (cc)

      -- ---- more tallies: the stores of the book with those that are added

      pub kept_more : (t : Entry → ℕ) (extra : List Store) (b : List Entry) → BookOk (map (retally t) b)
          → ((e : Entry) → Memᴰ e b → e.tally ≤ t e)
          → ((e : Entry) → Memᴰ e b → (k : ℕ) → e.tally ≤ k → k < t e → Memᴰ (store_of e k) extra)
          → ((st : Store) → Memᴰ st extra → KeptAs (map (retally t) b) st)
          → booked (map (retally t) b) ≡ put_all (layout_in τ a) (kept τ a bytes b ++ extra) a
      kept_more t extra b o grows added known = kept_order (map (retally t) b) o (kept τ a bytes b ++ extra) (record { to = to; from = from })
        where
          to : (st : Store) → Memᴰ st (kept τ a bytes b ++ extra) → Memᴰ st (kept τ a bytes (map (retally t) b))
          to st m = ⊎_elim
              (λ n. let r = kept_out b st n in
              Memᴰ.cast r.is (kept_in (retally t r.entry) (map (retally t) b) (Memᴰ.map (retally t) r.member) r.number
              (omega (arith, r.early, grows r.entry r.member))))
              (λ n. kept_from (map (retally t) b) st (known st n))
              (Memᴰ.append_cases (kept τ a bytes b) m)

          from : (st : Store) → Memᴰ st (kept τ a bytes (map (retally t) b)) → Memᴰ st (kept τ a bytes b ++ extra)
          from st m = let r = kept_out (map (retally t) b) st m in go r.number r.early r.is (Memᴰ.of_map (retally t) b r.member)
            where
              pick : (e : Entry) → Memᴰ e b → (k : ℕ) → k < t e → Dec (k < e.tally) → Memᴰ (store_of e k) (kept τ a bytes b ++ extra)
              pick e n k u (yes v) = Memᴰ.append_left extra (kept_in e b n k v)
              pick e n k u (no v) = Memᴰ.append_right (kept τ a bytes b) (added e n k (omega arith) u)

              go : {d : Entry} (k : ℕ) → k < d.tally → st ≡ store_of d k → ((e : Entry) × Memᴰ e b × (retally t e ≡ d))
                  → Memᴰ st (kept τ a bytes b ++ extra)
              go k u is (e, n, p) = Memᴰ.cast (rw (← p) at is) (pick e n k (rw (← p) at u) (dec_lt k e.tally))
