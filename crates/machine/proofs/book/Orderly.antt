-- A list whose accepted calls are new to the book meets the premises of demand 3: the calls answer as the book does, so the writes that it
-- starts share neither a lane nor a sector.
use mathlib.Core.Path.{◌≡◌, refl, sym, ◌∙◌}
use mathlib.Core.Logic.{◌≢◌, ⊎_elim}
use mathlib.Core.List.Memᴰ
use mathlib.Core.List.{
  List,
  [],
  ◌∷◌,
  ◌++◌,
  Memᴰ,
}
use mathlib.Core.Bool.{cond}
use Prim.Native.Nat.{ℕ, zero, suc}
use native.Mathlib.Omega.{arith}
use lib.Dec.{eqb}
use borrow.Author.Tests.{ne_eqb}
use Rattle.machine.specs.state.Lane.{write_stores}
use Rattle.machine.specs.calls.Opening.{layout_in}
use Rattle.machine.specs.calls.History.{runs, Call, read, start, step, write, State, reply, after, run, SmallCalls}
use Rattle.machine.specs.models.Book.{Entry, book_number, noted, book_next, book_after}
use Rattle.machine.specs.claims.DemandThree.{Differ, begins, begun, lends, Lends}
use Rattle.machine.proofs.book.Entries.{entry_of, Unused, Far, retally, one_more, tallied_is}
use Rattle.machine.proofs.book.FirstArena.{FirstArena}
use Rattle.machine.proofs.book.Sim.{Sim, number_of}
use Rattle.machine.proofs.book.SimCalls.{Fresh, sim_next}
use Rattle.machine.proofs.book.SimRun.{Apart, sim_run}
use Rattle.layout.specs.declared.Told.{Told}

-- the write that an accepted call begins
abbrev Begins : Call → Entry → Type 0
Begins (read s buffer) e = ⊥
Begins (start l s) e = e ≡ entry_of l s 0
Begins (step l buffer) e = ⊥
Begins (write l s buffer) e = e ≡ entry_of l s 0

begins_out : (n : ℕ) (c : Call) (e : Entry) → Memᴰ e (begins n c) → (n ≡ 0) × Begins c e
begins_out zero (read s buffer) e m = absurd (Memᴰ.not-nil m)
begins_out zero (start l s) e m = (refl, Memᴰ.eq_of_singleton m)
begins_out zero (step l buffer) e m = absurd (Memᴰ.not-nil m)
begins_out zero (write l s buffer) e m = (refl, Memᴰ.eq_of_singleton m)
begins_out (suc n) c e m = absurd (Memᴰ.not-nil m)

-- it joins writes from which it differs
differ_begins : (n : ℕ) (c : Call) (w : List Entry) → ((e d : Entry) → Memᴰ e (begins n c) → Memᴰ d w → Far e d) → Differ w
    → Differ (begins n c ++ w)
differ_begins zero (read s buffer) w f g = g
differ_begins zero (start l s) w f g = (λ d m. f _ d (Memᴰ.head refl) m, g)
differ_begins zero (step l buffer) w f g = g
differ_begins zero (write l s buffer) w f g = (λ d m. f _ d (Memᴰ.head refl) m, g)
differ_begins (suc n) c w f g = g

module _ (τ : Told) (a : List ℕ) (bytes : ℕ → List ℕ) where
  -- what each accepted call begins is new to the book, and it lends its write's bytes
  abbrev Orderly : List Entry → List Call → Type 0
  Orderly b [] = Unit {0}
  Orderly b (c ∷ cs) = (book_number τ a b c ≡ 0 → Fresh b c × lends bytes c) × Orderly (book_next τ a b c) cs

  -- an orderly list that takes the book from b to b'
  pub record Goes (b : List Entry) (cs : List Call) (b' : List Entry) : Type 0 where
    pub orderly : Orderly b cs
    pub book : book_after τ a b cs ≡ b'

  pub goes_none : (b : List Entry) → Goes b [] b
  goes_none b = record { orderly = tt; book = unfold runs in refl }

  pub goes_accepted : (b b' : List Entry) (c : Call) (cs : List Call) → book_number τ a b c ≡ 0 → Fresh b c → lends bytes c
      → Goes (noted τ a b c) cs b' → Goes b (c ∷ cs) b'
  unfolding runs
  goes_accepted b b' c cs e f l g = record { orderly = (λ _. (f, l), rw e g.orderly); book = rw e g.book }

  pub goes_refused : (b b' : List Entry) (c : Call) (cs : List Call) → book_number τ a b c ≢ 0 → Goes b cs b' → Goes b (c ∷ cs) b'
  unfolding runs
  goes_refused b b' c cs n g =
      let t = ne_eqb (book_number τ a b c) 0 n in
      record { orderly = (λ e. absurd (n e), rw t g.orderly); book = rw t g.book }

  pub goes_append : (cs ds : List Call) (b b' b'' : List Entry) → Goes b cs b' → Goes b' ds b'' → Goes b (cs ++ ds) b''
  unfolding runs
  goes_append [] ds b b' b'' p q = rw p.book q
  goes_append (c ∷ cs) ds b b' b'' p q =
      let r = goes_append cs ds (book_next τ a b c) b' b'' (record { orderly = p.orderly.1; book = p.book }) q in
      record { orderly = (p.orderly.0, r.orderly); book = r.book }

  -- ---- one call

  -- what differs from the next book differs from this one
  stays : (b : List Entry) (c : Call) (e : Entry) → ((d : Entry) → Memᴰ d (book_next τ a b c) → Far d e) → (d : Entry) → Memᴰ d b → Far d e
  unfolding noted
  stays b c e f d m = go (book_number τ a b c) f
    where
      one : (c : Call) → ((k : Entry) → Memᴰ k (noted τ a b c) → Far k e) → Far d e
      one (read s buffer) f = f d m
      one (start l s) f = f d (Memᴰ.tail m)
      one (step l buffer) f = f (retally (one_more l) d) (rw (tallied_is l b) (Memᴰ.map (retally (one_more l)) m))
      one (write l s buffer) f = f d (Memᴰ.tail m)

      go : (n : ℕ) → ((k : Entry) → Memᴰ k (cond (eqb n 0) (noted τ a b c) b) → Far k e) → Far d e
      go zero f = one c f
      go (suc n) f = f d (rw (ne_eqb (suc n) 0 (λ p. omega arith)) m)

  module _ (x : FirstArena τ a) (b : List Entry) (y : State) (z : Sim τ a bytes b y) where
    lent : (c : Call) → (book_number τ a b c ≡ 0 → Fresh b c × lends bytes c) → (reply y c).number ≡ 0 → lends bytes c
    lent (read s buffer) f e = tt
    lent (start l s) f e = tt
    lent (step l buffer) f e = (f (sym (number_of τ a bytes x b y z (step l buffer)) ∙ e)).1
    lent (write l s buffer) f e = (f (sym (number_of τ a bytes x b y z (write l s buffer)) ∙ e)).1

    -- a write that a call begins differs from the book's, and is in the next book
    record New (c : Call) (k : Entry) : Type 0 where
      before : (d : Entry) → Memᴰ d b → Far d k
      then : (e : Entry) → ((d : Entry) → Memᴰ d (book_next τ a b c) → Far d e) → Far k e

    new : (c : Call) → (book_number τ a b c ≡ 0 → Fresh b c × lends bytes c) → (k : Entry) → Memᴰ k (begins (reply y c).number c) → New c k
    unfolding noted
    new c f k m = let r = begins_out (reply y c).number c k m in go c f r.0 r.1
      where
        one : (c : Call) (l s t : ℕ) → book_next τ a b c ≡ entry_of l s t ∷ b → Unused b l s
            → k ≡ entry_of l s 0 → New c k
        one c l s t p u q = record {
          before = λ d m. rw q (u d m);
          then = λ e g. rw q (g (entry_of l s t) (rw p (Memᴰ.head refl)));
        }

        go : (c : Call) → (book_number τ a b c ≡ 0 → Fresh b c × lends bytes c) → (reply y c).number ≡ 0 → Begins c k → New c k
        go (read s buffer) f p q = absurd q
        go (start l s) f p q = let n = sym (number_of τ a bytes x b y z (start l s)) ∙ p in one (start l s) l s 0 (rw n) (f n).0 q
        go (step l buffer) f p q = absurd q
        go (write l s buffer) f p q =
            let n = sym (number_of τ a bytes x b y z (write l s buffer)) ∙ p in
            one (write l s buffer) l s (write_stores (layout_in τ a)) (rw n) (f n).0 q

  -- ---- the list

  -- an orderly list meets the premises of demand 3
  pub orderly_premise : FirstArena τ a → (cs : List Call) (b : List Entry) (y : State) → Sim τ a bytes b y → SmallCalls cs → Orderly b cs
      → Lends bytes y cs × Differ (begun y cs) × Apart b (begun y cs)
  unfolding begun
  orderly_premise x [] b y z small o = (tt, tt, λ d e m n. absurd (Memᴰ.not-nil n))
  orderly_premise x (c ∷ cs) b y z small o =
      let w = begins (reply y c).number c in
      let r = orderly_premise x cs (book_next τ a b c) (after y c) (sim_next τ a bytes x b y z c (small c (Memᴰ.head refl)) o.0)
      (λ d m. small d (Memᴰ.tail m)) o.1 in
      let rest = begun (after y c) cs in (
        (lent x b y z c o.0, r.0),
        differ_begins (reply y c).number c rest (λ k e m n. (new x b y z c o.0 k m).then e (λ d q. r.2 d e q n)) r.1,
        λ d e m n. ⊎_elim (λ k. (new x b y z c o.0 e k).before d m) (λ k. stays b c e (λ h q. r.2 h e q k) d m) (Memᴰ.append_cases w n),
      )

  -- and leaves what the book says
  pub orderly_sim : FirstArena τ a → (cs : List Call) (b : List Entry) (y : State) → Sim τ a bytes b y → SmallCalls cs → Orderly b cs
      → Sim τ a bytes (book_after τ a b cs) (run y cs)
  orderly_sim x cs b y z small o =
      let p = orderly_premise x cs b y z small o in
      (sim_run τ a bytes x cs b y z small p.0 p.1 p.2).1
