-- Whole writes one after another: each is accepted, since the others are finished and share neither lane nor sector with it, and in the
-- end the book has just their entries. So the arena does not depend on their order.
use mathlib.Core.Path.{◌≡◌, refl, sym, ap, ap₂, ◌∙◌}
use mathlib.Core.Logic.{◌⊎◌, inl, inr, ⊎_elim}
use mathlib.Core.List.Memᴰ
use mathlib.Core.List.Permᴰ
use mathlib.Core.List.{
  List,
  [],
  ◌∷◌,
  Memᴰ,
  Permᴰ,
}
use mathlib.Core.Bool.{Bool, false, ◌&&◌, and-false}
use Prim.Native.Nat.{ℕ, ◌<◌}
use native.Mathlib.Omega.{arith}
use lib.Dec.{eqb}
use lib.ListN.{length, replicate}
use borrow.Author.Tests.{le-ltb, lt-leb, eq-eqb}
use Rattle.layout.specs.Place.{layout_of}
use Rattle.machine.specs.Rules.{answer}
use Rattle.machine.specs.state.Lane.{write_stores}
use Rattle.machine.specs.calls.Opening.{figures_in, layout_in}
use Rattle.machine.specs.calls.History.{runs, says, write, State, Reply, just_number, reply, after, run, replies}
use Rattle.machine.specs.models.Book.{Entry, any_entry, in_flight_yet, book_number, noted, book_reply}
use Rattle.machine.specs.claims.DemandThree.{Differ, whole_writes}
use Rattle.machine.proofs.stores.Members.{each_more}
use Rattle.machine.proofs.invariant.Held.{lanes_out}
use Rattle.machine.proofs.book.Entries.{Far, far_is, far_sym, any_none}
use Rattle.machine.proofs.book.FirstArena.{FirstArena}
use Rattle.machine.proofs.book.Stores.{EntryOk}
use Rattle.machine.proofs.book.Sim.{Sim, reply_is}
use Rattle.machine.proofs.book.SimCalls.{sim_next}
use Rattle.machine.proofs.book.SimRun.{Apart}
use Rattle.layout.specs.declared.Told.{Told}

-- ---- another order

pub perm_in : {b c : List Entry} → Permᴰ b c → (e : Entry) → Memᴰ e b → Memᴰ e c
perm_in (Permᴰ.cons p d) e (Memᴰ.head q) = Memᴰ.head (q ∙ p)
perm_in (Permᴰ.cons p d) e (Memᴰ.tail m) = Memᴰ.tail (perm_in d e m)
perm_in (Permᴰ.swap p q) e (Memᴰ.head r) = Memᴰ.tail (Memᴰ.head (r ∙ p))
perm_in (Permᴰ.swap p q) e (Memᴰ.tail (Memᴰ.head r)) = Memᴰ.head (r ∙ q)
perm_in (Permᴰ.swap p q) e (Memᴰ.tail (Memᴰ.tail m)) = Memᴰ.tail (Memᴰ.tail m)
perm_in (Permᴰ.trans d f) e m = perm_in f e (perm_in d e m)
perm_in Permᴰ.nil e m = m

pub perm_differ : {b c : List Entry} → Permᴰ b c → Differ b → Differ c
perm_differ Permᴰ.nil f = f
perm_differ (Permᴰ.cons {a = x} {b = y} p d) f = (λ e m. far_is x e y e p refl (f.0 e (perm_in (Permᴰ.symm d) e m)), perm_differ d f.1)
perm_differ (Permᴰ.swap {a = x} {b = y} {a' = x'} {b' = y'} p q) f = (
  λ e m. ⊎_elim (λ r. far_is y x x' e q (p ∙ sym r) (far_sym x y (f.0 y (Memᴰ.head refl)))) (λ k. far_is y e x' e q refl (f.1.0 e k))
      (Memᴰ.cases_cons m),
  (λ e m. far_is x e y' e p refl (f.0 e (Memᴰ.tail m)), f.1.1),
)
perm_differ (Permᴰ.trans d g) f = perm_differ g (perm_differ d f)

module _ (τ : Told) where
  -- ---- the writes

  module _ (a : List ℕ) (bytes : ℕ → List ℕ) (x : FirstArena τ a) where
    -- a whole write is accepted where all others are finished
    write_zero : (b : List Entry) → ((e : Entry) → Memᴰ e b → e.tally ≡ write_stores (layout_in τ a)) → (w : Entry) → EntryOk τ a bytes w
        → w.tally ≡ write_stores (layout_in τ a) → book_number τ a b (write w.lane w.sector (bytes w.lane)) ≡ 0
    unfolding book_number answer
    write_zero b f w o p = rw (
      lt-leb (figures_in a).lanes w.lane (lanes_out τ.distance (figures_in a) w.lane o.lane_in),
      none (λ e. eqb e.lane w.lane),
      lt-leb (figures_in a).sectors w.sector in_sectors,
      eq-eqb (length (bytes w.lane)) (figures_in a).size (o.size (omega arith)),
      none (λ e. eqb e.sector w.sector),
    )
      where
        in_sectors : w.sector < (figures_in a).sectors
        in_sectors = unfold layout_of in o.sector-in

        none : (t : Entry → Bool) → any_entry (λ e. t e && in_flight_yet τ a e) b ≡ false
        none t = any_none (λ e. t e && in_flight_yet τ a e) b
            (λ e m. rw (le-ltb e.tally (write_stores (layout_in τ a)) (omega (arith, f e m))) (and-false (t e)))

    -- it joins them
    write_next : (b : List Entry) (y : State) → Sim τ a bytes b y → ((e : Entry) → Memᴰ e b → e.tally ≡ write_stores (layout_in τ a)) → (w : Entry)
        → EntryOk τ a bytes w → w.tally ≡ write_stores (layout_in τ a) → ((e : Entry) → Memᴰ e b → Far e w)
        → (reply y (write w.lane w.sector (bytes w.lane)) ≡ just_number 0)
        × Sim τ a bytes (w ∷ b) (after y (write w.lane w.sector (bytes w.lane)))
    unfolding book_reply noted
    write_next b y z f w o p far =
        let C = write w.lane w.sector (bytes w.lane) in
        let n = write_zero b f w o p in (
          reply_is τ a bytes x b y z C ∙ ap just_number n,
          rw (n, ← p) at (sim_next τ a bytes x b y z C (o.small (omega arith)) (λ _. (far, refl))),
        )

    pub record Written (b ws : List Entry) (y : State) : Type 0 where
      pub answers : replies y (whole_writes bytes ws) ≡ replicate (length ws) (just_number 0)
      pub book : List Entry
      pub sim : Sim τ a bytes book (run y (whole_writes bytes ws))
      pub to : (e : Entry) → Memᴰ e book → Memᴰ e b ⊎ Memᴰ e ws
      pub from : (e : Entry) → Memᴰ e b ⊎ Memᴰ e ws → Memᴰ e book

    pub one_by_one : (ws b : List Entry) (y : State) → Sim τ a bytes b y → ((e : Entry) → Memᴰ e b → e.tally ≡ write_stores (layout_in τ a))
        → ((e : Entry) → Memᴰ e ws → EntryOk τ a bytes e × (e.tally ≡ write_stores (layout_in τ a))) → Differ ws → Apart b ws → Written b ws y
    unfolding says runs
    one_by_one [] b y z full each d far = record {
      answers = refl;
      book = b;
      sim = z;
      to = λ e m. inl m;
      from = λ e m. ⊎_elim (λ k. k) (λ k. absurd (Memᴰ.not-nil k)) m;
    }
    one_by_one (w ∷ ws) b y z full each d far =
        let o = each w (Memᴰ.head refl) in
        let r = write_next b y z full w o.0 o.1 (λ e m. far e w m (Memᴰ.head refl)) in
        let k = one_by_one ws (w ∷ b) (after y (write w.lane w.sector (bytes w.lane))) r.1
        (each_more (λ (e : Entry). e.tally ≡ write_stores (layout_in τ a)) w b o.1 full) (λ e m. each e (Memᴰ.tail m)) d.1
        (λ e f m n. each_more (λ (c : Entry). Far c f) w b (d.0 f n) (λ c q. far c f q (Memᴰ.tail n)) e m) in
        record {
          answers = ap₂ {C = List Reply} (λ p q. p ∷ q) r.0 k.answers;
          book = k.book;
          sim = k.sim;
          to = λ e m. ⊎_elim (λ n. ⊎_elim (λ p. inr (Memᴰ.head p)) (λ q. inl q) (Memᴰ.cases_cons n))
              (λ n. inr (Memᴰ.tail n)) (k.to e m);
          from = λ e m. k.from e (⊎_elim (λ n. inl (Memᴰ.tail n))
              (λ n. ⊎_elim (λ p. inl (Memᴰ.head p)) (λ q. inr q) (Memᴰ.cases_cons n)) m);
        }
