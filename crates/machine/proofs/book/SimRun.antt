-- A list of calls followed in the book: it begins with the empty book, every call answers as the book does and leaves what the book says.
-- The writes that the list begins share no lane and no sector, so each is new to the book when its turn comes.
use mathlib.Core.Path.{◌≡◌, refl, sym, ap, ap₂, ◌∙◌, subst}
use mathlib.Core.Logic.{◌⊎◌, inl, inr, ⊎_elim}
use mathlib.Core.List.Memᴰ
use mathlib.Core.List.{
  List,
  [],
  ◌∷◌,
  ◌++◌,
  Memᴰ,
}
use mathlib.Core.Bool.{Bool, cond}
use Prim.Native.Nat.{ℕ, zero, suc}
use native.Mathlib.Omega.{arith}
use lib.Dec.{eqb}
use borrow.Author.Tests.{ne_eqb}
use Rattle.machine.specs.state.Handle.{Handle}
use Rattle.machine.specs.state.Lane.{write_stores}
use Rattle.machine.specs.state.Stores.{put_all}
use Rattle.machine.specs.calls.Opening.{layout_in}
use Rattle.machine.specs.calls.History.{runs, says, Call, read, start, step, write, State, Reply, reply, after, run, replies, SmallCalls}
use Rattle.machine.specs.models.Book.{Entry, book_number, noted, book_next, book_after, book_replies, kept}
use Rattle.machine.specs.claims.DemandThree.{Differ, begins, begun, lends, Lends}
use Rattle.machine.specs.claims.DemandTwo.{AllIdle}
use Rattle.machine.proofs.invariant.Held.{Held}
use Rattle.machine.proofs.book.Entries.{entry_of, Far, far_like, differ_right, differ_across, retally, one_more, tallied_is}
use Rattle.machine.proofs.book.FirstArena.{FirstArena, first_found}
use Rattle.machine.proofs.book.Lanes.{untouched}
use Rattle.machine.proofs.book.Sim.{Sim, reply_is, number_of}
use Rattle.machine.proofs.book.SimCalls.{Fresh, sim_next}
use Rattle.layout.specs.declared.Told.{Told}

-- no write of the one list shares a lane or a sector with one of the other
abbrev pub Apart : List Entry → List Entry → Type 0
Apart b w = (d e : Entry) → Memᴰ d b → Memᴰ e w → Far d e

-- an entry with the lane and the sector of one of a list
pub record Like (w : List Entry) (e : Entry) : Type 0 where
  pub entry : Entry
  pub member : Memᴰ entry w
  pub lane : e.lane ≡ entry.lane
  pub sector : e.sector ≡ entry.sector

like_here : (w : List Entry) (e : Entry) → Memᴰ e w → Like w e
like_here w e m = record { entry = e; member = m; lane = refl; sector = refl }

far_from : (b w : List Entry) → Apart b w → (d e : Entry) → Like b d → Memᴰ e w → Far d e
far_from b w f d e k m = far_like k.entry e d e (sym k.lane) (sym k.sector) refl refl (f k.entry e k.member m)

module _ (τ : Told) where
  -- the empty book, all lanes idle
  pub sim_start : (a : List ℕ) (h : Handle) (bytes : ℕ → List ℕ) → Held τ a h → AllIdle h → Sim τ a bytes [] (record { arena = a; handle = h })
  unfolding kept put_all
  sim_start a h bytes k idle = record {
    arena = refl;
    figures = sym k.good.figures;
    lanes = λ l u. untouched (first_found τ a h k idle l u) (λ e m. absurd (Memᴰ.not-nil m));
    ok = record { each = λ e m. absurd (Memᴰ.not-nil m); differ = tt };
    held = k;
  }

  module _ (a : List ℕ) (bytes : ℕ → List ℕ) (x : FirstArena τ a) (b : List Entry) (y : State) (z : Sim τ a bytes b y) where
    -- what a call begins, by the book's number
    begins_is : (c : Call) → begins (reply y c).number c ≡ begins (book_number τ a b c) c
    begins_is (read s buffer) = none (reply y (read s buffer)).number ∙ sym (none (book_number τ a b (read s buffer)))
      where
        none : (n : ℕ) → begins n (read s buffer) ≡ []
        none zero = refl
        none (suc n) = refl
    begins_is (start l s) = ap (λ (n : ℕ). begins n (start l s)) (number_of τ a bytes x b y z (start l s))
    begins_is (step l buffer) = ap (λ (n : ℕ). begins n (step l buffer)) (number_of τ a bytes x b y z (step l buffer))
    begins_is (write l s buffer) = ap (λ (n : ℕ). begins n (write l s buffer)) (number_of τ a bytes x b y z (write l s buffer))

    -- the book after a call has the writes of before and the one that the call begins
    next_like : (c : Call) (e : Entry) → Memᴰ e (book_next τ a b c) → Like b e ⊎ Like (begins (reply y c).number c) e
    unfolding noted
    next_like c e m = rw (begins_is c) (go c (book_number τ a b c) m)
      where
        more : (l s t : ℕ) → Memᴰ e (entry_of l s t ∷ b) → Like b e ⊎ Like (entry_of l s 0 ∷ []) e
        more l s t k = ⊎_elim
            (λ p. inr (record {
              entry = entry_of l s 0;
              member = Memᴰ.head refl;
              lane = ap (λ (d : Entry). d.lane) p;
              sector = ap (λ (d : Entry). d.sector) p;
            }))
            (λ n. inl (like_here b e n)) (Memᴰ.cases_cons k)

        one : (c : Call) → Memᴰ e (noted τ a b c) → Like b e ⊎ Like (begins 0 c) e
        one (read s buffer) k = inl (like_here b e k)
        one (start l s) k = more l s 0 k
        one (step l buffer) k =
            let r = Memᴰ.of_map (retally (one_more l)) b (subst (Memᴰ e) (tallied_is l b) k) in
            inl (record {
              entry = r.0;
              member = r.1;
              lane = ap (λ (d : Entry). d.lane) (sym r.2);
              sector = ap (λ (d : Entry). d.sector) (sym r.2);
            })
        one (write l s buffer) k = more l s (write_stores (layout_in τ a)) k

        go : (c : Call) (n : ℕ) → Memᴰ e (cond (eqb n 0) (noted τ a b c) b) → Like b e ⊎ Like (begins n c) e
        go c zero k = one c k
        go c (suc n) k = inl (like_here b e (subst (λ (t : Bool). Memᴰ e (cond t (noted τ a b c) b)) (ne_eqb (suc n) 0 (λ w. omega arith)) k))

    -- an accepted call, by its answer
    fresh_of : (c : Call) → Apart b (begins (reply y c).number c) → book_number τ a b c ≡ 0 → Fresh b c
    fresh_of c f e = go c (rw (begins_is c, e) at f)
      where
        go : (c : Call) → Apart b (begins 0 c) → Fresh b c
        go (read s buffer) g = tt
        go (start l s) g = λ d m. g d (entry_of l s 0) m (Memᴰ.head refl)
        go (step l buffer) g = tt
        go (write l s buffer) g = λ d m. g d (entry_of l s 0) m (Memᴰ.head refl)

    lends_of : (c : Call) → ((reply y c).number ≡ 0 → lends bytes c) → book_number τ a b c ≡ 0 → lends bytes c
    lends_of (read s buffer) f e = tt
    lends_of (start l s) f e = tt
    lends_of (step l buffer) f e = f (number_of τ a bytes x b y z (step l buffer) ∙ e)
    lends_of (write l s buffer) f e = f (number_of τ a bytes x b y z (write l s buffer) ∙ e)

  -- any list of calls
  pub sim_run : (a : List ℕ) (bytes : ℕ → List ℕ) → FirstArena τ a → (cs : List Call) (b : List Entry) (y : State) → Sim τ a bytes b y → SmallCalls cs
      → Lends bytes y cs → Differ (begun y cs) → Apart b (begun y cs)
      → (replies y cs ≡ book_replies τ a bytes b cs) × Sim τ a bytes (book_after τ a b cs) (run y cs)
  unfolding says runs begun
  sim_run a bytes x [] b y z small le di ap = (refl, z)
  sim_run a bytes x (c ∷ cs) b y z small le di far =
      let w = begins (reply y c).number c in
      let rest = begun (after y c) cs in
      let z' = sim_next τ a bytes x b y z c (small c (Memᴰ.head refl))
      (λ e. (fresh_of a bytes x b y z c (λ d f m n. far d f m (Memᴰ.append_left rest n)) e, lends_of a bytes x b y z c le.0 e)) in
      let r = sim_run a bytes x cs (book_next τ a b c) (after y c) z' (λ d m. small d (Memᴰ.tail m)) le.1 (differ_right w rest di)
      (λ d e m n. ⊎_elim (λ k. far_from b (w ++ rest) far d e k (Memᴰ.append_right w n))
      (λ k. far_from w rest (λ x y. differ_across x y w rest di) d e k n) (next_like a bytes x b y z c d m)) in
      (ap₂ {C = List Reply} (λ p q. p ∷ q) (reply_is τ a bytes x b y z c) r.0, r.1)
