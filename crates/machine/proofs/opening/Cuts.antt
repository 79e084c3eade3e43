-- Cut openings leave no trace: of a valid arena each makes some of the mending stores or none, and of another none is accepted.
use mathlib.Core.Path.{◌≡◌, refl, sym, ap, ◌∙◌, subst}
use mathlib.Core.Logic.{◌≢◌, ◌⊎◌, inl, inr}
use mathlib.Core.List.{List, [], ◌∷◌}
use mathlib.Core.Bool.{Bool, true, false, cond}
use Prim.Native.Nat.{ℕ, ◌≤◌}
use native.Mathlib.Omega.{arith}
use native.Mathlib.Decide.{ℕ_discrete}
use lib.Dec.{eqb, ltb}
use lib.ListN.{length, take}
use borrow.Author.Tests.{eqb-true, ne_eqb}
use Rattle.words.specs.Bytes.{Small}
use Rattle.machine.specs.state.Stores.{Store, put_all}
use Rattle.machine.specs.calls.Opening.{Extent, extent_of, Room, layout_in, mends, open_number, open_of, cut_open_of}
use Rattle.machine.specs.claims.Opening.{OneCut, cut_by, after_cuts, CutsTold, CutsLeaveNoTrace}
use Rattle.machine.proofs.opening.Mends.{mends-take}
use Rattle.machine.proofs.opening.Opens.{Opens, open_zero, open-number, zero_open}
use Rattle.machine.proofs.opening.Kept.{kept_small, kept_opens, kept_number, kept_mended, kept_handle, kept_work}
use Rattle.layout.specs.Told.{in_layout}
use Rattle.layout.specs.declared.Told.{Told}

-- a refused cut opening stores nothing
pub cut-none : (τ : Told) (a : List ℕ) (w : Room) (k : ℕ) → (cut_open_of τ a w k).number ≢ 0 → (cut_open_of τ a w k).arena ≡ a
unfolding cut_open_of
cut-none τ a w k n = rw (ne_eqb (open_number τ a (extent_of w)) 0 n)

module _ (τ : Told) where
  -- whether an arena opens, given room
  opens_or : (a : List ℕ) (P : Type 0) → (Opens τ a → P) → ((Opens τ a → ⊥) → P) → P
  opens_or a P f k = go (ℕ_discrete (open_number τ a just) 0)
    where
      just : Extent
      just = record { bytes = (layout_in τ a).I; records = (layout_in τ a).N }

      go : Dec (open_number τ a just ≡ 0) → P
      go (yes e) = f (open_zero τ a just e).0
      go (no n) = k (λ o. n (zero_open τ a just o (record { bytes = omega arith; records = omega arith })))

  -- ---- one that does not

  cut-refused : (a : List ℕ) → (Opens τ a → ⊥) → (w : Room) (k : ℕ) → (cut_open_of τ a w k).arena ≡ a
  unfolding cut_open_of
  cut-refused a no_open w k = go (eqb (open_number τ a (extent_of w)) 0) _ (eqb-true _ _)
    where
      go : (t : Bool) (b : List ℕ) → (t ≡ true → open_number τ a (extent_of w) ≡ 0) → cond t b a ≡ a
      go true b f = absurd (no_open (open_zero τ a (extent_of w) (f refl)).0)
      go false b f = refl

  -- a cut opening in the layout of τ is τ's, and any other stores nothing
  cut-by : (c : OneCut) (a : List ℕ) (P : List ℕ → Type 0) → (c.layout ≡ τ.distance) ⊎ ((cut_by τ c a).number ≢ 0)
      → P (cut_open_of τ a c.room c.stores).arena → P a → P (cut_by τ c a).arena
  cut-by c a P (inl e) p q = subst (λ (d : ℕ). P (cut_open_of (in_layout τ d) a c.room c.stores).arena) (sym e) p
  cut-by c a P (inr n) p q = subst P (sym (cut-none (in_layout τ c.layout) a c.room c.stores n)) q

  cuts_refused : (cuts : List OneCut) (a : List ℕ) → CutsTold τ cuts a → (Opens τ a → ⊥) → after_cuts τ cuts a ≡ a
  unfolding after_cuts
  cuts_refused [] a told no_open = refl
  cuts_refused (c ∷ cs) a told no_open =
      let same : (cut_by τ c a).arena ≡ a = cut-by c a (λ (x : List ℕ). x ≡ a) told.0 (cut-refused a no_open c.room c.stores) refl in
      rw same (cuts_refused cs a (rw same at told.1) no_open)

  -- ---- one that does

  -- an arena that is mended for some lanes
  abbrev Kept : List ℕ → List ℕ → Type 0
  Kept a x = (n : ℕ) × (n ≤ (layout_in τ a).N) × (x ≡ put_all (layout_in τ a) (mends (layout_in τ a) a n) a)

  kept_none : (a : List ℕ) → Kept a a
  unfolding mends put_all
  kept_none a = (0, omega arith, refl)

  cut_is : (a : List ℕ) (w : Room) (k : ℕ) → Kept a (cut_open_of τ a w k).arena
  unfolding cut_open_of mends put_all
  cut_is a w k = go (eqb (open_number τ a (extent_of w)) 0)
    where
      go : (t : Bool) → Kept a (cond t (put_all (layout_in τ a) (take k (mends (layout_in τ a) a (layout_in τ a).N)) a) a)
      go true = let r = mends-take (layout_in τ a) a (layout_in τ a).N k in (r.0, r.1, ap (λ (x : List Store). put_all (layout_in τ a) x a) r.2)
      go false = kept_none a

  module _ (work : Room) where
    -- an arena mended for some lanes opens as it did
    module _ (a : List ℕ) (o : Opens τ a) (s : Small a) (n : ℕ) (u : n ≤ (layout_in τ a).N) where
      abbrev A : List ℕ
      A = put_all (layout_in τ a) (mends (layout_in τ a) a n) a

      same_number : (open_of τ A work).number ≡ (open_of τ a work).number
      unfolding open_of
      same_number = kept_number τ a o s n u (extent_of work)

      same_arena : (open_of τ a work).number ≡ 0 → (open_of τ A work).arena ≡ (open_of τ a work).arena
      unfolding open_of
      same_arena e = rw (kept_number τ a o s n u (extent_of work), e) (kept_mended τ a o s n u)

      same_handle : (open_of τ A work).handle ≡ (open_of τ a work).handle
      unfolding open_of
      same_handle = rw (kept_number τ a o s n u (extent_of work), kept_handle τ a o s n u work.table)

      same_work : (open_of τ A work).work ≡ (open_of τ a work).work
      unfolding open_of
      same_work = kept_work τ a o s n u work

    -- an arena that opens is refused only for want of room
    room_for : (a : List ℕ) → Opens τ a → (open_of τ a work).number ≢ 5 → (open_of τ a work).number ≢ 21 → (open_of τ a work).number ≡ 0
    unfolding open_of
    room_for a o e z = go (ltb (length work.work) (layout_in τ a).I) (ltb (length work.table) (layout_in τ a).N) (open-number τ a (extent_of work) o)
      where
        go : (t u : Bool) → open_number τ a (extent_of work) ≡ cond t 5 (cond u 21 0) → open_number τ a (extent_of work) ≡ 0
        go true u f = absurd (e f)
        go false true f = absurd (z f)
        go false false f = f

    cuts_kept : (cuts : List OneCut) (a : List ℕ) → CutsTold τ cuts a → Opens τ a → Small a → CutsLeaveNoTrace τ a work cuts
    unfolding after_cuts
    cuts_kept [] a told o s = record { number = refl; arena = λ _ _. refl; handle = refl; work-buffer = refl }
    cuts_kept (c ∷ cs) a told o s =
        let q = cut-by c a (Kept a) told.0 (cut_is a c.room c.stores) (kept_none a) in
        let n = q.0 in
        let u = q.1 in
        let ih = cuts_kept cs (put_all (layout_in τ a) (mends (layout_in τ a) a n) a) (rw q.2 at told.1) (kept_opens τ a o s n u) (kept_small τ a o s n u) in
        record {
          number = rw q.2 (ih.number ∙ same_number a o s n u);
          arena = λ e f. rw q.2
              (ih.arena (λ z. e (sym (same_number a o s n u) ∙ z)) (λ z. f (sym (same_number a o s n u) ∙ z)) ∙ same_arena a o s n u (room_for a o e f));
          handle = rw q.2 (ih.handle ∙ same_handle a o s n u);
          work-buffer = rw q.2 (ih.work-buffer ∙ same_work a o s n u);
        }

    pub cuts_no_trace : (a : List ℕ) (cuts : List OneCut) → Small a → CutsTold τ cuts a → CutsLeaveNoTrace τ a work cuts
    cuts_no_trace a cuts s told = opens_or a (CutsLeaveNoTrace τ a work cuts) (λ o. cuts_kept cuts a told o s)
        (λ no_open. let e = cuts_refused cuts a told no_open in record {
          number = ap (λ (x : List ℕ). (open_of τ x work).number) e;
          arena = λ _ _. ap (λ (x : List ℕ). (open_of τ x work).arena) e;
          handle = ap (λ (x : List ℕ). (open_of τ x work).handle) e;
          work-buffer = ap (λ (x : List ℕ). (open_of τ x work).work) e;
        })
