-- The arena after the first k mending stores of the lanes below l: a store at lane l, or none, leads on to the lanes below l + 1.
use mathlib.Core.Path.{◌≡◌, refl, sym, ap, ◌∙◌}
use mathlib.Core.Bool.{Bool, true, false, cond}
use mathlib.Core.List.{List}
use Prim.Native.Nat.{ℕ, suc, ◌+◌, ◌≤◌, ◌<◌}
use native.Mathlib.Omega.{arith}
use native.Mathlib.Numerals.{add-one}
use lib.Dec.{ltb}
use lib.ListN.{length, take}
use lib.Seq.{take_all, take-nil, take-append-le}
use Rattle.words.specs.Bytes.{Small}
use Rattle.layout.specs.Place.{Layout, layout_of}
use Rattle.layout.specs.declared.Figures.{Figures}
use Rattle.machine.specs.state.Stores.{Store, stored, put_all}
use Rattle.machine.specs.state.Flog.{newer_half, newer_word, pending}
use Rattle.machine.specs.calls.Opening.{lane_readable, mend_store, mends, pending_lanes, two_pending}
use Rattle.machine.proofs.stores.Once.{at_most_one}
use Rattle.machine.proofs.stores.Stores.{put_all-length}
use Rattle.machine.proofs.opening.Mends.{length-mends, pending_next, mends-take, mends_more, mends_same, mends-newer, mends-newer_word}
use Rattle.machine.proofs.opening.Ghosts.{Consistent, pending_kept}
use Rattle.machine.proofs.opening.Opens.{lanes_pass, words_pass}
use borrow.Author.Tests.{ltb-true, ltb-false, not-false}
use Rattle.format.proofs.Tests.{by_bool, or-false}
use Rattle.lanes.proofs.Lanes.{fit_arena}
use Rattle.machine.proofs.invariant.Tidy.{tidy_of}
use Rattle.mend.specs.Mend.{Mendable, mended_at}

-- an arena that can be mended, in its layout
pub mendable_consistent : (d : ℕ) (f : Figures) (a : List ℕ) → Mendable d f a → Small a → Consistent (layout_of d f) a
mendable_consistent d f a m small =
    let g = layout_of d f in
    let t = m.all in
    let p = or-false (two_pending g a) _ m.settled in
    record {
      ok = t.fit.ok;
      arena = fit_arena d f a t.fit small;
      lanes = lanes_pass g a t.lanes;
      words = words_pass g a t.words;
      tidy = tidy_of g a t.clean;
      apart = p.0;
      once = not-false _ p.1;
    }

-- the arena with the first k mending stores of the lanes below l
abbrev pub part : Layout → List ℕ → ℕ → ℕ → List ℕ
part g a k l = put_all g (take k (mends g a l)) a

pub part_none : (g : Layout) (a : List ℕ) (k : ℕ) → a ≡ part g a k 0
unfolding mends put_all
part_none g a k = rw take-nil

pub part_length : (g : Layout) (a : List ℕ) (k l : ℕ) → length (part g a k l) ≡ length a
part_length g a k l = put_all-length g (take k (mends g a l)) a

pub pending-none : (g : Layout) (a : List ℕ) → 0 ≡ pending_lanes g a 0
unfolding pending_lanes
pending-none g a = refl

-- a lane's turn, by what it is found to be
pub count_none : (n : ℕ) (t : Bool) → t ≡ false → n ≡ n + cond t 1 0
count_none n t e = rw e (omega arith)

pub count_one : (n : ℕ) (t : Bool) → t ≡ true → n + 1 ≡ n + cond t 1 0
count_one n t e = rw e

pub turn_none : (g : Layout) (a : List ℕ) (l : ℕ) (left : Bool) → pending g a l ≡ false → a ≡ mended_at g a l left
unfolding mended_at
turn_none g a l left e = rw e

pub turn_full : (g : Layout) (a : List ℕ) (l : ℕ) (left : Bool) → pending g a l ≡ true → left ≡ false → a ≡ mended_at g a l left
unfolding mended_at
turn_full g a l left e t = rw (e, t)

pub turn_store : (g : Layout) (a : List ℕ) (l : ℕ) (left : Bool) → pending g a l ≡ true → left ≡ true
    → stored g (mend_store g a l) a ≡ mended_at g a l left
unfolding mended_at
turn_store g a l left e t = rw (e, t)

module _ (g : Layout) (a : List ℕ) (j : Consistent g a) (k l : ℕ) (u : l < g.N) where
  -- it is that of all stores of the lanes below some n
  some_lanes : (n : ℕ) × (n ≤ l) × (take k (mends g a l) ≡ mends g a n)
  some_lanes = let t = mends-take g a l k in (t.0, t.1, t.2)

  part_is : part g a k l ≡ put_all g (mends g a some_lanes.0) a
  part_is = ap (λ (x : List Store). put_all g x a) some_lanes.2

  part-pending : pending g (part g a k l) l ≡ pending g a l
  part-pending = rw part_is (pending_kept g a j some_lanes.0 l some_lanes.1 u)

  part-newer : newer_half g (part g a k l) l ≡ newer_half g a l
  part-newer = rw part_is (mends-newer g j.ok a j.arena j.lanes some_lanes.0 (omega (arith, some_lanes.1)) l u)

  part-newer_word : (i : ℕ) → i < 4 → newer_word g (part g a k l) l i ≡ newer_word g a l i
  part-newer_word i v = rw part_is (mends-newer_word g j.ok a j.arena j.lanes some_lanes.0 (omega (arith, some_lanes.1)) l i u v)

  pub part_readable : lane_readable g (part g a k l) l ≡ true
  unfolding lane_readable
  part_readable = rw (part-newer_word 0 (omega arith), part-newer_word 1 (omega arith), part-newer_word 2 (omega arith), part-newer) (j.lanes l u)

  part_store : mend_store g (part g a k l) l ≡ mend_store g a l
  part_store = rw (part-newer_word 0 (omega arith), part-newer_word 2 (omega arith))

  part_more : pending g a l ≡ true → pending_lanes g a l < k → stored g (mend_store g (part g a k l) l) (part g a k l) ≡ part g a k (suc l)
  part_more e v =
      ap (λ (st : Store). stored g st (part g a k l)) part_store
      ∙ ap (λ (x : List Store). stored g (mend_store g a l) (put_all g x a)) all
      ∙ sym (mends_more g a l e)
      ∙ ap (λ (x : List Store). put_all g x a) (sym next)
    where
      all : take k (mends g a l) ≡ mends g a l
      all = take_all k _ (rw length-mends (omega arith))

      one : pending_lanes g a (suc l) ≡ pending_lanes g a l + 1
      one = pending_next g a l ∙ rw e

      next : take k (mends g a (suc l)) ≡ mends g a (suc l)
      next = take_all k _ (rw length-mends (omega (arith, one)))

  part_full : k ≤ pending_lanes g a l → part g a k l ≡ part g a k (suc l)
  unfolding mends
  part_full v = ap (λ (x : List Store). put_all g x a) (sym (take-append-le k (mends g a l) _ (rw length-mends v)))

  part_same : pending g a l ≡ false → part g a k l ≡ part g a k (suc l)
  part_same e = ap (λ (x : List Store). put_all g (take k x) a) (sym (mends_same g a l e))

  -- lane l's turn leads from the lanes below l to those below l + 1
  part-next : mended_at g (part g a k l) l (ltb (pending_lanes g a l) k) ≡ part g a k (suc l)
  unfolding mended_at
  part-next = rw part-pending (by_bool (pending g a l) _
      (λ e. by_bool (ltb (pending_lanes g a l) k) _
      (λ t. rw (e, t) (part_more e (ltb-true _ _ t)))
      (λ t. rw (e, t) (part_full (ltb-false _ _ t))))
      (λ e. rw e (part_same e)))

  -- the loop's invariant after a turn
  pub turn : (b b' : List ℕ) (count count' : ℕ) → count ≡ pending_lanes g a l → b ≡ part g a k l
      → count' ≡ count + cond (pending g b l) 1 0 → b' ≡ mended_at g b l (ltb count k)
      → (count' ≡ pending_lanes g a (l + 1)) × ((b' ≡ part g a k (l + 1)) × (count' ≤ count + 1))
  turn b b' count count' e f e' f' = (
    e' ∙ rw (f, part-pending, add-one, pending_next, e),
    (f' ∙ rw (f, e, add-one) part-next, omega (arith, at_most_one (pending g b l))),
  )
