-- Rule 8 in words: that every block counts once is that each stands at one index and no two indexes have one block.
-- Blocks are in range by rules 6 and 7, so no counting of the whole is needed.
use mathlib.Core.Path.{◌≡◌, refl, sym, ap, ◌∙◌}
use mathlib.Core.Logic.{◌≢◌}
use mathlib.Core.List.{List}
use mathlib.Core.Bool.{true, false, not, ◌||◌}
use Prim.Native.Nat.{ℕ, zero, suc, ◌+◌, ◌-◌, ◌≤◌, ◌<◌}
use native.Mathlib.Omega.{arith}
use native.Mathlib.Decide.{ℕ_discrete, dec_lt}
use lib.Dec.{eqb}
use borrow.Author.Tests.{lt-ltb, le-ltb, not-false}
use Rattle.layout.specs.Place.{Layout, LayoutOk}
use Rattle.format.proofs.Tests.{or-false}
use Rattle.machine.specs.state.Flog.{map_block, free_of}
use Rattle.machine.specs.calls.Opening.{lane_readable, mended, two_pending, count, each_once}
use Rattle.machine.specs.words.Valid.{block_at, EachOnce, Settled}
use Rattle.machine.proofs.stores.Once.{at_most_one, hit, hit_eq, count_suc, count_pos, count_one, count_where, Once, once_of, of_once, once_same}
use Rattle.machine.proofs.stores.Stores.{Arena}
use Rattle.machine.proofs.opening.Mends.{readable_of, pending_old, mends_in}
use Rattle.machine.proofs.opening.MendedMap.{of_pending, mended_block, mended_only}
use Rattle.machine.proofs.opening.Spare.{two_apart, none_two}

-- a value that stands at one index at most counts at most once
count_unique : (n : ℕ) (f : ℕ → ℕ) (b : ℕ) → ((i j : ℕ) → i < n → j < n → f i ≡ b → f j ≡ b → i ≡ j) → count n f b ≤ 1
count_unique zero f b u = unfold count in (omega arith)
count_unique (suc n) f b u =
    rw (count_suc n f b) (go (ℕ_discrete (f n) b) (dec_lt 0 (count n f b)) (count_unique n f b (λ i j h k. u i j (omega arith) (omega arith))))
  where
    few : (f n ≢ b) → hit b (f n) ≡ 0
    few d = none (dec_lt 0 (hit b (f n)))
      where
        none : Dec (0 < hit b (f n)) → hit b (f n) ≡ 0
        none (yes h) = absurd (d (sym (hit_eq b (f n) h)))
        none (no h) = omega arith

    one : hit b (f n) ≤ 1
    one = unfold hit in (at_most_one (eqb b (f n)))

    go : Dec (f n ≡ b) → Dec (0 < count n f b) → count n f b ≤ 1 → count n f b + hit b (f n) ≤ 1
    go (no d) _ ih = omega (arith, few d)
    go (yes e) (no z) ih = omega (arith, one)
    go (yes e) (yes p) ih = let w = count_where n f b p in absurd (omega (arith, w.1, u w.0 n (omega (arith, w.1)) (omega arith) w.2 e))

module _ (g : Layout) (m f : ℕ → ℕ) where
  at_map : (i : ℕ) → i < g.E → block_at g m f i ≡ m i
  at_map i h = rw (lt-ltb i g.E h)

  at_past : (i : ℕ) → g.E ≤ i → block_at g m f i ≡ f (i - g.E)
  at_past i h = rw (le-ltb i g.E h)

  at-free : (l : ℕ) → block_at g m f (g.E + l) ≡ f l
  at-free l = let e : g.E + l - g.E ≡ l = omega arith in at_past (g.E + l) (omega arith) ∙ ap f e

  pub each-once : ((s : ℕ) → s < g.E → m s < g.I) → ((l : ℕ) → l < g.N → f l < g.I) → Once g.I g.E g.N m f → EachOnce g m f
  unfolding Once
  each-once mi fi once = record {
    inside = λ i h. inside i h (dec_lt i g.E);
    each = λ b h. each b (once b h) (dec_lt 0 (count g.E m b));
    once = λ i j h k e. one i j h k e (dec_lt i g.E) (dec_lt j g.E);
  }
    where
      inside : (i : ℕ) → i < g.E + g.N → Dec (i < g.E) → block_at g m f i < g.I
      inside i h (yes d) = rw (at_map i d) (mi i d)
      inside i h (no d) = rw (at_past i (omega arith)) (fi (i - g.E) (omega arith))

      each : (b : ℕ) → count g.E m b + count g.N f b ≡ 1 → Dec (0 < count g.E m b) → (i : ℕ) × (i < g.E + g.N) × (block_at g m f i ≡ b)
      each b c (yes p) = let w = count_where g.E m b p in (w.0, omega (arith, w.1), at_map w.0 w.1 ∙ w.2)
      each b c (no p) = let w = count_where g.N f b (omega arith) in (g.E + w.0, omega (arith, w.1), at-free w.0 ∙ w.2)

      cross : (i j : ℕ) → i < g.E → g.E ≤ j → j < g.E + g.N → block_at g m f i ≡ block_at g m f j → ⊥
      cross i j d c k e =
          let p : m i ≡ f (j - g.E) = sym (at_map i d) ∙ e ∙ at_past j c in
          omega (arith, once (m i) (mi i d), count_pos g.E m (m i) i d refl, count_pos g.N f (m i) (j - g.E) (omega arith) (sym p))

      one : (i j : ℕ) → i < g.E + g.N → j < g.E + g.N → block_at g m f i ≡ block_at g m f j → Dec (i < g.E) → Dec (j < g.E) → i ≡ j
      one i j h k e (yes c) (yes d) =
          count_one g.E m (m i) i j (omega (arith, once (m i) (mi i c))) c d refl (sym (sym (at_map i c) ∙ e ∙ at_map j d))
      one i j h k e (yes c) (no d) = absurd (cross i j c (omega arith) k e)
      one i j h k e (no c) (yes d) = absurd (cross j i d (omega arith) h (sym e))
      one i j h k e (no c) (no d) =
          let p : f (j - g.E) ≡ f (i - g.E) = sym (at_past j (omega arith)) ∙ sym e ∙ at_past i (omega arith) in
          let x = once (f (i - g.E)) (fi (i - g.E) (omega arith)) in
          let q : i - g.E ≡ j - g.E = count_one g.N f (f (i - g.E)) (i - g.E) (j - g.E) (omega arith) (omega arith) (omega arith) refl p in
          omega arith

  once_each : EachOnce g m f → Once g.I g.E g.N m f
  unfolding Once
  once_each o b h = go (dec_lt 0 (count g.E m b)) (dec_lt 0 (count g.N f b))
    where
      maps : count g.E m b ≤ 1
      maps = count_unique g.E m b (λ i j u v p q. o.once i j (omega arith) (omega arith) (at_map i u ∙ p ∙ sym q ∙ sym (at_map j v)))

      frees : count g.N f b ≤ 1
      frees = count_unique g.N f b (λ i j u v p q.
          let e = o.once (g.E + i) (g.E + j) (omega arith) (omega arith) (at-free i ∙ p ∙ sym q ∙ sym (at-free j)) in omega arith)

      some : (0 < count g.E m b → ⊥) → (0 < count g.N f b → ⊥) → ⊥
      some x y = let w = o.each b h in here w.0 w.1 w.2 (dec_lt w.0 g.E)
        where
          here : (i : ℕ) → i < g.E + g.N → block_at g m f i ≡ b → Dec (i < g.E) → ⊥
          here i u e (yes d) = x (count_pos g.E m b i d (sym (at_map i d) ∙ e))
          here i u e (no d) = y (count_pos g.N f b (i - g.E) (omega arith) (sym (at_past i (omega arith)) ∙ e))

      both : 0 < count g.E m b → 0 < count g.N f b → ⊥
      both x y =
          let v = count_where g.E m b x in
          let w = count_where g.N f b y in
          let e = o.once v.0 (g.E + w.0) (omega (arith, v.1)) (omega (arith, w.1))
          (at_map v.0 v.1 ∙ v.2 ∙ sym w.2 ∙ sym (at-free w.0)) in
          omega (arith, v.1)

      go : Dec (0 < count g.E m b) → Dec (0 < count g.N f b) → count g.E m b + count g.N f b ≡ 1
      go (yes x) (yes y) = absurd (both x y)
      go (yes x) (no y) = omega (arith, maps)
      go (no x) (yes y) = omega (arith, frees)
      go (no x) (no y) = absurd (some x y)

-- ---- settled, as opening tests it

module _ (g : Layout) (ok : LayoutOk g) (a : List ℕ) (r : Arena g a) (f : (l : ℕ) → l < g.N → lane_readable g a l ≡ true)
    (w : (s : ℕ) → s < g.E → map_block g a s < g.I) where
  pub settled_of : two_pending g a || not (each_once g (map_block g (mended g a)) (free_of g a)) ≡ false → Settled g a
  settled_of e =
      let p = or-false (two_pending g a) _ e in
      record {
        apart = λ l j u v n x y. two_apart g a p.0 l j u v n (of_pending g a l x) (of_pending g a j y);
        mapped = map_block g (mended g a);
        mended = mended_block g ok a r f p.0;
        once = each-once g (map_block g (mended g a)) (free_of g a) (mends_in g ok a r f g.N (omega arith) w)
            (λ l u. (readable_of g a l (f l u)).old) (once_of g _ _ (not-false _ p.1));
      }

  pub of_settled : Settled g a → two_pending g a || not (each_once g (map_block g (mended g a)) (free_of g a)) ≡ false
  of_settled s =
      let t : two_pending g a ≡ false = none_two g a
      (λ l j u v p q. s.apart l j u (omega arith) (λ d. omega arith) (pending_old g a l p) (pending_old g a j q)) in
      rw (
        t,
        of_once g _ _ (once_same g.I g.E g.N s.mapped (free_of g a) (map_block g (mended g a)) (free_of g a)
            (λ i u. mended_only g ok a r f t i u (s.mapped i) (s.mended i u)) (λ l u. refl) (once_each g _ _ s.once)),
      )
