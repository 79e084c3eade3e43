-- Rule 8 judged on the map as found: the free blocks differ from one another, and mapped blocks with the lanes' spare blocks are
-- every block once. Two pending lanes that name one sector have the same old block, so their free blocks do not differ.
use mathlib.Core.Path.{◌≡◌, refl, sym, ap, ◌∙◌}
use mathlib.Core.Logic.{◌≢◌}
use mathlib.Core.List.{List}
use mathlib.Core.Bool.{Bool, true, false, not, ◌&&◌, ◌||◌, and-false}
use Prim.Native.Nat.{ℕ, ◌+◌, ◌<◌}
use native.Mathlib.Omega.{arith}
use native.Mathlib.Decide.{dec_lt}
use lib.Dec.{eqb, leb}
use borrow.Author.Tests.{eqb-true, eq-eqb, le-leb, lt-leb}
use Rattle.format.specs.Tests.{every, some}
use Rattle.layout.specs.Place.{Layout, LayoutOk}
use Rattle.format.proofs.Tests.{every_same, true_false, by_bool, and_intro, and_elim, every_intro, every_fails, some_intro, some_elim, some_true}
use Rattle.machine.specs.state.Flog.{map_block, newer_word, free_of, pending, spare_of}
use Rattle.machine.specs.calls.Opening.{lane_readable, mended, two_pending, count, each_once}
use Rattle.machine.proofs.stores.Once.{count_two, Once, once_of}
use Rattle.machine.proofs.stores.Stores.{Arena}
use Rattle.machine.proofs.opening.Mends.{readable_of, pending_old, spare_part}

-- the tests of rule 8 on the arena as found
abbrev free_differ : Layout → List ℕ → Bool
free_differ g a = every g.I (λ b. leb (count g.N (free_of g a) b) 1)

abbrev spare_once : Layout → List ℕ → Bool
spare_once g a = every g.I (λ b. eqb (count g.E (map_block g a) b + count g.N (spare_of g a) b) 1)

-- ---- two pending lanes

module _ (g : Layout) (a : List ℕ) where
  pub two_none : two_pending g a ≡ false → (l j : ℕ) → l < g.N → j < l → pending g a l ≡ true → pending g a j ≡ true
      → newer_word g a l 0 ≢ newer_word g a j 0
  unfolding two_pending
  two_none e l j u v p q d =
      let z = some_elim l (λ j. pending g a l && (pending g a j && eqb (newer_word g a l 0) (newer_word g a j 0)))
      (some_elim g.N (λ l. some l (λ j. pending g a l && (pending g a j && eqb (newer_word g a l 0) (newer_word g a j 0)))) e l u) j v in
      true_false (sym (and_intro _ _ p (and_intro _ _ q (eq-eqb _ _ d))) ∙ z)

  -- the same of two lanes in any order
  pub two_apart : two_pending g a ≡ false → (l j : ℕ) → l < g.N → j < g.N → l ≢ j → pending g a l ≡ true → pending g a j ≡ true
      → newer_word g a l 0 ≢ newer_word g a j 0
  two_apart e l j u v n p q = go (dec_lt j l)
    where
      go : Dec (j < l) → newer_word g a l 0 ≢ newer_word g a j 0
      go (yes d) = two_none e l j u d p q
      go (no d) = λ z. two_none e j l v (omega arith) q p (sym z)

  pub none_two : ((l j : ℕ) → l < g.N → j < l → pending g a l ≡ true → pending g a j ≡ true → newer_word g a l 0 ≢ newer_word g a j 0)
      → two_pending g a ≡ false
  unfolding two_pending
  none_two f = some_intro g.N _ (λ l u. some_intro l _ (λ j v. pair l j u v))
    where
      pair : (l j : ℕ) → l < g.N → j < l → pending g a l && (pending g a j && eqb (newer_word g a l 0) (newer_word g a j 0)) ≡ false
      pair l j u v = by_bool (pending g a l && (pending g a j && eqb (newer_word g a l 0) (newer_word g a j 0))) _
          (λ t. let p = and_elim (pending g a l) _ t in
          let q = and_elim (pending g a j) _ p.1 in
          absurd (f l j u v p.0 q.0 (eqb-true _ _ q.1)))
          (λ t. t)

  two_found : two_pending g a ≡ true
      → (l : ℕ) × (j : ℕ) × (l < g.N) × (j < l) × (pending g a l ≡ true) × (pending g a j ≡ true) × (newer_word g a l 0 ≡ newer_word g a j 0)
  unfolding two_pending
  two_found e =
      let x = some_true g.N (λ l. some l (λ j. pending g a l && (pending g a j && eqb (newer_word g a l 0) (newer_word g a j 0)))) e in
      let y = some_true x.0 (λ j. pending g a x.0 && (pending g a j && eqb (newer_word g a x.0 0) (newer_word g a j 0))) x.2 in
      let p = and_elim (pending g a x.0) _ y.2 in
      let q = and_elim (pending g a y.0) _ p.1 in
      (x.0, y.0, x.1, y.1, p.0, q.0, eqb-true _ _ q.1)

-- ---- rule 8

module _ (g : Layout) (ok : LayoutOk g) (a : List ℕ) (r : Arena g a) (f : (l : ℕ) → l < g.N → lane_readable g a l ≡ true) where
  -- mended map and free blocks count as the map as found and the spare blocks do
  pub spare_count : two_pending g a ≡ false → (b : ℕ)
      → count g.E (map_block g (mended g a)) b + count g.N (free_of g a) b ≡ count g.E (map_block g a) b + count g.N (spare_of g a) b
  spare_count e b = spare_part g ok a r f (two_none g a e) b g.N (omega arith)

  two_same : two_pending g a ≡ true → free_differ g a ≡ false
  two_same e =
      let t = two_found g a e in
      let l = t.0 in
      let j = t.1 in
      let same : free_of g a j ≡ free_of g a l = sym (pending_old g a j t.5) ∙ ap (map_block g a) (sym t.6) ∙ pending_old g a l t.4 in
      let c = count_two g.N (free_of g a) (free_of g a l) l j t.2 (omega (arith, t.2, t.3)) (λ d. omega (arith, t.3)) refl same in
      every_fails g.I (λ b. leb (count g.N (free_of g a) b) 1) (free_of g a l) (readable_of g a l (f l t.2)).old (lt-leb _ 1 c)

  once_spare : two_pending g a ≡ false → each_once g (map_block g (mended g a)) (free_of g a) ≡ spare_once g a
  unfolding each_once
  once_spare e = every_same g.I _ _ (λ b u. ap (λ (n : ℕ). eqb n 1) (spare_count e b))

  once_differ : each_once g (map_block g (mended g a)) (free_of g a) ≡ true → free_differ g a ≡ true
  unfolding Once
  once_differ e = every_intro g.I (λ b. leb (count g.N (free_of g a) b) 1)
      (λ b u. le-leb (count g.N (free_of g a) b) 1 (omega (arith, once_of g (map_block g (mended g a)) (free_of g a) e b u)))

  pub rule8 : (two_pending g a || not (each_once g (map_block g (mended g a)) (free_of g a))) ≡ not (free_differ g a && spare_once g a)
  rule8 = by_bool (two_pending g a) _
      (λ t. rw (t, two_same t))
      (λ t. rw t (by_bool (each_once g (map_block g (mended g a)) (free_of g a)) _
      (λ o. rw (o, once_differ o, sym (once_spare t) ∙ o))
      (λ o. let s = sym (once_spare t) ∙ o in rw (o, s, and-false (free_differ g a)))))
