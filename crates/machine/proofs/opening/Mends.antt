-- The stores of an opening are map words, one for each pending lane. Where no two pending lanes name one sector, each store moves
-- the lane's old block from the map to the free blocks and its new block into the map, so that counts of blocks come out even.
use mathlib.Core.Path.{◌≡◌, refl, sym, ap, ◌∙◌}
use mathlib.Core.Logic.{◌≢◌}
use mathlib.Core.List.{List, [], ◌∷◌, append-nil}
use mathlib.Core.Bool.{Bool, true, false, cond}
use Prim.Native.Nat.{ℕ, zero, suc, ◌+◌, ◌≤◌, ◌<◌}
use native.Mathlib.Omega.{arith}
use native.Mathlib.Decide.{ℕ_discrete, dec_le}
use lib.Dec.{ltb}
use lib.ListN.{length, take, length-append}
use lib.Seq.{take_all, take-nil, take-append-le}
use borrow.Author.Tests.{eqb-true, ltb-true}
use Rattle.layout.specs.Place.{Layout, LayoutOk}
use Rattle.format.specs.MapWord.{bad_word, sloppy_word}
use Rattle.format.proofs.Tests.{by_bool, all_elim}
use Rattle.format.proofs.MapWord.{block-in}
use Rattle.machine.specs.state.Stores.{stored, put_all}
use Rattle.machine.specs.state.Flog.{map_word, map_block, flog_word, newer_half, newer_word, free_of, pending, spare_of}
use Rattle.machine.specs.calls.Opening.{lane_readable, mend_store, mends, pending_lanes, count}
use Rattle.machine.specs.words.Valid.{Readable}
use Rattle.machine.proofs.stores.Members.{Each, each_none, each_append, one_length, one_out}
use Rattle.machine.proofs.stores.Once.{hit, count_suc, count_change}
use Rattle.machine.proofs.stores.Stores.{Fits, Arena, put_all_one, put_all_arena}
use Rattle.machine.proofs.stores.MapStores.{map_fits, map_flog, map_other, map_here, map_keeps}
use Rattle.machine.proofs.invariant.Inv.{same_newer}

-- rule 6 as a test and in words
pub readable_of : (g : Layout) (a : List ℕ) (l : ℕ) → lane_readable g a l ≡ true → Readable g a l
unfolding lane_readable
readable_of g a l e =
    let h = all_elim (ltb (newer_half g a l) 2 ∷ ltb (newer_word g a l 0) g.E ∷ ltb (newer_word g a l 1) g.I ∷ ltb (newer_word g a l 2) g.I ∷ []) e in
    record { newer = ltb-true _ _ h.0; sector = ltb-true _ _ h.1.0; old = ltb-true _ _ h.1.1.0; new = ltb-true _ _ h.1.1.1.0 }

-- and rules 7 and 18: a sector's word that passes stands for a block in range
pub word_in : (g : Layout) → LayoutOk g → (a : List ℕ) (s : ℕ) → s < g.E → bad_word g.I (map_word g a s) ≡ false
    → sloppy_word (map_word g a s) ≡ false → map_block g a s < g.I
word_in g ok a s u = block-in g.I s (map_word g a s) (omega (arith, ok.blocks))

-- a pending lane's sector is mapped to its old block
pub pending_old : (g : Layout) (a : List ℕ) (l : ℕ) → pending g a l ≡ true → map_block g a (newer_word g a l 0) ≡ free_of g a l
unfolding pending
pending_old g a l e = eqb-true _ _ e

-- ---- the list of stores

module _ (g : Layout) (a : List ℕ) where
  pub length-mends : (n : ℕ) → length (mends g a n) ≡ pending_lanes g a n
  unfolding mends pending_lanes
  length-mends zero = refl
  length-mends (suc n) = rw length-append (omega (arith, length-mends n, one_length (mend_store g a n) (pending g a n)))

  -- where none of the lanes below n is pending
  pub none-mended : (n : ℕ) → ((l : ℕ) → l < n → pending g a l ≡ false) → mends g a n ≡ []
  unfolding mends
  none-mended zero h = refl
  none-mended (suc n) h = rw (none-mended n (λ l u. h l (omega arith)), h n (omega arith))

  pub none-pending : (n : ℕ) → ((l : ℕ) → l < n → pending g a l ≡ false) → pending_lanes g a n ≡ 0
  none-pending n h = sym (length-mends n) ∙ ap length (none-mended n h)

  pub pending_next : (n : ℕ) → pending_lanes g a (suc n) ≡ pending_lanes g a n + cond (pending g a n) 1 0
  unfolding pending_lanes
  pending_next n = refl

  -- one more lane counts one more at most
  fewer : (n : ℕ) → (pending_lanes g a n ≤ pending_lanes g a (suc n)) × (pending_lanes g a (suc n) ≤ pending_lanes g a n + 1)
  fewer n = rw (pending_next n) (by_bool (pending g a n) _ (λ t. rw t (omega arith, omega arith)) (λ t. rw t (omega arith, omega arith)))

  -- a pending lane below n is one more than those below it
  pending_more : (n l : ℕ) → l < n → pending g a l ≡ true → pending_lanes g a l < pending_lanes g a n
  pending_more zero l u p = absurd (omega arith)
  pending_more (suc n) l u p = go (ℕ_discrete l n) (λ v. pending_more n l v p)
    where
      go : Dec (l ≡ n) → (l < n → pending_lanes g a l < pending_lanes g a n) → pending_lanes g a l < pending_lanes g a (suc n)
      go (yes e) ih = let t : pending g a n ≡ true = rw e at p in rw (e, pending_next n, t) (omega arith)
      go (no d) ih = omega (arith, ih (omega arith), (fewer n).0)

  -- a lane is below n exactly if fewer than k pending lanes are below it
  abbrev Among : ℕ → ℕ → ℕ → Type 0
  Among k n l = (pending_lanes g a l < k → l < n) × (l < n → pending_lanes g a l < k)

  -- the first k of the stores are those of the lanes below some n
  pub mends-take : (m k : ℕ)
      → (n : ℕ) × (n ≤ m) × (take k (mends g a m) ≡ mends g a n) × ((l : ℕ) → l < m → pending g a l ≡ true → Among k n l)
  mends-take zero k = (0, omega arith, none, λ l u p. absurd (omega arith))
    where
      none : take k (mends g a zero) ≡ mends g a zero
      none = unfold mends in take-nil k
  mends-take (suc m) k = go (dec_le (pending_lanes g a (suc m)) k) (mends-take m k)
    where
      part : k ≤ length (mends g a m) → take k (mends g a (suc m)) ≡ take k (mends g a m)
      part u = unfold mends in take-append-le k (mends g a m) _ u

      last : (n l : ℕ) → n ≤ m → k < pending_lanes g a (suc m) → Dec (l ≡ m) → (l < m → Among k n l) → l < suc m → Among k n l
      last n l v w (yes e) f u = (λ x. absurd (omega (arith, (fewer m).1, ap (pending_lanes g a) e)), λ x. absurd (omega arith))
      last n l v w (no d) f u = f (omega arith)

      go : Dec (pending_lanes g a (suc m) ≤ k)
          → (n : ℕ) × (n ≤ m) × (take k (mends g a m) ≡ mends g a n) × ((l : ℕ) → l < m → pending g a l ≡ true → Among k n l)
          → (n : ℕ) × (n ≤ suc m) × (take k (mends g a (suc m)) ≡ mends g a n) × ((l : ℕ) → l < suc m → pending g a l ≡ true → Among k n l)
      go (yes u) r = (
        suc m,
        omega arith,
        take_all k (mends g a (suc m)) (rw (length-mends (suc m)) u),
        λ l v p. (λ _. v, λ _. omega (arith, pending_more (suc m) l v p)),
      )
      go (no u) r = (
        r.0,
        omega (arith, r.1),
        part (rw (length-mends m) (omega (arith, (fewer m).1))) ∙ r.2,
        λ l v p. last r.0 l r.1 (omega arith) (ℕ_discrete l m) (λ w. r.3 l w p) v,
      )

  pub mends_more : (n : ℕ) → pending g a n ≡ true → put_all g (mends g a (suc n)) a ≡ stored g (mend_store g a n) (put_all g (mends g a n) a)
  unfolding mends
  mends_more n e = rw e (put_all_one g (mends g a n) (mend_store g a n) a)

  pub mends_same : (n : ℕ) → pending g a n ≡ false → mends g a (suc n) ≡ mends g a n
  unfolding mends
  mends_same n e = rw e (append-nil (mends g a n))

  -- what holds of the arena holds of it with any of its lanes mended, where each store keeps it
  pub mend_keeps : (P : List ℕ → Type 0) → P a → (m : ℕ)
      → ((n : ℕ) → n < m → pending g a n ≡ true → P (put_all g (mends g a n) a) → P (stored g (mend_store g a n) (put_all g (mends g a n) a)))
      → P (put_all g (mends g a m) a)
  mend_keeps P p zero f = unfold mends put_all in p
  mend_keeps P p (suc m) f =
      let ih = mend_keeps P p m (λ n u. f n (omega arith)) in
      by_bool (pending g a m) (P (put_all g (mends g a (suc m)) a)) (λ t. rw (mends_more m t) (f m (omega arith) t ih)) (λ t. rw (mends_same m t) ih)

-- ---- an arena whose lanes are readable, mended for the lanes below n

module _ (g : Layout) (ok : LayoutOk g) (a : List ℕ) (r : Arena g a) (f : (l : ℕ) → l < g.N → lane_readable g a l ≡ true) where
  part : (l : ℕ) → l < g.N → Readable g a l
  part l u = readable_of g a l (f l u)

  pub mends_arena : (n : ℕ) → Arena g (put_all g (mends g a n) a)
  mends_arena n = put_all_arena g ok (mends g a n) a r

  -- each store can be made
  pub mends_fits : (n : ℕ) → n ≤ g.N → Each (Fits g) (mends g a n)
  unfolding mends
  mends_fits zero u = each_none (Fits g)
  mends_fits (suc n) u = each_append (Fits g) (mends g a n) _ (mends_fits n (omega arith))
      (λ st m. let p = part n u in
      rw (one_out (mend_store g a n) (pending g a n) st m).1 (map_fits g ok a r (newer_word g a n 0) (newer_word g a n 2) p.sector p.new))

  -- no word of a log changes
  mends_flog : (n : ℕ) → n ≤ g.N → (l h k : ℕ) → l < g.N → h < 2 → k < 4
      → flog_word g (put_all g (mends g a n) a) l h k ≡ flog_word g a l h k
  mends_flog n u l h k v c d = mend_keeps g a (λ x. flog_word g x l h k ≡ flog_word g a l h k) refl n
      (λ m w _ e. let p = part m (omega arith) in
      map_flog g ok _ (mends_arena m) (newer_word g a m 0) (newer_word g a m 2) p.sector p.new l h k v c d ∙ e)

  pub mends-newer : (n : ℕ) → n ≤ g.N → (l : ℕ) → l < g.N → newer_half g (put_all g (mends g a n) a) l ≡ newer_half g a l
  mends-newer n u l v =
      same_newer g a _ l 0 (omega arith) (mends_flog n u l 1 3 v (omega arith) (omega arith)) (mends_flog n u l 0 3 v (omega arith) (omega arith))

  pub mends-newer_word : (n : ℕ) → n ≤ g.N → (l k : ℕ) → l < g.N → k < 4 → newer_word g (put_all g (mends g a n) a) l k ≡ newer_word g a l k
  mends-newer_word n u l k v d = rw (mends-newer n u l v) (mends_flog n u l (newer_half g a l) k v (part l v).newer d)

  -- nor the word of a sector that no pending lane below n names
  mends-map : (n : ℕ) → n ≤ g.N → (s : ℕ) → s < g.E → ((j : ℕ) → j < n → pending g a j ≡ true → newer_word g a j 0 ≢ s)
      → map_block g (put_all g (mends g a n) a) s ≡ map_block g a s
  mends-map n u s v away = mend_keeps g a (λ x. map_block g x s ≡ map_block g a s) refl n
      (λ m w t e. let p = part m (omega arith) in
      map_other g ok _ (mends_arena m) (newer_word g a m 0) (newer_word g a m 2) p.sector p.new s v (λ q. away m w t (sym q)) ∙ e)

  -- blocks in range stay so
  pub mends_in : (n : ℕ) → n ≤ g.N → ((s : ℕ) → s < g.E → map_block g a s < g.I) → (s : ℕ) → s < g.E
      → map_block g (put_all g (mends g a n) a) s < g.I
  mends_in n u all = mend_keeps g a (λ x. (s : ℕ) → s < g.E → map_block g x s < g.I) all n
      (λ m w _ e. let p = part m (omega arith) in
      map_keeps g ok _ (mends_arena m) (newer_word g a m 0) (newer_word g a m 2) p.sector p.new e)

  -- each store trades old for new in the map, as the free blocks trade new for old
  pub spare_part : ((l j : ℕ) → l < g.N → j < l → pending g a l ≡ true → pending g a j ≡ true → newer_word g a l 0 ≢ newer_word g a j 0)
      → (b n : ℕ) → n ≤ g.N
      → count g.E (map_block g (put_all g (mends g a n) a)) b + count n (free_of g a) b
      ≡ count g.E (map_block g a) b + count n (spare_of g a) b
  spare_part apart b zero u = unfold mends put_all count in refl
  spare_part apart b (suc n) u = go (pending g a n) refl (spare_part apart b n (omega arith))
    where
      A : List ℕ
      A = put_all g (mends g a n) a

      spare : (t : Bool) → pending g a n ≡ t → spare_of g a n ≡ cond t (newer_word g a n 2) (free_of g a n)
      spare t e = unfold spare_of in rw e

      p : Readable g a n
      p = part n u

      go : (t : Bool) → pending g a n ≡ t
          → count g.E (map_block g (put_all g (mends g a n) a)) b + count n (free_of g a) b ≡ count g.E (map_block g a) b + count n (spare_of g a) b
          → count g.E (map_block g (put_all g (mends g a (suc n)) a)) b + count (suc n) (free_of g a) b
          ≡ count g.E (map_block g a) b + count (suc n) (spare_of g a) b
      go false e ih =
          rw (count_suc n (free_of g a) b, count_suc n (spare_of g a) b, spare false e, mends_same g a n e) (omega arith)
      go true e ih =
          let was : map_block g A (newer_word g a n 0) ≡ free_of g a n =
          mends-map n (omega arith) (newer_word g a n 0) p.sector (λ j v t q. apart n j u v e t (sym q))
          ∙ pending_old g a n e in
          let c = count_change g.E (map_block g A) (map_block g (stored g (mend_store g a n) A)) b (newer_word g a n 0) p.sector
          (λ s v d. map_other g ok A (mends_arena n) (newer_word g a n 0) (newer_word g a n 2) p.sector p.new s v d) in
          let here = map_here g ok A (mends_arena n) (newer_word g a n 0) (newer_word g a n 2) p.sector p.new in
          rw (count_suc n (free_of g a) b, count_suc n (spare_of g a) b, spare true e, mends_more g a n e)
          (omega (arith, c, ap (hit b) was, ap (hit b) here))
