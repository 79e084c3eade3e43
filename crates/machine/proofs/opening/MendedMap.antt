-- The mended map, sector by sector: where no two pending lanes name one sector, a pending lane's sector has the lane's new block, and every
-- other sector the block that it had.
use mathlib.Core.Path.{◌≡◌, refl, sym, ap, ◌∙◌}
use mathlib.Core.Logic.{◌≢◌}
use mathlib.Core.List.{List}
use mathlib.Core.Bool.{Bool, true, false, ◌&&◌}
use Prim.Native.Nat.{ℕ, zero, suc, ◌≤◌, ◌<◌}
use native.Mathlib.Omega.{arith}
use native.Mathlib.Decide.{ℕ_discrete}
use lib.Dec.{eqb}
use borrow.Author.Tests.{eqb-true, eq-eqb}
use Rattle.words.specs.Word.{word}
use Rattle.format.specs.Tests.{some}
use Rattle.format.specs.MapWord.{block_of, mapped_to}
use Rattle.format.proofs.Tests.{true_false, by_bool, and_elim, and_intro, some_true, some_elim}
use Rattle.format.proofs.MapWord.{block_mapped}
use Rattle.layout.specs.Place.{Layout, LayoutOk, at, in_map}
use Rattle.machine.specs.state.Stores.{put_all}
use Rattle.machine.specs.state.Flog.{map_word, map_block, newer_word, pending}
use Rattle.machine.specs.calls.Opening.{lane_readable, mend_store, mends, mended, two_pending}
use Rattle.machine.specs.words.Valid.{Pending, MendedBlock}
use Rattle.machine.proofs.stores.Stores.{Arena, stored-word}
use Rattle.machine.proofs.stores.MapStores.{word_other, map_fits}
use Rattle.machine.proofs.opening.Mends.{readable_of, pending_old, mends_more, mends_same, mend_keeps, mends_arena}
use Rattle.machine.proofs.opening.Spare.{two_none}

pub of_pending : (g : Layout) (a : List ℕ) (l : ℕ) → Pending g a l → pending g a l ≡ true
unfolding pending
of_pending g a l e = eq-eqb _ _ e

module _ (g : Layout) (ok : LayoutOk g) (a : List ℕ) (r : Arena g a) (f : (l : ℕ) → l < g.N → lane_readable g a l ≡ true)
    (apart : two_pending g a ≡ false) where
  sector-in : (m : ℕ) → m < g.N → newer_word g a m 0 < g.E
  sector-in m w = (readable_of g a m (f m w)).sector

  -- the map word of a pending lane below n
  pub word-mended : (n l : ℕ) → n ≤ g.N → l < n → pending g a l ≡ true
      → word (put_all g (mends g a n) a) (at g (in_map (newer_word g a l 0))) ≡ mapped_to (newer_word g a l 2)
  word-mended zero l u v p = absurd (omega arith)
  word-mended (suc n) l u v p = go (ℕ_discrete l n) (λ w. word-mended n l (omega arith) w p)
    where
      go : Dec (l ≡ n) → (l < n → word (put_all g (mends g a n) a) (at g (in_map (newer_word g a l 0))) ≡ mapped_to (newer_word g a l 2))
          → word (put_all g (mends g a (suc n)) a) (at g (in_map (newer_word g a l 0))) ≡ mapped_to (newer_word g a l 2)
      go (yes e) ih =
          let t : pending g a n ≡ true = rw e at p in
          let q = mends_arena g ok a r f n in
          let h = readable_of g a n (f n u) in
          rw (e, mends_more g a n t)
          (stored-word g ok (put_all g (mends g a n) a) (mend_store g a n) q
          (map_fits g ok (put_all g (mends g a n) a) q (newer_word g a n 0) (newer_word g a n 2) h.sector h.new))
      go (no d) ih = by_bool (pending g a n) _
          (λ t. rw (mends_more g a n t)
          (word_other g ok (put_all g (mends g a n) a) (newer_word g a n 0) (mapped_to (newer_word g a n 2)) (sector-in n u) (newer_word g a l 0)
          (sector-in l (omega arith)) (λ q. two_none g a apart n l u (omega arith) t p (sym q)) ∙ ih (omega arith)))
          (λ t. rw (mends_same g a n t) (ih (omega arith)))

  -- the map word of a sector that no pending lane below n names
  word_kept : (n s : ℕ) → n ≤ g.N → s < g.E → ((l : ℕ) → l < n → pending g a l ≡ true → newer_word g a l 0 ≢ s)
      → map_word g (put_all g (mends g a n) a) s ≡ map_word g a s
  word_kept n s few u away = mend_keeps g a (λ x. map_word g x s ≡ map_word g a s) refl n
      (λ l v t e. word_other g ok (put_all g (mends g a l) a) (newer_word g a l 0) (mapped_to (newer_word g a l 2)) (sector-in l (omega arith)) s u
      (λ q. away l v t (sym q)) ∙ e)

  pub mended_block : (s : ℕ) → s < g.E → MendedBlock g a s (map_block g (mended g a) s)
  unfolding block_of
  mended_block s u = record { named = named; unnamed = λ away. ap (block_of s) (word_kept g.N s (omega arith) u (λ l v t. away l v (pending_old g a l t))) }
    where
      named : (l : ℕ) → l < g.N → Pending g a l → newer_word g a l 0 ≡ s → map_block g (mended g a) s ≡ newer_word g a l 2
      named l v p e =
          let new = (readable_of g a l (f l v)).new in
          rw (← e) (ap (block_of (newer_word g a l 0)) (word-mended g.N l (omega arith) v (of_pending g a l p))
          ∙ block_mapped (newer_word g a l 0) (newer_word g a l 2) (omega (arith, ok.small)))

  -- and no other block is
  pub mended_only : (s : ℕ) → s < g.E → (b : ℕ) → MendedBlock g a s b → map_block g (mended g a) s ≡ b
  mended_only s u b m = by_bool (some g.N names) _
      (λ t. let w = some_true g.N names t in
      let p = and_elim (pending g a w.0) (eqb (newer_word g a w.0 0) s) w.2 in
      let q = pending_old g a w.0 p.0 in
      let e = eqb-true _ _ p.1 in
      (mended_block s u).named w.0 w.1 q e ∙ sym (m.named w.0 w.1 q e))
      (λ t. (mended_block s u).unnamed (away t) ∙ sym (m.unnamed (away t)))
    where
      names : ℕ → Bool
      names l = pending g a l && eqb (newer_word g a l 0) s

      away : some g.N names ≡ false → (l : ℕ) → l < g.N → Pending g a l → newer_word g a l 0 ≢ s
      away t l v q e = true_false (sym (and_intro _ _ (of_pending g a l q) (eq-eqb _ _ e)) ∙ some_elim g.N names t l v)
