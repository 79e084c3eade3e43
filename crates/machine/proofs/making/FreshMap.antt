-- An arena as making leaves its map and flog: every map word is 0, and lane l's first half is (l, E + l, E + l, 1), its second unset.
-- So sector s has block s and lane l has E + l free, nothing is pending, and every block is mapped or free once.
use mathlib.Core.Path.{◌≡◌, refl, sym, ap, ap₂, ◌∙◌}
use mathlib.Core.Bool.{false}
use mathlib.Core.List.{List}
use Prim.Native.Nat.{ℕ, ◌+◌, ◌-◌, ◌≤◌, ◌<◌}
use native.Mathlib.Omega.{arith}
use lib.Dec.{ltb}
use borrow.Author.Tests.{ltb-true, ltb-false, ne_eqb}
use Rattle.format.specs.Sequence.{newer, successor}
use Rattle.format.specs.MapWord.{block_of}
use Rattle.format.specs.Claims.{BadWord}
use Rattle.layout.specs.Place.{Layout, LayoutOk}
use Rattle.format.proofs.Tests.{by_bool}
use Rattle.format.proofs.MapWord.{block_zero}
use Rattle.machine.specs.state.Lane.{idle_lane}
use Rattle.machine.specs.state.Stores.{Store, put_all}
use Rattle.machine.specs.state.Flog.{map_word, map_block, flog_word, newer_half, newer_word, free_of, pending}
use Rattle.machine.specs.calls.Opening.{pending_lanes, mended, found_lane}
use Rattle.machine.specs.words.Valid.{Readable, Pending, block_at, EachOnce, Settled}
use Rattle.machine.proofs.opening.Mends.{none-mended, none-pending}

pub record Fresh (g : Layout) (a : List ℕ) : Type 0 where
  pub ok : LayoutOk g
  pub map : (s : ℕ) → s < g.E → map_word g a s ≡ 0
  pub sector : (l : ℕ) → l < g.N → flog_word g a l 0 0 ≡ l
  pub old : (l : ℕ) → l < g.N → flog_word g a l 0 1 ≡ g.E + l
  pub new : (l : ℕ) → l < g.N → flog_word g a l 0 2 ≡ g.E + l
  pub first : (l : ℕ) → l < g.N → flog_word g a l 0 3 ≡ 1
  pub second : (l : ℕ) → l < g.N → flog_word g a l 1 3 ≡ 0

module _ (g : Layout) (a : List ℕ) (f : Fresh g a) where
  newer-fresh : (l : ℕ) → l < g.N → newer_half g a l ≡ 0
  unfolding newer_half newer
  newer-fresh l u = ap₂ newer (f.first l u) (f.second l u)

  newer_word-fresh : (l k x : ℕ) → l < g.N → flog_word g a l 0 k ≡ x → newer_word g a l k ≡ x
  newer_word-fresh l k x u e = ap (λ (h : ℕ). flog_word g a l h k) (newer-fresh l u) ∙ e

  block_fresh : (s : ℕ) → s < g.E → map_block g a s ≡ s
  block_fresh s u = ap (block_of s) (f.map s u) ∙ block_zero s

  free-fresh : (l : ℕ) → l < g.N → free_of g a l ≡ g.E + l
  free-fresh l u = newer_word-fresh l 1 (g.E + l) u (f.old l u)

  -- lane l names sector l, whose block is l, and its free block is E + l
  settled-fresh : (l : ℕ) → l < g.N → Pending g a l → ⊥
  settled-fresh l u e =
      let o = f.ok in
      let s : newer_word g a l 0 ≡ l = newer_word-fresh l 0 l u (f.sector l u) in
      let m : map_block g a (newer_word g a l 0) ≡ l = ap (map_block g a) s ∙ block_fresh l (omega arith) in
      let z : l ≡ g.E + l = sym m ∙ e ∙ free-fresh l u in
      omega arith

  pending-fresh : (l : ℕ) → l < g.N → pending g a l ≡ false
  unfolding pending
  pending-fresh l u = ne_eqb _ _ (settled-fresh l u)

  pub pending-none : pending_lanes g a g.N ≡ 0
  pending-none = none-pending g a g.N pending-fresh

  pub mended_same : mended g a ≡ a
  unfolding put_all
  mended_same = ap (λ (m : List Store). put_all g m a) (none-mended g a g.N pending-fresh)

  pub readable : (l : ℕ) → l < g.N → Readable g a l
  readable l u =
      let o = f.ok in
      let h = newer-fresh l u in
      let s = newer_word-fresh l 0 l u (f.sector l u) in
      let d = newer_word-fresh l 1 (g.E + l) u (f.old l u) in
      let n = newer_word-fresh l 2 (g.E + l) u (f.new l u) in
      record { newer = omega arith; sector = omega arith; old = omega arith; new = omega arith }

  pub no_bad_word : (s : ℕ) → s < g.E → BadWord g.I (map_word g a s) → ⊥
  no_bad_word s u b = omega (arith, f.map s u, b.0)

  block-at : (i : ℕ) → i < g.E + g.N → block_at g (map_block g a) (free_of g a) i ≡ i
  block-at i u =
      by_bool (ltb i g.E) (block_at g (map_block g a) (free_of g a) i ≡ i)
      (λ t. rw t (block_fresh i (ltb-true i g.E t)))
      (λ t. let h : g.E ≤ i = ltb-false i g.E t in rw t (free-fresh (i - g.E) (omega arith) ∙ omega arith))

  once : EachOnce g (map_block g a) (free_of g a)
  once =
      let o = f.ok in
      record {
        inside = λ i u. rw (block-at i u) (omega arith);
        each = λ b u. (b, omega arith, block-at b (omega arith));
        once = λ i j u v e. sym (block-at i u) ∙ e ∙ block-at j v;
      }

  pub settled : Settled g a
  settled = record {
    apart = λ l j u v n p q e. settled-fresh l u p;
    mapped = map_block g a;
    mended = λ s u. record { named = λ l v p e. absurd (settled-fresh l v p); unnamed = λ away. refl };
    once = once;
  }

  -- lane l as opening finds it
  pub lane-fresh : (l : ℕ) → l < g.N → found_lane g a l ≡ idle_lane (g.E + l) 1 2
  unfolding successor
  lane-fresh l u = rw (newer-fresh l u, f.old l u, f.first l u)
