-- What rules 6, 7 and 18 give of the blocks, and the course of blocks_once by what the bytes tell of the counts.
use mathlib.Core.Path.{◌≡◌, sym, ap, ap₂, ◌∙◌}
use mathlib.Core.Bool.{Bool, true, false, cond, ◌&&◌}
use mathlib.Core.List.{List}
use Prim.Native.Nat.{ℕ, ◌≤◌, ◌<◌}
use native.Mathlib.Omega.{arith}
use lib.ListN.{length, take, replicate, length-replicate}
use Rattle.std.proofs.Common.{length-take-le}
use Rattle.format.proofs.MapWord.{block-in}
use Rattle.layout.specs.Place.{layout_of}
use Rattle.layout.specs.declared.Figures.{Figures}
use Rattle.machine.specs.state.Flog.{map_word, map_block, free_of, spare_of, pending, newer_word}
use Rattle.machine.proofs.opening.Mends.{readable_of}
use Rattle.machine.proofs.opening.Opens.{words_pass}
use Rattle.machine.proofs.invariant.Tidy.{tidy_of}
use Rattle.lanes.specs.Fit.{AllFit}
use Rattle.lanes.proofs.Lanes.{lane_fit}
use Rattle.once.specs.Once.{counted, counts_between, blocks_once, Under}
use Rattle.once.proofs.Counts.{most_tell, once_tell, length-counted}

-- the part of a buffer that is filled with zeroes
pub zeroed : (w w₁ : List ℕ) (n : ℕ) → n ≤ length w → w₁ ≡ replicate (length (take n w)) 0 → w₁ ≡ replicate n 0
zeroed w w₁ n h e = e ∙ ap (λ (x : ℕ). replicate x 0) (length-take-le n w h)

-- what rules 6, 7 and 18 give of the blocks
module _ (d : ℕ) (f : Figures) (a : List ℕ) (fit : AllFit d f a) where
  pub mapped_under : Under (map_block (layout_of d f) a) f.sectors f.blocks
  unfolding layout_of
  mapped_under s h = block-in f.blocks s (map_word (layout_of d f) a s) (omega (arith, fit.fit.ok.blocks))
      (words_pass (layout_of d f) a fit.words s h) ((tidy_of (layout_of d f) a fit.clean).words s h)

  pub free_under : Under (free_of (layout_of d f) a) f.lanes f.blocks
  unfolding layout_of
  free_under l h = (readable_of (layout_of d f) a l (lane_fit d f a fit l h).readable).old

  pub spare_under : Under (spare_of (layout_of d f) a) f.lanes f.blocks
  unfolding layout_of spare_of
  spare_under l h = go (pending (layout_of d f) a l)
    where
      go : (t : Bool) → cond t (newer_word (layout_of d f) a l 2) (free_of (layout_of d f) a l) < f.blocks
      go true = (readable_of (layout_of d f) a l (lane_fit d f a fit l h).readable).new
      go false = free_under l h

  -- the course of blocks_once: what the two tests of the counts say together
  pub claimed : (w₁ w₂ w₃ w₄ w₅ : List ℕ) (t o : Bool)
      → w₁ ≡ replicate f.blocks 0 → w₂ ≡ counted w₁ f.lanes (free_of (layout_of d f) a) → t ≡ counts_between w₂ (length w₂) 0 1
      → w₃ ≡ replicate (length w₂) 0 → w₄ ≡ counted w₃ f.sectors (map_block (layout_of d f) a)
      → w₅ ≡ counted w₄ f.lanes (spare_of (layout_of d f) a) → o ≡ counts_between w₅ (length w₅) 1 1
      → blocks_once (layout_of d f) a ≡ t && o
  unfolding blocks_once layout_of
  claimed w₁ w₂ w₃ w₄ w₅ t o p₁ p₂ pt p₃ p₄ p₅ po =
      let n = f.blocks in
      let mapped = map_block (layout_of d f) a in
      let free = free_of (layout_of d f) a in
      let spare = spare_of (layout_of d f) a in
      let e₂ = p₂ ∙ ap (λ (x : List ℕ). counted x f.lanes free) p₁ in
      let l₂ = ap length e₂ ∙ length-counted _ _ _ ∙ length-replicate n 0 in
      let e₃ = p₃ ∙ ap (λ (x : ℕ). replicate x 0) l₂ in
      let e₅ = p₅ ∙ ap (λ (x : List ℕ). counted x f.lanes spare) (p₄ ∙ ap (λ (x : List ℕ). counted x f.sectors mapped) e₃) in
      let l₅ = ap length e₅ ∙ length-counted _ _ _ ∙ length-counted _ _ _ ∙ length-replicate n 0 in
      let et = pt ∙ ap₂ (λ (x : List ℕ) (k : ℕ). counts_between x k 0 1) e₂ l₂ ∙ most_tell n f.lanes free free_under in
      let eo = po ∙ ap₂ (λ (x : List ℕ) (k : ℕ). counts_between x k 1 1) e₅ l₅ ∙ once_tell n f.sectors f.lanes mapped spare mapped_under spare_under in
      sym (ap₂ ◌&&◌ et eo)
