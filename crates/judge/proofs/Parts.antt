-- The info block that counts, by which of the two it is; it is whole where there is one.
use mathlib.Core.Path.{◌≡◌, sym, ap, ◌∙◌}
use mathlib.Core.Logic.{⊎_elim}
use mathlib.Core.Bool.{true, false}
use mathlib.Core.List.{List, []}
use Prim.Native.Nat.{ℕ, ◌-◌, ◌≤◌}
use native.Mathlib.Omega.{arith}
use lib.ListN.{length, take, drop}
use Rattle.format.proofs.Tests.{by_bool}
use Rattle.layout.specs.Figures.{length_allowed}
use Rattle.infoblock.specs.Info.{counts_of, info_block_of}
use Rattle.infoblock.proofs.InfoBlock.{length-of, counts_as, info_in, info_size}
use Rattle.judge.specs.Judge.{info_part_of}

module _ (a : List ℕ) where
  pub part_none : length_allowed (length a) ≡ false → 2 ≡ info_part_of a
  unfolding info_part_of
  part_none e = rw e

  pub part_counts : length_allowed (length a) ≡ true → counts_of (take 4096 a) (drop (length a - 4096) a) ≡ info_part_of a
  unfolding info_part_of
  part_counts e = rw e

  -- one of the two counts only where the length is allowed
  part-allowed : (k : ℕ) → k ≤ 1 → info_part_of a ≡ k → length_allowed (length a) ≡ true
  part-allowed k h e = by_bool (length_allowed (length a)) _ (λ t. t) (λ t. absurd (omega (arith, part_none t)))

  pub main_part : info_part_of a ≡ 0 → (20480 ≤ length a) × (take 4096 a ≡ info_block_of a)
  main_part e =
      let t = part-allowed 0 (omega arith) e in
      ((length-of (length a) t).1, sym (info_in a t ∙ (counts_as _ _).0 (part_counts t ∙ e)))

  pub copy_part : info_part_of a ≡ 1 → (20480 ≤ length a) × (drop (length a - 4096) a ≡ info_block_of a)
  copy_part e =
      let t = part-allowed 1 (omega arith) e in
      ((length-of (length a) t).1, sym (info_in a t ∙ (counts_as _ _).1 (part_counts t ∙ e)))

  pub no_part : info_part_of a ≡ 2 → [] ≡ info_block_of a
  no_part e = by_bool (length_allowed (length a)) _
      (λ t. sym (info_in a t ∙ (counts_as _ _).2 (part_counts t ∙ e)))
      (λ t. unfold info_block_of in (rw t))

  -- the block that counts is whole, if there is one
  pub block_whole : (b : List ℕ) → b ≡ info_block_of a → (length b ≡ 0 → ⊥) → 4096 ≤ length b
  block_whole b e h =
      ⊎_elim (λ z. absurd (h (ap length (e ∙ z)))) (λ s. omega (arith, ap length e, s.0)) (info_size a)
