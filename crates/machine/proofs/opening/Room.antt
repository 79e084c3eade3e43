-- A work buffer with a byte for every 512 bytes of the arena is long enough: each block has 512 bytes or more, so rule 5 does not apply; nor
-- does 21 where the table has a record for each lane that there may be.
use mathlib.Core.Path.{◌≡◌, refl}
use mathlib.Core.Bool.{Bool, true, false, cond}
use mathlib.Core.List.{List}
use Prim.Native.Nat.{ℕ, ◌*◌, ◌≤◌}
use native.Mathlib.Omega.{arith}
use native.Mathlib.Nat.{mul-le-mul_left}
use lib.Dec.{ltb}
use lib.ListN.{length}
use borrow.Author.Tests.{le-ltb, not-false}
use Rattle.format.proofs.Tests.{true_false}
use Rattle.layout.specs.Figures.{Allowed, max_lanes}
use Rattle.layout.specs.Place.{layout_of}
use Rattle.layout.proofs.Allowed.{pair_fitting}
use Rattle.layout.specs.declared.Figures.{Figures}
use Rattle.layout.specs.declared.Told.{Told}
use Rattle.machine.specs.Rules.{answer}
use Rattle.machine.specs.calls.Opening.{Room, figures_in, layout_in, lanes_lost, word_bad, sloppy, unsettled, open_number, open_of}
use Rattle.machine.proofs.opening.Described.{Described, described_figures}

few_blocks : (f : Figures) (n room : ℕ) → Allowed f n → n ≤ 512 * room → f.blocks ≤ room
few_blocks f n room ok h =
    let z = pair_fitting _ _ ok.sizes in
    let i : 512 ≤ f.internal = omega arith in
    let m : f.blocks * 512 ≤ f.blocks * f.internal = mul-le-mul_left f.blocks i in
    omega (arith, ok.data-end, ok.map_end, ok.flog_end, ok.copy-start)

-- rule 5 does not apply where those before it do not
not_five : (o p q r s t y u v w x : Bool) → (o ≡ false → p ≡ false → q ≡ false → r ≡ false → s ≡ false → t ≡ false)
    → ◌≡◌ {A = ℕ} (cond o 16 (cond p 1 (cond q 2 (cond r 3 (cond s 4 (cond t 5 (cond y 21 (cond u 6 (cond v 7 (cond w 18 (cond x 8 0))))))))))) 5 → ⊥
not_five true p q r s t y u v w x h e = omega arith
not_five false true q r s t y u v w x h e = omega arith
not_five false false true r s t y u v w x h e = omega arith
not_five false false false true s t y u v w x h e = omega arith
not_five false false false false true t y u v w x h e = omega arith
not_five false false false false false true y u v w x h e = true_false (h refl refl refl refl refl)
not_five false false false false false false true u v w x h e = omega arith
not_five false false false false false false false true v w x h e = omega arith
not_five false false false false false false false false true w x h e = omega arith
not_five false false false false false false false false false true x h e = omega arith
not_five false false false false false false false false false false true h e = omega arith
not_five false false false false false false false false false false false h e = omega arith

-- nor does 21
not_short : (o p q r s t y u v w x : Bool) → (o ≡ false → p ≡ false → q ≡ false → r ≡ false → s ≡ false → y ≡ false)
    → ◌≡◌ {A = ℕ} (cond o 16 (cond p 1 (cond q 2 (cond r 3 (cond s 4 (cond t 5 (cond y 21 (cond u 6 (cond v 7 (cond w 18 (cond x 8 0))))))))))) 21 → ⊥
not_short true p q r s t y u v w x h e = omega arith
not_short false true q r s t y u v w x h e = omega arith
not_short false false true r s t y u v w x h e = omega arith
not_short false false false true s t y u v w x h e = omega arith
not_short false false false false true t y u v w x h e = omega arith
not_short false false false false false true y u v w x h e = omega arith
not_short false false false false false false true u v w x h e = true_false (h refl refl refl refl refl)
not_short false false false false false false false true v w x h e = omega arith
not_short false false false false false false false false true w x h e = omega arith
not_short false false false false false false false false false true x h e = omega arith
not_short false false false false false false false false false false true h e = omega arith
not_short false false false false false false false false false false false h e = omega arith

module _ (τ : Told) (a : List ℕ) (work : Room) where
  pub room_suffices : length a ≤ 512 * length work.work → (open_of τ a work).number ≡ 5 → ⊥
  unfolding open_of open_number answer layout_of
  room_suffices h =
      let g = layout_in τ a in
      not_five _ _ _ _ _ (ltb (length work.work) g.I) (ltb (length work.table) g.N) (lanes_lost g a) (word_bad g a) (sloppy g a) (unsettled g a)
      (λ o p q r s. room (record { layout = not-false _ o; size = not-false _ p; block = q; allowed = not-false _ r; flags = not-false _ s }))
    where
      room : Described τ a → ltb (length work.work) (layout_in τ a).I ≡ false
      room d = le-ltb _ _ (few_blocks (figures_in a) (length a) (length work.work) (described_figures τ a d) h)

  -- there are at most 256 lanes
  pub table_suffices : max_lanes ≤ length work.table → (open_of τ a work).number ≡ 21 → ⊥
  unfolding open_of open_number answer layout_of
  table_suffices h =
      let g = layout_in τ a in
      not_short _ _ _ _ _ (ltb (length work.work) g.I) (ltb (length work.table) g.N) (lanes_lost g a) (word_bad g a) (sloppy g a) (unsettled g a)
      (λ o p q r s. room (record { layout = not-false _ o; size = not-false _ p; block = q; allowed = not-false _ r; flags = not-false _ s }))
    where
      few : (figures_in a).lanes ≤ 256 → (layout_in τ a).N ≤ length work.table
      few u = unfold layout_of in (omega (arith, u, h))

      room : Described τ a → ltb (length work.table) (layout_in τ a).N ≡ false
      room d = le-ltb (length work.table) (layout_in τ a).N (few (described_figures τ a d).few_lanes)
