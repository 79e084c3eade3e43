-- Demand 1, put together from the claims about the calls. The info block that counts goes by the length and by which block is sound;
-- it is empty exactly where one of the first two tests of opening holds, and the others give 3 or more.
use mathlib.Core.Path.{◌≡◌, ◌∙◌}
use mathlib.Core.Logic.{◌⊎◌, inl, inr, ⊎_elim}
use mathlib.Core.Bool.{Bool, true, false, cond, not}
use mathlib.Core.List.{List, []}
use Prim.Native.Nat.{ℕ, ◌-◌}
use native.Mathlib.Omega.{arith}
use lib.Dec.{eqb, ltb}
use lib.ListN.{length, take, drop}
use borrow.Author.Tests.{ltb-true, ltb-false}
use Rattle.words.specs.Bytes.{Small}
use Rattle.format.proofs.Tests.{by_bool}
use Rattle.layout.specs.Figures.{length_allowed}
use Rattle.infoblock.specs.Info.{info_block_of, info_allowed, flags_allowed}
use Rattle.infoblock.proofs.InfoBlock.{info_in, counting_main, counting_copy}
use Rattle.machine.specs.Rules.{answer}
use Rattle.machine.specs.calls.Opening.{Room, layout_in, open_number, open_of, cut_open_of, lanes_lost, word_bad, sloppy, unsettled}
use Rattle.layout.specs.Claims.{Length, Distance}
use Rattle.infoblock.specs.Claims.{Sound}
use Rattle.machine.specs.claims.DemandOne.{InfoBlockShown, CutOpening, OneLayout, DemandOne}
use Rattle.machine.proofs.opening.Reflect.{length-ok, ok-length, ok-sound, main_unsound, none_counts, none-sound}
use Rattle.machine.proofs.making.Making.{making_claim}
use Rattle.machine.proofs.opening.Opening.{opening_claim}
use Rattle.machine.proofs.calls.Running.{running_claim}
use Rattle.machine.proofs.calls.Lent.{table_claim}
use Rattle.layout.specs.Told.{distance_allowed, alone}
use Rattle.layout.proofs.Allowed.{of_distance}

-- a length that is not allowed shows no block
info_out : (a : List ℕ) → length_allowed (length a) ≡ false → info_block_of a ≡ []
unfolding info_block_of
info_out a e = rw e

-- rules 3 to 8, 18 and 21 give neither 1 nor 2
later : (t3 t4 t5 t21 t6 t7 t18 t8 : Bool)
    → (let n : ℕ = cond t3 3 (cond t4 4 (cond t5 5 (cond t21 21 (cond t6 6 (cond t7 7 (cond t18 18 (cond t8 8 0))))))) in (n ≡ 1) ⊎ (n ≡ 2)) → ⊥
later true t4 t5 t21 t6 t7 t18 t8 = ⊎_elim (λ e. omega arith) (λ e. omega arith)
later false true t5 t21 t6 t7 t18 t8 = ⊎_elim (λ e. omega arith) (λ e. omega arith)
later false false true t21 t6 t7 t18 t8 = ⊎_elim (λ e. omega arith) (λ e. omega arith)
later false false false true t6 t7 t18 t8 = ⊎_elim (λ e. omega arith) (λ e. omega arith)
later false false false false true t7 t18 t8 = ⊎_elim (λ e. omega arith) (λ e. omega arith)
later false false false false false true t18 t8 = ⊎_elim (λ e. omega arith) (λ e. omega arith)
later false false false false false false true t8 = ⊎_elim (λ e. omega arith) (λ e. omega arith)
later false false false false false false false true = ⊎_elim (λ e. omega arith) (λ e. omega arith)
later false false false false false false false false = ⊎_elim (λ e. omega arith) (λ e. omega arith)

module _ (a : List ℕ) (small : Small a) where
  nothing : (Length (length a) → ⊥) ⊎ ((Sound (take 4096 a) → ⊥) × (Sound (drop (length a - 4096) a) → ⊥)) → info_block_of a ≡ []
  nothing c = by_bool (length_allowed (length a)) (info_block_of a ≡ [])
      (λ e. ⊎_elim (λ n. absurd (n (length-ok (length a) e))) (λ p. none_counts a small e p.0 p.1) c) (info_out a)

  under : (d : ℕ) (work : Room) → ((open_of (alone d) a work).number ≡ 1) ⊎ ((open_of (alone d) a work).number ≡ 2) → info_block_of a ≡ []
  unfolding open_of open_number answer
  under d work c = by_bool (distance_allowed d) (info_block_of a ≡ [])
      (λ w. by_bool (length_allowed (length a)) (info_block_of a ≡ [])
      (λ e. by_bool (eqb (length (info_block_of a)) 0) (info_block_of a ≡ [])
      (λ z. nothing (inr (none-sound a small e z)))
      (λ z. absurd (later (not (info_allowed (alone d) (info_block_of a) (length a))) (not (flags_allowed (info_block_of a))) (ltb (length work.work) (layout_in (alone d) a).I)
      (ltb (length work.table) (layout_in (alone d) a).N)
      (lanes_lost (layout_in (alone d) a) a) (word_bad (layout_in (alone d) a) a) (sloppy (layout_in (alone d) a) a) (unsettled (layout_in (alone d) a) a) (rw (w, e, z) at c))))
      (info_out a))
      (λ w. absurd (⊎_elim (λ e. omega arith) (λ e. omega arith) (rw w at c)))

  only : (d : ℕ) (work : Room) → Distance d → info_block_of a ≡ [] → ((open_of (alone d) a work).number ≡ 1) ⊎ ((open_of (alone d) a work).number ≡ 2)
  unfolding open_of open_number answer
  only d work w b = by_bool (length_allowed (length a)) (((open_of (alone d) a work).number ≡ 1) ⊎ ((open_of (alone d) a work).number ≡ 2))
      (λ e. inr (rw (of_distance d w, e, b))) (λ e. inl (rw (of_distance d w, e)))

  info_block : InfoBlockShown a
  info_block = record {
    main = λ l s. info_in a (ok-length (length a) l) ∙ counting_main _ _ (ok-sound _ s);
    copy = λ l n s. info_in a (ok-length (length a) l) ∙ counting_copy _ _ (main_unsound a small n) (ok-sound _ s);
    none = nothing;
    under = under;
    only = only;
  }

  cut_opening : (d : ℕ) (work : Room) (k : ℕ) → CutOpening d a work k
  unfolding open_of cut_open_of
  cut_opening d work k = record {
    answers = ((opening_claim (alone d)).answers a work small).answers;
    refused = (opening_claim (alone d)).refused_cut a work k;
    work-buffer = let w = (opening_claim (alone d)).work a work in record { alone = w.alone; cleared = w.cleared; size = w.size };
  }

-- byte j is padding in one of the two layouts
one_layout : OneLayout
one_layout a work room small near far l j u v w =
    let p = (((opening_claim (alone 16)).answers a work small).accepts near).0.clean.padding l j u w in
    let q = (((opening_claim (alone 32)).answers a room small).accepts far).0.clean.padding l j u w in
    by_bool (ltb j 32) _ (λ t. q (v, inl (ltb-true j 32 t))) (λ t. p (v, inr (ltb-false j 32 t)))

pub demand_one : DemandOne
demand_one = record {
  making = making_claim;
  info_block = info_block;
  opening = λ d. opening_claim (alone d);
  cut_opening = λ d a work k small. cut_opening a small d work k;
  one_layout = one_layout;
  running = running_claim;
  table = table_claim;
}
