-- The rest of a block: no place that a store goes to is there, and making leaves the data blocks alone.
use mathlib.Core.Path.{refl, ◌∙◌}
use mathlib.Core.List.{List}
use Prim.Native.Nat.{ℕ, ◌+◌, ◌*◌, ◌≤◌, ◌<◌}
use native.Mathlib.Omega.{arith}
use native.Mathlib.Nat.{mul-le-mul_right}
use lib.Dec.{eqb}
use borrow.Author.Tests.{eqb-true, eqb-false}
use Rattle.words.specs.Bytes.{Small}
use Rattle.words.proofs.Laws.{get_d_put_word_other}
use Rattle.format.proofs.Tests.{by_bool}
use Rattle.layout.specs.Figures.{fresh_figures}
use Rattle.layout.specs.Sizes.{internal_of}
use Rattle.layout.specs.Place.{layout_of, at}
use Rattle.layout.specs.Claims.{InRest}
use Rattle.layout.specs.Told.{alone}
use Rattle.layout.specs.declared.Figures.{Figures}
use Rattle.layout.proofs.Rest.{rest_byte}
use Rattle.machine.specs.calls.Making.{Wanted, make_of}
use Rattle.machine.specs.claims.Rest.{RestKept, RestOfBlocks}
use Rattle.machine.proofs.calls.Kept.{Keeps, calls_kept, open_kept, cut_kept, history_kept}
use Rattle.machine.proofs.making.Making.{making_claim}

pub rest_keeps : Keeps RestKept
rest_keeps = record {
  none = λ f a j i. refl;
  both = λ f a b c p q j i. q j i ∙ p j i;
  one = λ d f n allowed ok a r st m j i.
      get_d_put_word_other a (at (layout_of d f) st.place) st.value j (rest_byte d f n allowed ok j i st.place m.range);
}

-- the rest of a block is among the data blocks
inside : (f : Figures) (j : ℕ) → InRest f j → j < f.dataoff + f.blocks * f.internal
inside f j i =
    let h : (i.block + 1) * f.internal ≤ f.blocks * f.internal = mul-le-mul_right f.internal (omega (arith, i.inside)) in
    omega (arith, i.to)

made_kept : (o : Wanted) (a : List ℕ) → Small a → Small o.first → Small o.second
    → RestKept (fresh_figures o.size o.sectors o.lanes) a (make_of o a).arena
unfolding fresh_figures
made_kept o a small first second j i = by_bool (eqb (make_of o a).number 0) _
    (λ t. (making_claim.made o a small first second (eqb-true _ _ t)).bytes.kept j (omega (arith, i.from)) (inside _ j i))
    (λ t. rw (making_claim.refused o a (eqb-false _ _ t)))

some : (j : ℕ) → 520 ≤ j → j ≤ 575 → InRest (fresh_figures 520 1 1) (4096 + j)
unfolding fresh_figures internal_of
some j u v = record { block = 0; inside = omega arith; from = omega arith; to = omega arith }

pub rest_of_blocks : RestOfBlocks
rest_of_blocks = record {
  calls = λ a h c small. calls_kept RestKept rest_keeps a h small c;
  opening = λ d. open_kept RestKept rest_keeps (alone d);
  cut_opening = λ d. cut_kept RestKept rest_keeps (alone d);
  making = made_kept;
  history = λ d. history_kept RestKept rest_keeps (alone d);
  some = some;
  none = λ f j e i. omega (arith, i.from, i.to);
}
