-- The claim about making: its row by its tests, and of an accepted order the made arena, whose info block, map and flog are fresh.
use mathlib.Core.Path.{◌≡◌, refl, sym, ap, ◌∙◌, subst}
use mathlib.Core.Logic.{◌≢◌, inl, inr}
use mathlib.Core.Bool.{true}
use mathlib.Core.List.{List}
use Prim.Native.Nat.{ℕ, ◌+◌, ◌-◌, ◌*◌, ◌<◌}
use native.Mathlib.Omega.{arith}
use lib.Dec.{eqb}
use lib.ListN.{length, drop, replicate, length-replicate}
use borrow.Author.Tests.{eqb-true, eq-eqb, ne_eqb, not-false}
use Rattle.words.specs.Bytes.{Small}
use Rattle.layout.specs.Figures.{length_allowed, Allowed, fresh_length, fresh_figures}
use Rattle.layout.specs.Sizes.{internal_of, SizePair}
use Rattle.layout.specs.Place.{Layout, layout_of}
use Rattle.layout.specs.declared.Figures.{Figures}
use Rattle.infoblock.specs.Info.{info_words}
use Rattle.format.proofs.Tests.{and_intro, and_elim}
use Rattle.layout.specs.Claims.{FreshLayout}
use Rattle.layout.proofs.InBytes.{allowed_claim, made_claim}
use Rattle.layout.proofs.Allowed.{quarter, internal_words, starts_exact}
use Rattle.machine.specs.Rules.{answer}
use Rattle.machine.specs.state.Lane.{idle_lane}
use Rattle.machine.specs.state.Flog.{map_word}
use Rattle.machine.specs.calls.Making.{
  Wanted,
  MakeRule,
  wrong_sizes,
  wrong_total,
  wrong_identifier,
  number_make,
  order_make,
  tests_make,
  make_number,
  make_of,
  fresh_arena,
  data_end,
}
use Rattle.machine.specs.calls.Opening.{layout_in, open_of, Room, extent_of}
use Rattle.layout.specs.Claims.{Distance}
use Rattle.machine.specs.words.Valid.{HoldsMake, AnswersMake}
use Rattle.machine.specs.claims.Making.{WantedOk, FreshLane, FreshBytes, FreshOpens, FreshArena, smallest, MakingClaim, FreshRoom}
use Rattle.machine.proofs.rules.Rules.{passed_all, first_in, unguarded, asked}
use Rattle.machine.proofs.calls.Records.{idle_is}
use Rattle.machine.proofs.opening.Reflect.{length-ok, ok-length}
use Rattle.machine.proofs.stores.Offsets.{map-word}
use Rattle.machine.proofs.making.FreshBytes.{before_flog, after_flog, fresh-lane}
use Rattle.machine.proofs.making.FreshValid.{
  Given,
  made_of,
  main_block,
  room,
  same_length,
  same_copy,
  kept,
  figures-in,
  layout-in,
  fresh,
  small_in,
  valid,
  opens,
  opened-mended,
  opened_arena,
  opened-fresh,
}
use Rattle.layout.specs.Told.{alone}
use Rattle.machine.proofs.opening.Opens.{Enough}

-- ---- each rule's test tells whether it holds in words

tells : (o : Wanted) (n : ℕ) (r : MakeRule) → (tests_make o n r ≡ true → HoldsMake o n r) × (HoldsMake o n r → tests_make o n r ≡ true)
tells o n wrong_sizes = asked (allowed_claim.sizes _ _ _) (allowed_claim.sizes_back _ _ _)
tells o n wrong_total =
    let m = fresh_length o.size o.sectors o.lanes in
    asked
    (λ e. let p = and_elim (length_allowed n) (eqb n m) e in (length-ok n p.0, eqb-true n m p.1))
    (λ p. and_intro (length_allowed n) (eqb n m) (ok-length n p.0) (eq-eqb n m p.1))
tells o n wrong_identifier =
    let x = length o.first in
    let y = length o.second in
    asked
    (λ e. let p = and_elim (eqb x 16) (eqb y 16) e in (eqb-true x 16 p.0, eqb-true y 16 p.1))
    (λ p. and_intro (eqb x 16) (eqb y 16) (eq-eqb x 16 p.0) (eq-eqb y 16 p.1))

answers : (o : Wanted) (a : List ℕ) → AnswersMake o (length a) (make_of o a).number
unfolding make_of make_number
answers o a =
    let t = tests_make o (length a) in
    first_in number_make (λ _. Unit {0}) t (HoldsMake o (length a)) (λ r _. tells o (length a) r) order_make (unguarded number_make t order_make)

-- ---- what is accepted

pub some-number_make : (r : MakeRule) → number_make r ≢ 0
some-number_make wrong_sizes e = omega arith
some-number_make wrong_total e = omega arith
some-number_make wrong_identifier e = omega arith

refused : (o : Wanted) (a : List ℕ) → (make_of o a).number ≢ 0 → (make_of o a).arena ≡ a
unfolding make_of
refused o a n = rw (ne_eqb (make_number o (length a)) 0 n)

-- one sector and one lane of each size
one_number : (S Z : ℕ) → SizePair S Z → make_number (smallest S) (fresh_length S 1 1) ≡ 0
unfolding make_number fresh_length internal_of answer
one_number S Z (inl p) = rw p.0
one_number S Z (inr (inl p)) = rw p.0
one_number S Z (inr (inr (inl p))) = rw p.0
one_number S Z (inr (inr (inr (inl p)))) = rw p.0
one_number S Z (inr (inr (inr (inr p)))) = rw p.0

one : (S Z : ℕ) → SizePair S Z → (make_of (smallest S) (replicate (fresh_length S 1 1) 0)).number ≡ 0
unfolding make_of
one S Z p = ap (make_number (smallest S)) (length-replicate {A = ℕ} (fresh_length S 1 1) 0) ∙ one_number S Z p

accepts : (o : Wanted) (a : List ℕ) → (make_of o a).number ≡ 0 → WantedOk o (length a)
unfolding make_of make_number
accepts o a e =
    let n = length a in
    let m = fresh_length o.size o.sectors o.lanes in
    let p = passed_all number_make some-number_make (tests_make o n) order_make e in
    let l = and_elim (length_allowed n) (eqb n m) (not-false _ p.1.0) in
    let i = and_elim (eqb (length o.first) 16) (eqb (length o.second) 16) (not-false _ p.1.1.0) in
    record {
      sizes = allowed_claim.sizes _ _ _ (not-false _ p.0);
      size = length-ok n l.0;
      exact = eqb-true n m l.1;
      first = eqb-true _ 16 i.0;
      second = eqb-true _ 16 i.1;
    }

only : (o : Wanted) (a : List ℕ) → WantedOk o (length a) → (make_of o a).number ≡ 0
unfolding make_of make_number answer
only o a k =
    rw (
      allowed_claim.sizes_back _ _ _ k.sizes,
      ok-length (length a) k.size,
      eq-eqb (length a) (fresh_length o.size o.sectors o.lanes) k.exact,
      eq-eqb (length o.first) 16 k.first,
      eq-eqb (length o.second) 16 k.second,
    )

module _ (o : Wanted) (a : List ℕ) (small : Small a) (first : Small o.first) (second : Small o.second) (e : (make_of o a).number ≡ 0) where
  figures : Figures
  figures = fresh_figures o.size o.sectors o.lanes

  abbrev m : List ℕ
  m = made_of o.first o.second figures a

  order : WantedOk o (length a)
  order = accepts o a e

  arena : (make_of o a).arena ≡ m
  unfolding make_of fresh_arena figures
  arena = rw e

  ok : Allowed figures (length a)
  unfolding figures
  ok = rw order.exact (made_claim.allowed o.size o.sectors o.lanes order.sizes)

  given : Given o.first o.second figures a
  given = record {
    first-ok = record { size = order.first; bytes = first };
    second_ok = record { size = order.second; bytes = second };
    small = small;
    ok = ok;
    size = ok-length (length a) order.size;
  }

  pub made_small : Small (make_of o a).arena
  made_small = rw arena (small_in o.first o.second figures a given)

  -- where the data blocks end, in bytes
  data-end : 4 * data_end (layout_of 16 figures) ≡ 4096 + (o.sectors + o.lanes) * figures.internal
  unfolding figures layout_of fresh_figures
  data-end = omega (arith, quarter (o.sectors + o.lanes) figures.internal (internal_words figures (length a) ok).1)

  -- where flog and copy start, in bytes
  flog-start : 4 * (layout_of 16 figures).flog₀ ≡ figures.flogoff
  unfolding layout_of
  flog-start = (starts_exact figures (length a) ok).2

  copy-start : 4 * (layout_of 16 figures).copy₀ ≡ figures.copyoff
  unfolding layout_of
  copy-start = (starts_exact figures (length a) ok).3

  lane-bytes : (l : ℕ) → l < o.lanes → FreshLane o.sectors l m (figures.flogoff + 64 * l)
  unfolding layout_of figures fresh_figures
  lane-bytes l u =
      subst (λ (n : ℕ). FreshLane o.sectors l m (n + 64 * l)) flog-start
      (fresh-lane (layout_of 16 figures) a (info_words o.first o.second figures) (room o.first o.second figures a given) l u)

  lanes_is : (layout_of 16 figures).N ≡ o.lanes
  unfolding layout_of figures fresh_figures
  lanes_is = refl

  starts : FreshLayout o.size o.sectors o.lanes figures (length m)
  unfolding figures
  starts =
      subst (FreshLayout o.size o.sectors o.lanes figures)
      (sym (same_length o.first o.second figures a given ∙ order.exact)) (made_claim.made o.size o.sectors o.lanes order.sizes)

  made_bytes : FreshBytes o figures a m
  made_bytes =
      let r = room o.first o.second figures a given in
      let i = info_words o.first o.second figures in
      let copy_is : length a - 4096 ≡ figures.copyoff = omega (arith, r.exact, copy-start) in
      record {
        size = same_length o.first o.second figures a given;
        starts = starts;
        info = main_block o.first o.second figures a given;
        copy = same_copy o.first o.second figures a given ∙ ap (λ (n : ℕ). drop n m) copy_is;
        kept = λ j u v. kept o.first o.second figures a given j u (omega (arith, data-end));
        before_flog = λ j u v. before_flog (layout_of 16 figures) a i r j (omega (arith, data-end)) (omega (arith, flog-start));
        flog = lane-bytes;
        after_flog = λ j u v.
            after_flog (layout_of 16 figures) a i r j (omega (arith, flog-start, lanes_is)) (omega (arith, copy-start));
      }

  -- ---- in either layout

  module _ (d : ℕ) (w : Distance d) where
    made_layout : layout_in (alone d) m ≡ layout_of d figures
    made_layout = layout-in o.first o.second figures a given d w

    sectors_in : (layout_in (alone d) m).E ≡ o.sectors
    unfolding figures layout_of fresh_figures
    sectors_in = ap (λ (g : Layout). g.E) made_layout

    lanes-in : (layout_in (alone d) m).N ≡ o.lanes
    unfolding figures layout_of fresh_figures
    lanes-in = ap (λ (g : Layout). g.N) made_layout

    blocks_in : (layout_in (alone d) m).I ≡ o.sectors + o.lanes
    unfolding figures layout_of fresh_figures
    blocks_in = ap (λ (g : Layout). g.I) made_layout

    enough : (work : Room) → FreshRoom o work → Enough (alone d) m (extent_of work)
    enough work h = record { bytes = omega (arith, h.bytes, blocks_in); records = omega (arith, h.records, lanes-in) }

    map_zero : (s : ℕ) → s < o.sectors → map_word (layout_in (alone d) m) m s ≡ 0
    map_zero s u = (fresh o.first o.second figures a given d w).map s (omega (arith, sectors_in))

    pub map_words : (s : ℕ) → s < o.sectors → map_word (layout_in (alone d) (make_of o a).arena) (make_of o a).arena s ≡ 0
    map_words s u = rw arena (map_zero s u)

    fresh-opens : FreshOpens d o (make_of o a).arena
    unfolding open_of figures
    fresh-opens = record {
      valid = rw arena (valid o.first o.second figures a given d w);
      number = λ work h. rw arena (opens o.first o.second figures a given d w (extent_of work) (enough work h));
      mended = λ work. rw arena (opened-mended o.first o.second figures a given d w work);
      arena = λ work. rw arena (opened_arena o.first o.second figures a given d w work);
      lanes = λ work l h u. idle_is _ _ _ _ (rw arena
          (opened-fresh o.first o.second figures a given d w work l (enough work h) (omega (arith, lanes-in))
          ∙ ap (λ (n : ℕ). idle_lane (n + l) 1 2) sectors_in));
    }

  map-made : (s : ℕ) → s < o.sectors → map_word (layout_of 16 figures) m s ≡ 0
  map-made s u = subst (λ (g : Layout). map_word g m s ≡ 0) (made_layout 16 (inl refl)) (map_zero 16 (inl refl) s u)

  made_arena : FreshArena o a
  unfolding figures
  made_arena = record {
    bytes = rw arena made_bytes;
    figures = rw arena (figures-in o.first o.second figures a given);
    opens = fresh-opens;
    map = λ s u. rw arena (sym (map-word 16 figures (length a) ok m s) ∙ map-made s u);
  }

pub making_claim : MakingClaim
making_claim = record { order = refl; answers = answers; accepts = accepts; only = only; refused = refused; made = made_arena; one = one }
