-- Laws of making: a fresh lane word by word, the flog lane by lane, the tail part by part, and making's order.
use mathlib.Core.Path.{◌≡◌, refl, sym, ap, ◌∙◌}
use mathlib.Core.Bool.{true}
use mathlib.Core.List.{List, ◌∷◌, ◌++◌, append-nil}
use Prim.Native.Nat.{ℕ, zero, suc, ◌+◌, ◌-◌, ◌*◌, ◌/◌, ◌%◌, ◌≤◌, ◌<◌}
use native.Mathlib.Omega.{arith}
use native.Mathlib.Numerals.{add-one}
use lib.Dec.{eqb}
use lib.ListN.{length, replicate, length-append, length-replicate}
use borrow.Author.Tests.{eqb-true, not-false}
use Rattle.words.specs.Word.{put_word, put_words}
use Rattle.words.proofs.Runs.{put_words-append}
use Rattle.layout.specs.Figures.{length_allowed, sizes_allowed, fresh_length, fresh_figures}
use Rattle.layout.specs.Place.{layout_of}
use Rattle.layout.specs.Told.{alone_near}
use Rattle.layout.specs.declared.Figures.{Figures}
use Rattle.machine.specs.calls.Making.{
  Wanted,
  number_make,
  order_make,
  tests_make,
  make_number,
  fresh_lane,
  fresh_flog,
  tail_words,
  data_end,
  fresh_arena,
  MakeOutcome,
  make_of,
}
use Rattle.format.proofs.Tests.{and_elim}
use Rattle.layout.proofs.Allowed.{made-allowed, distance_ok, fit_of}
use Rattle.machine.specs.state.Answer.{refusal_number}
use Rattle.machine.specs.declared.refusal.Refusal.{Refusal}
use Rattle.machine.proofs.Refusals.{not_zero}
use Rattle.machine.proofs.rules.Rules.{passed_all}
use Rattle.machine.proofs.making.Making.{some-number_make}
use Rattle.infoblock.proofs.InfoBlock.{length-of}
use Rattle.layout.specs.Fit.{Fit}

-- four words and a run, one store after the other
pub put_four : (a : List ℕ) (i p q r s : ℕ) (ws : List ℕ)
    → put_words (put_word (put_word (put_word (put_word a i p) (i + 1) q) (i + 2) r) (i + 3) s) (i + 4) ws ≡ put_words a i (p ∷ q ∷ r ∷ s ∷ ws)
unfolding put_words
put_four a i p q r s ws =
    let e1 : i + 1 ≡ suc i = omega arith in
    let e2 : i + 2 ≡ suc (suc i) = omega arith in
    let e3 : i + 3 ≡ suc (suc (suc i)) = omega arith in
    let e4 : i + 4 ≡ suc (suc (suc (suc i))) = omega arith in
    rw (e1, e2, e3, e4)

length_flog : (s i n : ℕ) → length (fresh_flog s i n) ≡ 16 * n
unfolding fresh_flog
length_flog s i zero = refl
length_flog s i (suc n) =
    length-append (fresh_lane s i) (fresh_flog s (suc i) n) ∙ omega (arith, length_flog s (suc i) n)

-- one lane more at the end
flog_snoc : (s i n : ℕ) → fresh_flog s i (suc n) ≡ fresh_flog s i n ++ fresh_lane s (i + n)
unfolding fresh_flog
flog_snoc s i zero = let e : i + 0 ≡ i = omega arith in rw (e, append-nil)
flog_snoc s i (suc n) =
    let e : suc i + n ≡ i + suc n = omega arith in
    ap (λ (x : List ℕ). fresh_lane s i ++ x) (flog_snoc s (suc i) n ∙ ap (λ (k : ℕ). fresh_flog s (suc i) n ++ fresh_lane s k) e)

pub put_flog_more : (a : List ℕ) (i s l : ℕ)
    → put_words (put_words a i (fresh_flog s 0 l)) (i + 16 * l) (fresh_lane s l) ≡ put_words a i (fresh_flog s 0 (l + 1))
put_flog_more a i s l =
    let e : fresh_flog s 0 l ++ fresh_lane s (0 + l) ≡ fresh_flog s 0 (l + 1) = rw add-one (sym (flog_snoc s 0 l)) in
    let z : 0 + l ≡ l = omega arith in
    ap (λ (n : ℕ). put_words (put_words a i (fresh_flog s 0 l)) (i + n) (fresh_lane s l)) (sym (length_flog s 0 l))
    ∙ sym (put_words-append (fresh_flog s 0 l) (fresh_lane s l) a i)
    ∙ ap (λ (x : List ℕ). put_words a i x) (ap (λ (k : ℕ). fresh_flog s 0 l ++ fresh_lane s k) (sym z) ∙ e)

-- four runs, one after the other
put_parts : (a xs ys zs ws : List ℕ) (i j k m : ℕ) → i + length xs ≡ j → j + length ys ≡ k → k + length zs ≡ m
    → put_words (put_words (put_words (put_words a i xs) j ys) k zs) m ws ≡ put_words a i (xs ++ (ys ++ (zs ++ ws)))
put_parts a xs ys zs ws i j k m p q r =
    sym (put_words-append xs (ys ++ (zs ++ ws)) a i ∙ rw (p, put_words-append ys (zs ++ ws), q, put_words-append zs ws, r))

-- what fits leaves room for every part that follows the data blocks
pub record TailRoom (f : Figures) (n : ℕ) : Type 0 where
  pub data-end : f.dataoff / 4 + f.blocks * (f.internal / 4) ≤ f.flogoff / 4
  pub flog_end : f.flogoff / 4 + 16 * f.lanes ≤ f.copyoff / 4
  pub copy_end : 4 * (f.copyoff / 4 + 1024) ≤ n
  pub starts : f.copyoff / 4 < 4194304
  pub words : f.sectors + f.lanes < 4294967296

pub room-of : (d : ℕ) (f : Figures) (n : ℕ) → Fit d f n → TailRoom f n
unfolding layout_of
room-of d f n t =
    let o = t.ok in
    let r = t.room in
    let s = t.starts in
    record { data-end = omega arith; flog_end = omega arith; copy_end = omega arith; starts = omega arith; words = omega arith }

-- the parts of the tail, stored one after the other
pub put_tail_parts : (d : ℕ) (f : Figures) (n : ℕ) (a info : List ℕ) → TailRoom f n
    → put_words (put_words (put_words
    (put_words a (f.dataoff / 4 + f.blocks * (f.internal / 4))
    (replicate (f.flogoff / 4 - (f.dataoff / 4 + f.blocks * (f.internal / 4))) 0))
    (f.flogoff / 4) (fresh_flog f.sectors 0 f.lanes))
    (f.flogoff / 4 + 16 * f.lanes) (replicate (f.copyoff / 4 - (f.flogoff / 4 + 16 * f.lanes)) 0))
    (f.copyoff / 4) info
    ≡ put_words a (data_end (layout_of d f)) (tail_words (layout_of d f) info)
unfolding layout_of tail_words
put_tail_parts d f n a info r =
    let e = r.data-end in
    let h = r.flog_end in
    put_parts a _ _ _ info _ _ _ _ (rw length-replicate (omega arith)) (rw length_flog refl) (rw length-replicate (omega arith))

-- ---- making's order

-- what making that is not refused gives
pub record MakingPassed (o : Wanted) (n : ℕ) : Type 0 where
  pub sizes : sizes_allowed o.size o.sectors o.lanes ≡ true
  pub whole : n % 4096 ≡ 0
  pub most : n ≤ 16777216
  pub made : n ≡ fresh_length o.size o.sectors o.lanes
  pub first : length o.first ≡ 16
  pub second : length o.second ≡ 16

make_passed : (o : Wanted) (n : ℕ) → make_number o n ≡ 0 → MakingPassed o n
unfolding make_number
make_passed o n e =
    let p = passed_all number_make some-number_make (tests_make o n) order_make e in
    let m = and_elim (length_allowed n) _ (not-false _ p.1.0) in
    let l = length-of n m.0 in
    let i = and_elim (eqb (length o.first) 16) _ (not-false _ p.1.1.0) in
    record {
      sizes = not-false _ p.0;
      whole = l.0;
      most = l.2;
      made = eqb-true _ _ m.1;
      first = eqb-true _ _ i.0;
      second = eqb-true _ _ i.1;
    }

-- and its figures fit
pub made_fit : (o : Wanted) (n : ℕ) → MakingPassed o n → Fit alone_near.distance (fresh_figures o.size o.sectors o.lanes) n
made_fit o n p =
    let a = made-allowed o.size o.sectors o.lanes p.sizes in
    fit_of alone_near.distance (distance_ok _ refl) _ n (rw p.made a) p.whole p.most

-- what making gives, refused and not
module _ (o : Wanted) (a : List ℕ) where
  pub make_refused : (r : Refusal) → refusal_number r ≡ make_number o (length a)
      → ◌≡◌ {A = MakeOutcome} (record { number = refusal_number r; arena = a }) (make_of o a)
  unfolding make_of
  make_refused r e = rw (← e, not_zero r)

  pub make_done : 0 ≡ make_number o (length a) → ◌≡◌ {A = MakeOutcome} (record { number = 0; arena = fresh_arena o a }) (make_of o a)
  unfolding make_of
  make_done e = rw (← e)

  pub done_passed : 0 ≡ make_number o (length a) → MakingPassed o (length a)
  done_passed e = make_passed o (length a) (sym e)
