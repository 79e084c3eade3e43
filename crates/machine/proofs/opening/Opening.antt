-- The claim about opening: what opening answers, that a refusal changes nothing, that cut openings leave no trace, what it counts, finds and mends.
-- The parts are proved in the modules that it cites; the rest follows from the tests of the answer.
use mathlib.Core.Path.{◌≡◌, refl, sym, ap, ◌∙◌}
use mathlib.Core.Logic.{◌≢◌, ◌⊎◌, inl, inr}
use mathlib.Core.List.{List, ◌∷◌}
use mathlib.Core.Bool.{Bool, true, false, cond}
use Prim.Native.Nat.{ℕ, ◌≤◌, ◌<◌}
use native.Mathlib.Omega.{arith}
use lib.Dec.{eqb}
use lib.ListN.{length, take, length-append, length-replicate, length-drop}
use lib.Seq.{take_all}
use borrow.Author.Tests.{eqb-true, eqb-false, ne_eqb, ltb-false}
use Rattle.words.specs.Bytes.{Small}
use Rattle.format.proofs.Tests.{by_bool}
use Rattle.machine.specs.Rules.{answer}
use Rattle.layout.specs.Place.{layout_of}
use Rattle.machine.specs.state.Stores.{Store, put_all}
use Rattle.machine.specs.calls.Opening.{
  extent_of,
  Room,
  OpenRule,
  wrong_layout,
  wrong_length,
  no_info_block,
  forbidden_figure,
  flags_set,
  short_work,
  lost_lane,
  bad_words,
  sloppy_arena,
  not_valid,
  number_open,
  alone_rules,
  map_rules,
  tests_open,
  figures_in,
  layout_in,
  mends,
  pending_lanes,
  mended,
  open_number,
  work_after,
  open_of,
  cut_open_of,
  few_records,
  handle_for,
}
use Rattle.machine.specs.claims.Opening.{RefusedOpening, WorkAfter, CutAnswers, CountIsPending, OpenedAgain, OpeningClaimFor}
use Rattle.machine.proofs.calls.Records.{zero-handle}
use Rattle.machine.proofs.rules.Rules.{passed_all, answer_append}
use Rattle.machine.proofs.opening.Mends.{length-mends}
use Rattle.machine.proofs.opening.Consistent.{pending-none}
use Rattle.machine.proofs.opening.Opens.{some-number_open, open_zero, zero_open, opens_consistent, enough_for, handle_lane}
use Rattle.machine.proofs.opening.Kept.{kept_info, kept_opens, kept_mended, kept_handle}
use Rattle.machine.proofs.opening.Answers.{opening_answers}
use Rattle.machine.proofs.opening.Cuts.{cuts_no_trace}
use Rattle.machine.proofs.opening.InBytes.{below_bytes, handle_as_found, newer-half, opening_mends, cut_mends}
use Rattle.layout.specs.declared.Told.{Told}
use Rattle.machine.specs.words.Valid.{RoomFor}
use Rattle.machine.specs.state.Handle.{bare_of, lane_at}
use Rattle.machine.specs.declared.lane.Lane.{Lane}

-- the rules before the work buffer is used have the numbers 16 and 1 to 5, the others those from 6 on, without 16
abbrev Sooner : ℕ → Type 0
Sooner n = (n ≡ 16) ⊎ ((1 ≤ n) × (n ≤ 5))

abbrev Later : ℕ → Type 0
Later n = (n ≡ 0) ⊎ ((6 ≤ n) × (n ≢ 16))

sooner : (test : OpenRule → Bool) → answer number_open test alone_rules ≢ 0 → Sooner (answer number_open test alone_rules)
unfolding answer
sooner test = go (test wrong_layout) (test wrong_length) (test no_info_block) (test forbidden_figure) (test flags_set) (test short_work)
  where
    go : (t16 t1 t2 t3 t4 t5 : Bool)
        → (let n : ℕ = cond t16 16 (cond t1 1 (cond t2 2 (cond t3 3 (cond t4 4 (cond t5 5 0))))) in n ≢ 0 → Sooner n)
    go true t1 t2 t3 t4 t5 n = inl refl
    go false true t2 t3 t4 t5 n = inr (omega arith, omega arith)
    go false false true t3 t4 t5 n = inr (omega arith, omega arith)
    go false false false true t4 t5 n = inr (omega arith, omega arith)
    go false false false false true t5 n = inr (omega arith, omega arith)
    go false false false false false true n = inr (omega arith, omega arith)
    go false false false false false false n = absurd (n refl)

-- none has both
sooner_later : (n : ℕ) → Sooner n → Later n → ⊥
sooner_later n (inl e) (inl f) = omega arith
sooner_later n (inl e) (inr f) = f.1 e
sooner_later n (inr e) (inl f) = omega (arith, e.0)
sooner_later n (inr e) (inr f) = omega (arith, e.1, f.0)

later : (test : OpenRule → Bool) → Later (answer number_open test (few_records ∷ map_rules))
unfolding answer
later test = go (test few_records) (test lost_lane) (test bad_words) (test sloppy_arena) (test not_valid)
  where
    go : (t21 t6 t7 t18 t8 : Bool)
        → Later (cond t21 21 (cond t6 6 (cond t7 7 (cond t18 18 (cond t8 8 0)))))
    go true t6 t7 t18 t8 = inr (omega arith, λ e. omega arith)
    go false true t7 t18 t8 = inr (omega arith, λ e. omega arith)
    go false false true t18 t8 = inr (omega arith, λ e. omega arith)
    go false false false true t8 = inr (omega arith, λ e. omega arith)
    go false false false false true = inr (omega arith, λ e. omega arith)
    go false false false false false = inl refl

module _ (τ : Told) where
  -- the handles of two openings differ in the records past the lanes alone
  bare_alike : (a : List ℕ) (table other : List Lane) → bare_of (handle_for τ a table) ≡ bare_of (handle_for τ a other)
  unfolding handle_for
  bare_alike a table other = refl

  lanes_alike : (a : List ℕ) (table other : List Lane) (l : ℕ) → l < (figures_in a).lanes
      → lane_at (handle_for τ a table).table l ≡ lane_at (handle_for τ a other).table l
  unfolding layout_of
  lanes_alike a table other l u = handle_lane τ a table l u ∙ sym (handle_lane τ a other l u)

  module _ (a : List ℕ) (work : Room) where
    refused_open : (open_of τ a work).number ≢ 0 → RefusedOpening a work (open_of τ a work)
    unfolding open_of
    refused_open n =
        let e = ne_eqb (open_number τ a (extent_of work)) 0 n in
        record { arena = rw e; table = rw e; handle = rw e (zero-handle work.table); mended = rw e }

    refused_cut : (k : ℕ) → (open_of τ a work).number ≢ 0 → RefusedOpening a work (cut_open_of τ a work k)
    unfolding open_of cut_open_of
    refused_cut k n =
        let e = ne_eqb (open_number τ a (extent_of work)) 0 n in
        record { arena = rw e; table = refl; handle = zero-handle work.table; mended = rw e }

    cut_answers : (k : ℕ) → CutAnswers τ a work k
    unfolding open_of cut_open_of
    cut_answers k = record {
      number = refl;
      mended = refl;
      work-buffer = refl;
      handle = zero-handle work.table;
      table = refl;
      whole = whole (eqb (open_number τ a (extent_of work)) 0);
    }
      where
        whole : (t : Bool) → cond t (pending_lanes (layout_in τ a) a (layout_in τ a).N) 0 ≤ k
            → cond t (put_all (layout_in τ a) (take k (mends (layout_in τ a) a (layout_in τ a).N)) a) a ≡ cond t (mended (layout_in τ a) a) a
        whole true u =
            ap (λ (x : List Store). put_all (layout_in τ a) x a)
            (take_all k (mends (layout_in τ a) a (layout_in τ a).N) (rw (length-mends (layout_in τ a) a (layout_in τ a).N) u))
        whole false u = refl

    count-pending : CountIsPending τ a work
    unfolding open_of layout_of
    count-pending = record {
      pending = λ e. rw e;
      in_bytes = λ e. rw e (sym (below_bytes τ a (open_zero τ a (extent_of work) e).0.info (figures_in a).lanes));
      stores = λ e. rw e (sym (length-mends (layout_in τ a) a (layout_in τ a).N));
    }

    -- where no rule before the work buffer applies, it is long enough
    room_enough : answer number_open (tests_open τ a (extent_of work)) alone_rules ≡ 0 → (layout_in τ a).I ≤ length work.work
    room_enough e = ltb-false _ _ (passed_all number_open some-number_open (tests_open τ a (extent_of work)) alone_rules e).1.1.1.1.1.0

    -- then the answer is 0 or one of the later rules', and else one of those
    used : answer number_open (tests_open τ a (extent_of work)) alone_rules ≡ 0 → Later (open_number τ a (extent_of work))
    unfolding open_number
    used e = rw (answer_append number_open some-number_open (tests_open τ a (extent_of work)) alone_rules (few_records ∷ map_rules), e) (later (tests_open τ a (extent_of work)))

    unused : answer number_open (tests_open τ a (extent_of work)) alone_rules ≢ 0 → Sooner (open_number τ a (extent_of work))
    unfolding open_number
    unused n =
        let k = answer number_open (tests_open τ a (extent_of work)) alone_rules in
        rw (answer_append number_open some-number_open (tests_open τ a (extent_of work)) alone_rules (few_records ∷ map_rules), ne_eqb k 0 n)
        (sooner (tests_open τ a (extent_of work)) n)

    work-after : WorkAfter τ a work (open_of τ a work)
    unfolding open_of work_after
    work-after = by_bool (eqb (answer number_open (tests_open τ a (extent_of work)) alone_rules) 0) _
        (λ z. let e = eqb-true _ _ z in
        let h = room_enough e in
        record {
          alone = λ p. absurd (sooner_later _ p (used e));
          cleared = λ _. rw z;
          size = rw (z, length-append, length-replicate, length-drop) (omega arith);
        })
        (λ z. let u = unused (eqb-false _ _ z) in
        record {
          alone = λ p. rw z;
          cleared = λ v. absurd (sooner_later _ u v);
          size = rw z;
        })

    -- ---- opened again

    opened_again : (again : Room) → Small a → (open_of τ a work).number ≡ 0 → RoomFor (figures_in a) again → OpenedAgain τ a work again
    unfolding open_of
    opened_again again small e room =
        let g = layout_in τ a in
        let A = mended (layout_in τ a) a in
        let o = (open_zero τ a (extent_of work) e).0 in
        let all : g.N ≤ g.N = omega arith in
        let info = kept_info τ a o small g.N all in
        let z : open_number τ A (extent_of again) ≡ 0 = zero_open τ A (extent_of again) (kept_opens τ a o small g.N all) (enough_for τ A again (rw info room)) in
        record {
          number = rw e z;
          mended = rw (e, z, info) (pending-none g a (opens_consistent τ a o small) g.N all g.N all);
          arena = rw (e, z) (kept_mended τ a o small g.N all);
          handle = rw (e, z, kept_handle τ a o small g.N all again.table) (bare_alike a again.table work.table);
          records = λ l u. rw (e, z, kept_handle τ a o small g.N all again.table) (lanes_alike a again.table work.table l u);
        }

  pub opening_claim : OpeningClaimFor τ
  opening_claim = record {
    order = refl;
    answers = λ a work small. opening_answers τ a small work;
    refused = refused_open;
    refused_cut = refused_cut;
    work = work-after;
    cut = cut_answers;
    cuts = λ a work cuts small told. cuts_no_trace τ work a cuts small told;
    count = count-pending;
    again = λ a work again small e room. opened_again a work again small e room;
    handle = handle_as_found τ;
    newer-half = newer-half τ;
    mends = opening_mends τ;
    cut_mends = cut_mends τ;
  }
