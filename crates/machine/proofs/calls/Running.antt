-- The claim about read, start, step and whole write. Each rule of a row is one step, which says of its test that it tells whether
-- the condition in words holds; the rows are these steps in their order.
use mathlib.Core.Path.{◌≡◌, refl, sym, ◌∙◌}
use mathlib.Core.Logic.{◌≢◌, ◌⊎◌, inl, inr, ⊎_elim}
use mathlib.Core.Bool.{Bool, true, false, ◌&&◌}
use mathlib.Core.List.{List, [], ◌∷◌}
use Prim.Native.Nat.{ℕ, ◌≤◌, ◌<◌}
use native.Mathlib.Omega.{arith}
use native.Mathlib.Decide.{ℕ_discrete}
use lib.Dec.{eqb, leb, ltb}
use lib.ListN.{length}
use borrow.Author.Tests.{ltb-true, leb-true, eqb-true, lt-ltb, le-leb, eq-eqb, ne_eqb, eqb-false, not-true, not-false}
use Rattle.format.specs.Sequence.{is_set}
use Rattle.format.proofs.InNumbers.{map_words}
use Rattle.layout.specs.Figures.{length_allowed, figures_allowed}
use Rattle.layout.specs.Place.{Layout}
use Rattle.layout.specs.Fit.{Fit}
use Rattle.format.proofs.Tests.{true_false, by_bool, and_intro, and_elim, all_elim, every_intro, every_elim, some_true, some-found}
use Rattle.layout.proofs.Allowed.{distance_of, of_distance, distance_ok, allowed_of, of_allowed, fit_of}
use Rattle.machine.specs.declared.lane.Lane.{Lane}
use Rattle.layout.specs.Told.{distance_allowed}
use Rattle.machine.specs.state.Handle.{Handle, bare_of, lane_at, handle_allowed, table_short, records_allowed, laid_out}
use Rattle.machine.specs.state.Lane.{write_stores, lane_allowed, is_busy}
use Rattle.machine.specs.Rules.{answer, FirstOf}
use Rattle.machine.specs.calls.Reading.{read_number, read_of}
use Rattle.machine.specs.calls.Judging.{in_flight, tests, call_number}
use Rattle.machine.specs.calls.Order.{
  Call,
  read,
  start,
  step,
  write,
  Rule,
  bad_handle,
  short_table,
  bad_records,
  no_such_sector,
  wrong_buffer,
  no_such_lane,
  lane_busy,
  lane_idle,
  sector_busy,
  bad_map_word,
  sloppy_map_word,
  bad_sector,
  number,
  order,
}
use Rattle.machine.specs.calls.Writing.{start_number, start_of, step_number, step_of, write_number, write_of}
use Rattle.machine.specs.words.Running.{LaneOk, HandleOk, RecordsOk, InFlight, Holds, Answers}
use Rattle.machine.specs.claims.Running.{AsTheyCame, RunningClaim}
use Rattle.machine.proofs.rules.Rules.{first_in, unguarded, asked}
use Rattle.machine.proofs.calls.Rule16.{lane_last, handle_last}
use Rattle.machine.proofs.opening.Reflect.{length-ok, ok-length, bad_ok, ok_bad}

-- ---- rule 16

zero_or_one : (n : ℕ) → n < 2 → (n ≡ 0) ⊎ (n ≡ 1)
zero_or_one n h = go (ℕ_discrete n 0)
  where
    go : Dec (n ≡ 0) → (n ≡ 0) ⊎ (n ≡ 1)
    go (yes e) = inl e
    go (no e) = inr (omega arith)

lane-ok : (g : Layout) (r : Lane) → lane_allowed g r ≡ true → LaneOk g r
unfolding lane_allowed
lane-ok g r e =
    let h = all_elim (
    ltb r.block.0 g.I ∷ ltb r.old.0 g.I ∷ ltb r.half 2 ∷ is_set r.sequence.0
    ∷ ltb r.sector.0 g.E ∷ leb r.busy 1 ∷ ltb r.made (write_stores g) ∷ []) e in
    let q = and_elim (leb 1 r.sequence.0) (leb r.sequence.0 3) h.1.1.1.0 in
    record {
      busy = zero_or_one r.busy (omega (arith, leb-true r.busy 1 h.1.1.1.1.1.0));
      block = ltb-true _ _ h.0;
      old = ltb-true _ _ h.1.0;
      half = zero_or_one r.half (ltb-true _ _ h.1.1.0);
      sequence_least = leb-true _ _ q.0;
      sequence_most = leb-true _ _ q.1;
      sector = ltb-true _ _ h.1.1.1.1.0;
      made = ltb-true _ _ h.1.1.1.1.1.1.0;
    }

ok-lane : (g : Layout) (r : Lane) → LaneOk g r → lane_allowed g r ≡ true
ok-lane g r k =
    let two : r.half < 2 = ⊎_elim (λ e. omega arith) (λ e. omega arith) k.half in
    let one : r.busy ≤ 1 = ⊎_elim (λ e. omega arith) (λ e. omega arith) k.busy in
    sym (lane_last g r k.block k.old two k.sequence_least k.sequence_most k.sector one) ∙ lt-ltb r.made (write_stores g) k.made

module _ (h : Handle) (n : ℕ) where
  pub handle_ok : handle_allowed (bare_of h) n ≡ true → HandleOk h n
  unfolding handle_allowed
  handle_ok e =
      let p = and_elim (length_allowed n) _ e in
      let q = and_elim (eqb h.length n) _ p.1 in
      let d = and_elim (distance_allowed h.distance) (figures_allowed h.figures n) q.1 in
      record {
        size = length-ok n p.0;
        match = eqb-true _ _ q.0;
        distance = distance_of h.distance d.0;
        figures = allowed_of h.figures n d.1;
      }

  pub ok_handle : HandleOk h n → handle_allowed (bare_of h) n ≡ true
  ok_handle k =
      sym (handle_last (bare_of h) n (ok-length n k.size) k.match (of_distance h.distance k.distance))
      ∙ of_allowed h.figures n k.figures

  -- so the figures of a handle that rule 16 lets pass fit the slice
  pub handle_fit : handle_allowed (bare_of h) n ≡ true → Fit h.distance h.figures n
  handle_fit e =
      let k = handle_ok e in
      let d = distance_ok h.distance (of_distance h.distance k.distance) in
      fit_of h.distance d h.figures n k.figures k.size.multiple k.size.most

module _ (h : Handle) where
  lane_test : ℕ → Bool
  lane_test l = lane_allowed (laid_out h) (lane_at h.table l)

  pub records_ok : records_allowed h ≡ true → RecordsOk h
  unfolding records_allowed lane_test
  records_ok e l u = lane-ok _ _ (every_elim h.figures.lanes lane_test e l u)

  pub ok_records : RecordsOk h → records_allowed h ≡ true
  unfolding records_allowed lane_test
  ok_records k = every_intro h.figures.lanes lane_test (λ l u. ok-lane _ _ (k l u))

-- ---- rules 12 to 15

-- a lane is idle if its busy word is 0
busy_word : (r : Lane) → is_busy r ≡ true → r.busy ≢ 0
busy_word r e = eqb-false r.busy 0 (not-true _ e)

word_busy : (r : Lane) → r.busy ≢ 0 → is_busy r ≡ true
word_busy r n = rw (ne_eqb r.busy 0 n)

idle_word : (r : Lane) → is_busy r ≡ false → r.busy ≡ 0
idle_word r e = eqb-true r.busy 0 (not-false _ e)

pub word_idle : (r : Lane) → r.busy ≡ 0 → is_busy r ≡ false
word_idle r e = rw e

module _ (lanes : List Lane) (n s : ℕ) where
  flight_test : ℕ → Bool
  flight_test l = is_busy (lane_at lanes l) && eqb (lane_at lanes l).sector.0 s

  flight_ok : in_flight lanes n s ≡ true → InFlight lanes n s
  unfolding in_flight flight_test
  flight_ok e =
      let w = some_true n flight_test e in
      let p = and_elim (is_busy (lane_at lanes w.0)) (eqb (lane_at lanes w.0).sector.0 s) w.2 in
      (w.0, w.1, busy_word (lane_at lanes w.0) p.0, eqb-true _ _ p.1)

  ok_flight : InFlight lanes n s → in_flight lanes n s ≡ true
  unfolding in_flight flight_test
  ok_flight w = some-found n flight_test w.0 w.1 (and_intro _ _ (word_busy (lane_at lanes w.0) w.2) (eq-eqb _ _ w.3))

-- ---- each rule's test tells whether it holds in words

module _ (a : List ℕ) (h : Handle) where
  tells : (r : Rule) → (tests a h r ≡ true → Holds a h r) × (Holds a h r → tests a h r ≡ true)
  tells bad_handle = (
    λ e p. true_false (sym (ok_handle h (length a) p) ∙ not-true _ e),
    λ no. by_bool (handle_allowed (bare_of h) (length a)) _ (λ e. absurd (no (handle_ok h (length a) e))) (λ e. rw e),
  )
  tells short_table = (unfold table_short in (ltb-true _ _), unfold table_short in (lt-ltb _ _))
  tells bad_records = asked (records_ok h) (ok_records h)
  tells (no_such_sector s) = (leb-true _ _, le-leb _ _)
  tells (wrong_buffer n) = (λ e. eqb-false _ _ (not-true _ e), λ e. rw (ne_eqb n h.figures.size e))
  tells (no_such_lane l) = (leb-true _ _, le-leb _ _)
  tells (lane_busy l) = (busy_word (lane_at h.table l), word_busy (lane_at h.table l))
  tells (lane_idle l) = (λ e. idle_word (lane_at h.table l) (not-true _ e), λ e. rw (word_idle (lane_at h.table l) e))
  tells (sector_busy s) = (flight_ok _ _ s, ok_flight _ _ s)
  tells (bad_map_word s) = (bad_ok _ _, ok_bad _ _)
  tells (sloppy_map_word s) = (map_words.rule_18 _, map_words.rule_18_back _)
  tells (bad_sector s) = (map_words.rule_15 _, map_words.rule_15_back _)

  -- along any order the first rule that holds gives the number
  pub first_holds : (rs : List Rule) → FirstOf number (Holds a h) rs (answer number (tests a h) rs)
  first_holds rs = first_in number (λ _. Unit {0}) (tests a h) (Holds a h) (λ r _. tells r) rs (unguarded number (tests a h) rs)

  answers : (c : Call) → Answers a h c (call_number a h c)
  unfolding call_number
  answers c = first_holds (order c)

-- ---- refusals

module _ (a : List ℕ) (h : Handle) where
  read_refused : (s : ℕ) (buffer : List ℕ) → (read_of a h s buffer).number ≢ 0 → (read_of a h s buffer).buffer ≡ buffer
  unfolding read_of
  read_refused s buffer k = rw (ne_eqb (read_number a h s buffer) 0 k)

  start_refused : (l s : ℕ) → (start_of a h l s).number ≢ 0 → AsTheyCame a h (start_of a h l s)
  unfolding start_of
  start_refused l s k = record { arena = refl; handle = rw (ne_eqb (start_number a h l s) 0 k) }

  step_refused : (l : ℕ) (buffer : List ℕ) → (step_of a h l buffer).number ≢ 0 → AsTheyCame a h (step_of a h l buffer)
  unfolding step_of
  step_refused l buffer k = let e = ne_eqb (step_number a h l buffer) 0 k in record { arena = rw e; handle = rw e }

  write_refused : (l s : ℕ) (buffer : List ℕ) → (write_of a h l s buffer).number ≢ 0 → AsTheyCame a h (write_of a h l s buffer)
  unfolding write_of
  write_refused l s buffer k = let e = ne_eqb (write_number a h l s buffer) 0 k in record { arena = rw e; handle = rw e }

  start_stores_none : (l s : ℕ) → (start_of a h l s).arena ≡ a
  unfolding start_of
  start_stores_none l s = refl

pub running_claim : RunningClaim
running_claim = record {
  read_order = λ s buffer. refl;
  start_order = λ l s. refl;
  step_order = λ l buffer. refl;
  write_order = λ l s buffer. refl;
  read = λ a h s buffer. unfold read_of in (answers a h (read s buffer));
  start = λ a h l s. unfold start_of in (answers a h (start l s));
  step = λ a h l buffer. unfold step_of in (answers a h (step l buffer));
  write = λ a h l s buffer. unfold write_of in (answers a h (write l s buffer));
  read_refused = read_refused;
  start_refused = start_refused;
  step_refused = step_refused;
  write_refused = write_refused;
  start_stores_none = start_stores_none;
}
