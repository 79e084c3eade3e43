-- Records past the lanes do not matter: with two tables that have the same records for the lanes every rule tests alike, so every call answers
-- alike, and a call that replaces a lane's record replaces it by the same one in both.
use mathlib.Core.Path.{◌≡◌, refl, sym, ap, ◌∙◌}
use mathlib.Core.Bool.{not, ◌&&◌}
use mathlib.Core.List.{List}
use Prim.Native.Nat.{ℕ, ◌<◌}
use native.Mathlib.Omega.{arith}
use native.Mathlib.Decide.{ℕ_discrete}
use lib.Dec.{eqb}
use lib.ListN.{length, set, length-set}
use borrow.Author.Tests.{eqb-true, le-ltb, leb-false}
use Rattle.format.proofs.Tests.{by_bool, every_same, some_same}
use Rattle.machine.specs.declared.handle.Handle as bare
use Rattle.machine.specs.declared.lane.Lane.{Lane}
use Rattle.machine.specs.Rules.{answer}
use Rattle.machine.specs.state.Flog.{map_block}
use Rattle.machine.specs.state.Handle.{Handle, with, lane_at, laid_out, with_lane, table_short, records_allowed}
use Rattle.machine.specs.state.Lane.{is_busy, started_lane, lane_allowed, finished_lane, write_stores}
use Rattle.machine.specs.state.Stores.{put_all}
use Rattle.machine.specs.calls.Judging.{in_flight, tests, call_number}
use Rattle.machine.specs.calls.Order.{
  Call,
  read,
  start,
  step,
  write,
  Rule,
  bad_handle,
  short_table,
  bad_records,
  no_such_sector,
  wrong_buffer,
  no_such_lane,
  lane_busy,
  lane_idle,
  sector_busy,
  bad_map_word,
  sloppy_map_word,
  bad_sector,
  number,
  order,
}
use Rattle.machine.specs.calls.Reading.{read_of, block_bytes}
use Rattle.machine.specs.calls.Writing.{start_number, start_of, step_number, step_of, write_number, write_of, plan_of, first_stores}
use Rattle.machine.proofs.rules.Rules.{Guarded, alike}
use Rattle.machine.proofs.rules.Running.{Needs, guarded}
use Rattle.machine.proofs.invariant.Inv.{lane_same, lane_other}
use Rattle.machine.proofs.calls.Accepted.{start_found, step_found, write_found}
use Rattle.machine.proofs.calls.Whole.{steps_all, begun_ok}
use Rattle.handlebytes.specs.Bytes.{decode_handle}
use Rattle.btt.specs.Calls.{
  btt_of,
  btt_read_of,
  btt_start_of,
  btt_step_of,
  btt_write_of,
  lane_order,
  next_order,
  lane_number,
  next_number,
  lane_shown,
  next_offset,
  next_shown,
}
use Rattle.btt.specs.Host.{SameLanes, AlikeOutcomes, AllAlike, lanes_in}
use Rattle.btt.proofs.Looks.{lane-found, next-found}
use Rattle.btt.proofs.Same.{lanes_held}

-- both tables with the same record put in
same_set : (n : ℕ) (t u : List Lane) (l : ℕ) (r : Lane) → SameLanes n t u → SameLanes n (set t l r) (set u l r)
same_set n t u l r k = record {
  first = rw length-set k.first;
  second = rw length-set k.second;
  same = λ j v. go j v (ℕ_discrete j l);
}
  where
    go : (j : ℕ) → j < n → Dec (j ≡ l) → lane_at (set t l r) j ≡ lane_at (set u l r) j
    go j v (yes e) =
        let x : l < length t = omega (arith, k.first) in
        let y : l < length u = omega (arith, k.second) in
        rw e (lane_same t l r x ∙ sym (lane_same u l r y))
    go j v (no e) = lane_other t l r j e ∙ k.same j v ∙ sym (lane_other u l r j e)

-- an accepted whole write by its stores, from the record that its start leaves
module _ (a : List ℕ) (h : Handle) (l s : ℕ) (buffer : List ℕ) where
  abbrev begun : Lane
  begun = started_lane (lane_at h.table l) s (map_block (laid_out h) a s)

  write_is : write_number a h l s buffer ≡ 0 → write_of a h l s buffer ≡ record {
    number = 0;
    arena = put_all (laid_out h) (first_stores (laid_out h) (plan_of l begun) buffer (write_stores (laid_out h))) a;
    handle = with_lane h l (finished_lane begun);
  }
  unfolding write_of start_of
  write_is z =
      let w = write_found a h l s buffer z in
      let f = start_found a h l s w.start in
      rw (z, w.start, steps_all a h l begun buffer f.judged f.lane refl (begun_ok a h l s f) w.size)

module _ (a : List ℕ) (p : bare.Handle) (t u : List Lane) (k : SameLanes p.figures.lanes t u) where
  -- a handle with the one table, and with the other
  abbrev h : Handle
  h = with p t

  abbrev g : Handle
  g = with p u

  -- every rule, asked of a lane that there is, tests alike
  agree : (r : Rule) → Needs p.figures r → tests a h r ≡ tests a g r
  agree bad_handle v = refl
  agree short_table v = unfold table_short in (le-ltb _ _ k.first ∙ sym (le-ltb _ _ k.second))
  agree bad_records v = unfold records_allowed in (ap not (every_same p.figures.lanes (λ l. lane_allowed (laid_out h) (lane_at t l))
      (λ l. lane_allowed (laid_out h) (lane_at u l)) (λ l w. ap (lane_allowed (laid_out h)) (k.same l w))))
  agree (no_such_sector s) v = refl
  agree (wrong_buffer n) v = refl
  agree (no_such_lane l) v = refl
  agree (lane_busy l) v = ap is_busy (k.same l v)
  agree (lane_idle l) v = ap (λ (r : Lane). not (is_busy r)) (k.same l v)
  agree (sector_busy s) v = unfold in_flight in (some_same p.figures.lanes (λ l. is_busy (lane_at t l) && eqb (lane_at t l).sector.0 s)
      (λ l. is_busy (lane_at u l) && eqb (lane_at u l).sector.0 s)
      (λ l w. ap (λ (r : Lane). is_busy r && eqb r.sector.0 s) (k.same l w)))
  agree (bad_map_word s) v = refl
  agree (sloppy_map_word s) v = refl
  agree (bad_sector s) v = refl

  -- so every order answers alike
  alike_order : (rs : List Rule) → Guarded number (Needs p.figures) (tests a g) rs → answer number (tests a h) rs ≡ answer number (tests a g) rs
  alike_order rs guard = alike number (Needs p.figures) (tests a g) (tests a h) agree rs guard

  alike_call : (c : Call) → call_number a h c ≡ call_number a g c
  unfolding call_number
  alike_call c = alike_order (order c) (guarded p.figures (tests a g) (λ l e. leb-false _ _ e) (λ s e. leb-false _ _ e) c)

  alike_lane : (l : ℕ) → lane_number a h l ≡ lane_number a g l
  unfolding lane_number
  alike_lane l = alike_order (lane_order l) (tt, λ _. (tt, λ _. (tt, λ _. (tt, λ _. tt))))

  alike_next : (l : ℕ) → next_number a h l ≡ next_number a g l
  unfolding next_number
  alike_next l = alike_order (next_order l) (tt, λ _. (tt, λ _. (tt, λ _. (tt, λ e. (leb-false _ _ e, λ _. tt)))))

  read_alike : (s : ℕ) (buffer : List ℕ) → read_of a h s buffer ≡ read_of a g s buffer
  unfolding read_of block_bytes
  read_alike s buffer = rw (alike_call (read s buffer))

  start_alike : (l s : ℕ) → AlikeOutcomes p.figures.lanes (btt_of (start_of a h l s)) (btt_of (start_of a g l s))
  unfolding start_of
  start_alike l s =
      let e = alike_call (start l s) in
      by_bool (eqb (start_number a h l s) 0) (AlikeOutcomes p.figures.lanes (btt_of (start_of a h l s)) (btt_of (start_of a g l s)))
      (λ q. let f = start_found a h l s (eqb-true _ _ q) in
      rw (← e, q, k.same l f.lane) (record { number = refl; arena = refl; table = same_set p.figures.lanes t u l _ k }))
      (λ q. rw (← e, q) (record { number = refl; arena = refl; table = k }))

  step_alike : (l : ℕ) (buffer : List ℕ) → AlikeOutcomes p.figures.lanes (btt_of (step_of a h l buffer)) (btt_of (step_of a g l buffer))
  unfolding step_of
  step_alike l buffer =
      let e = alike_call (step l buffer) in
      by_bool (eqb (step_number a h l buffer) 0) (AlikeOutcomes p.figures.lanes (btt_of (step_of a h l buffer)) (btt_of (step_of a g l buffer)))
      (λ q. let f = step_found a h l buffer (eqb-true _ _ q) in
      rw (← e, q, k.same l f.lane) (record { number = refl; arena = refl; table = same_set p.figures.lanes t u l _ k }))
      (λ q. rw (← e, q) (record { number = refl; arena = refl; table = k }))

  write_alike : (l s : ℕ) (buffer : List ℕ) → AlikeOutcomes p.figures.lanes (btt_of (write_of a h l s buffer)) (btt_of (write_of a g l s buffer))
  write_alike l s buffer =
      let e = alike_call (write l s buffer) in
      by_bool (eqb (write_number a h l s buffer) 0)
      (AlikeOutcomes p.figures.lanes (btt_of (write_of a h l s buffer)) (btt_of (write_of a g l s buffer)))
      (λ q. let z = eqb-true _ _ q in
      let f = start_found a h l s (write_found a h l s buffer z).start in
      rw (write_is a h l s buffer z, write_is a g l s buffer (sym e ∙ z), k.same l f.lane)
      (record { number = refl; arena = refl; table = same_set p.figures.lanes t u l _ k }))
      (λ q. unfold write_of in (rw (← e, q) (record { number = refl; arena = refl; table = k })))

  lane_alike : (l : ℕ) (out : List ℕ) → lane_shown a h l out ≡ lane_shown a g l out
  unfolding lane_shown
  lane_alike l out =
      let e = alike_lane l in
      by_bool (eqb (lane_number a h l) 0) (lane_shown a h l out ≡ lane_shown a g l out)
      (λ q. rw (← e, q, k.same l (lane-found a h l (eqb-true _ _ q)).lane))
      (λ q. rw (← e, q))

  next_alike : (l offset : ℕ) → next_shown a h l offset ≡ next_shown a g l offset
  unfolding next_shown next_offset
  next_alike l offset =
      let e = alike_next l in
      by_bool (eqb (next_number a h l) 0) (next_shown a h l offset ≡ next_shown a g l offset)
      (λ q. rw (← e, q, k.same l (next-found a h l (eqb-true _ _ q)).lane))
      (λ q. rw (← e, q))

pub past_alike : (a b : List ℕ) (t u : List Lane) → SameLanes (lanes_in b) t u → AllAlike a b t u
unfolding btt_read_of btt_start_of btt_step_of btt_write_of
past_alike a b t u k =
    let p = decode_handle b in
    let e = lanes_held b in
    let m : SameLanes p.figures.lanes t u = rw e k in
    record {
      read = read_alike a p t u m;
      start = rw e at (start_alike a p t u m);
      step = rw e at (step_alike a p t u m);
      write = rw e at (write_alike a p t u m);
      lane = lane_alike a p t u m;
      next_store = next_alike a p t u m;
    }
