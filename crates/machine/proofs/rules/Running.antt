-- The orders of read, start, step and whole write: every rule has a number, and is asked of a lane and a sector that there are.
use mathlib.Core.Path.{◌≡◌}
use mathlib.Core.Logic.{◌≢◌}
use mathlib.Core.Bool.{Bool, false}
use mathlib.Core.List.{List}
use Prim.Native.Nat.{ℕ, ◌<◌}
use native.Mathlib.Omega.{arith}
use Rattle.layout.specs.declared.Figures.{Figures}
use Rattle.machine.specs.state.Handle.{Handle}
use Rattle.machine.specs.calls.Order.{
  Call,
  read,
  start,
  step,
  write,
  Rule,
  bad_handle,
  short_table,
  bad_records,
  no_such_sector,
  wrong_buffer,
  no_such_lane,
  lane_busy,
  lane_idle,
  sector_busy,
  bad_map_word,
  sloppy_map_word,
  bad_sector,
  number,
  order,
}
use Rattle.machine.specs.calls.Judging.{tests, call_number}
use Rattle.machine.proofs.rules.Rules.{Walk, walked, Passed, passed_all, Guarded}

pub some_number : (r : Rule) → number r ≢ 0
some_number bad_handle e = omega arith
some_number short_table e = omega arith
some_number bad_records e = omega arith
some_number (no_such_sector s) e = omega arith
some_number (wrong_buffer n) e = omega arith
some_number (no_such_lane l) e = omega arith
some_number (lane_busy l) e = omega arith
some_number (lane_idle l) e = omega arith
some_number (sector_busy s) e = omega arith
some_number (bad_map_word s) e = omega arith
some_number (sloppy_map_word s) e = omega arith
some_number (bad_sector s) e = omega arith

-- a rule about a lane or a sector is asked of one that there is
abbrev pub Needs : Figures → Rule → Type 0
Needs f bad_handle = Unit {0}
Needs f short_table = Unit {0}
Needs f bad_records = Unit {0}
Needs f (no_such_sector s) = Unit {0}
Needs f (wrong_buffer n) = Unit {0}
Needs f (no_such_lane l) = Unit {0}
Needs f (lane_busy l) = l < f.lanes
Needs f (lane_idle l) = l < f.lanes
Needs f (sector_busy s) = s < f.sectors
Needs f (bad_map_word s) = s < f.sectors
Needs f (sloppy_map_word s) = s < f.sectors
Needs f (bad_sector s) = s < f.sectors

module _ (f : Figures) (test : Rule → Bool) (lane : (l : ℕ) → test (no_such_lane l) ≡ false → l < f.lanes)
    (sector : (s : ℕ) → test (no_such_sector s) ≡ false → s < f.sectors) where
  pub guarded : (c : Call) → Guarded number (Needs f) test (order c)
  guarded (read s b) = (tt, λ _. (tt, λ _. (tt, λ _. (tt, λ v. (tt, λ _. (sector s v, λ _. (sector s v, λ _. (sector s v, λ _. tt))))))))
  guarded (start l s) =
      (tt, λ _. (tt, λ _. (tt, λ _. (tt, λ u. (lane l u, λ _. (tt, λ v. (sector s v, λ _. (sector s v, λ _. (sector s v, λ _. tt)))))))))
  guarded (step l b) = (tt, λ _. (tt, λ _. (tt, λ _. (tt, λ u. (lane l u, λ _. (tt, λ _. tt))))))
  guarded (write l s b) =
      (tt, λ _. (tt, λ _. (tt, λ _. (tt, λ u. (lane l u, λ _. (tt, λ v. (tt, λ _. (sector s v, λ _. (sector s v, λ _. (sector s v, λ _. tt))))))))))

module _ (a : List ℕ) (h : Handle) (c : Call) where
  -- the answer at which a walk along the call's order ends
  pub call_walk : {n : ℕ} → Walk number (tests a h) (order c) n → n ≡ call_number a h c
  unfolding call_number
  call_walk w = walked w

  pub call_passed : call_number a h c ≡ 0 → Passed number (tests a h) (order c)
  unfolding call_number
  call_passed e = passed_all number some_number (tests a h) (order c) e
