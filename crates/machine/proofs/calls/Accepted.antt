-- What an accepted call passed, each rule by name: the order of the rules matters here and nowhere after.
use mathlib.Core.Path.{◌≡◌}
use mathlib.Core.Bool.{true, false}
use mathlib.Core.List.{List}
use Prim.Native.Nat.{ℕ, ◌≤◌, ◌<◌}
use lib.ListN.{length}
use borrow.Author.Tests.{eqb-true, leb-false, ltb-false, not-false}
use Rattle.format.specs.MapWord.{bad_word, sloppy_word}
use Rattle.machine.specs.Rules.{answer}
use Rattle.machine.specs.state.Lane.{is_busy}
use Rattle.machine.specs.state.Handle.{Handle, bare_of, lane_at, laid_out, handle_allowed, table_short, records_allowed}
use Rattle.machine.specs.state.Flog.{map_word}
use Rattle.machine.specs.calls.Order.{read, start, step, write, bad_handle, short_table, bad_records, bad_sector}
use Rattle.machine.specs.calls.Judging.{in_flight, tests, call_number}
use Rattle.machine.proofs.rules.Running.{call_passed}

module _ (a : List ℕ) (h : Handle) where
  -- the first three rules of every call: the handle, the table's length and the lanes' records
  pub record Judged : Type 0 where
    pub handle : handle_allowed (bare_of h) (length a) ≡ true
    pub long : h.figures.lanes ≤ length h.table
    pub records : records_allowed h ≡ true

  pub judged : tests a h bad_handle ≡ false → tests a h short_table ≡ false → tests a h bad_records ≡ false → Judged
  unfolding table_short
  judged p q r = record { handle = not-false _ p; long = ltb-false _ _ q; records = not-false _ r }

  pub record ReadFound (s : ℕ) (buffer : List ℕ) : Type 0 where
    pub judged : Judged
    pub sector : s < h.figures.sectors
    pub size : length buffer ≡ h.figures.size
    pub word : bad_word h.figures.blocks (map_word (laid_out h) a s) ≡ false
    pub clean : sloppy_word (map_word (laid_out h) a s) ≡ false
    pub not_bad : tests a h (bad_sector s) ≡ false

  pub read_found : (s : ℕ) (buffer : List ℕ) → call_number a h (read s buffer) ≡ 0 → ReadFound s buffer
  read_found s buffer e =
      let p = call_passed a h (read s buffer) e in
      record {
        judged = judged p.0 p.1.0 p.1.1.0;
        sector = leb-false _ _ p.1.1.1.0;
        size = eqb-true _ _ (not-false _ p.1.1.1.1.0);
        word = p.1.1.1.1.1.0;
        clean = p.1.1.1.1.1.1.0;
        not_bad = p.1.1.1.1.1.1.1.0;
      }

  pub record StartFound (l s : ℕ) : Type 0 where
    pub judged : Judged
    pub lane : l < h.figures.lanes
    pub idle : is_busy (lane_at h.table l) ≡ false
    pub sector : s < h.figures.sectors
    pub free : in_flight h.table h.figures.lanes s ≡ false
    pub word : bad_word h.figures.blocks (map_word (laid_out h) a s) ≡ false
    pub clean : sloppy_word (map_word (laid_out h) a s) ≡ false

  pub start_found : (l s : ℕ) → call_number a h (start l s) ≡ 0 → StartFound l s
  start_found l s e =
      let p = call_passed a h (start l s) e in
      record {
        judged = judged p.0 p.1.0 p.1.1.0;
        lane = leb-false _ _ p.1.1.1.0;
        idle = p.1.1.1.1.0;
        sector = leb-false _ _ p.1.1.1.1.1.0;
        free = p.1.1.1.1.1.1.0;
        word = p.1.1.1.1.1.1.1.0;
        clean = p.1.1.1.1.1.1.1.1.0;
      }

  pub record StepFound (l : ℕ) (buffer : List ℕ) : Type 0 where
    pub judged : Judged
    pub lane : l < h.figures.lanes
    pub busy : is_busy (lane_at h.table l) ≡ true
    pub size : length buffer ≡ h.figures.size

  pub step_found : (l : ℕ) (buffer : List ℕ) → call_number a h (step l buffer) ≡ 0 → StepFound l buffer
  step_found l buffer e =
      let p = call_passed a h (step l buffer) e in
      record {
        judged = judged p.0 p.1.0 p.1.1.0;
        lane = leb-false _ _ p.1.1.1.0;
        busy = not-false _ p.1.1.1.1.0;
        size = eqb-true _ _ (not-false _ p.1.1.1.1.1.0);
      }

  -- an accepted whole write would be accepted as a start
  pub record WriteFound (l s : ℕ) (buffer : List ℕ) : Type 0 where
    pub start : call_number a h (start l s) ≡ 0
    pub size : length buffer ≡ h.figures.size

  pub write_found : (l s : ℕ) (buffer : List ℕ) → call_number a h (write l s buffer) ≡ 0 → WriteFound l s buffer
  unfolding call_number answer
  write_found l s buffer e =
      let size = (call_passed a h (write l s buffer) e).1.1.1.1.1.1.0 in
      record { start = rw size at e; size = eqb-true _ _ (not-false _ size) }
