-- What opens stays clean: rule 18 lets the arena pass whatever was called, and the row, which answers alike, never answers 18.
use mathlib.Core.Path.{◌≡◌, refl, subst}
use mathlib.Core.Logic.{◌≢◌}
use mathlib.Core.Bool.{false}
use mathlib.Core.List.{List}
use Prim.Native.Nat.{ℕ}
use native.Mathlib.Omega.{arith}
use lib.ListN.{length}
use Rattle.words.specs.Bytes.{Small}
use Rattle.layout.specs.Told.{alone}
use Rattle.layout.specs.declared.Figures.{Figures}
use Rattle.layout.proofs.Allowed.{allowed_of}
use Rattle.machine.specs.calls.Order.{
  Rule,
  bad_handle,
  short_table,
  bad_records,
  no_such_sector,
  wrong_buffer,
  no_such_lane,
  lane_busy,
  lane_idle,
  sector_busy,
  bad_map_word,
  sloppy_map_word,
  bad_sector,
  number,
  order,
}
use Rattle.machine.specs.calls.Opening.{
  Room,
  Extent,
  extent_of,
  OpenRule,
  wrong_layout,
  wrong_length,
  no_info_block,
  forbidden_figure,
  flags_set,
  short_work,
  few_records,
  lost_lane,
  bad_words,
  sloppy_arena,
  not_valid,
  number_open,
  order_open,
  figures_in,
  open_of,
}
use Rattle.machine.specs.calls.History.{Call, read, start, step, write, State, Reply, Event, called, opened, opened_from, SmallEvents}
use Rattle.machine.specs.calls.Asides.{Happening, latest_of, AllHarmless}
use Rattle.machine.specs.models.Row.{
  Row,
  word_by_word,
  row_tests,
  row_number,
  row_read,
  row_reply,
  row_open_tests,
  row_open_number,
  row_after_event,
  row_reply_event,
  first_row,
}
use Rattle.machine.specs.words.Valid.{Clean}
use Rattle.machine.specs.claims.DemandTwo.{leaves}
use Rattle.machine.specs.claims.Written.{StaysClean}
use Rattle.machine.proofs.rules.Rules.{answer_not}
use Rattle.machine.proofs.rules.Runs.{says_each}
use Rattle.machine.proofs.opening.Described.{described_distance}
use Rattle.machine.proofs.opening.Clean.{tidy_clean}
use Rattle.machine.proofs.invariant.Good.{good_figures}
use Rattle.machine.proofs.invariant.Held.{held_open}
use Rattle.machine.proofs.invariant.Asides.{latest_state}
use Rattle.machine.proofs.invariant.Histories.{HeldIn, held_small, held_events}
use Rattle.machine.proofs.row.Follows.{words_follow}

-- ---- the row never answers 18

module _ (f : Figures) (row : Row) where
  no_rule : (r : Rule) → number r ≡ 18 → row_tests f row r ≡ false
  no_rule bad_handle e = absurd (omega arith)
  no_rule short_table e = absurd (omega arith)
  no_rule bad_records e = absurd (omega arith)
  no_rule (no_such_sector s) e = absurd (omega arith)
  no_rule (wrong_buffer n) e = absurd (omega arith)
  no_rule (no_such_lane l) e = absurd (omega arith)
  no_rule (lane_busy l) e = absurd (omega arith)
  no_rule (lane_idle l) e = absurd (omega arith)
  no_rule (sector_busy s) e = absurd (omega arith)
  no_rule (bad_map_word s) e = absurd (omega arith)
  no_rule (sloppy_map_word s) e = refl
  no_rule (bad_sector s) e = absurd (omega arith)

  call_not : (c : Call) → row_number f row c ≢ 18
  unfolding row_number
  call_not c = answer_not number (row_tests f row) 18 (λ e. omega arith) no_rule (order c)

open_rule : (f : Figures) (room : Extent) (r : OpenRule) → number_open r ≡ 18 → row_open_tests f room r ≡ false
open_rule f room wrong_layout e = absurd (omega arith)
open_rule f room wrong_length e = absurd (omega arith)
open_rule f room no_info_block e = absurd (omega arith)
open_rule f room forbidden_figure e = absurd (omega arith)
open_rule f room flags_set e = absurd (omega arith)
open_rule f room short_work e = absurd (omega arith)
open_rule f room few_records e = absurd (omega arith)
open_rule f room lost_lane e = absurd (omega arith)
open_rule f room bad_words e = absurd (omega arith)
open_rule f room sloppy_arena e = refl
open_rule f room not_valid e = absurd (omega arith)

open_not : (f : Figures) (room : Extent) → row_open_number f room ≢ 18
unfolding row_open_number
open_not f room = answer_not number_open (row_open_tests f room) 18 (λ e. omega arith) (open_rule f room) order_open

abbrev Not18 : Reply → Type 0
Not18 r = r.number ≢ 18

reply_not : (f : Figures) (row : Row) (e : Event) → Not18 (row_reply_event f row e)
unfolding row_reply_event row_reply row_read
reply_not f row (called (read s buffer)) = call_not f row (read s buffer)
reply_not f row (called (start l s)) = call_not f row (start l s)
reply_not f row (called (step l buffer)) = call_not f row (step l buffer)
reply_not f row (called (write l s buffer)) = call_not f row (write l s buffer)
reply_not f row (opened work) = open_not f (extent_of work)

-- ---- the claim

-- what is held is clean
held_clean_bytes : (d : ℕ) (x : State) → HeldIn (alone d) x → Clean d x.handle.figures x.arena
held_clean_bytes d x k =
    let ok = allowed_of x.handle.figures (length x.arena) (good_figures (alone d) x.arena x.handle.distance x.handle.figures x.handle.table k.good) in
    tidy_clean d (described_distance (alone d) x.arena k.good.info) x.handle.figures (length x.arena) ok x.arena (held_small (alone d) x k)
    (rw (← k.good.distance) at k.good.inv.tidy)

pub stays_clean : (d : ℕ) (a : List ℕ) (work : Room) (hs : List Happening) → Small a → SmallEvents (latest_of hs) → (open_of (alone d) a work).number ≡ 0
    → AllHarmless (alone d) (opened_from (alone d) a work) hs → StaysClean d a work hs
stays_clean d a work hs small smalls e harmless =
    let follows = words_follow (alone d) a work hs small smalls e harmless in
    record {
      clean = subst (λ (f : Figures). Clean d f (leaves (alone d) a work hs).arena) follows.handle (held_clean_bytes d (leaves (alone d) a work hs) held);
      never = rw follows.replies
          (says_each (row_after_event word_by_word (figures_in a)) (row_reply_event (figures_in a)) Not18 (reply_not (figures_in a)) (latest_of hs) (first_row (opened_from (alone d) a work)));
    }
  where
    held : HeldIn (alone d) (leaves (alone d) a work hs)
    held = rw (latest_state (alone d) hs (opened_from (alone d) a work) harmless)
        (held_events (alone d) (opened_from (alone d) a work) (latest_of hs) smalls (held_open (alone d) a work small e))
