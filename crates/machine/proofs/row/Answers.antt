-- Every call answers as the row does, and a read gives what the row has: 16, 21, 7 and 18 never apply, and the other tests are one by one
-- those of the row.
use mathlib.Core.Path.{◌≡◌, refl, sym, ap, ◌∙◌}
use mathlib.Core.List.{List}
use mathlib.Core.Bool.{not, ◌&&◌}
use Prim.Native.Nat.{ℕ, ◌<◌}
use lib.Dec.{eqb}
use borrow.Author.Tests.{leb-false}
use Rattle.format.specs.Tests.{some}
use Rattle.format.specs.MapWord.{flags_of, reading_of}
use Rattle.machine.specs.state.Flog.{map_word}
use Rattle.format.proofs.Tests.{by_bool, some_same}
use Rattle.machine.specs.Rules.{answer}
use Rattle.machine.specs.declared.lane.Lane.{Lane}
use Rattle.machine.specs.state.Handle.{Handle, lane_at, laid_out}
use Rattle.machine.specs.calls.Reading.{read_of}
use Rattle.machine.specs.calls.Judging.{in_flight, tests, call_number}
use Rattle.machine.specs.calls.Order.{
  Call,
  Rule,
  bad_handle,
  short_table,
  bad_records,
  no_such_sector,
  wrong_buffer,
  no_such_lane,
  lane_busy,
  lane_idle,
  sector_busy,
  bad_map_word,
  sloppy_map_word,
  bad_sector,
  number,
  order,
}
use Rattle.machine.specs.models.Row.{is_bad, is_flying, flies_to, Row, row_tests, row_number, row_read}
use Rattle.machine.proofs.invariant.Held.{held_allowed, held_short, held_records, held_word, held_clean, lanes-in, sectors_in}
use Rattle.machine.proofs.rules.Rules.{alike}
use Rattle.machine.proofs.rules.Running.{Needs, guarded}
use Rattle.machine.proofs.row.Contents.{content_of}
use Rattle.machine.proofs.row.Reads.{held_read, read_past}
use Rattle.machine.proofs.row.State.{flight_of, Rep}
use Rattle.machine.specs.state.Lane.{is_busy}
use Rattle.layout.specs.declared.Told.{Told}

flying_busy : (r : Lane) (bytes : List ℕ) → is_flying (flight_of r bytes) ≡ is_busy r
flying_busy r bytes = by_bool (is_busy r) _ (λ t. rw t) (λ t. rw t)

flying_to : (r : Lane) (bytes : List ℕ) (s : ℕ) → flies_to s (flight_of r bytes) ≡ is_busy r && eqb r.sector.0 s
flying_to r bytes s = by_bool (is_busy r) _ (λ t. rw t) (λ t. rw t)

module _ (τ : Told) where
  module _ (row : Row) (a : List ℕ) (h : Handle) (k : Rep τ row a h) where
    pub busy_is : (l : ℕ) → l < h.figures.lanes → is_busy (lane_at h.table l) ≡ is_flying (row.lane l)
    busy_is l u =
        let w = k.lane l (lanes-in h.distance h.figures l u) in
        sym (ap is_flying w.is ∙ flying_busy (lane_at h.table l) w.bytes)

    flight_is : (s : ℕ) → in_flight h.table h.figures.lanes s ≡ some h.figures.lanes (λ j. flies_to s (row.lane j))
    unfolding in_flight
    flight_is s =
        some_same h.figures.lanes (λ l. is_busy (lane_at h.table l) && eqb (lane_at h.table l).sector.0 s) (λ j. flies_to s (row.lane j))
        (λ l u. let w = k.lane l (lanes-in h.distance h.figures l u) in
        sym (ap (flies_to s) w.is ∙ flying_to (lane_at h.table l) w.bytes s))

    bad_is : (s : ℕ) → s < h.figures.sectors → eqb (reading_of (flags_of (map_word (laid_out h) a s))) 1 ≡ is_bad (row.sector s)
    unfolding content_of
    bad_is s u = rw (k.sector s (sectors_in h.distance h.figures s u)) (by_bool (eqb (reading_of (flags_of (map_word (laid_out h) a s))) 1) _ (λ t. rw t) (λ t. rw t))

    agree : (r : Rule) → Needs h.figures r → tests a h r ≡ row_tests h.figures row r
    agree bad_handle u = rw (held_allowed τ a h k.held)
    agree short_table u = held_short τ a h k.held
    agree bad_records u = rw (held_records τ a h k.held)
    agree (no_such_sector s) u = refl
    agree (wrong_buffer n) u = refl
    agree (no_such_lane l) u = refl
    agree (lane_busy l) u = busy_is l u
    agree (lane_idle l) u = ap not (busy_is l u)
    agree (sector_busy s) u = flight_is s
    agree (bad_map_word s) u = held_word τ a h k.held s u
    agree (sloppy_map_word s) u = held_clean τ a h k.held s u
    agree (bad_sector s) u = bad_is s u

    pub number_is : (c : Call) → call_number a h c ≡ row_number h.figures row c
    unfolding call_number row_number
    number_is c = alike number (Needs h.figures) (row_tests h.figures row) (tests a h) agree (order c)
        (guarded h.figures (row_tests h.figures row) (λ l. leb-false _ l) (λ s. leb-false _ s) c)

    pub read_is : (s : ℕ) (buffer : List ℕ) → read_of a h s buffer ≡ row_read h.figures row s buffer
    unfolding row_read row_number answer
    read_is s buffer =
        held_read τ a h k.held s buffer
        ∙ read_past h.figures (content_of h.distance h.figures a s) (row.sector s) s buffer (λ u. sym (k.sector s (sectors_in h.distance h.figures s u)))
