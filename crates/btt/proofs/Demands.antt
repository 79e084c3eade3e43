-- Demands 2 and 3 for a host's lists: the machine's lists have them, and a host's list is the machine's.
use mathlib.Core.Path.{◌≡◌, refl, sym, ap, ◌∙◌, subst}
use mathlib.Core.List.{List, [], ◌∷◌}
use Prim.Native.Nat.{ℕ}
use Rattle.words.specs.Bytes.{Small}
use Rattle.layout.specs.Told.{alone}
use Rattle.machine.specs.calls.Opening.{Room, figures_in, open_of}
use Rattle.machine.specs.calls.History.{Call, read, start, step, write, State, Event, SmallEvents, opened_from}
use Rattle.machine.specs.calls.Asides.{Happening, latest, latest_of, after_one, AllHarmless}
use Rattle.machine.specs.models.Row.{Keeping, word_by_word, last_buffer, OneBuffer, first_row}
use Rattle.machine.specs.models.Book.{book_after}
use Rattle.machine.specs.claims.DemandTwo.{FollowsRow}
use Rattle.machine.specs.claims.DemandThree.{Listed, AsBooked, AfterCut, Promised}
use Rattle.machine.proofs.invariant.Held.{held_open}
use Rattle.machine.proofs.invariant.Histories.{held_small}
use Rattle.machine.proofs.invariant.Asides.{latest_state, latest_heard}
use Rattle.machine.proofs.row.DemandTwo.{demand_two}
use Rattle.machine.proofs.book.DemandThree.{demand_three}
use Rattle.machine.specs.claims.Rest.{RestKept}
use Rattle.machine.proofs.calls.Rest.{rest_of_blocks}
use Rattle.handlebytes.specs.Bytes.{decode_handle}
use Rattle.btt.specs.Calls.{handle_in, btt_open_of, btt_start_of, btt_step_of, btt_write_of}
use Rattle.btt.specs.HostList.{HostState, opened_host, host_after, StandsFor, SameEvents}
use Rattle.btt.specs.HostDemands.{HostFollowsRow, HostBooked, HostPromised, HostDemands}
use Rattle.btt.proofs.Fits.{layout_held}
use Rattle.btt.proofs.Same.{read_same}
use Rattle.btt.proofs.Listing.{first_same, calls_same, events_same}

-- ---- demand 2: a list through the latest handle alone is a history with nothing beside

plain : List Event → List Happening
plain [] = []
plain (e ∷ es) = latest e ∷ plain es

plain_latest : (es : List Event) → latest_of (plain es) ≡ es
unfolding plain latest_of
plain_latest [] = refl
plain_latest (e ∷ es) = ap (λ (ds : List Event). e ∷ ds) (plain_latest es)

plain_harmless : (d : ℕ) (es : List Event) (x : State) → AllHarmless (alone d) x (plain es)
unfolding plain
plain_harmless d [] x = tt
plain_harmless d (e ∷ es) x = (tt, plain_harmless d es (after_one (alone d) x (latest e)))

module _ (d : ℕ) (a : List ℕ) (room : Room) (es : List Event) (small : Small a) (small_events : SmallEvents es) (z : (open_of (alone d) a room).number ≡ 0) where
  abbrev x : State
  x = opened_from (alone d) a room

  smalls : SmallEvents (latest_of (plain es))
  smalls = rw (plain_latest es) small_events

  same : SameEvents d (opened_host (btt_open_of d a room)) x es
  same =
      events_same d (opened_host (btt_open_of d a room)) x es (first_same d a room small z)
      (held_small (alone d) x (held_open (alone d) a room small z))

  -- whatever the row keeps, the host follows it where the machine does
  host_follows : (keep : Keeping) → FollowsRow keep (alone d) a room (plain es) → HostFollowsRow keep d a room es
  host_follows keep follows =
      let heard = rw (plain_latest es) at (latest_heard (alone d) (plain es) x (plain_harmless d es x)) in
      let left = rw (plain_latest es) at (latest_state (alone d) (plain es) x (plain_harmless d es x)) in
      record {
        replies = same.replies ∙ sym heard ∙ (rw (plain_latest es) at follows.replies);
        reads = λ s buffer. read_same _ _ _ _ s buffer (record { handle = same.leaves.handle; table = same.leaves.table })
            ∙ rw same.leaves.arena (rw (left, plain_latest es) at (follows.reads s buffer));
        layout = layout_held _ _ same.leaves.handle ∙ (rw left at follows.layout);
      }

  host_words : HostFollowsRow word_by_word d a room es
  host_words = host_follows word_by_word (demand_two.words d a room (plain es) small smalls z (plain_harmless d es x))

  host_one : OneBuffer (figures_in a) (first_row (opened_from (alone d) a room)) es → HostFollowsRow last_buffer d a room es
  host_one one = host_follows last_buffer (demand_two.follows d a room (plain es) small smalls z (plain_harmless d es x) (rw (plain_latest es) one))

-- ---- demand 3

module _ (d : ℕ) (y : HostState) (x : State) (cs : List Call) (bytes : ℕ → List ℕ) (k : StandsFor y x) (l : Listed (alone d) x cs bytes) where
  promised : Promised (alone d) x cs bytes
  promised = demand_three.promised d x cs bytes l

  host_booked : (p : List Call) → AsBooked (alone d) x bytes p → HostBooked d y x bytes p
  host_booked p b =
      let s = calls_same y x p k in
      record { answers = s.replies ∙ b.answers; arena = λ stores m. s.leaves.arena ∙ b.arena stores m }

  host_promised : HostPromised d y x cs bytes
  host_promised = record {
    booked = λ p rest e. host_booked p (promised.booked p rest e);
    cut_booked = λ p rest e. host_booked p (promised.cut_booked p rest e);
    cut = λ p rest e room u.
        subst (λ (a : List ℕ). AfterCut (alone d) x.arena x.handle bytes a (book_after (alone d) x.arena [] p) room)
        (sym (calls_same y x p k).leaves.arena) (promised.cut p rest e room u);
    any_cut = promised.any_cut;
  }

-- ---- the rest of a block: a host's call leaves the machine's arena

host_rest : (y : HostState) (c : Call) → Small y.arena → RestKept (decode_handle y.handle).figures y.arena (host_after y c).arena
unfolding btt_start_of btt_step_of btt_write_of
host_rest y (read s buffer) small = rest_of_blocks.calls y.arena (handle_in y.handle y.table) (read s buffer) small
host_rest y (start l s) small = rest_of_blocks.calls y.arena (handle_in y.handle y.table) (start l s) small
host_rest y (step l buffer) small = rest_of_blocks.calls y.arena (handle_in y.handle y.table) (step l buffer) small
host_rest y (write l s buffer) small = rest_of_blocks.calls y.arena (handle_in y.handle y.table) (write l s buffer) small

host_rest_opening : (d : ℕ) (a : List ℕ) (room : Room) → Small a → RestKept (figures_in a) a (btt_open_of d a room).arena
unfolding btt_open_of
host_rest_opening d a room small = rest_of_blocks.opening d a room small

pub host_demands : HostDemands
host_demands = record { two_words = host_words; two = host_one; three = host_promised; rest = host_rest; rest_opening = host_rest_opening }
