-- The replay lends to an opening the table as the last call left it, and its history a fresh one: both give the same, since the records
-- past the lanes are never changed, and those of the lanes are set.
use mathlib.Core.Path.{◌≡◌, sym, ◌∙◌}
use mathlib.Core.List.{List}
use Prim.Native.Nat.{ℕ, ◌+◌, ◌≤◌}
use native.Mathlib.Omega.{arith}
use lib.ListN.{length, drop, length-drop}
use lib.Seq.{ext_get_or, get_or-drop}
use Rattle.layout.specs.Place.{layout_of}
use Rattle.layout.specs.Told.{alone_near}
use Rattle.machine.specs.declared.lane.Lane.{Lane}
use Rattle.machine.specs.state.Handle.{Handle, lane_at}
use Rattle.machine.specs.state.Lane.{no_lane}
use Rattle.machine.specs.calls.Opening.{figures_in, handle_for, work_after, open_of}
use Rattle.machine.specs.calls.History.{Call, after}
use Rattle.machine.proofs.calls.Lent.{table_claim}
use Rattle.replaying.specs.Replay.{own_table, room_of}

-- a table that is like the replay's own at first, but for the records of n lanes
pub record Spare (n : ℕ) (t : List Lane) : Type 0 where
  pub size : length t ≡ length own_table
  pub past : (l : ℕ) → n ≤ l → lane_at t l ≡ lane_at own_table l

-- a call keeps it
pub spare_call : (a : List ℕ) (h : Handle) (c : Call) → Spare h.figures.lanes h.table
    → Spare h.figures.lanes (after (record { arena = a; handle = h }) c).handle.table
spare_call a h c s =
    let k = table_claim.calls a h c in
    record { size = k.size ∙ s.size; past = λ l u. k.past l u ∙ s.past l u }

-- an opening with the own table gives such a one
pub spare_open : (a work : List ℕ) → Spare (figures_in a).lanes (open_of alone_near a (room_of work own_table)).handle.table
spare_open a work = record {
  size = table_claim.opening_size 16 a (room_of work own_table);
  past = table_claim.opening 16 a (room_of work own_table);
}

module _ (a work : List ℕ) (t : List Lane) (s : Spare (figures_in a).lanes t) where
  -- past the lanes it is the own table
  rest_same : drop (figures_in a).lanes t ≡ drop (figures_in a).lanes own_table
  rest_same =
      let n = (figures_in a).lanes in
      ext_get_or no_lane (drop n t) (drop n own_table) (length-drop n t ∙ rw s.size (sym (length-drop n own_table)))
      (λ i _. get_or-drop n t i no_lane ∙ s.past (n + i) (omega arith) ∙ sym (get_or-drop n own_table i no_lane))

  handle_same : handle_for alone_near a t ≡ handle_for alone_near a own_table
  unfolding handle_for layout_of
  handle_same = rw rest_same

  -- an opening that is accepted gives the same with it
  pub open_same : (open_of alone_near a (room_of work own_table)).number ≡ 0
      → open_of alone_near a (room_of work t) ≡ open_of alone_near a (room_of work own_table)
  unfolding open_of work_after
  open_same e = rw (s.size, e, handle_same)
