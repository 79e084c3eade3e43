-- A write in flight: its layout, and what it stores.
use Rattle.std.specs.Prelude.{List, ℕ}
use Rattle.layout.specs.Place.{Layout, layout_of}
use Rattle.machine.specs.state.Stores.{Store}
use Rattle.machine.specs.calls.Writing.{plan_of, store_at}
use Rattle.stores.specs.declared.WriteInFlight.{WriteInFlight}
use Rattle.stores.specs.Record.{with_stores}

abbrev pub layout : WriteInFlight → Layout
layout w = layout_of w.handle.distance w.handle.figures

-- store k of the write, of a buffer with those bytes
abbrev pub nth_store : WriteInFlight → List ℕ → ℕ → Store
nth_store w bytes k = store_at (layout w) (plan_of w.lane.0 w.own) bytes k

-- an arena with the write's first k stores
abbrev pub with_first : WriteInFlight → List ℕ → ℕ → List ℕ → List ℕ
with_first w bytes k a = with_stores w.handle.distance w.handle.figures w.lane.0 w.own bytes k a
