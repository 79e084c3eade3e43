-- Records that the definitions give, field by field.
use mathlib.Core.Path.{◌≡◌, refl}
use mathlib.Core.List.{List}
use Prim.Native.Nat.{ℕ}
use Rattle.machine.specs.declared.lane.Lane.{Lane}
use Rattle.machine.specs.state.Lane.{idle_lane, started_lane, stored_lane}
use Rattle.machine.specs.state.Handle.{no_figures, no_handle}
use Rattle.machine.specs.words.Records.{Idle, Started, OneMore, ZeroFigures, ZeroHandle}

pub idle_fields : (b h q : ℕ) → Idle b h q (idle_lane b h q)
idle_fields b h q = record { busy = refl; block = refl; half = refl; sequence = refl; sector = refl; old = refl; made = refl }

pub idle_is : (b h q : ℕ) (r : Lane) → r ≡ idle_lane b h q → Idle b h q r
idle_is b h q r e = rw e (idle_fields b h q)

-- the fields are the whole record
same_lane : (r s : Lane) → r.busy ≡ s.busy → r.block.0 ≡ s.block.0 → r.half ≡ s.half → r.sequence.0 ≡ s.sequence.0
    → r.sector.0 ≡ s.sector.0 → r.old.0 ≡ s.old.0 → r.made ≡ s.made → r ≡ s
same_lane r s u b h q e o m = rw (← u, ← b, ← h, ← q, ← e, ← o, ← m)

pub idle_whole : (b h q : ℕ) (r : Lane) → Idle b h q r → r ≡ idle_lane b h q
idle_whole b h q r i = same_lane r (idle_lane b h q) i.busy i.block i.half i.sequence i.sector i.old i.made

pub started_fields : (r : Lane) (s o : ℕ) → Started r s o (started_lane r s o)
started_fields r s o = record { busy = refl; block = refl; half = refl; sequence = refl; sector = refl; old = refl; made = refl }

pub stored_fields : (r : Lane) → OneMore r (stored_lane r)
stored_fields r = record { busy = refl; block = refl; half = refl; sequence = refl; sector = refl; old = refl; made = refl }

pub zero_figures : ZeroFigures no_figures
zero_figures =
    record {
      size = refl;
      sectors = refl;
      internal = refl;
      blocks = refl;
      lanes = refl;
      data_start = refl;
      map-start = refl;
      flog-start = refl;
      copy-start = refl;
    }

pub zero-handle : (table : List Lane) → ZeroHandle (no_handle table)
zero-handle table = record { total = refl; distance = refl; figures = zero_figures }
