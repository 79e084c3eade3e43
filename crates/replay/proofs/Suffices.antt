-- 128 bytes are a byte or more for every 512 bytes of the longest arena, which suffices; and 256 records suffice for any arena.
use mathlib.Core.Path.{refl}
use Prim.Native.Nat.{◌*◌, ◌≤◌}
use native.Mathlib.Omega.{arith}
use lib.ListN.{length, length-replicate}
use borrow.Author.Tests.{leb-true}
use Rattle.layout.specs.Figures.{max_lanes}
use Rattle.layout.specs.Told.{alone_near}
use Rattle.machine.specs.state.Lane.{no_lane}
use Rattle.machine.proofs.opening.Room.{room_suffices, table_suffices}
use Rattle.replay.specs.Transcript.{work_buffer}
use Rattle.replay.specs.Claims.{WorkSuffices, TableSuffices}

enough : 49152 ≤ 512 * length work_buffer
enough = leb-true 49152 (512 * length work_buffer) refl

pub work_suffices : WorkSuffices
work_suffices a room h e = room_suffices alone_near a room (rw e (omega (arith, enough)))

pub records_suffice : TableSuffices
records_suffice a room e = table_suffices alone_near a room (rw (e, length-replicate max_lanes no_lane) (omega arith))
