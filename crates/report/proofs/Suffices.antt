-- 128 bytes are a byte for every 512 bytes of the longest input, which suffices; a table of 256 records suffices for any arena; and of 65,536
-- bytes four parts of 4,096 are no data, so that there are at most 96 blocks, of which at most half are the lanes'.
use mathlib.Core.Path.{refl}
use Prim.Native.Nat.{ℕ, ◌*◌, ◌≤◌}
use native.Mathlib.Nat.{mul-le-mul_left}
use native.Mathlib.Omega.{arith}
use lib.ListN.{length, length-replicate}
use borrow.Author.Tests.{leb-true}
use Rattle.layout.specs.Figures.{Allowed, max_lanes, fresh_length}
use Rattle.layout.specs.Sizes.{internal_of}
use Rattle.layout.specs.Told.{alone_near}
use Rattle.layout.specs.declared.Figures.{Figures}
use Rattle.layout.proofs.Allowed.{pair_fitting}
use Rattle.machine.specs.state.Lane.{no_lane}
use Rattle.machine.specs.calls.Opening.{extent_of, open_of}
use Rattle.machine.proofs.opening.Described.{described_figures}
use Rattle.machine.proofs.opening.Opens.{open_zero, opened_figures}
use Rattle.machine.proofs.opening.Room.{room_suffices, table_suffices}
use Rattle.report.specs.Report.{work_buffer, lent}
use Rattle.report.specs.Claims.{WorkSuffices, TableSuffices, FewLanes}

enough : 65536 ≤ 512 * length work_buffer
enough = leb-true 65536 (512 * length work_buffer) refl

pub work_suffices : WorkSuffices
work_suffices a h = room_suffices alone_near a lent (omega (arith, enough))

pub records_suffice : TableSuffices
records_suffice a = table_suffices alone_near a lent (rw (length-replicate max_lanes no_lane) (omega arith))

-- figures that are allowed in so many bytes
few : (f : Figures) (n : ℕ) → Allowed f n → n ≤ 65536 → f.lanes ≤ 48
few f n ok h =
    let z = pair_fitting _ _ ok.sizes in
    let i : 512 ≤ f.internal = omega arith in
    let m : f.blocks * 512 ≤ f.blocks * f.internal = mul-le-mul_left f.blocks i in
    let copy : f.copyoff ≤ 61440 = omega (arith, ok.copy-start) in
    let flog : f.flogoff ≤ 57344 = omega (arith, ok.flog_end, ok.some_lane, ok.flog_aligned, ok.copy_aligned) in
    let map : f.mapoff ≤ 53248 = omega (arith, ok.map_end, ok.sectors, ok.some_lane, ok.map_aligned, ok.flog_aligned) in
    omega (arith, ok.data_start, ok.data-end, ok.blocks, ok.sectors)

pub few_lanes : FewLanes
few_lanes = record {
  few = λ a h e.
      let k = open_zero alone_near a (extent_of lent) (unfold open_of in e) in
      rw (opened_figures alone_near a lent e) (few _ _ (described_figures alone_near a k.0.info) h);
  most = unfold fresh_length internal_of in refl;
}
