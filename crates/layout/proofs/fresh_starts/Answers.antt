-- `layout::fresh_starts` meets its contract. Allowed sizes bound the data, so that no sum wraps.
use native.Mathlib.Omega.{arith}
use Rattle.layout.proofs.Bounds.{data_small, sizes_small}
use Rattle.layout.proofs.fresh_starts.Goals as goal

pub overflow_mul-blocks : goal.overflow_mul-blocks
overflow_mul-blocks c =
    let a = c.args in
    let p = data_small a.size a.sectors a.lanes c.requires (omega arith) c.internal_size.result c.internal_size.ensures in
    omega arith

pub overflow_add-blocks-2 : goal.overflow_add-blocks-2
overflow_add-blocks-2 c =
    let a = c.args in
    let p = data_small a.size a.sectors a.lanes c.requires (omega arith) c.internal_size.result c.internal_size.ensures in
    omega arith

pub overflow_add-mapoff : goal.overflow_add-mapoff
overflow_add-mapoff c =
    let a = c.args in
    let p = data_small a.size a.sectors a.lanes c.requires (omega arith) c.internal_size.result c.internal_size.ensures in
    omega arith

pub overflow_add-flogoff : goal.overflow_add-flogoff
overflow_add-flogoff c =
    let a = c.args in
    let q = sizes_small a.size a.sectors a.lanes c.requires in
    let p = data_small a.size a.sectors a.lanes c.requires (omega arith) c.internal_size.result c.internal_size.ensures in
    omega (arith, q.1)

pub round_up-mapoff-requires : goal.round_up-mapoff-requires
round_up-mapoff-requires c =
    let a = c.args in
    let p = data_small a.size a.sectors a.lanes c.requires (omega arith) c.internal_size.result c.internal_size.ensures in
    omega arith

pub round_up-flogoff-requires : goal.round_up-flogoff-requires
round_up-flogoff-requires c =
    let a = c.args in
    let p = data_small a.size a.sectors a.lanes c.requires (omega arith) c.internal_size.result c.internal_size.ensures in
    omega arith

pub round_up-copyoff-requires : goal.round_up-copyoff-requires
round_up-copyoff-requires c =
    let a = c.args in
    let q = sizes_small a.size a.sectors a.lanes c.requires in
    let p = data_small a.size a.sectors a.lanes c.requires (omega arith) c.internal_size.result c.internal_size.ensures in
    omega (arith, q.1)
