-- `fletcher::columns::plus_row` meets its contract. The invariant: the first j columns are stored.
use Rattle.std.proofs.Common.{◌+◌, ◌%◌, get_or, sym, ◌∙◌, arith, length-set}
use Rattle.fletcher.specs.Columns.{plus}
use Rattle.fletcher.proofs.Rows.{length-plus, get_d_plus, stored_next, all_stored}
use Rattle.fletcher.proofs.columns.plus_row.Goals as goal

pub loop-j-preserved : goal.loop-j-preserved
loop-j-preserved c =
    let l = c.loop-j in
    let args = c.args in
    let xy = l.invariant.1 ∙ sym l.invariant.2 in
    let e = length-plus args.x args.y xy in
    let v = (get_or args.x l.j 0 + get_or args.y l.j 0) % 4294967296 in (
      length-set l.row l.j v ∙ l.invariant.0,
      l.invariant.1,
      l.invariant.2,
      stored_next l.row (plus args.x args.y) l.j v (omega arith) (omega arith) l.invariant.3 (sym (get_d_plus args.x args.y l.j xy (omega arith))),
    )

pub returns : goal.returns
returns c =
    let l = c.loop-j in
    let args = c.args in
    let e = length-plus args.x args.y (l.invariant.1 ∙ sym l.invariant.2) in
    all_stored l.row (plus args.x args.y) l.j (omega arith) (omega arith) l.invariant.3
