-- `btt_open` meets its contract: the arena's opening, with the table filled by the handle that it gave.
use Rattle.std.proofs.Common.{refl}
use Rattle.btt.proofs.Laws.{open_is}
use Rattle.btt.proofs.btt_open.Goals as goal

pub returns : goal.returns
returns c =
    let o = c.open-opened in
    let g = c.give.ensures in
    open_is c.args.layout c.args.arena.now c.args.work.now c.args.table.now o.result o.new.arena o.new.work c.fill_opened.new.table _ _ _
    (o.ensures.for_table c.args.table.now refl) c.fill_opened.ensures g.value g.mended_after g.handle_after
