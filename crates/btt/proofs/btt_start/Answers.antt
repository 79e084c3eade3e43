-- `btt_start` meets its contract: the start by what is seen is the machine's, and its record is kept.
use mathlib.Core.Path.{◌∙◌}
use Rattle.btt.proofs.Laws.{acted, start_is}
use Rattle.btt.proofs.btt_start.Goals as goal

pub returns : goal.returns
returns c =
    let h = c.handle_in-h in
    let t = c.args.table.now in
    let m = c.start_seen-begun in
    start_is c.args.arena.now c.args.handle.now t c.args.lane h.result h.ensures c.args.sector _
    (acted h.result t c.args.lane m.result c.args.arena.now _ c.keep.new.table _ (m.ensures t c.look-seen.ensures) c.keep.ensures.table_after
    (c.number_of.ensures ∙ c.keep.ensures.answer))
