-- `btt_step` meets its contract: the step by what is seen is the machine's, and its record is kept.
use mathlib.Core.Path.{◌∙◌}
use Rattle.btt.proofs.Laws.{acted, step_is}
use Rattle.btt.proofs.btt_step.Goals as goal

pub returns : goal.returns
returns c =
    let h = c.handle_in-h in
    let t = c.args.table.now in
    let m = c.step_seen-stepped in
    step_is c.args.arena.now c.args.handle.now t c.args.lane h.result h.ensures c.args.buffer.now _
    (acted h.result t c.args.lane m.result m.new.arena _ c.keep.new.table _ (m.ensures t c.look-seen.ensures) c.keep.ensures.table_after
    (c.number_of.ensures ∙ c.keep.ensures.answer))
