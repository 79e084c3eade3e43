-- `btt_read` meets its contract: the read by what is seen is the machine's, with the handle that the bytes hold.
use Rattle.btt.proofs.Laws.{read_is}
use Rattle.btt.proofs.btt_read.Goals as goal

pub returns : goal.returns
returns c =
    let h = c.handle_in-h in
    let t = c.args.table.now in
    read_is c.args.arena.now c.args.handle.now t c.args.sector c.args.buffer.now h.result _ h.ensures
    (rw c.number_of.ensures (c.read_seen.ensures t c.look-seen.ensures))
