-- `judge::info::info_block` meets its contract, by those of `both_blocks` and `counting`.
use Rattle.infoblock.specs.Info.{info_block_of}
use Rattle.infoblock.proofs.InfoBlock.{info_in}
use Rattle.judge.proofs.info.info_block.Goals as goal

pub returns-in_err-main-clause-bytes : goal.returns-in_err-main-clause-bytes
unfolding info_block_of
returns-in_err-main-clause-bytes c = rw c.from_residual.ensures (rw c.in_err-main.ensures.allowed)

pub returns-clause-bytes : goal.returns-clause-bytes
returns-clause-bytes c =
    let e = info_in c.args.arena.now c.in_ok-main.ensures.allowed in
    let m = c.in_ok-main.ensures.main in
    let n = c.in_ok-main.ensures.copy in
    rw (e, ← m, ← n) c.counting.ensures.bytes
