-- `judge::info::info_part` meets its contract, by those of `both_blocks` and `which_counts`.
use Rattle.std.proofs.Common.{◌∙◌}
use Rattle.judge.proofs.Parts.{part_none, part_counts}
use Rattle.judge.proofs.info.info_part.Goals as goal

pub returns-in_err-main : goal.returns-in_err-main
returns-in_err-main c = rw c.from_residual.ensures (part_none _ c.in_err-main.ensures.allowed)

pub returns : goal.returns
returns c = c.which_counts.ensures ∙ rw (c.in_ok-main.ensures.main, c.in_ok-main.ensures.copy) (part_counts _ c.in_ok-main.ensures.allowed)
