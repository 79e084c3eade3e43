-- `btt::inspect::info_span` meets its contract: the place is that of the part that counts, and a copy that counts is in an arena of an
-- allowed length.
use Rattle.std.proofs.Common.{sym, arith}
use Rattle.judge.proofs.Parts.{copy_part}
use Rattle.btt.specs.Calls.{btt_info_block_of}
use Rattle.btt.proofs.inspect.info_span.Goals as goal

pub overflow_sub-result : goal.overflow_sub-result
overflow_sub-result c = omega (arith, (copy_part _ (sym (rw c.in-Some-Copy.field-0-is at c.in-Some-Copy.ensures))).0)

pub returns-in-Some-Main : goal.returns-in-Some-Main
unfolding btt_info_block_of
returns-in-Some-Main c = rw (sym (rw c.in-Some-Main.field-0-is at c.in-Some-Main.ensures))

pub returns-in-Some-Copy : goal.returns-in-Some-Copy
unfolding btt_info_block_of
returns-in-Some-Copy c = rw (sym (rw c.in-Some-Copy.field-0-is at c.in-Some-Copy.ensures))

pub returns-in-None : goal.returns-in-None
unfolding btt_info_block_of
returns-in-None c = rw (sym c.in-None.ensures)
