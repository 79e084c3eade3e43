-- `put_answer` meets its contract: past the end of the buffer, setting a place changes nothing.
use mathlib.Core.Path.{sym}
use lib.Seq.{set_out}
use Rattle.replaying.proofs.put_answer.Goals as goal

pub returns-else-index-answers : goal.returns-else-index-answers
returns-else-index-answers c = sym (set_out _ _ _ c.if-index-answers.false)
