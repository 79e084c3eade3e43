-- `writing::after_store` meets its contract: the last store finishes the record, another counts.
use mathlib.Core.Path.{sym, ◌∙◌}
use Rattle.layout.specs.Place.{layout_of}
use Rattle.machine.proofs.invariant.Steps.{stored_more, stored_last}
use Rattle.writing.proofs.after_store.Goals as goal

pub returns-then-r-f : goal.returns-then-r-f
unfolding layout_of
returns-then-r-f c = λ d. c.finished.ensures ∙ sym (stored_last _ _ c.if-r-f.true)

pub returns-else-r-f : goal.returns-else-r-f
unfolding layout_of
returns-else-r-f c = λ d. c.stored.ensures ∙ sym (stored_more _ _ c.if-r-f.false)
