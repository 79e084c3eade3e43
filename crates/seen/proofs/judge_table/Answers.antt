-- `seen::judge_table` meets its contract: one law for each way in which the first rules of every call end.
use mathlib.Core.Path.{sym, ◌∙◌}
use borrow.Author.Tests.{not-true, not-false}
use Rattle.seen.proofs.Laws.{handle_refuses, table-refuses, records_refuse, table_passes}
use Rattle.seen.proofs.judge_table.Goals as goal

pub returns-then-not-handle_allowed : goal.returns-then-not-handle_allowed
returns-then-not-handle_allowed c = λ a l s n t e. handle_refuses a _ t l s _ e (rw n (sym c.handle_allowed.ensures ∙ c.if-not-handle_allowed.true))

pub returns-then-seen-h : goal.returns-then-seen-h
returns-then-seen-h c =
    let ok = sym c.handle_allowed.ensures ∙ c.if-not-handle_allowed.false in
    λ a l s n t e. table-refuses a _ t l s _ e (rw n ok) c.if-seen-h.true

pub returns-then-not-seen : goal.returns-then-not-seen
returns-then-not-seen c =
    let ok = sym c.handle_allowed.ensures ∙ c.if-not-handle_allowed.false in
    λ a l s n t e. records_refuse a _ t l s _ e (rw n ok) c.if-seen-h.false (not-true _ c.if-not-seen.true)

pub returns : goal.returns
returns c =
    let ok = sym c.handle_allowed.ensures ∙ c.if-not-handle_allowed.false in
    λ a l s n t e. table_passes a _ t l s _ e (rw n ok) c.if-seen-h.false (not-false _ c.if-not-seen.false)
