-- `stores::WriteInFlight::value` meets its contract, store by store.
use Rattle.stores.proofs.Plans.{store_data, store_nth, store_map}
use Rattle.machine.specs.calls.Writing.{plan_of}
use Rattle.machine.specs.state.Stores.{Store}
use mathlib.Core.Path.{ap, ◌∙◌}
use native.Mathlib.Omega.{arith}
use Rattle.stores.proofs.WriteInFlight.value.Goals as goal

pub returns-then-k-words : goal.returns-then-k-words
returns-then-k-words c = c.word_at.ensures ∙ ap (λ (st : Store). st.value)
    (store_data c.args.self.handle.distance c.args.self.handle.figures (plan_of c.args.self.lane.0 c.args.self.own) c.args.buffer.now c.args.k c.if-k-words.true)

pub returns-in-0 : goal.returns-in-0
returns-in-0 c = store_nth c.args.self.handle.distance c.args.self.handle.figures (plan_of c.args.self.lane.0 c.args.self.own) c.args.buffer.now c.args.k 0 c.if-k-words.false c.in-0.is

pub returns-in-1 : goal.returns-in-1
returns-in-1 c = store_nth c.args.self.handle.distance c.args.self.handle.figures (plan_of c.args.self.lane.0 c.args.self.own) c.args.buffer.now c.args.k 1 c.if-k-words.false c.in-1.is

pub returns-in-2 : goal.returns-in-2
returns-in-2 c = store_nth c.args.self.handle.distance c.args.self.handle.figures (plan_of c.args.self.lane.0 c.args.self.own) c.args.buffer.now c.args.k 2 c.if-k-words.false c.in-2.is

pub returns-in-3 : goal.returns-in-3
returns-in-3 c = store_nth c.args.self.handle.distance c.args.self.handle.figures (plan_of c.args.self.lane.0 c.args.self.own) c.args.buffer.now c.args.k 3 c.if-k-words.false c.in-3.is

pub returns-in_default : goal.returns-in_default
returns-in_default c = c.mapped_word.ensures
    ∙ ap (λ (st : Store). st.value)
    (store_map c.args.self.handle.distance c.args.self.handle.figures (plan_of c.args.self.lane.0 c.args.self.own) c.args.buffer.now c.args.k c.if-k-words.false (omega arith))
