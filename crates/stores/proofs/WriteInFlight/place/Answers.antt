-- `stores::WriteInFlight::place` meets its contract: the data words, the words of the half and the map word are each at the place of their store.
use Rattle.stores.proofs.Plans.{store_data, store_flog, store_map}
use Rattle.machine.specs.calls.Writing.{plan_of}
use Rattle.machine.specs.state.Stores.{Store}
use Rattle.layout.specs.Place.{at}
use Rattle.stores.specs.Write.{layout}
use mathlib.Core.Path.{ap, ◌∙◌}
use Rattle.stores.proofs.WriteInFlight.place.Goals as goal

pub returns-then-k-words : goal.returns-then-k-words
returns-then-k-words c = λ bytes.
    let w = c.args.self in
    c.data_place.ensures w.handle.distance
    ∙ ap (λ (st : Store). at (layout w) st.place) (store_data w.handle.distance w.handle.figures (plan_of w.lane.0 w.own) bytes c.args.k c.if-k-words.true)

pub returns-then-j-lt4 : goal.returns-then-j-lt4
returns-then-j-lt4 c = λ bytes.
    let w = c.args.self in
    c.flog_place.ensures
    ∙ ap (at (layout w)) (store_flog w.handle.distance w.handle.figures (plan_of w.lane.0 w.own) bytes c.args.k c.if-k-words.false c.if-j-lt4.true)

pub returns-else-j-lt4 : goal.returns-else-j-lt4
returns-else-j-lt4 c = λ bytes.
    let w = c.args.self in
    c.map_place.ensures w.handle.distance
    ∙ ap (λ (st : Store). at (layout w) st.place)
    (store_map w.handle.distance w.handle.figures (plan_of w.lane.0 w.own) bytes c.args.k c.if-k-words.false c.if-j-lt4.false)
