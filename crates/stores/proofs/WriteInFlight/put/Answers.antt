-- `stores::WriteInFlight::put` meets its contract: the store is within the arena, and its place and word are those worked out.
use Rattle.stores.proofs.Plans.{store_inside, fit_at}
use mathlib.Core.Path.{◌∙◌}
use Rattle.stores.proofs.WriteInFlight.put.Goals as goal

pub put_word-requires : goal.put_word-requires
put_word-requires c =
    let w = c.args.self in
    rw (c.place.ensures c.args.buffer.now) (store_inside _ _ _ _ _ _ (fit_at _ _ _ 0 c.args.k w.fit c.requires.store) _ c.requires.fit)

pub returns : goal.returns
returns c = c.put_word.ensures ∙ rw (c.place.ensures c.args.buffer.now, c.value.ensures)
