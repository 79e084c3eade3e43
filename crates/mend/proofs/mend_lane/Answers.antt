-- `mend::mend_lane` meets its contract: one law for each way out. The store is at the map word of the newer half's sector, and maps it to
-- the newer half's new block.
use mathlib.Core.Path.{sym, ◌∙◌}
use Prim.Native.Nat.{◌<◌}
use native.Mathlib.Omega.{arith}
use Rattle.layout.specs.Place.{layout_of}
use Rattle.lanes.proofs.Lanes.{map_fit, sector_is, old_is, new_is, reads, newer_words}
use Rattle.mend.proofs.Mending.{turn_none, turn_full, turn_store}
use Rattle.mend.proofs.mend_lane.Goals as goal

pub returns-then-not-is_pending-clause-a_after : goal.returns-then-not-is_pending-clause-a_after
returns-then-not-is_pending-clause-a_after c =
    turn_none (layout_of c.args.d c.args.f) _ _ _ (sym c.is_pending.ensures ∙ c.if-not-is_pending.true)

pub newer_flog-h-requires-clause-newer : goal.newer_flog-h-requires-clause-newer
newer_flog-h-requires-clause-newer c = (reads _ _ _ _ c.requires).newer

pub mapped_word-requires : goal.mapped_word-requires
mapped_word-requires c =
    let h = c.newer_flog-h in
    let i = (layout_of c.args.d c.args.f).I in
    let old : h.result.old.0 < i = rw (old_is _ _ _ _ _ h.ensures) (reads _ _ _ _ c.requires).old in
    let new : h.result.new.0 < i = rw (new_is _ _ _ _ _ h.ensures) (reads _ _ _ _ c.requires).new in
    omega (arith, c.requires.fit.ok.small)

pub put_word-requires : goal.put_word-requires
unfolding layout_of
put_word-requires c =
    let h = c.newer_flog-h in
    let sector : h.result.sector.0 < c.args.f.sectors = rw (sector_is _ _ _ _ _ h.ensures) (reads _ _ _ _ c.requires).sector in
    omega (arith, c.map_place.ensures 0, (map_fit _ _ _ c.requires.fit).inside)

pub returns-then-left-clause-a_after : goal.returns-then-left-clause-a_after
returns-then-left-clause-a_after c =
    let d = c.args.d in
    let t = turn_store (layout_of d c.args.f) c.args.a.now c.args.l.0 c.args.left (sym c.is_pending.ensures ∙ c.if-not-is_pending.false) c.if-left.true in
    c.put_word.ensures
    ∙ rw (c.map_place.ensures d, c.mapped_word.ensures, c.newer_flog-h.ensures, newer_words _ _ _) t

pub returns-else-left-clause-a_after : goal.returns-else-left-clause-a_after
returns-else-left-clause-a_after c =
    turn_full (layout_of c.args.d c.args.f) _ _ _ (sym c.is_pending.ensures ∙ c.if-not-is_pending.false) c.if-left.false
