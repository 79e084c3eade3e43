-- `lanes::ArenaView::padding_set` meets its contract: a word that is padding and not zero is found, or each is passed.
use mathlib.Core.Path.{sym, ap, ◌∙◌}
use native.Mathlib.Nat.{le_antisymm}
use borrow.Author.Tests.{eq-eqb, ne_eqb}
use Rattle.words.specs.Word.{word}
use Rattle.format.proofs.Tests.{some_zero, some_more, some-found}
use Rattle.layout.specs.Place.{layout_of}
use Rattle.machine.specs.state.Flog.{padding_set}
use Rattle.lanes.proofs.Lanes.{lane_inside}
use Rattle.lanes.proofs.ArenaView.padding_set.Goals as goal
use Rattle.lanes.proofs.ArenaView.padding_set.Goals.{else-is_padding-via-then-is_padding+else-word_at-ne0, else-is_padding-via-else-is_padding}

pub loop-k-init : goal.loop-k-init
loop-k-init c = some_zero _

pub word_at-requires : goal.word_at-requires
word_at-requires c =
    let v = c.args.self.now in
    rw (c.lane_place.ensures v.distance) (lane_inside _ _ _ v.fit _ _ c.requires c.loop-k-test.true)

pub returns-then-word_at-ne0 : goal.returns-then-word_at-ne0
unfolding padding_set layout_of
returns-then-word_at-ne0 c =
    let v = c.args.self.now in
    let w = c.word_at.ensures ∙ ap (word v.bytes.now) (c.lane_place.ensures v.distance) in
    let n = ne_eqb _ 0 (λ e. c.if-word_at-ne0.true (w ∙ e)) in
    sym (some-found 16 _ _ c.loop-k-test.true (rw (← c.is_padding.ensures, c.if-is_padding.true, n)))

pub loop-k-preserved : goal.loop-k-preserved
unfolding layout_of
loop-k-preserved c =
    let v = c.args.self.now in
    some_more _ _ c.loop-k.invariant
    (elim c.else-is_padding.branch [
      | else-is_padding-via-then-is_padding+else-word_at-ne0 w ↦
          let x = w.word_at.ensures ∙ ap (word v.bytes.now) (w.lane_place.ensures v.distance) in
          rw (← c.is_padding.ensures, w.if-is_padding.true, eq-eqb _ 0 (sym x ∙ w.if-word_at-ne0.false))
      | else-is_padding-via-else-is_padding w ↦ rw (← c.is_padding.ensures, w.if-is_padding.false)
    ])

pub returns : goal.returns
unfolding padding_set layout_of
returns c =
    sym (rw (le_antisymm c.loop-k.auto.k-end c.loop-k-test.false) at c.loop-k.invariant)
