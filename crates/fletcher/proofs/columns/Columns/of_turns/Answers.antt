-- `fletcher::columns::Columns::of_turns` meets its contract. The invariant: the columns stand for the sums of k turns.
use Rattle.std.proofs.Common.{◌≡◌, ◌+◌, ◌*◌, sym, refl, ◌∙◌, arith}
use Rattle.words.specs.Word.{words_from}
use Rattle.fletcher.specs.Fletcher.{added_all}
use Rattle.fletcher.specs.Plain.{sum, weighted}
use Rattle.fletcher.specs.Columns.{sums_of}
use Rattle.fletcher.proofs.Laws.{added_all-split}
use Rattle.fletcher.proofs.columns.Columns.of_turns.Goals as goal

pub loop-k-init : goal.loop-k-init
unfolding sums_of sum weighted added_all words_from
loop-k-init c = refl

pub loop-k-preserved : goal.loop-k-preserved
loop-k-preserved c =
    let k = c.loop-k.k in
    let args = c.args in
    let e : 8 * (k + 1) ≡ 8 * k + 8 = omega arith in
    c.turn-columns.ensures ∙ rw (c.loop-k.invariant, e) (sym (added_all-split args.a.now (8 * k) args.i 8 _))
