-- `judge::opening::judge_map` meets its contract: each return walks the order of rules 6, 7, 18 and 8.
-- Rule 8 is judged on the map as found, which says the same.
use mathlib.Core.Path.{sym, ap, ◌∙◌}
use mathlib.Core.Bool.{not}
use native.Mathlib.Omega.{arith}
use Rattle.layout.specs.declared.Told.{Told}
use lib.ListN.{length-append, length-drop}
use Rattle.std.proofs.Common.{length-take-le}
use Rattle.std.proofs.lemmas.Result.{err_from_is_err_and}
use Rattle.lanes.proofs.Lanes.{map_fit}
use Rattle.judge.proofs.Rules.{words_passed, passed_clean, lost_walk, words_walk, padding_walk, invalid_walk, valid_walk, once_or_not}
use Rattle.judge.proofs.opening.judge_map.Goals as goal

pub returns-then-lanes_lost-clause-result_value : goal.returns-then-lanes_lost-clause-result_value
returns-then-lanes_lost-clause-result_value c = λ told room d small.
    lost_walk told _ _ c.requires.0 (rw d (sym c.lanes_lost.ensures ∙ c.if-lanes_lost.true)) room

pub judge_words-requires : goal.judge_words-requires
judge_words-requires c = map_fit _ _ _ c.args.view.fit

pub returns-in_err-judge_words-clause-result_value :
    goal.returns-in_err-judge_words-clause-result_value
returns-in_err-judge_words-clause-result_value c = λ told room d small.
    let e = sym c.lanes_lost.ensures ∙ c.if-lanes_lost.false in
    let p = err_from_is_err_and c.from_residual.result c.from_residual.ensures.1 in
    rw (p.1, p.2) (words_walk told _ _ c.requires.0 (rw d e) _ (c.in_err-judge_words.ensures told.distance) room)

pub returns-then-lane_padded-clause-result_value : goal.returns-then-lane_padded-clause-result_value
returns-then-lane_padded-clause-result_value c = λ told room d small.
    let e = sym c.lanes_lost.ensures ∙ c.if-lanes_lost.false in
    let w = sym (c.in_ok-judge_words.ensures told.distance) in
    padding_walk told _ _ c.requires.0 (rw d e) w (rw d (sym c.lane_padded.ensures ∙ c.if-lane_padded.true)) room

pub blocks_once-requires : goal.blocks_once-requires
blocks_once-requires c =
    let v = c.args.view in
    let w = sym (c.in_ok-judge_words.ensures v.distance) in
    let t : Told = record { next = 0; distance = v.distance } in (
      record {
        fit = v.fit;
        lanes = sym c.lanes_lost.ensures ∙ c.if-lanes_lost.false;
        words = (words_passed t _ _ c.requires.0 w).0;
        clean = passed_clean t _ _ c.requires.0 w (sym c.lane_padded.ensures ∙ c.if-lane_padded.false);
      },
      simp (length-append, length-drop) (omega (arith, c.fill.ensures.len, length-take-le _ c.args.work.now c.requires.1)),
    )

pub returns-then-not-blocks_once-clause-result_value :
    goal.returns-then-not-blocks_once-clause-result_value
returns-then-not-blocks_once-clause-result_value c = λ told room d small.
    let v = c.args.view in
    let e = sym c.lanes_lost.ensures ∙ c.if-lanes_lost.false in
    let w = sym (c.in_ok-judge_words.ensures told.distance) in
    let p = sym c.lane_padded.ensures ∙ c.if-lane_padded.false in
    let o = once_or_not v.distance v.figures _ v.fit small e ∙ ap not (sym c.blocks_once.ensures.value) in
    invalid_walk told _ _ c.requires.0 (rw d e) w (rw d p) (rw d (o ∙ ap not c.if-not-blocks_once.true)) room

pub returns-clause-result_value : goal.returns-clause-result_value
returns-clause-result_value c = λ told room d small.
    let v = c.args.view in
    let e = sym c.lanes_lost.ensures ∙ c.if-lanes_lost.false in
    let w = sym (c.in_ok-judge_words.ensures told.distance) in
    let p = sym c.lane_padded.ensures ∙ c.if-lane_padded.false in
    let o = once_or_not v.distance v.figures _ v.fit small e ∙ ap not (sym c.blocks_once.ensures.value) in
    valid_walk told _ _ c.requires.0 (rw d e) w (rw d p) (rw d (o ∙ ap not c.if-not-blocks_once.false)) room
