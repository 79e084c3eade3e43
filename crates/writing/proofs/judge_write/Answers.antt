-- `writing::judge_write` meets its contract: the first rules are judged by what was seen, and the other tests are those of a write's rules,
-- in their order.
use mathlib.Core.Path.{refl, sym, ap, ◌∙◌}
use mathlib.Core.Bool.{not}
use borrow.Author.Tests.{le-leb, lt-leb}
use Rattle.lanes.proofs.Lanes.{map_fit}
use Rattle.std.proofs.lemmas.Result.{err_from_is_err_and}
use Rattle.machine.specs.calls.Judging.{call_number}
use Rattle.machine.proofs.rules.Rules.{stop, pass, through}
use Rattle.seen.proofs.Laws.{busy_seen, table_fit, flies_seen, refused_first, passed_walk, word_stops, word_passes}
use Rattle.writing.proofs.judge_write.Goals as goal

pub returns-in_err-judge_table : goal.returns-in_err-judge_table
unfolding call_number
returns-in_err-judge_table c =
    let p = err_from_is_err_and c.from_residual.result c.from_residual.ensures.1 in
    rw (p.1, p.2) (λ t e bytes _. refused_first _ _ _ _ (c.in_err-judge_table.ensures _ _ _ refl t e))

pub returns-then-f-lane : goal.returns-then-f-lane
unfolding call_number
returns-then-f-lane c =
    λ t e bytes _. passed_walk _ _ _ (c.in_ok-judge_table.ensures _ _ _ refl t e) (stop (le-leb _ _ c.if-f-lane.true))

pub returns-then-is_busy : goal.returns-then-is_busy
unfolding call_number
returns-then-is_busy c =
    let k = lt-leb _ _ c.if-f-lane.false in
    λ t e bytes _. passed_walk _ _ _ (c.in_ok-judge_table.ensures _ _ _ refl t e)
    (pass k (stop (busy_seen _ t _ _ _ e _ _ c.is_busy.ensures c.if-is_busy.true)))

pub returns-then-f-sector : goal.returns-then-f-sector
unfolding call_number
returns-then-f-sector c =
    let k = lt-leb _ _ c.if-f-lane.false in
    λ t e bytes _. passed_walk _ _ _ (c.in_ok-judge_table.ensures _ _ _ refl t e)
    (pass k (pass (busy_seen _ t _ _ _ e _ _ c.is_busy.ensures c.if-is_busy.false) (stop (le-leb _ _ c.if-f-sector.true))))

pub returns-then-not-fits : goal.returns-then-not-fits
unfolding call_number
returns-then-not-fits c =
    let k = lt-leb _ _ c.if-f-lane.false in
    let x = lt-leb _ _ c.if-f-sector.false in
    λ t e bytes n. passed_walk _ _ _ (c.in_ok-judge_table.ensures _ _ _ refl t e)
    (pass k (pass (busy_seen _ t _ _ _ e _ _ c.is_busy.ensures c.if-is_busy.false)
    (pass x (stop (ap not (sym n ∙ c.if-not-fits.true))))))

pub returns-then-seen : goal.returns-then-seen
unfolding call_number
returns-then-seen c =
    let k = lt-leb _ _ c.if-f-lane.false in
    let x = lt-leb _ _ c.if-f-sector.false in
    λ t e bytes n.
    let first = c.in_ok-judge_table.ensures _ _ _ refl t e in
    passed_walk _ _ _ first
    (pass k (pass (busy_seen _ t _ _ _ e _ _ c.is_busy.ensures c.if-is_busy.false)
    (pass x (pass (ap not (sym n ∙ c.if-not-fits.false)) (stop (flies_seen _ _ t _ _ _ e (sym first) ∙ c.if-seen.true))))))

pub map_word-requires : goal.map_word-requires
map_word-requires c =
    let saw = c.requires in
    let first = c.in_ok-judge_table.ensures c.args.arena.now _ _ refl saw.table saw.is in
    (map_fit _ _ _ (table_fit _ _ _ _ _ _ saw.is (sym first)), c.if-f-sector.false)

pub returns-in_err-judge_word : goal.returns-in_err-judge_word
unfolding call_number
returns-in_err-judge_word c =
    let k = lt-leb _ _ c.if-f-lane.false in
    let x = lt-leb _ _ c.if-f-sector.false in
    let p = err_from_is_err_and c.from_residual-in_err-judge_word.result c.from_residual-in_err-judge_word.ensures.1 in
    rw (p.1, p.2) (λ t e bytes n.
    let first = c.in_ok-judge_table.ensures _ _ _ refl t e in
    passed_walk _ _ _ first
    (pass k (pass (busy_seen _ t _ _ _ e _ _ c.is_busy.ensures c.if-is_busy.false)
    (pass x (pass (ap not (sym n ∙ c.if-not-fits.false)) (pass (flies_seen _ _ t _ _ _ e (sym first) ∙ c.if-seen.false)
    (word_stops _ _ _ _ (c.map_word.ensures _) _ _ c.in_err-judge_word.ensures)))))))

pub returns : goal.returns
unfolding call_number
returns c =
    let k = lt-leb _ _ c.if-f-lane.false in
    let x = lt-leb _ _ c.if-f-sector.false in
    λ t e bytes n.
    let first = c.in_ok-judge_table.ensures _ _ _ refl t e in
    passed_walk _ _ _ first
    (pass k (pass (busy_seen _ t _ _ _ e _ _ c.is_busy.ensures c.if-is_busy.false)
    (pass x (pass (ap not (sym n ∙ c.if-not-fits.false)) (pass (flies_seen _ _ t _ _ _ e (sym first) ∙ c.if-seen.false)
    (word_passes _ _ _ _ (c.map_word.ensures _) _ c.in_ok-judge_word.ensures through))))))
