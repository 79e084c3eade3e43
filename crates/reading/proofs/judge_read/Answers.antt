-- `reading::judge_read` meets its contract: the first rules are judged by what was seen, and the other tests are those of a read's rules, in
-- their order.
use mathlib.Core.Path.{refl, sym, ap, ◌∙◌}
use mathlib.Core.Bool.{not}
use borrow.Author.Tests.{le-leb, lt-leb, eq-eqb, ne_eqb}
use Rattle.std.proofs.lemmas.Result.{err_from_is_err_and}
use Rattle.format.specs.MapWord.{flags_of, reading_of}
use Rattle.lanes.proofs.Lanes.{map_fit}
use Rattle.machine.specs.calls.Judging.{call_number}
use Rattle.machine.proofs.rules.Rules.{stop, pass, through}
use Rattle.seen.proofs.Laws.{table_fit, refused_first, passed_walk, word_stops, word_passes}
use Rattle.reading.proofs.Laws.{not_bad}
use Rattle.reading.proofs.judge_read.Goals as goal

pub returns-in_err-judge_table : goal.returns-in_err-judge_table
unfolding call_number
returns-in_err-judge_table c =
    let p = err_from_is_err_and c.from_residual.result c.from_residual.ensures.1 in
    rw (p.1, p.2) (λ t e. refused_first _ _ _ _ (c.in_err-judge_table.ensures _ 0 0 refl t e))

pub returns-then-f-sector : goal.returns-then-f-sector
unfolding call_number
returns-then-f-sector c =
    λ t e. passed_walk _ _ _ (c.in_ok-judge_table.ensures _ 0 0 refl t e) (stop (le-leb _ _ c.if-f-sector.true))

pub returns-then-buffer-f : goal.returns-then-buffer-f
unfolding call_number
returns-then-buffer-f c =
    λ t e. passed_walk _ _ _ (c.in_ok-judge_table.ensures _ 0 0 refl t e)
    (pass (lt-leb _ _ c.if-f-sector.false) (stop (ap not (ne_eqb _ _ c.if-buffer-f.true))))

pub map_word-word-requires : goal.map_word-word-requires
map_word-word-requires c =
    let saw = c.requires in
    let first = c.in_ok-judge_table.ensures c.args.arena.now 0 0 refl saw.table saw.is in
    (map_fit _ _ _ (table_fit _ _ _ _ _ _ saw.is (sym first)), c.if-f-sector.false)

pub returns-in_err-judge_word : goal.returns-in_err-judge_word
unfolding call_number
returns-in_err-judge_word c =
    let p = err_from_is_err_and c.from_residual-in_err-judge_word.result c.from_residual-in_err-judge_word.ensures.1 in
    rw (p.1, p.2) (λ t e. passed_walk _ _ _ (c.in_ok-judge_table.ensures _ 0 0 refl t e)
    (pass (lt-leb _ _ c.if-f-sector.false) (pass (ap not (eq-eqb _ _ c.if-buffer-f.false))
    (word_stops _ _ _ _ (c.map_word-word.ensures _) _ _ c.in_err-judge_word.ensures))))

pub returns-in-BadSector : goal.returns-in-BadSector
unfolding call_number
returns-in-BadSector c =
    let m = c.map_word-word.ensures _ in
    let r = sym c.in-BadSector.ensures in
    λ t e. passed_walk _ _ _ (c.in_ok-judge_table.ensures _ 0 0 refl t e)
    (pass (lt-leb _ _ c.if-f-sector.false) (pass (ap not (eq-eqb _ _ c.if-buffer-f.false))
    (word_passes _ _ _ _ m _ c.in_ok-judge_word.ensures (stop (eq-eqb _ _ (ap (λ x. reading_of (flags_of x)) (sym m) ∙ r))))))

pub returns-in-Zeroes : goal.returns-in-Zeroes
unfolding call_number
returns-in-Zeroes c =
    let m = c.map_word-word.ensures _ in
    let r = not_bad _ _ (c.reading_of.ensures ∙ ap (λ x. reading_of (flags_of x)) m) c.in-Zeroes.is in
    λ t e. passed_walk _ _ _ (c.in_ok-judge_table.ensures _ 0 0 refl t e)
    (pass (lt-leb _ _ c.if-f-sector.false) (pass (ap not (eq-eqb _ _ c.if-buffer-f.false))
    (word_passes _ _ _ _ m _ c.in_ok-judge_word.ensures (pass (ne_eqb _ _ r) through))))
