-- `fletcher::columns::eight_words` meets its contract. The invariant: the first j are stored.
use Rattle.std.proofs.Common.{sym, ◌∙◌, arith, length-set}
use Rattle.words.specs.Word.{words_from}
use Rattle.words.proofs.Runs.{length-words_from, get_d_words_from}
use Rattle.fletcher.proofs.Rows.{stored_next, all_stored}
use Rattle.fletcher.proofs.columns.eight_words.Goals as goal

pub loop-j-preserved : goal.loop-j-preserved
loop-j-preserved c =
    let l = c.loop-j in
    let args = c.args in
    let v = c.word_at.result in
    let row = words_from args.a.now args.i 8 in
    let e = l.invariant.0 ∙ sym (length-words_from args.a.now args.i 8) in
    let w = c.word_at.ensures ∙ sym (get_d_words_from args.a.now args.i 8 l.j (omega arith)) in
    (length-set l.words l.j v ∙ l.invariant.0, stored_next l.words row l.j v e (omega arith) l.invariant.1 w)

pub returns : goal.returns
returns c =
    let l = c.loop-j in
    let args = c.args in
    let e = l.invariant.0 ∙ sym (length-words_from args.a.now args.i 8) in
    all_stored l.words (words_from args.a.now args.i 8) l.j e (omega arith) l.invariant.1
