-- `reading::read_seen` meets its contract: a refused read leaves its buffer, and an accepted one fills it, by its map word, with the block's
-- bytes or zeroes, whatever table it was of which that is seen.
use mathlib.Core.Path.{sym, ap, ◌∙◌}
use Prim.Native.Nat.{ℕ}
use native.Mathlib.Omega.{arith}
use Rattle.std.proofs.lemmas.Result.{err_from_is_err_and}
use Rattle.format.specs.MapWord.{flags_of, reading_of, block_of}
use Rattle.layout.specs.Place.{layout_of, in_data, at}
use Rattle.lanes.proofs.Lanes.{map_fit}
use Rattle.machine.specs.state.Handle.{with}
use Rattle.machine.proofs.Refusals.{not_zero}
use Rattle.machine.proofs.calls.Running.{handle_fit}
use Rattle.reading.proofs.Laws.{refused, known, inside, gives_bytes, gives_zeroes, no_bytes}
use Rattle.reading.proofs.read_seen.Goals as goal

pub returns-in_err-judge_read : goal.returns-in_err-judge_read
returns-in_err-judge_read c =
    let p = err_from_is_err_and c.from_residual.result c.from_residual.ensures.1 in
    rw (p.1, p.2) (λ t e. refused _ _ _ _ _ (c.in_err-judge_read.ensures t e) (not_zero _))

pub map_word-found-requires : goal.map_word-found-requires
map_word-found-requires c =
    let saw = c.requires in
    let h = with c.args.h saw.table in
    let k = known _ h _ _ (sym (c.in_ok-judge_read.ensures saw.table saw.is)) in
    (map_fit _ _ _ (handle_fit h _ k.judged.handle), k.sector)

pub copy_words-requires : goal.copy_words-requires
copy_words-requires c =
    let saw = c.requires in
    let h = with c.args.h saw.table in
    let z = sym (c.in_ok-judge_read.ensures saw.table saw.is) in
    let k = known _ h _ _ z in
    let d = h.distance in
    let m = c.map_word-found.ensures d in
    let b = c.block_of.ensures ∙ ap (block_of c.args.sector.0) m in
    let p = c.data_place-place.ensures d ∙ ap (λ (n : ℕ). at (layout_of d h.figures) (in_data n 0)) b in
    (omega (arith, p, inside _ h _ _ z), omega (arith, k.size))

pub returns-in-Bytes : goal.returns-in-Bytes
returns-in-Bytes c =
    let d = c.args.h.distance in
    let m = c.map_word-found.ensures d in
    let b = c.block_of.ensures ∙ ap (block_of c.args.sector.0) m in
    let p = c.data_place-place.ensures d ∙ ap (λ (n : ℕ). at (layout_of d c.args.h.figures) (in_data n 0)) b in
    let w = ap (λ x. reading_of (flags_of x)) (sym m) ∙ sym c.in-Bytes.ensures in
    λ t e. gives_bytes _ (with c.args.h t) _ _ (sym (c.in_ok-judge_read.ensures t e))
    (λ i. (c.slice_known-1.given i).fits) (λ i. (c.shared_slice_known-1.given i).fits) _ p w _
    c.copy_words.ensures

pub zero_words-requires : goal.zero_words-requires
zero_words-requires c =
    let saw = c.requires in
    let k = known _ (with c.args.h saw.table) _ _ (sym (c.in_ok-judge_read.ensures saw.table saw.is)) in
    omega (arith, k.size)

pub returns-in-Zeroes : goal.returns-in-Zeroes
returns-in-Zeroes c =
    let m = c.map_word-found.ensures _ in
    let w = c.reading_of.ensures ∙ ap (λ x. reading_of (flags_of x)) m in
    λ t e. gives_zeroes _ (with c.args.h t) _ _ (sym (c.in_ok-judge_read.ensures t e))
    (λ i. (c.slice_known-1.given i).fits) (no_bytes _ _ w c.in-Zeroes.is) _ c.zero_words.ensures
