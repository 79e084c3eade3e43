-- `making::put_tail` meets its contract. Figures that fit leave room for each part, and the parts stored one after the other are the tail.
use mathlib.Core.Path.{◌∙◌}
use native.Mathlib.Omega.{arith}
use Rattle.making.proofs.Laws.{room-of, put_tail_parts}
use Rattle.making.proofs.put_tail.Goals as goal

pub overflow_mul-end : goal.overflow_mul-end
overflow_mul-end c = let r = room-of _ _ _ c.requires.fit in record { fits = omega arith }

pub overflow_add-end : goal.overflow_add-end
overflow_add-end c = let r = room-of _ _ _ c.requires.fit in record { fits = omega arith }

pub overflow_sub-flog : goal.overflow_sub-flog
overflow_sub-flog c =
    let r = room-of _ _ _ c.requires.fit in
    omega arith

pub zero_words-requires : goal.zero_words-requires
zero_words-requires c =
    let r = room-of _ _ _ c.requires.fit in
    omega arith

pub put_flog-requires : goal.put_flog-requires
put_flog-requires c =
    let r = room-of _ _ _ c.requires.fit in
    (omega arith, omega arith)

pub overflow_sub-copy : goal.overflow_sub-copy
overflow_sub-copy c =
    let r = room-of _ _ _ c.requires.fit in
    omega arith

pub zero_words-requires-2 : goal.zero_words-requires-2
zero_words-requires-2 c =
    let r = room-of _ _ _ c.requires.fit in
    omega arith

pub put_info-requires : goal.put_info-requires
put_info-requires c =
    let r = room-of _ _ _ c.requires.fit in
    let e = c.requires.in_bounds in
    record { i_in_bounds = omega arith; in_bounds = (omega (arith, e.0, e.1), omega (arith, e.0, e.1)) }

pub returns : goal.returns
returns c =
    c.put_info.ensures
    ∙ rw (c.zero_words-2.ensures, c.put_flog.ensures, c.zero_words.ensures) (put_tail_parts _ _ _ _ _ (room-of _ _ _ c.requires.fit))
