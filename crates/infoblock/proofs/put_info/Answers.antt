-- `infoblock::put_info` meets its contract. The stores one after the other; the words of the head fit 32 bits since they are a u32 array, so the
-- sums read back are those of the stored words.
use mir.Syntax.{w32}
use borrow.Author.Rules.{elem_Fits}
use Rattle.infoblock.proofs.Stored.{info_stored}
use Rattle.infoblock.proofs.put_info.Goals as goal

pub returns : goal.returns
returns c =
    info_stored _ _ _ _ _ _ _ _ _ _ _ _ _ _
    c.requires.i_in_bounds
    (λ j. (elem_Fits w32 w32 c.head_words-head.result c.head_words-head.type_inv.0 j c.head_words-head.type_inv.1.1 tt).fits)
    c.head_words-head.ensures
    c.put_head.ensures
    c.zero_words.ensures
    c.new.ensures
    c.add_words-sums.ensures
    c.add.ensures
    c.add-2.ensures
    c.value-sum.ensures
    c.put_long.ensures
