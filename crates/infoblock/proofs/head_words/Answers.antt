-- `infoblock::head_words` meets its contract. Each word is what the call that gave it ensures.
use Rattle.infoblock.proofs.Stored.{head_is}
use Rattle.infoblock.proofs.head_words.Goals as goal

pub returns : goal.returns
returns c =
    head_is _ _ _ _ _ _ _ _ _ _ _ _ _ _ _ _ _ _ _
    c.word_at.ensures
    c.word_at-2.ensures
    c.word_at-3.ensures
    c.word_at-4.ensures
    c.word_at-5.ensures
    c.word_at-6.ensures
    c.word_at-7.ensures
    c.word_at-8.ensures
    c.low_word.ensures
    c.high_word.ensures c.low_word-2.ensures
    c.high_word-2.ensures c.low_word-3.ensures
    c.high_word-3.ensures c.low_word-4.ensures c.high_word-4.ensures
