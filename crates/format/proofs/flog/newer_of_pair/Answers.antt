-- `format::flog::newer_of_pair` meets its contract. Both numbers are the words that the halves hold, and `newer` of the two is what the pair stands
-- for.
use mathlib.Core.Path.{◌∙◌}
use Rattle.format.proofs.NewerCases.{pair_is}
use Rattle.format.proofs.flog.newer_of_pair.Goals as goal

pub returns : goal.returns
returns c = c.newer.ensures ∙ rw (c.word_at-2.ensures, c.word_at.ensures) (pair_is _ _ _)
