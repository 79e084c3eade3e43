-- `format::map::block_of` meets its contract. Each return rewrites with the test that led to it.
use borrow.Author.Tests.{eq-eqb, ne_eqb}
use Rattle.format.specs.MapWord.{block_of}
use Rattle.format.proofs.map.block_of.Goals as goal

pub returns-then-word-ne0 : goal.returns-then-word-ne0
unfolding block_of
returns-then-word-ne0 c = simp (ne_eqb _ _ c.if-word-ne0.true)

pub returns : goal.returns
unfolding block_of
returns c = simp (eq-eqb _ _ c.if-word-ne0.false) c.own_block.ensures
