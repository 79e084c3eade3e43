-- `layout::figures_at` meets its contract. Each figure is what `word_at` and `long_at` ensure.
use Rattle.layout.specs.Figures.{figures_at}
use Rattle.layout.proofs.figures_at.Goals as goal

pub returns : goal.returns
unfolding figures_at
returns c =
    rw (
      c.long_at-4.ensures,
      c.long_at-3.ensures,
      c.long_at-2.ensures,
      c.long_at.ensures,
      c.word_at-5.ensures,
      c.word_at-4.ensures,
      c.word_at-3.ensures,
      c.word_at-2.ensures,
      c.word_at.ensures,
    )
