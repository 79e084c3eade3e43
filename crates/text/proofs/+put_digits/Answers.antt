-- `text::put_digits` meets its contract, by recursion on the number of digits: the digits before the last are those of n / 10.
use Rattle.std.proofs.Common.{arith}
use Rattle.text.proofs.Laws.{digits-none, digits_one, digits_more}
use Rattle.text.proofs.+put_digits.Goals as goal

pub returns-then-most-eq0 : goal.returns-then-most-eq0
returns-then-most-eq0 t c = (digits-none _ _ _ _ c.if-most-eq0.true, omega arith)

pub returns-then-n-lt10 : goal.returns-then-n-lt10
returns-then-n-lt10 t c = (digits_one _ _ _ _ c.if-most-eq0.false c.if-n-lt10.true, omega arith)

pub returns : goal.returns
returns t c = (digits_more _ _ c.if-most-eq0.false c.if-n-lt10.false c.put_digits-last.ensures.0, omega arith)
