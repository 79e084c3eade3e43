-- `judge::opening::judge_words` meets its contract. The invariant: no word passed is bad, and sloppy tells whether one of them is sloppy.
use mathlib.Core.Bool.{false}
use mathlib.Core.Path.{◌≡◌}
use Prim.Native.Nat.{ℕ}
use Rattle.format.specs.Tests.{some}
use Rattle.judge.proofs.Words.{is_bad, is_sloppy}
use Rattle.judge.proofs.opening.judge_words.Given as goal

abbrev pub invariant-loop-s : goal.invariant-loop-s
invariant-loop-s l = record {
  good : (d : ℕ) → some l.s (is_bad d l.f l.a) ≡ false;
  told : (d : ℕ) → l.sloppy ≡ some l.s (is_sloppy d l.f l.a);
}
