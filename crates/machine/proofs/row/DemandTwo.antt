-- Demand 2, put together: every history follows the row, a made arena begins with zeroes, and each accepted call does what its table says.
use Rattle.machine.specs.claims.DemandTwo.{DemandTwo}
use Rattle.machine.proofs.row.Follows.{words_follow}
use Rattle.machine.proofs.row.SameBytes.{one_buffer_follows}
use Rattle.machine.proofs.calls.Tables.{read_table, start_table, step_table, write_table}
use Rattle.machine.proofs.row.Zeroes.{has_zeroes}
use Rattle.layout.specs.Told.{alone}

pub demand_two : DemandTwo
demand_two = record {
  words = λ d. words_follow (alone d);
  follows = λ d. one_buffer_follows (alone d) (words_follow (alone d));
  zeroes = has_zeroes;
  read = read_table;
  start = start_table;
  step = step_table;
  write = write_table;
}
