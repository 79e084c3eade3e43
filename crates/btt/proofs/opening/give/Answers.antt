-- `btt::opening::give` meets its contract: a refusal leaves zeroes, and an accepted opening its handle's bytes.
use mathlib.Core.Path.{refl}
use Rattle.handlebytes.specs.Bytes.{encode_handle}
use Rattle.machine.proofs.Refusals.{not_zero}
use Rattle.btt.specs.Calls.{given_bytes}
use Rattle.btt.proofs.opening.give.Goals as goal

pub returns-in-Ok : goal.returns-in-Ok
unfolding given_bytes encode_handle
returns-in-Ok c = rw c.in-Ok.is (record { value = refl; mended_after = refl; handle_after = c.put_handle.ensures })

pub returns-in-Err-clause-handle_after : goal.returns-in-Err-clause-handle_after
unfolding given_bytes
returns-in-Err-clause-handle_after c = rw (c.in-Err.is, not_zero _)
