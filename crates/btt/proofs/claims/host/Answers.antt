-- `btt::claims::host` ensures the claim about the library's calls, which is proved in `Fits`, `Same`, `Alike` and `Shown`.
use mathlib.Core.Path.{refl}
use Rattle.btt.proofs.Fits.{opening_same, opening_past, opened_holds, refused_zeroes, opened_layout}
use Rattle.btt.proofs.Same.{read_same, start_same, step_same, write_same, start_only, step_only, write_only}
use Rattle.btt.proofs.Alike.{past_alike}
use Rattle.btt.proofs.Shown.{
  info_shown,
  info_placed,
  read_left,
  start_left,
  step_left,
  write_left,
  lane_left,
  next_left,
  layout_wrong,
  table-short,
  busy_wrong,
  lane-answered,
  next-answered,
  lane-shown,
  place_told,
}
use Rattle.btt.proofs.claims.host.Goals as goal

pub returns : goal.returns
returns c = record {
  host = record {
    info_block = info_shown;
    info_place = info_placed;
    opening = opening_same;
    open_past = opening_past;
    opened = opened_holds;
    open_refused = refused_zeroes;
    layout = opened_layout;
    read = read_same;
    start = λ a b t h l s k. start_same a b t h k l s;
    step = λ a b t h l buffer k. step_same a b t h k l buffer;
    write = λ a b t h l s buffer k. write_same a b t h k l s buffer;
    read_refused = read_left;
    start_refused = start_left;
    step_refused = step_left;
    write_refused = write_left;
    lane_refused = lane_left;
    next_refused = next_left;
    wrong-layout = layout_wrong;
    short-table = table-short;
    busy = busy_wrong;
    past_unread = past_alike;
    start_kept = start_only;
    step_kept = step_only;
    write_kept = write_only;
    lane-order = λ l. refl;
    next-order = λ l. refl;
    lane_answers = lane-answered;
    next_answers = next-answered;
    lane = lane-shown;
    next_store = place_told;
  };
}
