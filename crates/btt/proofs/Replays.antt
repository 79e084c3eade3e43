-- A replay for a host: its definition from what the code gives, and what the claim says of it.
use mathlib.Core.Path.{◌≡◌, refl, ap, ◌∙◌}
use mathlib.Core.Logic.{◌≢◌}
use mathlib.Core.Bool.{Bool, true, false}
use mathlib.Core.List.{List, [], ◌∷◌}
use Prim.Native.Nat.{ℕ, zero, suc, ◌≤◌, ◌<◌}
use native.Mathlib.Omega.{arith}
use lib.ListN.{length, get_or}
use borrow.Author.Tests.{ne_eqb}
use Rattle.std.specs.Prelude.{is_some, unwrap_or, Ok, Err}
use Rattle.words.specs.Bytes.{Small}
use Rattle.layout.specs.Told.{alone_near}
use Rattle.machine.specs.calls.Opening.{open_of}
use Rattle.machine.specs.declared.refusal.Refusal.{Refusal}
use Rattle.machine.specs.state.Answer.{refusal_number}
use Rattle.machine.proofs.Refusals.{not_zero}
use Rattle.runlog.specs.Log.{Log}
use Rattle.runlog.proofs.Logs.{log_claim}
use Rattle.replaying.specs.declared.Replayed.{Replayed}
use Rattle.replaying.specs.Replay.{replay_of, own_table, room_of}
use Rattle.replaying.specs.Gave.{put_answers, Given, into, gave}
use Rattle.replaying.proofs.Claimed.{replay_claim}
use Rattle.replaying.proofs.Rest.{put_nothing}
use Rattle.btt.specs.Replay.{HostReplay, replay_number, btt_replay_of}
use Rattle.btt.specs.Gave as host
use Rattle.btt.specs.HostReplay as claim

-- ---- what the code gives

abbrev for_host : Given → HostReplay
for_host g = host.replayed (replay_number g.first g.stopped) g.records g.at g.arena g.work g.answers

module _ (a work log answers arena left put : List ℕ) where
  pub replay_done : (r : Replayed) → gave (Ok r) arena left put ≡ into (replay_of a work log) answers
      → (n : ℕ) → n ≡ replay_number 0 (is_some r.stopped)
      → host.replayed n r.records (unwrap_or r.stopped 0) arena left put ≡ btt_replay_of a work log answers
  unfolding btt_replay_of
  replay_done r e n k = rw k (ap for_host e)

  pub replay_refused : (r : Refusal) → gave (Err r) arena left put ≡ into (replay_of a work log) answers
      → (n : ℕ) → n ≡ refusal_number r → host.replayed n 0 0 arena left put ≡ btt_replay_of a work log answers
  unfolding btt_replay_of
  replay_refused r e n k =
      let z : replay_number (refusal_number r) false ≡ refusal_number r = rw (not_zero r) in
      rw (k, ← z) (ap for_host e)

-- ---- the answers in the lent buffer

put_size : (ns bs : List ℕ) → length (put_answers ns bs) ≡ length bs
put_size [] bs = ap length (put_nothing bs)
put_size (n ∷ ns) [] = refl
put_size (n ∷ ns) (b ∷ bs) = ap suc (put_size ns bs)

put_in : (ns bs : List ℕ) (i : ℕ) → i < length ns → i < length bs → get_or (put_answers ns bs) i 0 ≡ get_or ns i 0
put_in [] bs i u v = absurd (omega arith)
put_in (n ∷ ns) [] i u v = absurd (omega arith)
put_in (n ∷ ns) (b ∷ bs) zero u v = refl
put_in (n ∷ ns) (b ∷ bs) (suc i) u v = put_in ns bs i (omega arith) (omega arith)

put_past : (ns bs : List ℕ) (i : ℕ) → length ns ≤ i → get_or (put_answers ns bs) i 0 ≡ get_or bs i 0
put_past [] bs i u = ap (λ (cs : List ℕ). get_or cs i 0) (put_nothing bs)
put_past (n ∷ ns) [] i u = refl
put_past (n ∷ ns) (b ∷ bs) zero u = absurd (omega arith)
put_past (n ∷ ns) (b ∷ bs) (suc i) u = put_past ns bs i (omega arith)

-- ---- the claim

pub nothing_ran : (a work log answers : List ℕ) → (open_of alone_near a (room_of work own_table)).number ≢ 0
    → claim.NothingRan a work answers (btt_replay_of a work log answers)
unfolding btt_replay_of
nothing_ran a work log answers n =
    let q = replay_claim.refused a work log n in
    record {
      number = rw (q.first, ne_eqb (open_of alone_near a (room_of work own_table)).number 0 n);
      records = ap (λ (ns : List ℕ). length ns) q.numbers;
      stopped = q.at;
      arena = q.arena;
      work = q.buffer;
      answers = rw q.numbers (put_nothing answers);
    }

pub records_ran : (a work log answers : List ℕ) → Small a → Small work → Small log → (open_of alone_near a (room_of work own_table)).number ≡ 0
    → claim.RecordsRan a work log answers (btt_replay_of a work log answers)
unfolding btt_replay_of
records_ran a work log answers small small_work small_log e =
    let q = replay_claim.opened a work log small small_work small_log e in
    let p = q.1 in
    let ns = (replay_of a work log).numbers in
    record {
      whole = λ s. (rw (q.0, (p.whole s).0), (p.whole s).1);
      refused = λ s. (rw (q.0, (p.stops s).0), (p.stops s).1);
      longer = λ u.
          let l = log_claim.longer log u in
          let s = p.stops (ap (λ (y : Log). y.stopped) l) in
          (rw (q.0, s.0), s.1 ∙ ap (λ (y : Log). y.at) l, p.count ∙ ap (λ (y : Log). length y.records) l);
      records = p.count;
      few = omega (arith, p.count, log_claim.few log);
      size = put_size ns answers;
      answered = λ i u v. put_in ns answers i u v ∙ ap (λ (ms : List ℕ). get_or ms i 0) p.answers;
      unused = λ i u. put_past ns answers i u;
      arena = p.arena;
      work = p.buffer;
    }

pub never_short : (a work log answers : List ℕ) → (btt_replay_of a work log answers).number ≢ 21
unfolding btt_replay_of
never_short a work log answers e = go (replay_of a work log).first (replay_of a work log).stopped (replay_claim.long a work log) e
  where
    go : (n : ℕ) (t : Bool) → n ≢ 21 → replay_number n t ≢ 21
    go zero true k f = omega arith
    go zero false k f = omega arith
    go (suc n) t k f = k (rw (ne_eqb (suc n) 0 (λ e. omega arith)) at f)
