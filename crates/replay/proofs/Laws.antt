-- The transcript from what the replay gave and what the text's function left, for each way out.
use mathlib.Core.Path.{◌≡◌, refl, ap, ◌∙◌}
use mathlib.Core.List.{List, [], ◌∷◌, ◌++◌}
use Prim.Native.Nat.{ℕ, ◌≤◌, ◌<◌}
use native.Mathlib.Omega.{arith}
use lib.ListN.{length, take, drop, replicate, length-replicate}
use lib.Seq.{take_all, take-append_seam}
use borrow.Author.Tests.{lt-ltb, le-ltb}
use mathlib.Core.Bool.{false}
use Rattle.std.specs.Prelude.{is_some, unwrap_or, Ok, Err}
use Rattle.machine.specs.declared.refusal.Refusal.{Refusal}
use Rattle.machine.specs.state.Answer.{refusal_number}
use Rattle.text.specs.Replay.{replay_text}
use Rattle.replaying.specs.declared.Replayed.{Replayed}
use Rattle.replaying.specs.Replay.{Replay, replay_of}
use Rattle.replaying.specs.Gave.{Given, gave, into}
use Rattle.replay.specs.Transcript.{max_arena, work_buffer, text_of, transcript_of, Transcribed}
use Rattle.replay.proofs.Bounds.{replay_within}

pub too_long : (a log before after : List ℕ) (r : ℕ) → max_arena < length a → r ≡ length (replay_text 1 [] false 0)
    → after ≡ replay_text 1 [] false 0 ++ drop (length (replay_text 1 [] false 0)) before → Transcribed (transcript_of a log) r a before after
unfolding transcript_of replay_text
too_long a log before after r u e f = rw (lt-ltb _ _ u) (record { count = e; buffer = f; replayed = refl })

-- a replay that gave this
module _ (a log arena work answers : List ℕ) (d : Replayed)
    (o : gave (Ok d) arena work answers ≡ into (replay_of a work_buffer log) (replicate 2048 0)) where
  abbrev given : Replay
  given = replay_of a work_buffer log

  records : d.records ≡ length given.numbers
  records = ap (λ (x : Given). x.records) o

  pub few : d.records ≤ 2048
  few = rw records (replay_within a work_buffer log).0

  pub early : unwrap_or d.stopped 0 ≤ 8192
  early = rw (ap (λ (x : Given). x.at) o) (replay_within a work_buffer log).1

  -- the answers that were put are those of the records
  numbers : take d.records answers ≡ given.numbers
  numbers =
      let all : take (length (replicate {A = ℕ} 2048 0)) given.numbers ≡ given.numbers
      = rw length-replicate (take_all 2048 given.numbers (replay_within a work_buffer log).0) in
      rw (ap (λ (x : Given). x.answers) o, records, all) (take-append_seam given.numbers _)

  pub few_answers : length (take d.records answers) ≤ 2048
  few_answers = rw numbers (replay_within a work_buffer log).0

  pub transcribed : length a ≤ max_arena → (before after : List ℕ) (r : ℕ)
      → let text = replay_text 0 (take d.records answers) (is_some d.stopped) (unwrap_or d.stopped 0) in
      r ≡ length text → after ≡ text ++ drop (length text) before → Transcribed (transcript_of a log) r arena before after
  unfolding transcript_of
  transcribed u before after r p q =
      let t : replay_text 0 (take d.records answers) (is_some d.stopped) (unwrap_or d.stopped 0) ≡ text_of given =
      rw (numbers, ← ap (λ (x : Given). x.first) o, ← ap (λ (x : Given). x.stopped) o, ← ap (λ (x : Given). x.at) o) in
      rw (le-ltb _ _ u, ← t) (record { count = p; buffer = q; replayed = ap (λ (x : Given). x.arena) o })

-- a list of no length is empty
empty : (ns : List ℕ) → 0 ≡ length ns → [] ≡ ns
empty [] e = refl
empty (n ∷ ns) e = absurd (omega arith)

-- a replay whose first opening was refused
pub refused : (a log arena work answers : List ℕ) (e : Refusal) → gave (Err e) arena work answers ≡ into (replay_of a work_buffer log) (replicate 2048 0)
    → length a ≤ max_arena → (before after : List ℕ) (r n : ℕ) → n ≡ refusal_number e
    → let text = replay_text n [] false 0 in
    r ≡ length text → after ≡ text ++ drop (length text) before → Transcribed (transcript_of a log) r arena before after
unfolding transcript_of
refused a log arena work answers e o u before after r n q p f =
    let ns = empty (replay_of a work_buffer log).numbers (ap (λ (x : Given). x.records) o) in
    let t : replay_text n [] false 0 ≡ text_of (replay_of a work_buffer log)
    = λ i. replay_text ((q ∙ ap (λ (x : Given). x.first) o) i) (ns i) (ap (λ (x : Given). x.stopped) o i) (ap (λ (x : Given). x.at) o i) in
    rw (le-ltb _ _ u, ← t) (record { count = p; buffer = f; replayed = ap (λ (x : Given). x.arena) o })
