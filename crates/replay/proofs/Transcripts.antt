-- What is written: by the arena's length, and then by what the claim about a replay says of it.
use mathlib.Core.Path.{◌≡◌, refl, ◌∙◌}
use mathlib.Core.Logic.{inl}
use mathlib.Core.Bool.{false}
use mathlib.Core.List.{List}
use Prim.Native.Nat.{ℕ, ◌≤◌}
use native.Mathlib.Omega.{arith}
use lib.ListN.{length, length-replicate}
use borrow.Author.Tests.{lt-ltb, le-ltb}
use Rattle.format.proofs.Tests.{by_bool}
use Rattle.format.proofs.Below.{below_replicate}
use Rattle.layout.specs.Figures.{max_lanes}
use Rattle.machine.specs.state.Lane.{no_lane}
use Rattle.machine.specs.claims.Making.{FreshRoom}
use Rattle.machine.specs.claims.Exhibit.{exhibit_wanted}
use Rattle.machine.proofs.exhibit.Made.{made, exhibited}
use Rattle.runlog.specs.Log.{log_of}
use Rattle.replaying.specs.Replay.{replay_of}
use Rattle.replaying.specs.Claims.{replies}
use Rattle.replaying.proofs.Claimed.{replay_claim}
use Rattle.text.specs.Text.{digits, refused_text}
use Rattle.text.specs.Replay.{replay_text}
use Rattle.replay.specs.Transcript.{max_arena, text_of, work_buffer, lent, transcript_of}
use Rattle.replay.specs.Claims.{TranscriptClaim}

-- an arena that is not too long is replayed
replayed : (a log : List ℕ) → length a ≤ max_arena
    → transcript_of a log ≡ record { text = text_of (replay_of a work_buffer log); arena = (replay_of a work_buffer log).arena }
unfolding transcript_of
replayed a log u = rw (le-ltb max_arena (length a) u)

-- where nothing stopped no offset is written
no_offset : (ns : List ℕ) (at at' : ℕ) → replay_text 0 ns false at ≡ replay_text 0 ns false at'
unfolding replay_text
no_offset ns at at' = refl

-- the made arena of case 9 opens with what is lent
room : FreshRoom exhibit_wanted lent
room = record { bytes = omega arith; records = omega (arith, length-replicate max_lanes no_lane) }

pub transcript_claim : TranscriptClaim
transcript_claim = record {
  longer = λ a log u. unfold transcript_of refused_text digits in (rw (lt-ltb max_arena (length a) (omega arith)));
  refused = λ a log u n.
      let q = replay_claim.refused a work_buffer log n in
      simp (replayed a log (omega arith), q.first, q.numbers, q.stopped, q.at, q.arena);
  replayed = λ a log u small small_log e.
      let q = replay_claim.opened a work_buffer log small (below_replicate 256 (length work_buffer) 0 (omega arith)) small_log e in
      let p = q.1 in
      by_bool (log_of log).stopped _
      (λ t. simp (replayed a log (omega arith), q.0, p.answers, (p.stops t).0, (p.stops t).1, p.arena, t))
      (λ t. rw (t, no_offset (replies a work_buffer log) (log_of log).at 0)
      (simp (replayed a log (omega arith), q.0, p.answers, (p.whole t).0, (p.whole t).1, p.arena)));
  exhibited = (made.bytes.size ∙ length-replicate {A = ℕ} 49152 0, (exhibited 16 (inl refl)).small, (made.opens 16 (inl refl)).number lent room);
}
