-- A replay that the claim speaks of, on the made arena of case 9: a write of sector 7 that is stopped before its last store, a start that
-- is refused, and a cut, whose opening finishes the write.
use Rattle.std.specs.Prelude.{◌≡◌, List, [], ◌∷◌, ◌++◌, ℕ, ◌+◌, ◌*◌, ◌<◌, length, replicate}
use Rattle.words.specs.Bytes.{Small, byte_word}
use Rattle.layout.specs.Told.{alone_near}
use Rattle.machine.specs.calls.Opening.{open_of}
use Rattle.machine.specs.calls.Reading.{read_of}
use Rattle.machine.specs.claims.Exhibit.{exhibit_found, exhibit_room}
use Rattle.runlog.specs.declared.record.Record.{Record}
use Rattle.runlog.specs.declared.record.Record.TheVariants.{Start, Step, Cut}
use Rattle.runlog.specs.Log.{log_of}
use Rattle.runlog.specs.Claims.{all_bytes}
use Rattle.replaying.specs.Replay.{rising, own_table, room_of, replay_of}
use Rattle.replaying.specs.Ledger.{by}
use Rattle.replaying.specs.Claims.{last, ledger}

-- a start on lane 0 to sector 7, 132 of its 133 steps, a start on lane 1 to the same sector, and a cut
abbrev pub exhibit_records : List Record
exhibit_records =
    Start (record { 0 = 0 }) (record { 0 = 7 })
    ∷ (replicate 132 (Step (record { 0 = 0 })) ++ (Start (record { 0 = 1 }) (record { 0 = 7 }) ∷ Cut ∷ []))

abbrev pub exhibit_log : List ℕ
exhibit_log = all_bytes exhibit_records

-- the work buffer that is lent with it, of just I bytes
abbrev pub exhibit_work : List ℕ
exhibit_work = exhibit_room.work

pub record ReplayExhibited : Type 0 where
  -- the premise
  pub small : Small exhibit_found
  pub small_work : Small exhibit_work
  pub small_log : Small exhibit_log
  pub opens : (open_of alone_near exhibit_found (room_of exhibit_work own_table)).number ≡ 0
  -- its 135 records and their answers: the refused start is 13
  pub size : length exhibit_log ≡ 816
  pub records : (log_of exhibit_log).records ≡ exhibit_records
  pub numbers : (replay_of exhibit_found exhibit_work exhibit_log).numbers ≡ 0 ∷ (replicate 132 0 ++ (13 ∷ 0 ∷ []))
  -- records 1 to 132 wrote sector 7, so that its word k is 2 k + 1
  pub written : (ledger exhibit_found exhibit_work exhibit_log).sector 7 ≡ by (rising 1 132)
  pub words : (buffer : List ℕ) → length buffer ≡ 512 → (k : ℕ) → k < 128
      → let end = last exhibit_found exhibit_work exhibit_log in byte_word (read_of end.arena end.handle 7 buffer).buffer (4 * k) ≡ 2 * k + 1
