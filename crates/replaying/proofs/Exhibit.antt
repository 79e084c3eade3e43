-- The replay of `ReplayExhibited`: its log is the bytes of its records, the row answers it, and the ledger is worked out from records and
-- answers. Said of any arena with those figures that opens, and the made arena is one.
use mathlib.Core.Path.{◌≡◌, refl, sym, ap, ◌∙◌, subst}
use mathlib.Core.Logic.{inl}
use mathlib.Core.Bool.{false}
use mathlib.Core.List.{List, [], ◌∷◌, ◌++◌, map}
use Prim.Native.Nat.{ℕ, zero, suc, ◌+◌, ◌*◌, ◌/◌, ◌≤◌, ◌<◌}
use native.Mathlib.Omega.{arith}
use lib.ListN.{length, replicate, length-replicate}
use Rattle.words.specs.Bytes.{Small, byte_word}
use Rattle.format.proofs.Below.{below_append, below_replicate}
use Rattle.layout.specs.Figures.{fresh_figures}
use Rattle.layout.specs.Told.{alone_near}
use Rattle.layout.specs.declared.Figures.{Figures}
use Rattle.machine.specs.calls.Opening.{figures_in, open_of}
use Rattle.machine.specs.calls.Reading.{read_of}
use Rattle.machine.specs.calls.History.{Reply, opened_from}
use Rattle.machine.specs.models.Row.{Row, word_by_word, row_replies, first_row}
use Rattle.machine.specs.claims.Exhibit.{exhibit_found}
use Rattle.machine.proofs.opening.Opening.{opening_claim}
use Rattle.machine.proofs.opening.Opens.{opened_figures}
use Rattle.machine.proofs.exhibit.Made.{made, exhibited}
use Rattle.runlog.specs.declared.record.Record.{Record}
use Rattle.runlog.specs.declared.record.Record.TheVariants.{Start, Step, Cut}
use Rattle.runlog.specs.Log.{Log, log_of}
use Rattle.runlog.specs.Claims.{bytes_of, Fits, all_bytes, AllFit}
use Rattle.runlog.proofs.Logs.{log_claim}
use Rattle.replaying.specs.Replay.{rising, own_table, room_of}
use Rattle.replaying.specs.Ledger.{Written, by, no_lines, all_landed, all_noted}
use Rattle.replaying.specs.Claims.{SectorReads, events_of, numbers, last, ledger}
use Rattle.replaying.specs.Exhibit.{exhibit_records, exhibit_log, exhibit_work, ReplayExhibited}
use Rattle.replaying.proofs.Lent.{rising-at}
use Rattle.replaying.proofs.Claimed.{numbers_in_row, replay_claim}
use Rattle.replaying.proofs.Flown.{replay_numbers}

-- ---- the log

fit_steps : (n : ℕ) (r : Record) (rs : List Record) → Fits r → AllFit rs → AllFit (replicate n r ++ rs)
unfolding AllFit
fit_steps zero r rs p q = q
fit_steps (suc n) r rs p q = (p, fit_steps n r rs p q)

all_fit : AllFit exhibit_records
unfolding AllFit
all_fit =
    let rest : AllFit (Start (record { 0 = 1 }) (record { 0 = 7 }) ∷ Cut ∷ []) = ((omega arith, omega arith), (tt, tt)) in
    ((omega arith, omega arith), fit_steps 132 (Step (record { 0 = 0 })) (Start (record { 0 = 1 }) (record { 0 = 7 }) ∷ Cut ∷ []) (omega arith) rest)

log_length : length exhibit_log ≡ 816
unfolding all_bytes
log_length = refl

log_is : log_of exhibit_log ≡ record { records = exhibit_records; stopped = false; at = length exhibit_log }
log_is = log_claim.whole exhibit_records all_fit (omega (arith, log_length))

-- each byte of a list is below 256
Each : List ℕ → Type 0
Each [] = Unit {0}
Each (b ∷ bs) = (b < 256) × Each bs

each_small : (bs : List ℕ) → Each bs → Small bs
unfolding Each
each_small [] p j = omega arith
each_small (b ∷ bs) p zero = p.0
each_small (b ∷ bs) p (suc j) = each_small bs p.1 j

bytes_small : (r : Record) → Small (bytes_of r)
unfolding Each
bytes_small (Start l s) = each_small (bytes_of (Start l s)) (
  omega arith,
  (
    omega arith,
    (omega arith, (omega arith, (omega arith, (omega arith, (omega arith, (omega arith, (omega arith, (omega arith, tt)))))))),
  ),
)
bytes_small (Step l) = each_small (bytes_of (Step l)) (omega arith, (omega arith, (omega arith, (omega arith, (omega arith, (omega arith, tt))))))
bytes_small Cut = each_small (bytes_of Cut) (omega arith, (omega arith, (omega arith, (omega arith, tt))))

log_small : (rs : List Record) → Small (all_bytes rs)
unfolding all_bytes
log_small [] = each_small [] (unfold Each in tt)
log_small (r ∷ rs) = below_append 256 (bytes_of r) (all_bytes rs) (bytes_small r) (log_small rs)

-- ---- an arena of 60 sectors of 512 bytes and 4 lanes

-- records 1 to 132 wrote sector 7
ledger_is : (all_noted 133 4 no_lines 0 exhibit_records (0 ∷ (replicate 132 0 ++ (13 ∷ 0 ∷ [])))).sector 7 ≡ by (rising 1 132)
unfolding all_noted all_landed rising
ledger_is = refl

module _ (a work : List ℕ) (small : Small a) (small_work : Small work) (e : (open_of alone_near a (room_of work own_table)).number ≡ 0)
    (figures : figures_in a ≡ fresh_figures 512 60 4) (room : 64 ≤ length work) where
  abbrev f : Figures
  f = (opened_from alone_near a (room_of work own_table)).handle.figures

  abbrev w : List ℕ
  w = (open_of alone_near a (room_of work own_table)).work

  abbrev first-row : Row
  first-row = first_row (opened_from alone_near a (room_of work own_table))

  figures_are : f ≡ fresh_figures 512 60 4
  figures_are = opened_figures alone_near a (room_of work own_table) e ∙ figures

  size_is : f.size ≡ 512
  unfolding fresh_figures
  size_is = ap (λ (g : Figures). g.size) figures_are

  sectors_are : f.sectors ≡ 60
  unfolding fresh_figures
  sectors_are = ap (λ (g : Figures). g.sectors) figures_are

  lanes_are : f.lanes ≡ 4
  unfolding fresh_figures
  lanes_are = ap (λ (g : Figures). g.lanes) figures_are

  work_room : f.blocks ≤ length w
  unfolding fresh_figures
  work_room = rw (figures_are, ((opening_claim alone_near).work a (room_of work own_table)).size) room

  records_are : (log_of exhibit_log).records ≡ exhibit_records
  records_are = ap (λ (l : Log). l.records) log_is

  numbers_are : numbers a work exhibit_log ≡ 0 ∷ (replicate 132 0 ++ (13 ∷ 0 ∷ []))
  numbers_are =
      numbers_in_row a work small small_work e exhibit_log (log_small exhibit_records)
      ∙ ap (λ (rs : List Record). map (λ (r : Reply). r.number) (row_replies word_by_word f first-row (events_of f.size w 0 rs))) records_are
      ∙ replay_numbers f size_is sectors_are lanes_are w work_room first-row (λ l. refl)

  written_is : (ledger a work exhibit_log).sector 7 ≡ by (rising 1 132)
  written_is =
      ap (λ (n : ℕ). noted n f.lanes (log_of exhibit_log).records (numbers a work exhibit_log)) stores_are
      ∙ ap (λ (n : ℕ). noted 133 n (log_of exhibit_log).records (numbers a work exhibit_log)) lanes_are
      ∙ ap (λ (rs : List Record). noted 133 4 rs (numbers a work exhibit_log)) records_are
      ∙ ap (noted 133 4 exhibit_records) numbers_are ∙ ledger_is
    where
      noted : ℕ → ℕ → List Record → List ℕ → Written
      noted stores lanes rs ns = (all_noted stores lanes no_lines 0 rs ns).sector 7

      stores_are : f.size / 4 + 5 ≡ 133
      stores_are = ap (λ (n : ℕ). n / 4 + 5) size_is

  words_are : (buffer : List ℕ) → length buffer ≡ 512 → (k : ℕ) → k < 128
      → let end = last a work exhibit_log in byte_word (read_of end.arena end.handle 7 buffer).buffer (4 * k) ≡ 2 * k + 1
  words_are buffer v k u =
      let end = last a work exhibit_log in
      let p = (replay_claim.opened a work exhibit_log small small_work (log_small exhibit_records) e).1 in
      let r = p.sectors 7 buffer (omega (arith, sectors_are)) (v ∙ sym size_is) in
      let c = subst (SectorReads f.size _ (read_of end.arena end.handle 7 buffer)) written_is r in
      let q : k + (1 + k) ≡ 2 * k + 1 = omega arith in
      c.words k (rw size_is (omega arith)) ∙ ap (λ (n : ℕ). k + n) (rising-at 1 132 k (omega arith)) ∙ q

pub replay_exhibited : ReplayExhibited
replay_exhibited =
    let k = exhibited 16 (inl refl) in
    let u : 64 ≤ length exhibit_work = omega (arith, length-replicate {A = ℕ} 64 0) in
    let z : Small exhibit_work = below_replicate 256 64 0 (omega arith) in
    let o = (made.opens 16 (inl refl)).number (room_of exhibit_work own_table) (record { bytes = u; records = omega arith }) in
    record {
      small = k.small;
      small_work = z;
      small_log = log_small exhibit_records;
      opens = o;
      size = log_length;
      records = records_are exhibit_found exhibit_work k.small z o made.figures u;
      numbers = numbers_are exhibit_found exhibit_work k.small z o made.figures u;
      written = written_is exhibit_found exhibit_work k.small z o made.figures u;
      words = words_are exhibit_found exhibit_work k.small z o made.figures u;
    }
