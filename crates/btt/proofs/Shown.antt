-- What a refused call leaves, what a wrong layout, a short table and a wrong busy word do, and that what a host is shown is so: the info block's
-- place, a lane's record, and where the next step stores.
use mathlib.Core.Path.{◌≡◌, refl, sym, ap, ◌∙◌}
use mathlib.Core.Logic.{◌≢◌, ⊎_elim}
use mathlib.Core.Bool.{Bool, true, false, not, cond}
use mathlib.Core.List.{List, []}
use Prim.Native.Nat.{ℕ, zero, suc, ◌-◌, ◌/◌, ◌≤◌, ◌<◌}
use native.Mathlib.Omega.{arith}
use lib.Dec.{ltb}
use lib.ListN.{length, take, drop, length-drop}
use lib.Seq.{take_all}
use borrow.Author.Tests.{lt-ltb, le-ltb, lt-leb, eq-eqb, ne_eqb}
use Rattle.words.specs.Bytes.{Small, byte_word}
use Rattle.words.proofs.Laws.{get_d_put_word_other}
use Rattle.words.proofs.Runs.{length-put_words, put_words-bytes}
use Rattle.format.proofs.Tests.{by_bool}
use Rattle.infoblock.specs.Info.{sound, info_block_of, counts_of}
use Rattle.infoblock.specs.Claims.{Sound}
use Rattle.infoblock.proofs.InBytes.{sound_claim}
use Rattle.judge.specs.Judge.{info_part_of}
use Rattle.judge.proofs.Parts.{main_part, copy_part, no_part}
use Rattle.layout.specs.Figures.{length_allowed}
use Rattle.layout.specs.Claims.{Length}
use Rattle.layout.specs.Place.{Layout, layout_of, at}
use Rattle.machine.specs.declared.lane.Lane.{Lane}
use Rattle.machine.specs.Rules.{FirstOf}
use Rattle.machine.specs.state.Handle.{Handle, bare_of, lane_at, laid_out, handle_allowed, table_short, records_allowed}
use Rattle.machine.specs.calls.Judging.{tests, call_number}
use Rattle.machine.specs.calls.Order.{Rule, number, table_rules}
use Rattle.machine.specs.calls.Reading.{read_of}
use Rattle.machine.specs.calls.Writing.{Plan, plan_of, store_at, step_number, start_of, step_of, write_of, Outcome}
use Rattle.machine.specs.words.Running.{HandleOk, Holds}
use Rattle.machine.specs.claims.Running.{AsTheyCame}
use Rattle.machine.proofs.opening.Reflect.{length-ok, ok-length, main_small, copy_small}
use Rattle.machine.proofs.rules.Rules.{Walk, walked, stop, pass, through}
use Rattle.machine.proofs.calls.Accepted.{step_found}
use Rattle.machine.proofs.calls.Running.{handle_ok, ok_handle, handle_fit, records_ok, first_holds, running_claim}
use Rattle.handlebytes.specs.Bytes.{record_words}
use Rattle.handlebytes.specs.Stands.{RecordFits}
use Rattle.handlebytes.proofs.Offsets.{head_at}
use Rattle.handlebytes.proofs.Round.{record_stored}
use Rattle.btt.specs.Calls.{span, part_span, btt_info_block_of, handle_in, btt_read_of, btt_of, btt_start_of, btt_step_of, btt_write_of}
use Rattle.btt.specs.Calls.{lane_order, next_order, lane_number, lane_shown, btt_lane_of, next_number, next_offset, next_shown, btt_next_store_of}
use Rattle.btt.specs.Host.{LentFor, lanes_in, InfoPlace, Untouched, AllAnswer, AllBadHandle, AllShortTable, RecordShown, OnlyAt, ToldPlace}
use Rattle.btt.proofs.Looks.{LaneFound, lane-found}
use Rattle.btt.proofs.Same.{held, lanes_held}

-- ---- the info block

part_small : (a : List ℕ) → info_part_of a ≤ 2
unfolding info_part_of counts_of
part_small a = go (length_allowed (length a)) (sound (take 4096 a)) (sound (drop (length a - 4096) a))
  where
    go : (t u v : Bool) → cond t (cond u 0 (cond v 1 2)) 2 ≤ 2
    go true true v = omega arith
    go true false true = omega arith
    go true false false = omega arith
    go false u v = omega arith

pub info_shown : (a : List ℕ) → take (btt_info_block_of a).length (drop (btt_info_block_of a).offset a) ≡ info_block_of a
unfolding btt_info_block_of
info_shown a = go (info_part_of a) refl (part_small a)
  where
    go : (k : ℕ) → info_part_of a ≡ k → k ≤ 2
        → take (part_span (length a) k).length (drop (part_span (length a) k).offset a) ≡ info_block_of a
    go zero e u = (main_part a e).1
    go (suc zero) e u =
        let p = copy_part a e in
        let n : length (drop (length a - 4096) a) ≤ 4096 = rw length-drop (omega (arith, p.0)) in
        take_all 4096 (drop (length a - 4096) a) n ∙ p.1
    go (suc (suc zero)) e u = no_part a e
    go (suc (suc (suc k))) e u = absurd (omega arith)

-- which of the two counts, and so where
module _ (a : List ℕ) (small : Small a) where
  pub info_placed : InfoPlace a
  unfolding btt_info_block_of info_part_of
  info_placed =
      record {
        first = λ k s. rw (ok-length (length a) k, (sound_claim.main main copy s).0);
        copy = λ k n s. rw (ok-length (length a) k, (sound_claim.copy main copy (main_small a small) n s).0);
        neither = neither;
        no_arena = λ n. rw (forbidden n);
      }
    where
      main : List ℕ
      main = take 4096 a

      copy : List ℕ
      copy = drop (length a - 4096) a

      forbidden : (Length (length a) → ⊥) → length_allowed (length a) ≡ false
      forbidden n = by_bool (length_allowed (length a)) _ (λ e. absurd (n (length-ok (length a) e))) (λ e. e)

      neither : (Sound main → ⊥) → (Sound copy → ⊥) → btt_info_block_of a ≡ span 0 0
      neither n o =
          by_bool (length_allowed (length a)) _ (λ e. rw (e, (sound_claim.none main copy (main_small a small) (copy_small a small) n o).0)) (λ e. rw e)

-- ---- refusals

module _ (a b : List ℕ) (t : List Lane) where
  pub read_left : (s : ℕ) (buffer : List ℕ) → (btt_read_of a b t s buffer).number ≢ 0 → (btt_read_of a b t s buffer).buffer ≡ buffer
  unfolding btt_read_of
  read_left s buffer z = running_claim.read_refused a (handle_in b t) s buffer z

  left : (o : Outcome) → AsTheyCame a (handle_in b t) o → Untouched a t (btt_of o)
  left o r = record { arena = r.arena; table = ap (λ (x : Handle). x.table) r.handle }

  pub start_left : (l s : ℕ) → (btt_start_of a b t l s).number ≢ 0 → Untouched a t (btt_start_of a b t l s)
  unfolding btt_start_of
  start_left l s z = left _ (running_claim.start_refused a (handle_in b t) l s z)

  pub step_left : (l : ℕ) (buffer : List ℕ) → (btt_step_of a b t l buffer).number ≢ 0 → Untouched a t (btt_step_of a b t l buffer)
  unfolding btt_step_of
  step_left l buffer z = left _ (running_claim.step_refused a (handle_in b t) l buffer z)

  pub write_left : (l s : ℕ) (buffer : List ℕ) → (btt_write_of a b t l s buffer).number ≢ 0 → Untouched a t (btt_write_of a b t l s buffer)
  unfolding btt_write_of
  write_left l s buffer z = left _ (running_claim.write_refused a (handle_in b t) l s buffer z)

  pub lane_left : (l : ℕ) (out : List ℕ) → (btt_lane_of a b t l out).number ≢ 0 → (btt_lane_of a b t l out).out ≡ out
  unfolding lane_shown
  lane_left l out z = rw (ne_eqb (lane_number a (handle_in b t) l) 0 z)

  pub next_left : (l offset : ℕ) → (btt_next_store_of a b t l offset).number ≢ 0 → (btt_next_store_of a b t l offset).offset ≡ offset
  unfolding next_shown
  next_left l offset z = rw (ne_eqb (next_number a (handle_in b t) l) 0 z)

-- ---- what one of the first three rules refuses, every call refuses

module _ (a b : List ℕ) (t : List Lane) where
  abbrev h : Handle
  h = handle_in b t

  all_answer : (n : ℕ) → ((rules : List Rule) → Walk number (tests a h) (table_rules rules) n) → AllAnswer n a b t
  unfolding btt_read_of btt_start_of btt_step_of btt_write_of lane_shown lane_number next_shown next_number read_of start_of step_of write_of call_number
  all_answer n w = record {
    read = λ s buffer. sym (walked (w _));
    start = λ l s. sym (walked (w _));
    step = λ l buffer. sym (walked (w _));
    write = λ l s buffer. sym (walked (w _));
    lane = λ l out. sym (walked (w _));
    next_store = λ l offset. sym (walked (w _));
  }

  all_bad : handle_allowed (bare_of h) (length a) ≡ false → AllBadHandle a b t
  all_bad e = all_answer 16 (λ rules. stop (ap not e))

  -- a layout other than 16 and 32
  pub layout_wrong : byte_word b 60 ≢ 16 → byte_word b 60 ≢ 32 → AllBadHandle a b t
  layout_wrong m n = all_bad (by_bool (handle_allowed (bare_of h) (length a)) _
      (λ e. absurd (⊎_elim (λ x. m (sym (head_at b).layout ∙ x)) (λ x. n (sym (head_at b).layout ∙ x)) (handle_ok h (length a) e).distance))
      (λ e. e))

  -- a table shorter than the lanes
  pub table-short : HandleOk h (length a) → length t < lanes_in b → AllShortTable a b t
  unfolding table_short
  table-short ok u =
      let v : length t < h.figures.lanes = rw (lanes_held b) u in
      all_answer 21 (λ rules. pass (ap not (ok_handle h (length a) ok)) (stop (lt-ltb _ _ v)))

  -- a busy word other than 0 and 1
  pub busy_wrong : (l : ℕ) → lanes_in b ≤ length t → l < lanes_in b → 2 ≤ (lane_at t l).busy → AllBadHandle a b t
  unfolding table_short
  busy_wrong l long u w = by_bool (handle_allowed (bare_of h) (length a)) (AllBadHandle a b t)
      (λ e. all_answer 16 (λ rules. pass (ap not e) (pass enough (stop (ap not records)))))
      all_bad
    where
      m : l < h.figures.lanes
      m = rw (lanes_held b) u

      enough : table_short h ≡ false
      enough = let v : h.figures.lanes ≤ length t = rw (lanes_held b) long in le-ltb _ _ v

      records : records_allowed h ≡ false
      records = by_bool (records_allowed h) _
          (λ e. absurd (⊎_elim (λ x. omega arith) (λ x. omega arith) (records_ok h e l m).busy))
          (λ e. e)

-- ---- a lane's record

pub lane-answered : (a b : List ℕ) (t : List Lane) (h : Handle) (l : ℕ) (out : List ℕ) → LentFor b t h
    → FirstOf number (Holds a h) (lane_order l) (btt_lane_of a b t l out).number
unfolding lane_shown lane_number
lane-answered a b t h l out k = rw (held b t h k) (first_holds a h (lane_order l))

pub next-answered : (a b : List ℕ) (t : List Lane) (h : Handle) (l offset : ℕ) → LentFor b t h
    → FirstOf number (Holds a h) (next_order l) (btt_next_store_of a b t l offset).number
unfolding next_shown next_number
next-answered a b t h l offset k = rw (held b t h k) (first_holds a h (next_order l))

-- a record in range fits its bytes
found_fits : (a : List ℕ) (h : Handle) (l : ℕ) → LaneFound a h l → RecordFits (lane_at h.table l)
unfolding layout_of
found_fits a h l f =
    let g = handle_fit h (length a) f.judged.handle in
    let r = records_ok h f.judged.records l f.lane in
    record {
      busy = ⊎_elim (λ e. omega arith) (λ e. omega arith) r.busy;
      block = omega (arith, r.block, g.ok.small);
      half = ⊎_elim (λ e. omega arith) (λ e. omega arith) r.half;
      sequence = omega (arith, r.sequence_most);
      sector = omega (arith, r.sector, g.ok.blocks, g.ok.small);
      old = omega (arith, r.old, g.ok.small);
      made = omega (arith, r.made, g.size);
    }

pub lane-shown : (a b : List ℕ) (t : List Lane) (l : ℕ) (out : List ℕ) → Small out → length out ≡ 28 → (btt_lane_of a b t l out).number ≡ 0
    → RecordShown (btt_lane_of a b t l out).out (lane_at t l)
unfolding lane_shown
lane-shown a b t l out small size z =
    let r = lane_at t l in
    let f = found_fits a (handle_in b t) l (lane-found a (handle_in b t) l z) in
    rw z (record {
      size = length-put_words (record_words r) out 0 ∙ size;
      small = (put_words-bytes (record_words r) out 0 (record { words = rw size; small = small })).small;
      is = record_stored out r size f;
    })

-- ---- the place of the next store

-- it does not depend on the bytes
place_same : (g : Layout) (p : Plan) (bytes : List ℕ) (k : ℕ) → (store_at g p bytes k).place ≡ (store_at g p [] k).place
unfolding store_at
place_same g p bytes k =
    by_bool (ltb k g.W) ((store_at g p bytes k).place ≡ (store_at g p [] k).place) (λ t. rw t) (λ t. rw t)

-- where a step is accepted, so is the look at where it stores
step_next : (a : List ℕ) (h : Handle) (l : ℕ) (buffer : List ℕ) → step_number a h l buffer ≡ 0 → next_number a h l ≡ 0
unfolding next_number table_short
step_next a h l buffer e =
    let f = step_found a h l buffer e in
    let j = f.judged in
    sym (walked (pass (ap not j.handle) (pass (le-ltb _ _ j.long) (pass (ap not j.records)
    (pass (lt-leb _ _ f.lane) (pass (ap not f.busy) through))))))

step_stores : (a : List ℕ) (h : Handle) (l : ℕ) (buffer : List ℕ) → step_number a h l buffer ≡ 0
    → OnlyAt (next_offset h l) 4 a (step_of a h l buffer).arena
unfolding next_offset step_of
step_stores a h l buffer z j u =
    let g = laid_out h in
    let r = lane_at h.table l in
    let i = at g (store_at g (plan_of l r) [] r.made).place in
    let d : j / 4 ≢ i = λ e. ⊎_elim (λ x. omega arith) (λ x. omega arith) u in
    rw (eq-eqb _ _ z, place_same g (plan_of l r) buffer r.made)
    (get_d_put_word_other a i (store_at g (plan_of l r) buffer r.made).value j d)

pub place_told : (a b : List ℕ) (t : List Lane) (l offset : ℕ) (buffer : List ℕ) → (btt_step_of a b t l buffer).number ≡ 0
    → ToldPlace a b t l offset buffer
unfolding btt_step_of next_shown
place_told a b t l offset buffer z =
    let n : step_number a (handle_in b t) l buffer ≡ 0 = unfold step_of in z in
    let m = step_next a (handle_in b t) l buffer n in
    record { number = m; store = rw m (step_stores a (handle_in b t) l buffer n) }
