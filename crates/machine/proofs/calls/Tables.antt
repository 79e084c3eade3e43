-- What an accepted read, start and step do, in bytes, of any handle. Rules 16 and 21 passed, so the figures are allowed, and the lane's record is one
-- of the table and in range.
use mathlib.Core.Path.{◌≡◌, refl, sym, ap, ◌∙◌, subst}
use mathlib.Core.Logic.{⊎_elim}
use mathlib.Core.Bool.{Bool, true, false, cond}
use mathlib.Core.List.{List}
use Prim.Native.Nat.{ℕ, zero, suc, ◌+◌, ◌-◌, ◌*◌, ◌/◌, ◌≤◌, ◌<◌}
use native.Mathlib.Omega.{arith}
use lib.Dec.{ltb}
use lib.ListN.{length, take, drop, length-set}
use Rattle.format.proofs.Tests.{true_false}
use Rattle.words.specs.Word.{word, put_word}
use Rattle.words.specs.Bytes.{Small, byte_word}
use Rattle.words.proofs.Laws.{length-put_word, get_d_put_word_other, word-put_word_same}
use Rattle.format.specs.MapWord.{block_of}
use Rattle.format.specs.Claims.{Bit31Alone, BothBits, named_block}
use Rattle.format.proofs.InNumbers.{map_words}
use Rattle.layout.specs.Figures.{Allowed}
use Rattle.layout.specs.Place.{Layout, LayoutOk, layout_of, at, in_data}
use Rattle.layout.specs.Told.{DistanceOk}
use Rattle.layout.specs.declared.Figures.{Figures}
use Rattle.words.proofs.Bytes.{word_at}
use Rattle.layout.proofs.Offsets.{data_start, map-start}
use Rattle.layout.proofs.Allowed.{of_distance, distance_ok, layout_ok}
use Rattle.machine.specs.declared.lane.Lane.{Lane}
use Rattle.machine.specs.state.Handle.{Handle, lane_at, with_lane, laid_out}
use Rattle.machine.specs.state.Lane.{started_lane, lane_after, finished_lane, write_stores}
use Rattle.machine.specs.state.Flog.{map_word, map_block}
use Rattle.machine.specs.words.InBytes.{map_word_in}
use Rattle.machine.specs.words.Running.{LaneOk, HandleOk}
use Rattle.machine.specs.calls.Reading.{read_of, block_bytes}
use Rattle.machine.specs.calls.Writing.{Outcome, plan_of, flog_store, store_at, lane_stored, start_of, step_of, steps_of, write_of}
use Rattle.machine.specs.words.Table.{last_byte, last_word, store_byte, store_word, OneWord, OneRecord, after_steps, WriteTable, StepTable, StartTable, ReadTable}
use Rattle.machine.proofs.stores.Stores.{in_arena}
use Rattle.machine.proofs.invariant.Inv.{lane_same, lane_other}
use Rattle.machine.proofs.opening.Described.{allowed_arena}
use Rattle.machine.proofs.stores.Kinds.{PlanOk, store_fits}
use Rattle.machine.proofs.invariant.Held.{lanes-in}
use Rattle.machine.proofs.invariant.Steps.{stored_more, stored_last}
use Rattle.machine.proofs.calls.Running.{handle_ok, records_ok}
use Rattle.machine.proofs.calls.Whole.{steps_accepted, begun_ok}
use Rattle.machine.proofs.calls.Accepted.{read_found, start_found, step_found, write_found}
use Rattle.machine.specs.words.Records.{Started, OneMore}
use Rattle.machine.proofs.calls.Records.{idle_fields, started_fields, stored_fields}
use Rattle.machine.proofs.stores.Offsets.{flog-byte, map-word}

-- ---- what rule 16 gives

-- the plan of a record in range
pub plan : (g : Layout) (l : ℕ) (r : Lane) → l < g.N → LaneOk g r → PlanOk g (plan_of l r)
plan g l r u k = record {
  lane_in = u;
  sector-in = k.sector;
  old-in = k.old;
  new-in = k.block;
  half_in = ⊎_elim (λ e. omega arith) (λ e. omega arith) k.half;
  sequence-in = omega (arith, k.sequence_most);
}

module _ (h : Handle) (a : List ℕ) (k : HandleOk h (length a)) where
  pub layout : LayoutOk (laid_out h)
  layout = layout_ok h.distance (distance_ok h.distance (of_distance h.distance k.distance)) h.figures (length a) k.figures k.size.most

-- ---- one store, and one record

one_word : (a : List ℕ) (i v o : ℕ) → 4 * i ≡ o → o + 4 ≤ length a → v < 4294967296 → OneWord a (put_word a i v) o v
one_word a i v o e u b = record {
  size = length-put_word a i v;
  inside = u;
  word = sym (word_at (put_word a i v) i o e) ∙ word-put_word_same a i v (omega arith) b;
  kept = λ j c. get_d_put_word_other a i v j (⊎_elim (λ p q. omega arith) (λ p q. omega arith) c);
}

one_record : (h : Handle) (l : ℕ) (r : Lane) (P : Lane → Type 0) → P r → l < length h.table → OneRecord h (with_lane h l r) l P
one_record h l r P p u = record {
  size = refl;
  distance = refl;
  figures = refl;
  count = length-set h.table l r;
  changed = rw (lane_same h.table l r u) p;
  kept = lane_other h.table l r;
}

-- ---- a step

module _ (d : ℕ) (f : Figures) (l : ℕ) (r : Lane) (buffer : List ℕ) (k : ℕ) where
  store-byte : DistanceOk d → (n : ℕ) → Allowed f n → 4 * at (layout_of d f) (store_at (layout_of d f) (plan_of l r) buffer k).place ≡ store_byte d f l r k
  unfolding store_at store_byte
  store-byte apart n ok = unfold layout_of in (go (ltb k (f.size / 4)) (k - f.size / 4))
    where
      last : (j : ℕ) → 4 * at (layout_of d f) (flog_store (plan_of l r) j).place ≡ last_byte d f l r j
      last zero = omega (arith, flog-byte d f n ok apart l r.half 0)
      last (suc zero) = flog-byte d f n ok apart l r.half 1
      last (suc (suc zero)) = flog-byte d f n ok apart l r.half 2
      last (suc (suc (suc zero))) = flog-byte d f n ok apart l r.half 3
      last (suc (suc (suc (suc j)))) = map-start d f n ok r.sector.0

      go : (t : Bool) (j : ℕ)
          → 4 * at (layout_of d f) (cond t (record { place = in_data r.block.0 k; value = word buffer k }) (flog_store (plan_of l r) j)).place
          ≡ cond t (f.dataoff + r.block.0 * f.internal + 4 * k) (last_byte d f l r j)
      go true j = data_start d f n ok r.block.0 k
      go false j = last j

  store-word : (store_at (layout_of d f) (plan_of l r) buffer k).value ≡ store_word f r buffer k
  unfolding store_at store_word
  store-word = unfold layout_of in (go (ltb k (f.size / 4)) (k - f.size / 4))
    where
      last : (j : ℕ) → (flog_store (plan_of l r) j).value ≡ last_word r j
      last zero = refl
      last (suc zero) = refl
      last (suc (suc zero)) = refl
      last (suc (suc (suc zero))) = refl
      last (suc (suc (suc (suc j)))) = refl

      go : (t : Bool) (j : ℕ)
          → (cond t (record { place = in_data r.block.0 k; value = word buffer k }) (flog_store (plan_of l r) j)).value
          ≡ cond t (byte_word buffer (4 * k)) (last_word r j)
      go true j = word_at buffer k (4 * k) refl
      go false j = last j

-- the record after a store
module _ (d : ℕ) (f : Figures) (r : Lane) where
  after_more : r.made + 1 < f.size / 4 + 5 → lane_stored (layout_of d f) r ≡ lane_after r (r.made + 1)
  unfolding layout_of
  after_more u = stored_more (layout_of d f) r (λ e. omega arith)

  after_last : r.made + 1 ≡ f.size / 4 + 5 → lane_stored (layout_of d f) r ≡ finished_lane r
  unfolding layout_of
  after_last e = stored_last (layout_of d f) r e

module _ (a : List ℕ) (h : Handle) where
  pub step_table : (l : ℕ) (buffer : List ℕ) → Small a → Small buffer → (step_of a h l buffer).number ≡ 0
      → StepTable a h l buffer (lane_at h.table l) (step_of a h l buffer)
  unfolding step_of
  step_table l buffer small bytes e =
      let found = step_found a h l buffer e in
      let k = handle_ok h (length a) found.judged.handle in
      let d = h.distance in
      let f = h.figures in
      let g = laid_out h in
      let r = lane_at h.table l in
      let u = found.lane in
      let long : l < length h.table = omega (arith, found.judged.long) in
      let range = records_ok h found.judged.records l u in
      let st = store_at g (plan_of l r) buffer r.made in
      let fits = store_fits g (layout h a k) (plan_of l r) (plan g l r (lanes-in d f l u) range) buffer bytes r.made range.made in
      let o = store-byte d f l r buffer r.made (distance_ok d (of_distance d k.distance)) (length a) k.figures in
      let i = in_arena g (layout h a k) a (allowed_arena d f a k.figures k.size.multiple small) st.place fits.range in
      record {
        store = rw (e, ← store-word d f l r buffer r.made) (one_word a (at g st.place) st.value _ o (rw o at i) fits.small);
        aligned = omega (arith, o);
        more = λ v. rw e (one_record h l (lane_stored g r) (OneMore r) (rw (after_more d f r v) (stored_fields r)) long);
        last = λ v. rw e (one_record h l (lane_stored g r) _ (rw (after_last d f r v) (idle_fields _ _ _)) long);
      }

  -- ---- a start

  pub start_table : (l s : ℕ) → Small a → (start_of a h l s).number ≡ 0 → StartTable a h l s (lane_at h.table l) (start_of a h l s)
  unfolding start_of
  start_table l s small e =
      let found = start_found a h l s e in
      let k = handle_ok h (length a) found.judged.handle in
      let u : l < length h.table = omega (arith, found.lane, found.judged.long) in
      let r = lane_at h.table l in
      let b = map_block (laid_out h) a s in
      let n = map_words.block s (map_word (laid_out h) a s) ∙ ap (named_block s) (map-word h.distance h.figures (length a) k.figures a s) in
      record {
        arena = refl;
        handle = rw e (one_record h l (started_lane r s b) _
            (subst (λ (o : ℕ). Started r s o (started_lane r s b)) n (started_fields r s b)) u);
      }

  -- ---- a read

  -- where a block's bytes start
  block-bytes : (b : ℕ) → HandleOk h (length a) → block_bytes a h b ≡ take h.figures.size (drop (h.figures.dataoff + b * h.figures.internal) a)
  unfolding block_bytes
  block-bytes b k =
      let e : 4 * at (laid_out h) (in_data b 0) ≡ h.figures.dataoff + b * h.figures.internal =
      omega (arith, data_start h.distance h.figures (length a) k.figures b 0) in
      ap (λ (o : ℕ). take h.figures.size (drop o a)) e

  pub read_table : (s : ℕ) (buffer : List ℕ) → Small a → (read_of a h s buffer).number ≡ 0 → ReadTable a h s (read_of a h s buffer)
  unfolding read_of
  read_table s buffer small e =
      let k = handle_ok h (length a) (read_found a h s buffer e).judged.handle in
      let w = map_word (laid_out h) a s in
      let m : w ≡ map_word_in h.figures a s = map-word h.distance h.figures (length a) k.figures a s in
      record {
        unwritten = λ u. let v : w ≡ 0 = m ∙ u in rw (e, v);
        zeroed = λ u. let v : Bit31Alone w = rw m u in rw (e, (map_words.flags_10 s w v).reads);
        not_sloppy = λ u. true_false (sym (map_words.rule_18_back w (rw m u)) ∙ (read_found a h s buffer e).clean);
        not_bad = λ u. true_false (sym (map_words.rule_15_back w (rw m u)) ∙ (read_found a h s buffer e).not_bad);
        bytes = λ u.
            let v : BothBits w = rw m u in
            let n = map_words.flags_11 s w v in
            rw (e, n.reads, ← m) (block-bytes (block_of s w) k ∙ ap from n.block);
      }
    where
      from : ℕ → List ℕ
      from b = take h.figures.size (drop (h.figures.dataoff + b * h.figures.internal) a)

  -- ---- a whole write

  steps_are : (n : ℕ) (b : List ℕ) (k : Handle) (l : ℕ) (buffer : List ℕ) → steps_of n b k l buffer ≡ after_steps n b k l buffer
  unfolding steps_of after_steps
  steps_are zero b k l buffer = refl
  steps_are (suc n) b k l buffer = ap (λ (o : Outcome). step_of o.arena o.handle l buffer) (steps_are n b k l buffer)

  start_handle : (l s : ℕ) → (start_of a h l s).number ≡ 0
      → (start_of a h l s).handle ≡ with_lane h l (started_lane (lane_at h.table l) s (map_block (laid_out h) a s))
  unfolding start_of
  start_handle l s e = rw e

  pub write_table : (l s : ℕ) (buffer : List ℕ) → (write_of a h l s buffer).number ≡ 0 → WriteTable a h l s buffer (write_of a h l s buffer)
  unfolding write_of
  write_table l s buffer e =
      let first : (start_of a h l s).number ≡ 0 = unfold start_of in (write_found a h l s buffer e).start in
      let same = steps_are (write_stores (laid_out h)) a (start_of a h l s).handle l buffer in
      let found = start_found a h l s (write_found a h l s buffer e).start in
      let begun = started_lane (lane_at h.table l) s (map_block (laid_out h) a s) in
      record {
        start = first;
        steps = λ n u. ap (λ (o : Outcome). o.number) (sym (steps_are (suc n) a (start_of a h l s).handle l buffer))
            ∙ rw (start_handle l s first)
            (steps_accepted a h l begun buffer found.judged found.lane refl (begun_ok a h l s found) (write_found a h l s buffer e).size
            n (unfold layout_of in u));
        arena = rw e (unfold layout_of start_of in (ap (λ (o : Outcome). o.arena) same));
        handle = rw e (unfold layout_of start_of in (ap (λ (o : Outcome). o.handle) same));
      }
