-- The arena of `Exhibited` as it is made, which opens and changes nothing.
use mathlib.Core.Path.{◌≡◌, refl, sym, ap, ◌∙◌, subst}
use mathlib.Core.List.{List}
use Prim.Native.Nat.{ℕ, ◌+◌, ◌≤◌, ◌<◌, ◌*◌}
use native.Mathlib.Omega.{arith}
use lib.ListN.{replicate, length-replicate, get_or, get_or-replicate}
use Rattle.words.specs.Bytes.{Small}
use Rattle.format.proofs.Below.{below_replicate}
use Rattle.layout.specs.Figures.{fresh_length, fresh_figures}
use Rattle.layout.specs.Sizes.{internal_of}
use Rattle.layout.specs.Place.{layout_of}
use Rattle.machine.specs.calls.Making.{make_number, make_of}
use Rattle.machine.specs.Rules.{answer}
use Rattle.machine.specs.calls.Opening.{layout_in, found_lane}
use Rattle.machine.specs.claims.Making.{FreshArena}
use Rattle.machine.specs.claims.Exhibit.{exhibit_wanted, exhibit_found, exhibit_room, exhibit_short, exhibit_bytes, Exhibited, exhibit_state, exhibit_cut, CutOutOfOrder}
use Rattle.machine.proofs.making.Making.{made_small, map_words, making_claim}
use Rattle.machine.proofs.exhibit.Marked.{marked_is, read_by_flags}
use Rattle.machine.proofs.exhibit.Sloppy.{refused-sloppy}
use Rattle.layout.specs.Claims.{Distance}
use Rattle.layout.specs.Told.{alone}
use Rattle.words.specs.Word.{word}
use Rattle.machine.specs.state.Lane.{idle_lane}
use Rattle.machine.proofs.calls.Records.{idle_whole}
use Rattle.machine.proofs.exhibit.OutOfOrder.{cut_of, out_of_order}
use Rattle.machine.proofs.exhibit.Run.{
  Given,
  figures,
  unwritten,
  ran-finished,
  ran-unsequenced,
  listed,
  finished,
  before-sequence,
  some_history,
  harmless,
  small_events,
  one_buffer,
  refused,
  tallies,
  mended,
  past,
  few-records,
  cuts_told,
}
use Rattle.machine.proofs.opening.Opens.{opened-lane}

order-number : make_number exhibit_wanted 49152 ≡ 0
unfolding make_number fresh_length internal_of answer
order-number = refl

zeroes : (n : ℕ) → Small (replicate n 0)
zeroes n = below_replicate 256 n 0 (omega arith)

number : (make_of exhibit_wanted (replicate 49152 0)).number ≡ 0
unfolding make_of
number = ap (make_number exhibit_wanted) (length-replicate {A = ℕ} 49152 0) ∙ order-number

pub made : FreshArena exhibit_wanted (replicate 49152 0)
made = making_claim.made exhibit_wanted (replicate 49152 0) (zeroes 49152) (zeroes 16) (zeroes 16) number

given : (d : ℕ) → Distance d → Given d exhibit_found exhibit_room exhibit_short exhibit_bytes (replicate 512 0)
given d w =
    let n = length-replicate {A = ℕ} 64 0 in
    record {
      small = made_small exhibit_wanted (replicate 49152 0) (zeroes 49152) (zeroes 16) (zeroes 16) number;
      opens = (made.opens d w).number exhibit_room (record { bytes = omega arith; records = omega arith });
      same = (made.opens d w).arena exhibit_room;
      figures = made.figures;
      unwritten = map_words exhibit_wanted (replicate 49152 0) (zeroes 49152) (zeroes 16) (zeroes 16) number d w;
      room = unfold fresh_figures in (record { bytes = omega arith; records = omega arith });
      small_work = zeroes 64;
      short_bytes = omega arith;
      short_records = omega arith;
      size = λ l. length-replicate {A = ℕ} 512 (l + 1);
      small_bytes = λ l v. below_replicate 256 512 (l + 1) (omega arith);
      size_buffer = length-replicate {A = ℕ} 512 0;
      small_buffer = zeroes 512;
    }

-- its lanes, its data blocks, and the words of the bytes that are lent
fresh-lane : (d : ℕ) → Distance d → (l : ℕ) → l < 4 → found_lane (layout_in (alone d) exhibit_found) exhibit_found l ≡ idle_lane (60 + l) 1 2
unfolding layout_of fresh_figures
fresh-lane d w l u =
    let n = length-replicate {A = ℕ} 64 0 in
    sym (opened-lane (alone d) exhibit_found exhibit_room (given d w).opens l (rw (given d w).figures u))
    ∙ idle_whole _ _ _ _ ((made.opens d w).lanes exhibit_room l (record { bytes = omega arith; records = omega arith }) u)

no_data : (i : ℕ) → 8704 ≤ i → i < 8960 → word exhibit_found i ≡ 0
unfolding word fresh_figures internal_of
no_data i u v = rw (at (4 * i) (omega arith) (omega arith), at (4 * i + 1) (omega arith) (omega arith), at (4 * i + 2) (omega arith) (omega arith), at (4 * i + 3) (omega arith) (omega arith))
  where
    at : (j : ℕ) → 4096 ≤ j → j < 36864 → get_or exhibit_found j 0 ≡ 0
    at j p q = made.bytes.kept j p q ∙ get_or-replicate 49152 j 0 0 (omega arith)

lent-word : (l k : ℕ) → k < 128 → word (exhibit_bytes l) k ≡ 16843009 * (l + 1)
unfolding word
lent-word l k u = rw (at (4 * k) (omega arith), at (4 * k + 1) (omega arith), at (4 * k + 2) (omega arith), at (4 * k + 3) (omega arith)) (omega arith)
  where
    at : (j : ℕ) → j < 512 → get_or (replicate 512 (l + 1)) j 0 ≡ l + 1
    at j p = get_or-replicate 512 j (l + 1) 0 p

out_of_order_here : (d : ℕ) → Distance d → CutOutOfOrder d (exhibit_state d) (exhibit_cut d) exhibit_room
out_of_order_here d w =
    let k = given d w in
    subst (λ (b : List ℕ). CutOutOfOrder d (exhibit_state d) b exhibit_room) (ap (cut_of d) k.same) (out_of_order d (exhibit_state d) (figures d exhibit_found exhibit_room exhibit_short exhibit_bytes (replicate 512 0) k)
    (unwritten d exhibit_found exhibit_room exhibit_short exhibit_bytes (replicate 512 0) k) (λ l u. rw k.same (fresh-lane d w l u)) lent-word
    (before-sequence d exhibit_found exhibit_room exhibit_short exhibit_bytes (replicate 512 0) k)
    (ran-unsequenced d exhibit_found exhibit_room exhibit_short exhibit_bytes (replicate 512 0) k).book (λ i u v. rw k.same (no_data i u v)) exhibit_room
    (rw (figures d exhibit_found exhibit_room exhibit_short exhibit_bytes (replicate 512 0) k) k.room))

pub exhibited : Exhibited
exhibited d w = let k = given d w in record {
  small = k.small;
  small_events = small_events d exhibit_found exhibit_room exhibit_short exhibit_bytes (replicate 512 0) k;
  opens = k.opens;
  one_buffer = one_buffer d exhibit_found exhibit_room exhibit_short exhibit_bytes (replicate 512 0) k;
  harmless = harmless d exhibit_found exhibit_room exhibit_short exhibit_bytes (replicate 512 0) k;
  listed = listed d exhibit_found exhibit_room exhibit_short exhibit_bytes (replicate 512 0) k;
  some_history = some_history d exhibit_found exhibit_room exhibit_short exhibit_bytes (replicate 512 0) k;
  finished = finished d exhibit_found exhibit_room exhibit_short exhibit_bytes (replicate 512 0) k;
  refused = refused d exhibit_found exhibit_room exhibit_short exhibit_bytes (replicate 512 0) k;
  tallies = tallies d exhibit_found exhibit_room exhibit_short exhibit_bytes (replicate 512 0) k;
  all_finished = (ran-finished d exhibit_found exhibit_room exhibit_short exhibit_bytes (replicate 512 0) k).book;
  mended = mended d exhibit_found exhibit_room exhibit_short exhibit_bytes (replicate 512 0) k;
  past = past d exhibit_found exhibit_room exhibit_short exhibit_bytes (replicate 512 0) k 4 (omega arith);
  short = few-records d exhibit_found exhibit_room exhibit_short exhibit_bytes (replicate 512 0) k;
  cuts = cuts_told d exhibit_found exhibit_room exhibit_short exhibit_bytes (replicate 512 0) k;
  out_of_order = out_of_order_here d w;
  marked = rw (marked_is d exhibit_found)
      (read_by_flags d exhibit_found exhibit_room k.small k.opens k.same k.figures k.unwritten k.room);
  sloppy = refused-sloppy d w exhibit_found exhibit_room k.small k.opens k.same k.figures k.unwritten k.room;
}
