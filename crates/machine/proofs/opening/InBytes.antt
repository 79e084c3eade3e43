-- What opening finds and mends, in bytes. The mended words and the other bytes are followed through the stores of the lanes one by one.
use mathlib.Core.Path.{◌≡◌, refl, sym, ap, subst, ◌∙◌}
use mathlib.Core.Logic.{◌≢◌, ◌⊎◌, inl, inr}
use mathlib.Core.List.{List}
use mathlib.Core.Bool.{true}
use Prim.Native.Nat.{ℕ, zero, suc, ◌+◌, ◌-◌, ◌/◌, ◌≤◌, ◌<◌}
use native.Mathlib.Omega.{arith}
use lib.ListN.{length, get_or, take}
use Rattle.words.specs.Bytes.{Small, byte_word}
use Rattle.words.proofs.Laws.{get_d_put_word_other}
use Rattle.format.specs.Sequence.{successor}
use Rattle.format.specs.Flog.{half_at}
use Rattle.format.specs.Claims.{named_block, HalfFrom}
use Rattle.format.proofs.InNumbers.{map_words, flog_claim}
use Rattle.format.specs.MapWord.{block_of, mapped_to}
use Rattle.layout.specs.Place.{Layout, layout_of, at, in_map, in_flog}
use Rattle.words.proofs.Bytes.{word_at}
use Rattle.layout.proofs.Offsets.{map-start}
use Rattle.infoblock.specs.Info.{info_block_of}
use Rattle.infoblock.proofs.InBytes.{fields_claim}
use Rattle.machine.specs.state.Lane.{idle_lane}
use Rattle.machine.specs.state.Handle.{lane_at}
use Rattle.machine.specs.state.Stores.{put_all}
use Rattle.machine.specs.state.Flog.{map_word, flog_word, newer_half, newer_word, newer_flog, pending}
use Rattle.machine.specs.calls.Opening.{Room, figures_in, layout_in, mends, pending_lanes, mended, handle_for, open_of, cut_open_of, extent_of}
use Rattle.machine.specs.words.InBytes.{flog_byte, map_byte, map_word_in, newer_in, sector_in, old_in, new_in, sequence_in, PendingIn, pending_below}
use Rattle.machine.specs.claims.Opening.{LaneAsFound, HandleAsFound, MendedFor, Mended, MendedUpTo}
use Rattle.machine.proofs.stores.Stores.{put_all-length}
use Rattle.machine.proofs.opening.Mends.{readable_of, pending_old, mends-take, mend_keeps}
use Rattle.machine.proofs.opening.MendedMap.{word-mended}
use Rattle.machine.proofs.opening.MendedMap.{of_pending}
use Rattle.machine.proofs.invariant.Lanes.{filled-length, filled_past}
use Rattle.machine.proofs.opening.Ghosts.{Consistent}
use Rattle.machine.proofs.opening.Described.{Described, described_distance, described_figures}
use Rattle.machine.proofs.opening.Opens.{open_zero, handle_lane, opens_consistent}
use Rattle.machine.proofs.calls.Records.{idle_is}
use Rattle.machine.proofs.stores.Offsets.{flog-byte, map-word}
use Rattle.layout.specs.declared.Told.{Told}
use Rattle.machine.specs.declared.lane.Lane.{Lane}

-- ---- the mended map by word numbers

module _ (g : Layout) (a : List ℕ) (j : Consistent g a) where
  -- a byte that is in the map word of no pending lane below n
  byte_kept : (n k : ℕ) → n ≤ g.N → ((l : ℕ) → l < n → pending g a l ≡ true → k / 4 ≢ at g (in_map (newer_word g a l 0)))
      → get_or (put_all g (mends g a n) a) k 0 ≡ get_or a k 0
  byte_kept n k u f = mend_keeps g a (λ x. get_or x k 0 ≡ get_or a k 0) refl n (λ l v t e. get_d_put_word_other _ _ _ k (f l v t) ∙ e)

-- ---- the handle and the arena of an opening

module _ (τ : Told) where
  -- ---- words by their bytes

  module _ (a : List ℕ) (d : Described τ a) where
    flog_bytes : (l h k : ℕ) → flog_word (layout_in τ a) a l h k ≡ byte_word a (flog_byte τ.distance (figures_in a) l h k)
    flog_bytes l h k = word_at a (at (layout_in τ a) (in_flog l h k)) _ (flog-byte τ.distance (figures_in a) (length a) (described_figures τ a d) (described_distance τ a d) l h k)

    map-bytes : (x : List ℕ) (s : ℕ) → map_word (layout_in τ a) x s ≡ byte_word x (map_byte (figures_in a) s)
    map-bytes = map-word τ.distance (figures_in a) (length a) (described_figures τ a d)

    newer-bytes : (l : ℕ) → newer_half (layout_in τ a) a l ≡ newer_in τ.distance a l
    unfolding newer_half newer_in
    newer-bytes l = rw (flog_bytes l 0 3, flog_bytes l 1 3)

    newer_word-bytes : (l k : ℕ) → newer_word (layout_in τ a) a l k ≡ byte_word a (flog_byte τ.distance (figures_in a) l (newer_in τ.distance a l) k)
    newer_word-bytes l k = ap (λ (h : ℕ). flog_word (layout_in τ a) a l h k) (newer-bytes l) ∙ flog_bytes l (newer_in τ.distance a l) k

    sector-bytes : (l : ℕ) → newer_word (layout_in τ a) a l 0 ≡ sector_in τ.distance a l
    unfolding sector_in
    sector-bytes l = newer_word-bytes l 0

    old_bytes : (l : ℕ) → newer_word (layout_in τ a) a l 1 ≡ old_in τ.distance a l
    unfolding old_in
    old_bytes l = newer_word-bytes l 1

    new_bytes : (l : ℕ) → newer_word (layout_in τ a) a l 2 ≡ new_in τ.distance a l
    unfolding new_in
    new_bytes l = newer_word-bytes l 2

    sequence_bytes : (l : ℕ) → newer_word (layout_in τ a) a l 3 ≡ sequence_in τ.distance a l
    unfolding sequence_in
    sequence_bytes l = newer_word-bytes l 3

    -- the newer half as a record
    half_bytes : (l : ℕ) → HalfFrom a (flog_byte τ.distance (figures_in a) l (newer_in τ.distance a l) 0) (newer_flog (layout_in τ a) a l)
    unfolding newer_flog
    half_bytes l =
        let p = at (layout_in τ a) (in_flog l (newer_half (layout_in τ a) a l) 0) in
        let e = flog-byte τ.distance (figures_in a) (length a) (described_figures τ a d) (described_distance τ a d) l (newer_half (layout_in τ a) a l) 0 in
        subst (λ (o : ℕ). HalfFrom a o (half_at a p)) (e ∙ ap (λ (h : ℕ). flog_byte τ.distance (figures_in a) l h 0) (newer-bytes l)) (flog_claim.half a p)

    -- pending in bytes and by word numbers
    block-bytes : (l : ℕ) → named_block (sector_in τ.distance a l) (map_word_in (figures_in a) a (sector_in τ.distance a l))
        ≡ block_of (newer_word (layout_in τ a) a l 0) (map_word (layout_in τ a) a (newer_word (layout_in τ a) a l 0))
    block-bytes l = rw (sector-bytes l, map-bytes a (sector_in τ.distance a l)) (sym (map_words.block _ _))

    of_bytes : (l : ℕ) → PendingIn τ.distance a l → pending (layout_in τ a) a l ≡ true
    of_bytes l p = of_pending (layout_in τ a) a l (sym (block-bytes l) ∙ p ∙ sym (old_bytes l))

    to_bytes : (l : ℕ) → pending (layout_in τ a) a l ≡ true → PendingIn τ.distance a l
    to_bytes l t = block-bytes l ∙ pending_old (layout_in τ a) a l t ∙ old_bytes l

    pub below_bytes : (l : ℕ) → pending_below τ.distance a l ≡ pending_lanes (layout_in τ a) a l
    unfolding pending_below pending_lanes pending
    below_bytes zero = refl
    below_bytes (suc l) = rw (below_bytes l, block-bytes l, ← old_bytes l)

    -- a byte outside a map word is in another word
    outside : (k s : ℕ) → (k < map_byte (figures_in a) s) ⊎ (map_byte (figures_in a) s + 4 ≤ k) → k / 4 ≢ at (layout_in τ a) (in_map s)
    outside k s (inl u) e = omega (arith, map-start τ.distance (figures_in a) (length a) (described_figures τ a d) s)
    outside k s (inr u) e = omega (arith, map-start τ.distance (figures_in a) (length a) (described_figures τ a d) s)

  module _ (a : List ℕ) (d : Described τ a) (j : Consistent (layout_in τ a) a) (table : List Lane) (long : (layout_in τ a).N ≤ length table) where
    lane-found : (l : ℕ) → l < (figures_in a).lanes → LaneAsFound τ.distance a l (lane_at (handle_for τ a table).table l)
    unfolding layout_of
    lane-found l u = record {
      has_newer = rw (newer-bytes a d l) at (readable_of (layout_in τ a) a l (j.lanes l u)).newer;
      idle = idle_is _ _ _ _ (handle_lane τ a table l u
          ∙ (λ i. idle_lane (old_bytes a d l i) (1 - newer-bytes a d l i) (successor (sequence_bytes a d l i))));
    }

    handle_found : HandleAsFound τ.distance a table (handle_for τ a table)
    unfolding handle_for layout_of
    handle_found = record {
      size = refl;
      distance = refl;
      figures = refl;
      fields = fields_claim.figures (info_block_of a);
      lanes = lane-found;
      count = filled-length (layout_in τ a) a table long;
      past = filled_past (layout_in τ a) a table;
    }

  module _ (a : List ℕ) (d : Described τ a) (j : Consistent (layout_in τ a) a) where
    -- mended for the lanes below n, which are these
    part-mended : (n : ℕ) → n ≤ (figures_in a).lanes → (these : ℕ → Type 0)
        → ((l : ℕ) → l < (figures_in a).lanes → these l → (l < n) × (pending (layout_in τ a) a l ≡ true))
        → ((l : ℕ) → l < n → pending (layout_in τ a) a l ≡ true → these l)
        → MendedFor τ.distance these a (put_all (layout_in τ a) (mends (layout_in τ a) a n) a)
    unfolding layout_of
    part-mended n few these in-part of_part = record {
      size = put_all-length (layout_in τ a) (mends (layout_in τ a) a n) a;
      mapped = λ l u t. let p = in-part l u t in
          sym (map-bytes a d (put_all (layout_in τ a) (mends (layout_in τ a) a n) a) (sector_in τ.distance a l))
          ∙ ap (map_word (layout_in τ a) (put_all (layout_in τ a) (mends (layout_in τ a) a n) a)) (sym (sector-bytes a d l))
          ∙ word-mended (layout_in τ a) j.ok a j.arena j.lanes j.apart n l few p.0 p.1
          ∙ ap mapped_to (new_bytes a d l);
      aligned = λ l u t. omega (arith, map-start τ.distance (figures_in a) (length a) (described_figures τ a d) (sector_in τ.distance a l));
      kept = λ k f. byte_kept (layout_in τ a) a j n k few
          (λ l u t. rw (sector-bytes a d l) (outside a d k (sector_in τ.distance a l) (f l (omega arith) (of_part l u t))));
    }

    arena_mended : Mended τ.distance a (mended (layout_in τ a) a)
    unfolding layout_of
    arena_mended = part-mended (figures_in a).lanes (omega arith) (PendingIn τ.distance a) (λ l u p. (u, of_bytes a d l p)) (λ l u t. to_bytes a d l t)

    cut-mended : (k : ℕ) → MendedUpTo τ.distance a k (put_all (layout_in τ a) (take k (mends (layout_in τ a) a (layout_in τ a).N)) a)
    unfolding layout_of
    cut-mended k =
        let r = mends-take (layout_in τ a) a (figures_in a).lanes k in
        let e = below_bytes a d in
        rw r.2 (part-mended r.0 r.1 (λ l. PendingIn τ.distance a l × (pending_below τ.distance a l < k))
        (λ l u p. let t = of_bytes a d l p.0 in ((r.3 l u t).0 (omega (arith, e l, p.1)), t))
        (λ l u t. (to_bytes a d l t, omega (arith, e l, (r.3 l (omega (arith, r.1)) t).1 u))))

  module _ (a : List ℕ) (work : Room) (small : Small a) (e : (open_of τ a work).number ≡ 0) where
    pub handle_as_found : HandleAsFound τ.distance a work.table (open_of τ a work).handle
    unfolding open_of
    handle_as_found = let o = open_zero τ a (extent_of work) e in rw e (handle_found a o.0.info (opens_consistent τ a o.0 small) work.table o.1.records)

    pub newer-half : (l : ℕ) → HalfFrom a (flog_byte τ.distance (figures_in a) l (newer_in τ.distance a l) 0) (newer_flog (layout_in τ a) a l)
    unfolding open_of
    newer-half = half_bytes a (open_zero τ a (extent_of work) e).0.info

    pub opening_mends : Mended τ.distance a (open_of τ a work).arena
    unfolding open_of
    opening_mends = let o = (open_zero τ a (extent_of work) e).0 in rw e (arena_mended a o.info (opens_consistent τ a o small))

  pub cut_mends : (a : List ℕ) (work : Room) (k : ℕ) → Small a → (cut_open_of τ a work k).number ≡ 0 → MendedUpTo τ.distance a k (cut_open_of τ a work k).arena
  unfolding cut_open_of
  cut_mends a work k small e = let o = (open_zero τ a (extent_of work) e).0 in rw e (cut-mended a o.info (opens_consistent τ a o small) k)
