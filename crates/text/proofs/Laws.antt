-- Laws of a text put into a buffer: two pieces that follow one another are one piece, so each function's text is the chain of its pieces.
use mathlib.Core.Path.{◌≡◌, refl, sym, ap, ap₂, ◌∙◌}
use mathlib.Core.List.{List, [], ◌∷◌, ◌++◌, append_assoc}
use Prim.Native.Nat.{ℕ, zero, suc, ◌+◌, ◌-◌, ◌/◌, ◌%◌, ◌≤◌, ◌<◌}
use native.Mathlib.Nat.{add-zero, zero-add}
use native.Mathlib.Numerals.{add-one}
use native.Mathlib.Omega.{arith}
use lib.ListN.{length, set, take, drop, length-append, take-append-drop}
use lib.Seq.{sets, sets-eq, length-sets, take_at}
use borrow.Rule.Slice.PartMut.{put_mid}
use Rattle.std.proofs.lemmas.Slice.{take-put_mid, drop-put_mid}
use borrow.Author.Tests.{lt-ltb, le-ltb}
use Rattle.layout.specs.Place.{layout_of}
use Rattle.machine.specs.state.Handle.{Handle, with, lane_at}
use Rattle.machine.specs.calls.Opening.{found_lane}
use Rattle.machine.specs.declared.handle.Handle as bare
use Rattle.machine.specs.declared.lane.Lane.{Lane}
use Rattle.machine.proofs.invariant.Lanes.{filled-lane}
use Rattle.lanes.specs.Filled.{filled_by}
use Rattle.text.specs.Opened.{opened}
use Rattle.text.specs.Put.{Put}
use Rattle.text.specs.Text as texts
use Rattle.text.specs.Text.{digits, decimal, newline, refused_text, head_text, lane_text, lanes_text, opened_text}

sets_append : (s t l : List ℕ) (at : ℕ) → sets l at (s ++ t) ≡ sets (sets l at s) (at + length s) t
sets_append [] t l at = rw add-zero
sets_append (x ∷ s) t l at =
    let e : suc at + length s ≡ at + suc (length s) = omega arith in
    sets_append s t (set l at x) (suc at) ∙ ap (λ (n : ℕ). sets (sets (set l at x) (suc at) s) n t) e

-- a piece and the next one
pub put_append : {l m n s t : List ℕ} {at next last : ℕ} → Put l m at next s → Put m n next last t → Put l n at last (s ++ t)
put_append {l} {m} {n} {s} {t} {at} {next} {last} p q = record {
  bytes = q.bytes ∙ rw (p.bytes, p.place) (sym (sets_append s t l at));
  place = omega (arith, length-append s t, p.place, q.place);
}

pub put_length : {l m t : List ℕ} {at next : ℕ} → Put l m at next t → length m ≡ length l
put_length {l} {m} {t} {at} p = ap length p.bytes ∙ length-sets l at t

-- no text, and one byte
pub put_none : (l : List ℕ) (at : ℕ) → Put l l at at []
put_none l at = record { bytes = refl; place = omega arith }

put_byte : (l : List ℕ) (at b : ℕ) → Put l (set l at b) at (at + 1) (b ∷ [])
put_byte l at b = record { bytes = refl; place = refl }

-- a text copied into its part of the buffer, which holds ys then
pub put_copied : (l ys text : List ℕ) (at : ℕ) → ys ≡ text → at + length text ≤ length l
    → Put l (put_mid at (at + length text - at) l ys) at (at + length text) text
put_copied l ys text at e h =
    let n = at + length text in
    let k : length text ≡ n - at = omega arith in
    let front = take-put_mid at (n - at) l text n refl (omega arith) in
    let rest = drop-put_mid at (n - at) l text n (omega arith) (omega arith) k in
    let whole = take-append-drop n (put_mid at (n - at) l text) in
    rw e (record { bytes = sym whole ∙ rw (front, rest) (sym (sets-eq text l at h)); place = refl })

-- the digits of a number
pub digits-none : (l : List ℕ) (at n most : ℕ) → most ≡ 0 → Put l l at at (digits most n)
unfolding digits
digits-none l at n zero e = put_none l at
digits-none l at n (suc most) e = absurd (omega arith)

pub digits_one : (l : List ℕ) (at n most : ℕ) → (most ≡ 0 → ⊥) → n < 10 → Put l (set l at (48 + n % 10)) at (at + 1) (digits most n)
unfolding digits
digits_one l at n zero h s = absurd (h refl)
digits_one l at n (suc most) h s = rw (lt-ltb _ _ s) (put_byte l at (48 + n % 10))

pub digits_more : {l m : List ℕ} {at last : ℕ} (n most : ℕ) → (most ≡ 0 → ⊥) → 10 ≤ n → Put l m at last (digits (most - 1) (n / 10))
    → Put l (set m last (48 + n % 10)) at (last + 1) (digits most n)
unfolding digits
digits_more n zero h s p = absurd (h refl)
digits_more {l} {m} {at} {last} n (suc most) h s p =
    let e : suc most - 1 ≡ most = omega arith in
    rw (le-ltb _ _ s) (put_append (rw e at p) (put_byte m last (48 + n % 10)))

-- a name and a number, and a line of them
abbrev named : List ℕ → ℕ → List ℕ
named name n = name ++ decimal n

abbrev line : List ℕ → ℕ → List ℕ
line name n = named name n ++ newline

-- the texts as their pieces are put
pub refused_pieces : (n : ℕ) → line texts.refused n ≡ refused_text n
unfolding refused_text
refused_pieces n = simp append_assoc

pub head_pieces : (a b c d : ℕ)
    → line texts.sector_bytes a ++ line texts.sectors b ++ line texts.lanes c ++ line texts.mended_word d ≡ head_text a b c d
unfolding head_text
head_pieces a b c d =
    four texts.sector_bytes (decimal a) texts.sectors (decimal b) texts.lanes (decimal c) texts.mended_word (decimal d) newline
  where
    four : (a x b y c z d w n : List ℕ) → (a ++ x ++ n) ++ (b ++ y ++ n) ++ (c ++ z ++ n) ++ (d ++ w ++ n)
        ≡ a ++ (x ++ (n ++ (b ++ (y ++ (n ++ (c ++ (z ++ (n ++ (d ++ (w ++ n))))))))))
    four a x b y c z d w n = simp append_assoc

pub lane_pieces : (l : ℕ) (r : Lane)
    → named texts.lane l ++ named texts.free r.block.0 ++ line texts.next r.sequence.0 ≡ lane_text l r
unfolding lane_text
lane_pieces l r = three texts.lane (decimal l) texts.free (decimal r.block.0) texts.next (decimal r.sequence.0) newline
  where
    three : (a x b y c z n : List ℕ) → (a ++ x) ++ (b ++ y) ++ (c ++ z ++ n) ≡ a ++ (x ++ (b ++ (y ++ (c ++ (z ++ n)))))
    three a x b y c z n = simp append_assoc

pub opened_pieces : (h : Handle) (n : ℕ)
    → head_text h.figures.size h.figures.sectors h.figures.lanes n ++ lanes_text h.table h.figures.lanes
    ++ (texts.opened ++ newline)
    ≡ opened_text h n
unfolding opened_text
opened_pieces h n = simp append_assoc

-- the lines of the lanes, none and one more
pub lanes-none : (l : List ℕ) (at : ℕ) (rs : List Lane) → Put l l at at (lanes_text rs 0)
unfolding lanes_text
lanes-none l at rs = put_none l at

pub lanes_more : {l m n : List ℕ} {at next last : ℕ} (rs : List Lane) (k : ℕ) → Put l m at next (lanes_text rs k)
    → Put m n next last (lane_text k (lane_at rs k)) → Put l n at last (lanes_text rs (k + 1))
unfolding lanes_text
lanes_more rs k p q = rw (add-one k) (put_append p q)

-- a lane's record in the table of an opened arena's handle is as the flog has it
pub found_at : (h : bare.Handle) (a : List ℕ) (table : List Lane) (l : ℕ) → l < h.figures.lanes
    → lane_at (filled_by h a table) l ≡ found_lane (layout_of h.distance h.figures) a l
unfolding layout_of
found_at h a table l u = filled-lane (layout_of h.distance h.figures) a table l u

-- the text reads the lanes' records alone
lanes_same : (rs rs' : List Lane) (n : ℕ) → ((l : ℕ) → l < n → lane_at rs l ≡ lane_at rs' l) → lanes_text rs n ≡ lanes_text rs' n
unfolding lanes_text
lanes_same rs rs' zero e = refl
lanes_same rs rs' (suc n) e = ap₂ {C = List ℕ} (λ x r. x ++ lane_text n r) (lanes_same rs rs' n (λ l u. e l (omega arith))) (e n (omega arith))

-- so it is the same for every table that the opening filled
pub opened_any : (h : bare.Handle) (a : List ℕ) (table : List Lane) (n : ℕ) → opened_text (with h (filled_by h a table)) n ≡ opened_text (opened h a) n
unfolding opened_text
opened_any h a table n =
    rw (lanes_same (filled_by h a table) (opened h a).table h.figures.lanes
    (λ l u. found_at h a table l u ∙ sym (found_at h a [] l u)))

-- a text from place 0 on
pub whole : {l m text : List ℕ} {size : ℕ} → Put l m 0 size text → size ≤ length l
    → (size ≡ length text) × (m ≡ text ++ drop (length text) l)
whole {l} {m} {text} {size} p h =
    let e : size ≡ length text = p.place ∙ zero-add _ in
    (e, p.bytes ∙ sets-eq text l 0 (omega arith) ∙ rw zero-add)

-- and counted by its length
pub counted : (text before after : List ℕ) (r : ℕ) → r ≡ length text → after ≡ text ++ drop (length text) before
    → (r ≤ length after) × (r ≡ length (take r after))
counted text before after r e f =
    let l : length after ≡ length text + length (drop (length text) before) =
    ap length f ∙ length-append text (drop (length text) before) in
    (omega arith, e ∙ sym (ap length (ap (take r) f ∙ take_at text (drop (length text) before) r (sym e))))
