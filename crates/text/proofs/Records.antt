-- Laws of a replay's text: a record's line and the whole text as their pieces are put, and the lines of the records one by one.
use mathlib.Core.Path.{◌≡◌, refl, sym, ap, ◌∙◌}
use mathlib.Core.Logic.{◌≢◌}
use mathlib.Core.Bool.{Bool, true, false}
use mathlib.Core.List.{List, [], ◌∷◌, ◌++◌, append_assoc, append-nil}
use Prim.Native.Nat.{ℕ, suc, ◌+◌, ◌<◌}
use native.Mathlib.Nat.{le_of_lt, zero-add}
use native.Mathlib.Numerals.{add-one}
use native.Mathlib.Omega.{arith}
use lib.ListN.{length, get_or, take}
use lib.Seq.{take-suc, length-take-le}
use borrow.Author.Tests.{eq-eqb, ne_eqb}
use Rattle.text.specs.Put.{Put}
use Rattle.text.specs.Text as texts
use Rattle.text.specs.Text.{digits, decimal, newline, refused_text}
use Rattle.text.specs.Replay.{space, ok, stopped20_at, record_text, records_text, stopped_text, replay_text}
use Rattle.text.specs.Claims.{TextClaim}
use Rattle.text.proofs.Laws.{put_none, put_append, refused_pieces}

-- a record's line as its pieces are put
pub record_ok : (n r : ℕ) → r ≡ 0 → decimal n ++ space ++ (ok ++ newline) ≡ record_text n r
unfolding record_text
record_ok n r e = rw (eq-eqb r 0 e) (append_assoc (decimal n) space (ok ++ newline))

pub record_refused : (n r : ℕ) → r ≢ 0 → decimal n ++ space ++ (texts.refused ++ decimal r ++ newline) ≡ record_text n r
unfolding record_text
record_refused n r e = rw (ne_eqb r 0 e, refused_pieces r) (append_assoc (decimal n) space (refused_text r))

-- the lines of one record more
records_append : (n : ℕ) (rs : List ℕ) (r : ℕ) → records_text n (rs ++ (r ∷ [])) ≡ records_text n rs ++ record_text (n + length rs) r
unfolding records_text
records_append n [] r = let z : n + 0 ≡ n = omega arith in rw z (append-nil (record_text n r))
records_append n (x ∷ rs) r =
    let e : suc n + length rs ≡ n + suc (length rs) = omega arith in
    ap (λ (t : List ℕ). record_text n x ++ t) (records_append (suc n) rs r ∙ ap (λ (m : ℕ). records_text (suc n) rs ++ record_text m r) e)
    ∙ sym (append_assoc (record_text n x) (records_text (suc n) rs) (record_text (n + suc (length rs)) r))

pub records_none : (l : List ℕ) → Put l l 0 0 (records_text 0 [])
unfolding records_text
records_none l = put_none l 0

pub records_more : {l m n : List ℕ} {at next last : ℕ} (rs : List ℕ) (k : ℕ) → k < length rs → Put l m at next (records_text 0 (take k rs))
    → Put m n next last (record_text k (get_or rs k 0)) → Put l n at last (records_text 0 (take (k + 1) rs))
records_more rs k h p q =
    let e : 0 + length (take k rs) ≡ k = zero-add _ ∙ length-take-le k rs (le_of_lt h) in
    rw (add-one k, take-suc rs k 0 h, records_append 0 (take k rs) (get_or rs k 0), e) (put_append p q)

-- the whole text, for each way out
module _ (first : ℕ) (numbers : List ℕ) (stopped : Bool) (at : ℕ) where
  pub replay_refused : first ≢ 0 → texts.refused ++ decimal first ++ newline ≡ replay_text first numbers stopped at
  unfolding replay_text
  replay_refused e = rw (ne_eqb first 0 e) (refused_pieces first)

  pub replay_stopped : first ≡ 0 → stopped ≡ true
      → records_text 0 numbers ++ (stopped20_at ++ decimal at ++ newline) ≡ replay_text first numbers stopped at
  unfolding replay_text stopped_text
  replay_stopped e t = rw (eq-eqb first 0 e, t, append_assoc stopped20_at (decimal at) newline)

  pub replay_ended : first ≡ 0 → stopped ≡ false → records_text 0 numbers ≡ replay_text first numbers stopped at
  unfolding replay_text
  replay_ended e t = rw (eq-eqb first 0 e, t, append-nil)

-- a line more
text_more : (numbers : List ℕ) (r at : ℕ)
    → replay_text 0 (numbers ++ (r ∷ [])) false at ≡ replay_text 0 numbers false at ++ record_text (length numbers) r
text_more numbers r at =
    sym (replay_ended 0 (numbers ++ (r ∷ [])) false at refl refl)
    ∙ records_append 0 numbers r
    ∙ rw (replay_ended 0 numbers false at refl refl, zero-add (length numbers))

pub text_claim : TextClaim
unfolding replay_text record_text stopped_text refused_text
text_claim = record {
  refused = λ first numbers stopped at h. rw (ne_eqb first 0 h);
  empty = λ at. unfold records_text in refl;
  accepted = λ numbers at. text_more numbers 0 at;
  answered = λ numbers r at h. text_more numbers r at ∙ rw (ne_eqb r 0 h);
  stopped = λ numbers at. rw (append-nil (records_text 0 numbers));
  whole = unfold digits records_text in refl;
}
