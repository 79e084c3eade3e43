-- Laws of what a call sees: each part of it says what the rules ask of the table.
use mathlib.Core.Path.{◌≡◌, refl, sym, ap, ◌∙◌}
use Rattle.std.proofs.Common.{Err}
use mathlib.Core.Bool.{Bool, true, false, cond, not, ◌&&◌, ◌||◌}
use mathlib.Core.List.{List, [], ◌∷◌}
use Prim.Native.Nat.{ℕ, ◌+◌, ◌≤◌, ◌<◌}
use native.Mathlib.Omega.{arith}
use native.Mathlib.Nat.{le_antisymm}
use native.Mathlib.Numerals.{add-one}
use lib.Dec.{eqb, ltb}
use lib.ListN.{length}
use borrow.Author.Tests.{le-leb, lt-ltb, le-ltb, eq-eqb, ne_eqb, not-true, not-false}
use Rattle.format.proofs.Tests.{true_false, by_bool, every_elim, every_more, every_zero, some_step, some_zero}
use Rattle.layout.specs.Fit.{Fit}
use Rattle.machine.specs.declared.handle.Handle as bare
use Rattle.machine.specs.declared.lane.Lane.{Lane}
use Rattle.format.specs.MapWord.{bad_word, sloppy_word, word_fault, fault_number}
use Rattle.format.specs.declared.map.WordFault.{WordFault}
use Rattle.format.specs.declared.map.WordFault.TheVariants.{PastLast, Sloppy}
use Rattle.format.proofs.MapWord.{fault_bad, fault_in, fault_sloppy, fault_clean}
use Rattle.machine.specs.Rules.{answer}
use Rattle.machine.specs.declared.refusal.Refusal.{Refusal}
use Rattle.machine.specs.state.Answer.{refusal_number, refusal_of}
use Rattle.machine.specs.state.Flog.{map_word}
use Rattle.machine.proofs.Refusals.{not_zero}
use Rattle.machine.specs.state.Lane.{is_busy}
use Rattle.machine.specs.state.Handle.{Handle, with, lane_at, laid_out, handle_allowed, table_short, records_allowed}
use Rattle.machine.specs.calls.Order.{Rule, short_table, bad_map_word, sloppy_map_word, number, table_rules}
use Rattle.machine.specs.calls.Judging.{in_flight, tests}
use Rattle.machine.proofs.rules.Rules.{Walk, walked, stop, pass, through, passed_all, answer_append}
use Rattle.machine.proofs.rules.Running.{some_number}
use Rattle.machine.proofs.calls.Accepted.{Judged, judged}
use Rattle.machine.proofs.calls.Running.{handle_fit}
use Rattle.seen.specs.declared.Seen.{Seen}
use Rattle.seen.specs.Seen.{flies, allowed, reach, sound_to, seen_of}

-- ---- the first rules of every call, by what was seen

module _ (a : List ℕ) (h : bare.Handle) (t : List Lane) (l s : ℕ) (seen : Seen) (e : seen ≡ seen_of h t l s) where
  abbrev k : Handle
  k = with h t

  abbrev table_number : ℕ
  table_number = answer number (tests a k) (table_rules [])

  pub seen_length : seen.length ≡ length t
  unfolding seen_of
  seen_length = ap (λ (x : Seen). x.length) e

  pub seen_own : seen.own ≡ lane_at t l
  unfolding seen_of
  seen_own = ap (λ (x : Seen). x.own) e

  -- the table's length is judged by what was seen of it
  pub short_seen : (b : Bool) → ltb seen.length h.figures.lanes ≡ b → tests a k short_table ≡ b
  unfolding table_short
  short_seen b p = ap (λ (n : ℕ). ltb n h.figures.lanes) (sym seen_length) ∙ p

  module _ (long : h.figures.lanes ≤ seen.length) where
    reached : reach h (length t) ≡ h.figures.lanes
    reached = rw (le-leb h.figures.lanes (length t) (omega (arith, seen_length)))

    pub sound_seen : seen.sound ≡ records_allowed k
    unfolding seen_of records_allowed
    sound_seen = ap (λ (x : Seen). x.sound) e ∙ ap (sound_to h t) reached

    pub flying_seen : seen.sound ≡ true → seen.flying ≡ in_flight t h.figures.lanes s
    unfolding seen_of
    flying_seen p =
        let q : sound_to h t (reach h (length t)) ≡ true = sym (ap (λ (x : Seen). x.sound) e) ∙ p in
        ap (λ (x : Seen). x.flying) e ∙ rw q (ap (λ (n : ℕ). in_flight t n s) reached)

  -- 16, 21 and 16, in their order
  pub handle_refuses : handle_allowed h (length a) ≡ false → 16 ≡ table_number
  handle_refuses p = walked (stop (rw p))

  pub table-refuses : handle_allowed h (length a) ≡ true → seen.length < h.figures.lanes → 21 ≡ table_number
  table-refuses p u = walked (pass (rw p) (stop (short_seen true (lt-ltb _ _ u))))

  pub records_refuse : handle_allowed h (length a) ≡ true → h.figures.lanes ≤ seen.length → seen.sound ≡ false → 16 ≡ table_number
  records_refuse p u q = walked (pass (rw p) (pass (short_seen false (le-ltb _ _ u)) (stop (rw (← sound_seen u, q)))))

  pub table_passes : handle_allowed h (length a) ≡ true → h.figures.lanes ≤ seen.length → seen.sound ≡ true → 0 ≡ table_number
  table_passes p u q = walked (pass (rw p) (pass (short_seen false (le-ltb _ _ u)) (pass (rw (← sound_seen u, q)) through)))

  -- what a number of 0 tells
  module _ (z : table_number ≡ 0) where
    pub table-judged : Judged a k
    table-judged = let p = passed_all number some_number (tests a k) (table_rules []) z in judged a k p.0 p.1.0 p.1.1.0

    pub table_fit : Fit h.distance h.figures (length a)
    table_fit = handle_fit k (length a) table-judged.handle

    -- so the sector is in flight as it was seen
    pub flies_seen : in_flight t h.figures.lanes s ≡ seen.flying
    flies_seen =
        let u : h.figures.lanes ≤ seen.length = rw seen_length table-judged.long in
        sym (flying_seen u (sound_seen u ∙ table-judged.records))

-- the lane's own record is busy as it was seen
pub busy_seen : (h : bare.Handle) (t : List Lane) (l s : ℕ) (seen : Seen) → seen ≡ seen_of h t l s → (x y : Bool) → x ≡ is_busy seen.own
    → x ≡ y → is_busy (lane_at t l) ≡ y
unfolding seen_of
busy_seen h t l s seen e x y p q = sym (ap (λ (z : Seen). is_busy z.own) e) ∙ sym p ∙ q

-- the first rules and those that follow them: where one of the first applies its number is the call's, else only the others are asked
module _ (a : List ℕ) (k : Handle) (n : ℕ) (first : n ≡ answer number (tests a k) (table_rules [])) (rest : List Rule) where
  parts : answer number (tests a k) (table_rules rest) ≡ cond (eqb n 0) (answer number (tests a k) rest) n
  parts = rw first (answer_append number some_number (tests a k) (table_rules []) rest)

  pub first-refuses : eqb n 0 ≡ false → n ≡ answer number (tests a k) (table_rules rest)
  first-refuses p = sym (parts ∙ rw p)

  pub first_passes : eqb n 0 ≡ true → answer number (tests a k) (table_rules rest) ≡ answer number (tests a k) rest
  first_passes p = parts ∙ rw p

  -- so a walk along the others ends at the call's number
  pub rest_walk : {m : ℕ} → eqb n 0 ≡ true → Walk number (tests a k) rest m → m ≡ answer number (tests a k) (table_rules rest)
  rest_walk p w = walked w ∙ sym (first_passes p)

-- where the first rules let a call pass, a walk along the others ends at the call's number; where one of them applies, so is its refusal's
module _ (a : List ℕ) (k : Handle) (rest : List Rule) where
  pub passed_walk : {m : ℕ} → 0 ≡ answer number (tests a k) (table_rules []) → Walk number (tests a k) rest m
      → m ≡ answer number (tests a k) (table_rules rest)
  passed_walk first w = rest_walk a k 0 first rest refl w

  pub refused_first : (r : Refusal) → refusal_number r ≡ answer number (tests a k) (table_rules [])
      → refusal_number r ≡ answer number (tests a k) (table_rules rest)
  refused_first r first = first-refuses a k (refusal_number r) first rest (not_zero r)

-- ---- a sector's map word, as `judge_word` judges it

module _ (a : List ℕ) (k : Handle) (s w : ℕ) (is : w ≡ map_word (laid_out k) a s) (rest : List Rule) where
  abbrev blocks : ℕ
  blocks = k.figures.blocks

  pub word_stops : (f : WordFault) → fault_number {A = Unit {0}} (Err f) ≡ word_fault blocks w
      → Walk number (tests a k) (bad_map_word s ∷ sloppy_map_word s ∷ rest) (refusal_number (refusal_of f))
  word_stops PastLast e = stop (ap (bad_word blocks) (sym is) ∙ fault_bad blocks w 7 e refl)
  word_stops Sloppy e =
      pass (ap (bad_word blocks) (sym is) ∙ fault_in blocks w 18 e (λ n. absurd (omega arith)))
      (stop (ap sloppy_word (sym is) ∙ fault_sloppy blocks w 18 e refl))

  pub word_passes : {m : ℕ} → 0 ≡ word_fault blocks w → Walk number (tests a k) rest m
      → Walk number (tests a k) (bad_map_word s ∷ sloppy_map_word s ∷ rest) m
  word_passes e r =
      pass (ap (bad_word blocks) (sym is) ∙ fault_in blocks w 0 e (λ n. absurd (omega arith)))
      (pass (ap sloppy_word (sym is) ∙ fault_clean blocks w 0 e (λ n. absurd (omega arith)) (λ n. absurd (omega arith))) r)

-- ---- the table, record by record

module _ (h : bare.Handle) (t : List Lane) (s : ℕ) where
  pub none-sound : sound_to h t 0 ≡ true
  none-sound = every_zero (λ l. allowed h (lane_at t l))

  pub none-flies : in_flight t 0 s ≡ false
  unfolding in_flight
  none-flies = some_zero (λ l. flies (lane_at t l) s)

  pub sound_more : (i : ℕ) (b : Bool) → sound_to h t i ≡ true → b ≡ not (allowed h (lane_at t i)) → b ≡ false → sound_to h t (i + 1) ≡ true
  sound_more i b e c z = every_more i (λ l. allowed h (lane_at t l)) e (not-false _ (sym c ∙ z))

  pub flies_more : (i : ℕ) (b : Bool) → b ≡ in_flight t i s → b || flies (lane_at t i) s ≡ in_flight t (i + 1) s
  unfolding in_flight
  flies_more i b e = rw (add-one i) (ap (λ (x : Bool). x || flies (lane_at t i) s) e ∙ sym (some_step i (λ l. flies (lane_at t l) s)))

  -- judging ended at the end, or at a record out of range
  pub sound_end : (i n : ℕ) → sound_to h t i ≡ true → i ≤ n → n ≤ i → eqb i n ≡ sound_to h t n
  sound_end i n e p q = let z = le_antisymm p q in eq-eqb i n z ∙ sym e ∙ ap (sound_to h t) z

  pub sound_broken : (i n : ℕ) (b : Bool) → i < n → b ≡ not (allowed h (lane_at t i)) → b ≡ true → eqb i n ≡ sound_to h t n
  sound_broken i n b l c z =
      ne_eqb i n (λ e. absurd (omega arith))
      ∙ sym (by_bool (sound_to h t n) (sound_to h t n ≡ false)
      (λ y. true_false (sym (every_elim n (λ k. allowed h (lane_at t k)) y i l) ∙ not-true _ (sym c ∙ z))) (λ y. y))

-- where the loop has ended, and the lane's own record is read, that is what is seen
pub seen_is : (h : bare.Handle) (t : List Lane) (l s n i p : ℕ) (b : Bool) (own : Lane) → n ≡ reach h (length t) → eqb i n ≡ sound_to h t n
    → (eqb i n ≡ true → b ≡ in_flight t n s) → p ≡ l → own ≡ lane_at t p
    → ◌≡◌ {A = Seen} (record { length = length t; sound = eqb i n; flying = eqb i n && b; own = own }) (seen_of h t l s)
unfolding seen_of
seen_is h t l s n i p b own en es eb ep eo = λ k. record {
  length = length t;
  sound = (es ∙ ap (sound_to h t) en) k;
  flying = (guarded (eqb i n) b (in_flight t n s) eb ∙ ap (λ (x : Bool). x && in_flight t n s) es
      ∙ ap (λ (m : ℕ). sound_to h t m && in_flight t m s) en) k;
  own = (eo ∙ ap (lane_at t) ep) k;
}
  where
    guarded : (x y z : Bool) → (x ≡ true → y ≡ z) → x && y ≡ x && z
    guarded true y z h = h refl
    guarded false y z h = refl
