-- Opening's order in the parts in which it is judged: rules 16 and 1 to 4, 5, 21, and 6, 7, 18 and 8; and what each part leaves of the number and the
-- work buffer.
use mathlib.Core.Path.{◌≡◌, refl, sym, ◌∙◌}
use mathlib.Core.Logic.{inl, inr}
use mathlib.Core.Bool.{true, false, cond, not}
use mathlib.Core.List.{List, [], ◌∷◌}
use Prim.Native.Nat.{ℕ, ◌≤◌, ◌<◌}
use native.Mathlib.Omega.{arith}
use lib.Dec.{eqb}
use lib.ListN.{length}
use borrow.Author.Tests.{eqb-false, lt-ltb, le-ltb, not-false}
use Rattle.words.specs.Bytes.{Small}
use Rattle.format.proofs.Tests.{by_bool, true_or}
use Rattle.layout.specs.Fit.{Fit}
use Rattle.layout.specs.Place.{Layout, layout_of}
use Rattle.layout.specs.declared.Figures.{Figures}
use Rattle.layout.specs.declared.Told.{Told}
use Rattle.layout.proofs.Allowed.{fit_of}
use Rattle.infoblock.proofs.InfoBlock.{length-of}
use Rattle.machine.specs.Rules.{answer}
use Rattle.machine.specs.declared.refusal.Refusal.{Refusal}
use Rattle.machine.specs.state.Answer.{refusal_number}
use Rattle.machine.proofs.Refusals.{not_zero}
use Rattle.machine.specs.calls.Opening.{
  Extent,
  OpenRule,
  short_work,
  few_records,
  number_open,
  tests_open,
  info_rules,
  alone_rules,
  map_rules,
  open_number,
  work_after,
  figures_in,
  layout_in,
  lanes_lost,
  word_bad,
  word_sloppy,
  lane_padded,
  sloppy,
  unsettled,
}
use Rattle.machine.proofs.rules.Rules.{walked, stop, pass, through, passed_all, answer_append}
use Rattle.machine.proofs.opening.Described.{Described, described_distance, described_figures}
use Rattle.machine.proofs.opening.Opens.{some-number_open, lanes_pass}
use Rattle.machine.proofs.opening.Spare.{rule8}
use Rattle.lanes.proofs.Lanes.{fit_arena}
use Rattle.once.specs.Once.{cleared, blocks_once}
use Rattle.judge.specs.Judge.{extent, work_left, words_number}

-- an arena that passes these fits its figures
pub described_fit : (t : Told) (a : List ℕ) → Described t a → Fit t.distance (figures_in a) (length a)
described_fit t a d =
    let n = length-of (length a) d.size in
    fit_of t.distance (described_distance t a d) (figures_in a) (length a) (described_figures t a d) n.0 n.2

-- rule 8 as the counts decide it
pub once_or_not : (d : ℕ) (f : Figures) (a : List ℕ) → Fit d f (length a) → Small a → lanes_lost (layout_of d f) a ≡ false
    → unsettled (layout_of d f) a ≡ not (blocks_once (layout_of d f) a)
unfolding blocks_once
once_or_not d f a t small e =
    let g = layout_of d f in
    rule8 g t.ok a (fit_arena d f a t small) (lanes_pass g a e)

-- rules 6, 7, 18 and 8 as judge_map finds them: 18 in two parts, with the map's words and then over the lanes
module _ (t : Told) (a : List ℕ) (f : Figures) (are : f ≡ figures_in a) where
  abbrev g : Layout
  g = layout_of t.distance f

  abbrev Answered : ℕ → Type 0
  Answered n = (room : Extent) → n ≡ answer number_open (tests_open t a room) map_rules

  pub words_passed : words_number g a ≡ 0 → (word_bad g a ≡ false) × (word_sloppy g a ≡ false)
  words_passed e = by_bool (word_bad g a) _ (λ p. absurd (omega (arith, rw p at e)))
      (λ p. by_bool (word_sloppy g a) _ (λ q. absurd (omega (arith, rw (p, q) at e))) (λ q. (p, q)))

  pub passed_clean : words_number g a ≡ 0 → lane_padded g a ≡ false → sloppy g a ≡ false
  passed_clean e p = rw ((words_passed e).1, p)

  pub lost_walk : lanes_lost g a ≡ true → Answered 6
  lost_walk e room = walked (stop (rw (← are) e))

  module _ (lanes : lanes_lost g a ≡ false) where
    pub words_walk : (r : Refusal) → refusal_number r ≡ words_number g a → Answered (refusal_number r)
    words_walk r e room = by_bool (word_bad g a) _
        (λ p. rw (e, p) (walked (pass (rw (← are) lanes) (stop (rw (← are) p)))))
        (λ p. by_bool (word_sloppy g a) _
        (λ q. rw (e, p, q) (walked (pass (rw (← are) lanes) (pass (rw (← are) p) (stop (rw (← are) (true_or _ (lane_padded g a) (inl q))))))))
        (λ q. absurd (eqb-false _ 0 (not_zero r) (e ∙ rw (p, q)))))

    module _ (words : words_number g a ≡ 0) where
      pub padding_walk : lane_padded g a ≡ true → Answered 18
      padding_walk p room =
          walked (pass (rw (← are) lanes) (pass (rw (← are) (words_passed words).0) (stop (rw (← are) (true_or (word_sloppy g a) _ (inr p))))))

      module _ (padding : lane_padded g a ≡ false) where
        pub invalid_walk : unsettled g a ≡ true → Answered 8
        invalid_walk u room = walked (pass (rw (← are) lanes)
            (pass (rw (← are) (words_passed words).0) (pass (rw (← are) (passed_clean words padding)) (stop (rw (← are) u)))))

        pub valid_walk : unsettled g a ≡ false → Answered 0
        valid_walk u room = walked (pass (rw (← are) lanes)
            (pass (rw (← are) (words_passed words).0) (pass (rw (← are) (passed_clean words padding)) (pass (rw (← are) u) through))))

module _ (t : Told) (a : List ℕ) (room : Extent) where
  -- the number that a part of the order gives
  abbrev answered : List OpenRule → ℕ
  answered rs = answer number_open (tests_open t a room) rs

  info_passed : answered info_rules ≡ 0 → Described t a
  info_passed e =
      let p = passed_all number_open some-number_open (tests_open t a room) info_rules e in
      record {
        layout = not-false _ p.0;
        size = not-false _ p.1.0;
        block = p.1.1.0;
        allowed = not-false _ p.1.1.1.0;
        flags = not-false _ p.1.1.1.1.0;
      }

  alone_answer : answered alone_rules ≡ cond (eqb (answered info_rules) 0) (answered (short_work ∷ [])) (answered info_rules)
  alone_answer = answer_append number_open some-number_open (tests_open t a room) info_rules (short_work ∷ [])

  open_answer : open_number t a room ≡ cond (eqb (answered alone_rules) 0) (answered (few_records ∷ map_rules)) (answered alone_rules)
  unfolding open_number
  open_answer = answer_append number_open some-number_open (tests_open t a room) alone_rules (few_records ∷ map_rules)

-- what is judged before the work buffer is used does not go by the table
no_table : (t : Told) (a : List ℕ) (bytes records : ℕ) → answered t a (extent bytes 0) alone_rules ≡ answered t a (extent bytes records) alone_rules
unfolding answer
no_table t a bytes records = refl

-- what judging gives: a number, and the work buffer as it is left
pub record Ends (t : Told) (a work : List ℕ) (records n : ℕ) (left : List ℕ) : Type 0 where
  pub number : n ≡ open_number t a (extent (length work) records)
  pub buffer : left ≡ work_left t a work

module _ (t : Told) (a work : List ℕ) (records : ℕ) where
  abbrev room : Extent
  room = extent (length work) records

  -- a rule before the work buffer's use applies
  alone-refuses : (n : ℕ) → n ≡ answered t a room alone_rules → eqb n 0 ≡ false → Ends t a work records n work
  unfolding work_after
  alone-refuses n e z =
      let m : n ≡ open_number t a room = e ∙ sym (open_answer t a room ∙ rw (← e, z)) in
      record { number = m; buffer = rw (no_table t a (length work) records, ← e, z) }

  pub info_refuses : (r : Refusal) → refusal_number r ≡ answered t a room info_rules → Ends t a work records (refusal_number r) work
  info_refuses r e = alone-refuses (refusal_number r) (e ∙ sym (alone_answer t a room ∙ rw (← e, not_zero r))) (not_zero r)

-- rules 16 and 1 to 4 let pass
module _ (t : Told) (a work : List ℕ) (records : ℕ) (f : Figures) (passed : 0 ≡ answered t a (extent (length work) records) info_rules)
    (are : f ≡ figures_in a) where
  abbrev rm : Extent
  rm = extent (length work) records

  pub figures_fit : Fit t.distance f (length a)
  figures_fit = rw are (described_fit t a (info_passed t a rm (sym passed)))

  pub room-refuses : length work < f.blocks → Ends t a work records 5 work
  unfolding layout_of
  room-refuses h =
      let s : length work < (layout_in t a).I = rw are at h in
      let w : 5 ≡ answered t a rm (short_work ∷ []) = walked (stop (lt-ltb _ _ s)) in
      alone-refuses t a work records 5 (w ∙ sym (alone_answer t a rm ∙ rw (← passed))) refl

  module _ (enough : f.blocks ≤ length work) where
    alone_passes : answered t a rm alone_rules ≡ 0
    unfolding layout_of
    alone_passes =
        let s : (layout_in t a).I ≤ length work = rw are at enough in
        alone_answer t a rm ∙ rw (← passed) (sym (walked (pass (le-ltb _ _ s) through)))

    work_is : cleared f.blocks work ≡ work_left t a work
    unfolding work_after layout_of
    work_is = rw (are, no_table t a (length work) records, alone_passes)

    -- 21, with the work buffer cleared
    pub table-refuses : records < f.lanes → Ends t a work records 21 (cleared f.blocks work)
    unfolding layout_of
    table-refuses h =
        let s : records < (layout_in t a).N = rw are at h in
        let w : 21 ≡ answered t a rm (few_records ∷ map_rules) = walked (stop (lt-ltb _ _ s)) in
        record { number = w ∙ sym (open_answer t a rm ∙ rw alone_passes); buffer = work_is }

    pub map_ends : f.lanes ≤ records → (m : ℕ) → m ≡ answered t a rm map_rules → Ends t a work records m (cleared f.blocks work)
    unfolding layout_of answer
    map_ends long m p =
        let s : (layout_in t a).N ≤ records = rw are at long in
        record { number = p ∙ sym (open_answer t a rm ∙ rw (alone_passes, le-ltb records (layout_in t a).N s)); buffer = work_is }
