-- Opening's answer by its line of the table, rule by rule, each where those before it passed; and a valid arena is one that opens.
use mathlib.Core.Path.{◌≡◌, sym, ◌∙◌}
use mathlib.Core.List.{List, [], ◌∷◌}
use mathlib.Core.Bool.{true, false, not}
use Prim.Native.Nat.{ℕ, ◌<◌}
use native.Mathlib.Omega.{arith}
use lib.Dec.{eqb}
use lib.ListN.{length}
use borrow.Author.Tests.{ne_eqb, ltb-true, lt-ltb, not-true, not-false}
use Rattle.words.specs.Bytes.{Small}
use Rattle.layout.specs.Figures.{length_allowed}
use Rattle.format.specs.MapWord.{bad_word}
use Rattle.format.specs.Claims.{BadWord}
use Rattle.infoblock.specs.Info.{info_block_of, info_allowed, flags_allowed}
use Rattle.format.proofs.Tests.{true_false, by_bool, every_intro, every_false, some_intro, some_true}
use Rattle.machine.specs.state.Flog.{map_word, map_block}
use Rattle.machine.specs.calls.Opening.{
  Room,
  OpenRule,
  wrong_layout,
  wrong_length,
  no_info_block,
  forbidden_figure,
  flags_set,
  short_work,
  few_records,
  lost_lane,
  bad_words,
  sloppy_arena,
  not_valid,
  number_open,
  order_open,
  tests_open,
  figures_in,
  layout_in,
  lane_readable,
  open_number,
  open_of,
  lanes_lost,
  word_bad,
  sloppy,
  unsettled,
  Extent,
  extent_of,
}
use Rattle.machine.specs.words.Valid.{Readable, Settled, Valid, HoldsOpen, AnswersOpen}
use Rattle.machine.specs.claims.Opening.{OpeningAnswers}
use Rattle.machine.proofs.rules.Rules.{Guarded, first_in, asked}
use Rattle.machine.proofs.opening.Mends.{readable_of, word_in}
use Rattle.machine.proofs.invariant.Tidy.{tidy_of}
use Rattle.machine.proofs.opening.Clean.{tidy_clean, sloppy-found, found-sloppy, clean_passes}
use Rattle.machine.proofs.opening.Described.{Described, described_distance, described_figures, described_layout, described_arena}
use Rattle.machine.proofs.opening.Settled.{settled_of, of_settled}
use Rattle.machine.proofs.opening.Opens.{Opens, open_zero, zero_open, lanes_pass, words_pass, enough_for, room_for}
use Rattle.machine.proofs.opening.Reflect.{
  length-ok,
  ok-length,
  info_ok,
  ok_info,
  flags_ok,
  ok_flags,
  block_small,
  ok_readable,
  bad_ok,
  ok_bad,
  none-sound,
  some-sound,
  counts_sound,
}
use Rattle.layout.specs.Told.{distance_allowed}
use Rattle.layout.proofs.Allowed.{distance_of, of_distance}
use Rattle.layout.specs.declared.Told.{Told}
use Rattle.layout.specs.Place.{layout_of}

module _ (τ : Told) where
  module _ (a : List ℕ) (small : Small a) where
    lanes-in : lanes_lost (layout_in τ a) a ≡ false → (l : ℕ) → l < (layout_in τ a).N → lane_readable (layout_in τ a) a l ≡ true
    lanes-in = lanes_pass (layout_in τ a) a

    words-in : Described τ a → word_bad (layout_in τ a) a ≡ false → sloppy (layout_in τ a) a ≡ false → (s : ℕ) → s < (layout_in τ a).E
        → map_block (layout_in τ a) a s < (layout_in τ a).I
    words-in d e f s u =
        word_in (layout_in τ a) (described_layout τ a d) a s u (words_pass (layout_in τ a) a e s u) ((tidy_of (layout_in τ a) a f).words s u)

    lane_lost : lanes_lost (layout_in τ a) a ≡ true → (l : ℕ) × (l < (layout_in τ a).N) × (Readable (layout_in τ a) a l → ⊥)
    lane_lost e =
        let w = every_false _ _ (not-true _ e) in
        (w.0, w.1, λ r. true_false (sym (ok_readable (layout_in τ a) a w.0 r) ∙ w.2))

    word-bad : word_bad (layout_in τ a) a ≡ true → (s : ℕ) × (s < (layout_in τ a).E) × BadWord (layout_in τ a).I (map_word (layout_in τ a) a s)
    word-bad e = let w = some_true _ _ e in (w.0, w.1, bad_ok _ _ w.2)

    settled_yes : Described τ a → lanes_lost (layout_in τ a) a ≡ false → word_bad (layout_in τ a) a ≡ false → sloppy (layout_in τ a) a ≡ false
        → unsettled (layout_in τ a) a ≡ false → Settled (layout_in τ a) a
    settled_yes d e f t = settled_of (layout_in τ a) (described_layout τ a d) a (described_arena τ a d small) (lanes-in e) (words-in d f t)

    unsettled_no : Described τ a → lanes_lost (layout_in τ a) a ≡ false → word_bad (layout_in τ a) a ≡ false → sloppy (layout_in τ a) a ≡ false
        → Settled (layout_in τ a) a → unsettled (layout_in τ a) a ≡ false
    unsettled_no d e f t = of_settled (layout_in τ a) (described_layout τ a d) a (described_arena τ a d small) (lanes-in e) (words-in d f t)

    -- what each rule needs of those before it
    needs : OpenRule → Type 0
    needs wrong_layout = Unit {0}
    needs wrong_length = Unit {0}
    needs no_info_block = length_allowed (length a) ≡ true
    needs forbidden_figure = Unit {0}
    needs flags_set = Unit {0}
    needs short_work = Unit {0}
    needs few_records = Unit {0}
    needs lost_lane = Unit {0}
    needs bad_words = Unit {0}
    needs sloppy_arena = Described τ a
    needs not_valid = Described τ a × (lanes_lost (layout_in τ a) a ≡ false) × (word_bad (layout_in τ a) a ≡ false) × (sloppy (layout_in τ a) a ≡ false)

    tells : (room : Extent) (r : OpenRule) → needs r → (tests_open τ a room r ≡ true → HoldsOpen τ a room r) × (HoldsOpen τ a room r → tests_open τ a room r ≡ true)
    unfolding needs
    tells room wrong_layout u = asked (distance_of τ.distance) (of_distance τ.distance)
    tells room wrong_length u = asked (length-ok (length a)) (ok-length (length a))
    tells room no_info_block u = (none-sound a small u, λ f. some-sound a small u f.0 f.1)
    tells room forbidden_figure u = asked (info_ok τ (info_block_of a) (length a) (block_small a small)) (ok_info τ (info_block_of a) (length a) (block_small a small))
    tells room flags_set u = asked (flags_ok (info_block_of a)) (ok_flags (info_block_of a))
    tells room short_work u = (ltb-true _ _, lt-ltb _ _)
    tells room few_records u = (unfold layout_of in (ltb-true _ _), unfold layout_of in (lt-ltb _ _))
    tells room lost_lane u = (
      lane_lost,
      λ f. by_bool (lanes_lost (layout_in τ a) a) _ (λ t. t)
          (λ t. absurd (f.2 (readable_of (layout_in τ a) a f.0 (lanes-in t f.0 f.1)))),
    )
    tells room bad_words u = (
      word-bad,
      λ f. by_bool (word_bad (layout_in τ a) a) _ (λ t. t)
          (λ t. true_false (sym (ok_bad _ _ f.2) ∙ words_pass (layout_in τ a) a t f.0 f.1)),
    )
    tells room sloppy_arena u = (
      sloppy-found τ.distance (described_distance τ a u) (figures_in a) (length a) (described_figures τ a u) a small,
      found-sloppy τ.distance (described_distance τ a u) (figures_in a) (length a) (described_figures τ a u) a small,
    )
    tells room not_valid u = (
      λ e s. true_false (sym e ∙ unsettled_no u.0 u.1 u.2 u.3 s),
      λ f. by_bool (unsettled (layout_in τ a) a) _ (λ t. t) (λ t. absurd (f (settled_yes u.0 u.1 u.2 u.3 t))),
    )

    pub answers : (room : Extent) → AnswersOpen τ a room (open_number τ a room)
    unfolding open_number needs
    answers room = first_in number_open needs (tests_open τ a room) (HoldsOpen τ a room) (tells room) order_open
        (tt, λ p16. (tt, λ p1. (not-false _ p1, λ p2. (tt, λ p3. (tt, λ p4. (tt, λ p5. (tt, λ p21. (tt, λ p6. (tt, λ p7. later (described p16 p1 p2 p3 p4) p6 p7)))))))))
      where
        described : not (distance_allowed τ.distance) ≡ false → not (length_allowed (length a)) ≡ false → eqb (length (info_block_of a)) 0 ≡ false → not (info_allowed τ (info_block_of a) (length a)) ≡ false
            → not (flags_allowed (info_block_of a)) ≡ false → Described τ a
        described p16 p1 p2 p3 p4 = record { layout = not-false _ p16; size = not-false _ p1; block = p2; allowed = not-false _ p3; flags = not-false _ p4 }

        later : Described τ a → lanes_lost (layout_in τ a) a ≡ false → word_bad (layout_in τ a) a ≡ false
            → Guarded number_open needs (tests_open τ a room) (sloppy_arena ∷ not_valid ∷ [])
        later d p6 p7 = (d, λ p18. ((d, p6, p7, p18), λ _. tt))

    opens_valid : Opens τ a → Valid τ a
    opens_valid o =
        let d = o.info in
        record {
          layout = distance_of τ.distance d.layout;
          size = length-ok (length a) d.size;
          info = counts_sound a small d.size d.block;
          figures = info_ok τ (info_block_of a) (length a) (block_small a small) d.allowed;
          flags = flags_ok (info_block_of a) d.flags;
          lanes = λ l u. readable_of (layout_in τ a) a l (lanes-in o.lanes l u);
          words = λ s u b. true_false (sym (ok_bad _ _ b) ∙ words_pass (layout_in τ a) a o.words s u);
          clean = tidy_clean τ.distance (described_distance τ a d) (figures_in a) (length a) (described_figures τ a d) a small (tidy_of (layout_in τ a) a o.clean);
          settled = settled_yes d o.lanes o.words o.clean o.settled;
        }

    pub valid_opens : Valid τ a → Opens τ a
    valid_opens v =
        let d : Described τ a = record {
          layout = of_distance τ.distance v.layout;
          size = ok-length (length a) v.size;
          block = ne_eqb (length (info_block_of a)) 0 (λ e. omega (arith, v.info.size));
          allowed = ok_info τ (info_block_of a) (length a) (block_small a small) v.figures;
          flags = ok_flags (info_block_of a) v.flags;
        } in
        let all = every_intro (layout_in τ a).N (lane_readable (layout_in τ a) a) (λ l u. ok_readable (layout_in τ a) a l (v.lanes l u)) in
        let f : lanes_lost (layout_in τ a) a ≡ false = rw all in
        let w : word_bad (layout_in τ a) a ≡ false = some_intro (layout_in τ a).E _
        (λ s u. by_bool (bad_word (layout_in τ a).I (map_word (layout_in τ a) a s)) _ (λ t. absurd (v.words s u (bad_ok _ _ t))) (λ t. t)) in
        let c = clean_passes τ.distance (described_distance τ a d) (figures_in a) (length a) (described_figures τ a d) a small v.clean in
        record {
          info = d;
          lanes = f;
          words = w;
          clean = c;
          settled = unsettled_no d f w c v.settled;
        }

    pub opening_answers : (work : Room) → OpeningAnswers τ a work
    unfolding open_of
    opening_answers work = record {
      answers = answers (extent_of work);
      accepts = λ e. let p = open_zero τ a (extent_of work) e in (opens_valid p.0, room_for τ a work p.1);
      only = λ v h. zero_open τ a (extent_of work) (valid_opens v) (enough_for τ a work h);
    }
