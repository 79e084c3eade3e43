-- A made arena is valid and so opens: the block that counts is its first one, whose figures are the given ones, and its map and flog
-- are fresh.
use mathlib.Core.Path.{◌≡◌, refl, sym, ap, ◌∙◌, subst}
use mathlib.Core.Logic.{inl}
use mathlib.Core.Bool.{Bool, true, false, cond}
use mathlib.Core.List.{List}
use Prim.Native.Nat.{ℕ, ◌+◌, ◌-◌, ◌*◌, ◌≤◌, ◌<◌}
use native.Mathlib.Omega.{arith}
use lib.Dec.{eqb}
use lib.ListN.{length, get_or, take, drop}
use Rattle.words.specs.Word.{word}
use Rattle.words.specs.Bytes.{byte_word}
use Rattle.layout.specs.Figures.{length_allowed, Allowed}
use Rattle.layout.specs.Place.{Layout, layout_of}
use Rattle.layout.specs.Claims.{Distance}
use Rattle.infoblock.specs.Info.{sound, info_block_of, figures_of, info_words}
use Rattle.infoblock.specs.Claims.{Identifier, FreshBlock}
use Rattle.layout.specs.declared.Figures.{Figures}
use Rattle.format.proofs.Below.{Below, below_take}
use Rattle.layout.proofs.Allowed.{starts_exact, of_distance, distance_ok, layout_ok, layout_exact, allowed_fits}
use Rattle.infoblock.proofs.InBytes.{sound_claim, figures_are}
use Rattle.infoblock.proofs.FreshBlock.{info_length, info_below, made_block}
use Rattle.infoblock.proofs.InfoBlock.{length-of, info_in, counting_main}
use Rattle.machine.specs.state.Lane.{idle_lane}
use Rattle.machine.specs.state.Handle.{lane_at}
use Rattle.machine.specs.calls.Making.{data_end, tail_words}
use Rattle.machine.specs.calls.Opening.{Room, Extent, extent_of, figures_in, layout_in, open_number, open_of}
use Rattle.infoblock.specs.Claims.{Sound}
use Rattle.machine.specs.words.InBytes.{lane_byte}
use Rattle.machine.specs.words.Valid.{InfoOk, Clean, Valid}
use Rattle.machine.proofs.stores.Offsets.{map-word}
use Rattle.machine.proofs.opening.Opens.{Enough, zero_open, opened-lane}
use Rattle.machine.proofs.opening.Reflect.{length-ok}
use Rattle.machine.proofs.opening.Answers.{valid_opens}
use Rattle.machine.proofs.making.FreshMap.{Fresh, lane-fresh, pending-none, mended_same, readable, no_bad_word, settled}
use Rattle.machine.proofs.making.FreshWords.{made, Room as MadeRoom, made-length, made-fresh, made_kept, made_bytes, main_length, main_word, made_copy}
use Rattle.machine.proofs.making.FreshBytes.{fresh-lane}
use Rattle.layout.specs.Told.{alone}

-- the arena made of two identifiers and figures
abbrev pub made_of : List ℕ → List ℕ → Figures → List ℕ → List ℕ
made_of first second f a = made (layout_of 16 f) a (info_words first second f)

same : {A : Type 0} (t : Bool) (x : A) → cond t x x ≡ x
same true x = refl
same false x = refl

-- what making is given, once accepted
pub record Given (first second : List ℕ) (f : Figures) (a : List ℕ) : Type 0 where
  pub first-ok : Identifier first
  pub second_ok : Identifier second
  pub small : Below 256 a
  pub ok : Allowed f (length a)
  pub size : length_allowed (length a) ≡ true

module _ (first second : List ℕ) (f : Figures) (a : List ℕ) (d : Given first second f a) where
  abbrev m : List ℕ
  m = made_of first second f a

  rooms : (t : ℕ) → Distance t → MadeRoom (layout_of t f) a (info_words first second f)
  rooms t w =
      let most : length a ≤ 16777216 = (length-of (length a) d.size).2 in
      record {
        ok = layout_ok t (distance_ok t (of_distance t w)) f (length a) d.ok most;
        exact = layout_exact t f (length a) d.ok;
        block = info_length first second f;
        below = info_below first second f d.first-ok.bytes d.second_ok.bytes (allowed_fits f (length a) d.ok most);
      }

  pub room : MadeRoom (layout_of 16 f) a (info_words first second f)
  room = rooms 16 (inl refl)

  pub same_length : length m ≡ length a
  same_length = made-length (layout_of 16 f) a (info_words first second f) room

  pub same_copy : take 4096 m ≡ drop (length a - 4096) m
  same_copy = made_copy (layout_of 16 f) a (info_words first second f) room d.small

  pub kept : (j : ℕ) → 4096 ≤ j → j < 4 * data_end (layout_of 16 f) → get_or m j 0 ≡ get_or a j 0
  kept = made_kept (layout_of 16 f) a (info_words first second f) room

  allowed : length_allowed (length m) ≡ true
  allowed = ap length_allowed same_length ∙ d.size

  main : List ℕ
  main = take 4096 m

  main_size : length main ≡ 4096
  unfolding main
  main_size = main_length (layout_of 16 f) a (info_words first second f) room d.small

  main_is : (i : ℕ) → i < 1024 → word main i ≡ get_or (info_words first second f) i 0
  unfolding main
  main_is = main_word (layout_of 16 f) a (info_words first second f) room d.small

  pub small_in : Below 256 m
  small_in = (made_bytes (layout_of 16 f) a (info_words first second f) room d.small).small

  main_small : Below 256 main
  unfolding main
  main_small = below_take 256 4096 m (omega arith) small_in

  pub main_block : FreshBlock first second f (take 4096 m)
  unfolding main
  main_block = made_block first second f main main_size main_small main_is d.first-ok d.second_ok

  main_sound : sound main ≡ true
  unfolding main
  main_sound = sound_claim.is_sound main main_block.checksum

  block : info_block_of m ≡ main
  unfolding main
  block =
      info_in m allowed
      ∙ counting_main main (drop (length m - 4096) m) main_sound

  pub figures-in : figures_in m ≡ f
  unfolding main
  figures-in = ap figures_of block ∙ figures_are main f main_block.figures

  info_ok : InfoOk 0 main (length a)
  unfolding main
  info_ok =
      record {
        header = main_block.header;
        figures = subst (λ (x : Figures). Allowed x (length a)) (sym (figures_are main f main_block.figures)) d.ok;
      }

  -- ---- in either layout

  module _ (t : ℕ) (w : Distance t) where
    pub layout-in : layout_in (alone t) m ≡ layout_of t f
    layout-in = ap (layout_of t) figures-in

    -- making leaves the same bytes whatever the layout
    made_same : made (layout_of t f) a (info_words first second f) ≡ m
    unfolding layout_of tail_words
    made_same = refl

    fresh_in : Fresh (layout_of t f) m
    fresh_in = subst (Fresh (layout_of t f)) made_same (made-fresh (layout_of t f) a (info_words first second f) (rooms t w))

    pub fresh : Fresh (layout_in (alone t) m) m
    fresh = subst (λ (g : Layout). Fresh g m) (sym layout-in) fresh_in

    -- every map word and all of each lane but its first half is zero
    clean : Clean t f m
    unfolding layout_of
    clean = record {
      words = λ s u w. omega (arith, w.1, sym (map-word t f (length a) d.ok m s), fresh_in.map s u);
      padding = λ l j u v p. (fresh-lane (layout_of 16 f) a (info_words first second f) room l u).rest (lane_byte f l j)
          (omega (arith, (starts_exact f (length a) d.ok).2, p.0)) (omega (arith, (starts_exact f (length a) d.ok).2));
    }

    pub valid : Valid (alone t) m
    unfolding main
    valid = record {
      layout = w;
      size = length-ok _ allowed;
      info = subst Sound (sym block) main_block.checksum;
      figures = rw (block, same_length) info_ok;
      flags = ap (λ (b : List ℕ). byte_word b 48) block ∙ main_block.flags;
      lanes = readable (layout_in (alone t) m) m fresh;
      words = no_bad_word (layout_in (alone t) m) m fresh;
      clean = rw figures-in clean;
      settled = settled (layout_in (alone t) m) m fresh;
    }

    pub opens : (room : Extent) → Enough (alone t) m room → open_number (alone t) m room ≡ 0
    opens room h = zero_open (alone t) m room (valid_opens (alone t) m small_in valid) h

    -- none mended and no byte changed, whether or not there is room
    pub opened-mended : (work : Room) → (open_of (alone t) m work).mended ≡ 0
    unfolding open_of
    opened-mended work =
        rw (pending-none (layout_in (alone t) m) m fresh) (same (eqb (open_number (alone t) m (extent_of work)) 0) 0)

    pub opened_arena : (work : Room) → (open_of (alone t) m work).arena ≡ m
    unfolding open_of
    opened_arena work =
        rw (mended_same (layout_in (alone t) m) m fresh) (same (eqb (open_number (alone t) m (extent_of work)) 0) m)

    pub opened-fresh : (work : Room) (l : ℕ) → Enough (alone t) m (extent_of work) → l < (layout_in (alone t) m).N
        → lane_at (open_of (alone t) m work).handle.table l ≡ idle_lane ((layout_in (alone t) m).E + l) 1 2
    opened-fresh work l h u =
        opened-lane (alone t) m work (unfold open_of in (opens (extent_of work) h)) l u ∙ lane-fresh (layout_in (alone t) m) m fresh l u
