-- An arena that passes rule 16, of the layout told, and rules 1 to 4: its layout is sound, and stores at places leave its info block alone, since every place lies between
-- the two info blocks.
use mathlib.Core.Path.{◌≡◌}
use mathlib.Core.Logic.{◌⊎◌, inl, inr}
use mathlib.Core.List.{List}
use mathlib.Core.Bool.{true, false}
use Prim.Native.Nat.{ℕ, ◌+◌, ◌*◌, ◌%◌, ◌≤◌, ◌<◌}
use native.Mathlib.Omega.{arith}
use lib.Dec.{eqb}
use lib.ListN.{length}
use Rattle.words.specs.Bytes.{Small}
use Rattle.layout.specs.Figures.{length_allowed, Allowed}
use Rattle.layout.specs.Place.{Layout, LayoutOk, InRange, layout_of}
use Rattle.layout.specs.declared.Figures.{Figures}
use Rattle.infoblock.specs.Info.{info_block_of, header_allowed, info_allowed, flags_allowed}
use Rattle.format.proofs.Tests.{and_elim}
use Rattle.layout.proofs.Place.{at_inside}
use Rattle.layout.proofs.Allowed.{allowed_of, distance_ok, layout_ok, layout_exact}
use Rattle.infoblock.proofs.InfoBlock.{length-of, info_local}
use Rattle.machine.specs.state.Stores.{Store, put_all}
use Rattle.machine.specs.calls.Opening.{figures_in, layout_in}
use Rattle.machine.proofs.stores.Members.{Each}
use Rattle.machine.proofs.stores.Stores.{Arena, put_all-length, put_all_arena, word_miss}
use Rattle.layout.specs.Told.{distance_allowed, DistanceOk}
use Rattle.layout.specs.declared.Told.{Told}

-- bytes of a length for which the figures are allowed
pub allowed_arena : (d : ℕ) (f : Figures) (a : List ℕ) → Allowed f (length a) → length a % 4096 ≡ 0 → Small a → Arena (layout_of d f) a
allowed_arena d f a ok whole small =
    let e = layout_exact d f (length a) ok in
    record { bytes = record { words = omega arith; small = small }; long = omega arith }

module _ (τ : Told) where
  pub record Described (a : List ℕ) : Type 0 where
    pub layout : distance_allowed τ.distance ≡ true
    pub size : length_allowed (length a) ≡ true
    pub block : eqb (length (info_block_of a)) 0 ≡ false
    pub allowed : info_allowed τ (info_block_of a) (length a) ≡ true
    pub flags : flags_allowed (info_block_of a) ≡ true

  module _ (a : List ℕ) (d : Described a) where
    pub described_distance : DistanceOk τ.distance
    described_distance = distance_ok τ.distance d.layout

    pub described_figures : Allowed (figures_in a) (length a)
    described_figures = allowed_of (figures_in a) (length a) (and_elim (header_allowed τ.next (info_block_of a)) _ d.allowed).1

    pub described_layout : LayoutOk (layout_in τ a)
    described_layout = layout_ok τ.distance described_distance (figures_in a) (length a) described_figures (length-of (length a) d.size).2

    described_exact : length a ≡ 4 * (layout_in τ a).copy₀ + 4096
    described_exact = layout_exact τ.distance (figures_in a) (length a) described_figures

    pub described_arena : Small a → Arena (layout_in τ a) a
    described_arena = allowed_arena τ.distance (figures_in a) a described_figures (length-of (length a) d.size).0

    -- stores at places leave both info blocks alone
    pub info_kept : Small a → (ss : List Store) → Each (λ (st : Store). InRange (layout_in τ a) st.place) ss
        → info_block_of (put_all (layout_in τ a) ss a) ≡ info_block_of a
    info_kept small ss r =
        info_local (put_all g ss a) a (put_all-length g ss a)
        (λ i c. word_miss g described_layout ss a i (λ st m e. away i c (at_inside g described_layout st.place (r st m)) e))
        (put_all_arena g described_layout ss a (described_arena small)).bytes.small small
      where
        g : Layout
        g = layout_in τ a

        away : {p : ℕ} (i : ℕ) → (i < 1024) ⊎ (length (put_all (layout_in τ a) ss a) ≤ 4 * i + 4099) → (1024 ≤ p) × (p < (layout_in τ a).copy₀) → p ≡ i → ⊥
        away i (inl c) h e = omega (arith, h.0)
        away i (inr c) h e = omega (arith, h.1, put_all-length (layout_in τ a) ss a, described_exact)

  -- what depends on the info block and the length alone
  pub described_same : (a b : List ℕ) → length b ≡ length a → info_block_of b ≡ info_block_of a → Described a → Described b
  described_same a b n e d = record {
    layout = d.layout;
    size = rw n d.size;
    block = rw e d.block;
    allowed = rw (e, n) d.allowed;
    flags = rw e d.flags;
  }
