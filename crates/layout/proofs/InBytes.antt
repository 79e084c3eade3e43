-- The claims about figures: from the tests taken apart, from the sums that making rounds up, and from places in bytes.
use mathlib.Core.Path.{◌≡◌, refl}
use mathlib.Core.Logic.{◌⊎◌, inl, inr, ⊎_elim}
use mathlib.Core.Bool.{Bool, true}
use mathlib.Core.List.{List, [], ◌∷◌}
use Prim.Native.Nat.{ℕ, ◌+◌, ◌*◌, ◌/◌, ◌%◌, ◌≤◌, ◌<◌}
use native.Mathlib.Omega.{arith}
use lib.Dec.{eqb, leb, ltb}
use borrow.Author.Tests.{eqb-true, leb-true, ltb-true, eq-eqb, le-leb}
use Rattle.words.proofs.Bytes.{word_at, long-at}
use Rattle.format.specs.Tests.{all_of}
use Rattle.format.proofs.Tests.{and_elim, all_elim}
use Rattle.layout.specs.Sizes.{internal_of, size_allowed}
use Rattle.layout.specs.Figures.{
  length_allowed,
  sizes_allowed,
  Allowed,
  round_up,
  map_start,
  flog_start,
  fresh_length,
  fresh_figures,
  figures_at,
}
use Rattle.layout.specs.Place.{layout_of}
use Rattle.layout.specs.Claims.{Length, Sizes, Distance, InPadding, LeastMultiple, FreshLayout, Places, FiguresFrom, SizesClaim, AllowedClaim, FreshLayoutClaim, PlacesClaim}
use Rattle.layout.specs.declared.Figures.{Figures}
use Rattle.layout.proofs.Allowed.{size_pair, pair_size, distance_of, of_distance, distance_ok, size_words, starts_exact, allowed_of, of_allowed, made-allowed}
use Rattle.layout.proofs.Sizes.{by_table, sizes_of, of_sizes}
use Rattle.layout.proofs.Offsets.{data_start, map-start, flog-start, lane_start}
use Rattle.layout.proofs.Padding.{padding_byte, byte_padding}

length_is : (n : ℕ) → length_allowed n ≡ true → Length n
length_is n e =
    let p = and_elim (eqb (n % 4096) 0) _ e in
    let q = and_elim (leb 20480 n) (leb n 16777216) p.1 in
    record { multiple = eqb-true _ _ p.0; least = leb-true _ _ q.0; most = leb-true _ _ q.1 }

is_length : (n : ℕ) → Length n → length_allowed n ≡ true
is_length n l = rw (eq-eqb _ _ l.multiple, le-leb _ _ l.least, le-leb _ _ l.most)

sizes_are : (size sectors lanes : ℕ) → sizes_allowed size sectors lanes ≡ true → Sizes size sectors lanes
sizes_are size sectors lanes e =
    let h = sizes_of size sectors lanes e in
    record { size = (internal_of size, size_pair size h.0); sectors = h.1; some_lane = h.2; few_lanes = h.3 }

are_sizes : (size sectors lanes : ℕ) → Sizes size sectors lanes → sizes_allowed size sectors lanes ≡ true
are_sizes size sectors lanes s = of_sizes size sectors lanes (pair_size size s.size.0 s.size.1).0 s.sectors s.some_lane s.few_lanes

-- rounding up, in numbers
rounded : ℕ → ℕ → Bool
rounded n m = all_of (eqb (m % 64) 0 ∷ leb n m ∷ ltb m (n + 64) ∷ [])

size_rounded : (size : ℕ) → size_allowed size ≡ true → LeastMultiple 64 size (internal_of size)
unfolding rounded
size_rounded size e =
    let z = internal_of size in
    let h = all_elim (eqb (z % 64) 0 ∷ leb size z ∷ ltb z (size + 64) ∷ [])
    (by_table (λ S Z. rounded S Z ≡ true) (refl, (refl, (refl, (refl, (refl, tt))))) size e) in
    record { multiple = eqb-true _ _ h.0; enough = leb-true _ _ h.1.0; least = ltb-true _ _ h.1.1.0 }

pub sizes_claim : SizesClaim
sizes_claim = record { pairs = size_pair; pairs_back = pair_size; rounded = size_rounded }

pub allowed_claim : AllowedClaim
allowed_claim =
    record {
      length = length_is;
      length_back = is_length;
      sizes = sizes_are;
      sizes_back = are_sizes;
      distance = distance_of;
      distance_back = of_distance;
      figures = allowed_of;
      figures_back = of_allowed;
    }

least_multiple : (n : ℕ) → LeastMultiple 4096 n (round_up n)
least_multiple n = record { multiple = omega arith; enough = omega arith; least = omega arith }

made_is : (size sectors lanes : ℕ) → Sizes size sectors lanes → FreshLayout size sectors lanes (fresh_figures size sectors lanes) (fresh_length size sectors lanes)
unfolding fresh_figures fresh_length
made_is size sectors lanes s =
    record {
      size = refl;
      sectors = refl;
      internal = size_pair size (pair_size size s.size.0 s.size.1).0;
      blocks = refl;
      lanes = refl;
      data_start = refl;
      map-start = least_multiple (4096 + (sectors + lanes) * internal_of size);
      flog-start = least_multiple (map_start size sectors lanes + 4 * sectors);
      copy-start = least_multiple (flog_start size sectors lanes + 64 * lanes);
      end = refl;
    }

pub made_claim : FreshLayoutClaim
made_claim =
    record {
      rounded = least_multiple;
      made = made_is;
      allowed = λ size sectors lanes s. made-allowed size sectors lanes (are_sizes size sectors lanes s);
    }

whole : (k : ℕ) → 4 * k / 4 ≡ k
whole k = omega arith

places_of : (d : ℕ) → Distance d → (f : Figures) (n : ℕ) → Allowed f n → Places d f
unfolding layout_of
places_of d w f n ok =
    let apart = distance_ok d (of_distance d w) in
    record {
      in-data = data_start d f n ok;
      in-map = map-start d f n ok;
      in-flog = flog-start d f n ok apart.words;
      in_lane = lane_start d f n ok;
      padding = λ k e. padding_byte d (4 * k) apart (rw (whole k) e);
      padding_back = λ k p. rw (whole k) at (byte_padding d (4 * k) apart p);
      copy = (starts_exact f n ok).3;
      sector = omega (arith, (size_words f n ok).0);
      sectors = refl;
      lanes = refl;
      blocks = refl;
    }

-- in numbers
padding_16 : (j : ℕ) → j < 64 → InPadding 16 j → (32 ≤ j) × (j ≤ 63)
padding_16 j u p = ⊎_elim (λ v. (omega (arith, p.0), omega arith)) (λ v. (omega arith, omega arith)) p.1

padding_32 : (j : ℕ) → j < 64 → InPadding 32 j → ((16 ≤ j) × (j ≤ 31)) ⊎ ((48 ≤ j) × (j ≤ 63))
padding_32 j u p = ⊎_elim (λ v. inl (p.0, omega arith)) (λ v. inr (omega arith, omega arith)) p.1

figures_from : (b : List ℕ) (i j : ℕ) → FiguresFrom b (4 * i) (4 * j) (figures_at b i j)
unfolding figures_at
figures_from b i j =
    record {
      size = word_at b i (4 * i) refl;
      sectors = word_at b (i + 1) (4 * i + 4) (omega arith);
      internal = word_at b (i + 2) (4 * i + 8) (omega arith);
      blocks = word_at b (i + 3) (4 * i + 12) (omega arith);
      lanes = word_at b (i + 4) (4 * i + 16) (omega arith);
      data_start = long-at b j (4 * j) refl;
      map-start = long-at b (j + 2) (4 * j + 8) (omega arith);
      flog-start = long-at b (j + 4) (4 * j + 16) (omega arith);
      copy-start = long-at b (j + 6) (4 * j + 24) (omega arith);
    }

pub places_claim : PlacesClaim
places_claim =
    record {
      places = places_of;
      by_itself = λ d. (refl, refl);
      near_by_itself = (refl, refl);
      padding_byte = padding_byte;
      padding_byte_back = byte_padding;
      padding_16 = padding_16;
      padding_16_back = λ j p. (omega (arith, p.0), inr (omega (arith, p.0)));
      padding_32 = padding_32;
      padding_32_back = λ j p. ⊎_elim (λ q. (q.0, inl (omega (arith, q.1)))) (λ q. (omega (arith, q.0), inr (omega (arith, q.0)))) p;
      figures = figures_from;
    }
