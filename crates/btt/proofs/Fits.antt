-- The handle that opening gives fits its bytes, since its figures are bounded by the arena's length; and an opening is the machine's.
use mathlib.Core.Path.{◌≡◌, refl, sym, ap, ◌∙◌}
use mathlib.Core.Logic.{◌≢◌, ⊎_elim}
use mathlib.Core.List.{List}
use Prim.Native.Nat.{ℕ}
use native.Mathlib.Omega.{arith}
use lib.ListN.{length}
use borrow.Author.Tests.{ne_eqb}
use Rattle.words.specs.Bytes.{Small, byte_word}
use Rattle.layout.specs.Told.{alone}
use Rattle.layout.proofs.Allowed.{allowed_fits}
use Rattle.machine.specs.declared.handle.Handle as bare
use Rattle.machine.specs.state.Handle.{Handle, bare_of}
use Rattle.machine.specs.calls.Opening.{Room, figures_in, open_of}
use Rattle.machine.specs.claims.Opening.{HandleAsFound}
use Rattle.machine.specs.words.Valid.{Valid}
use Rattle.machine.proofs.calls.Lent.{table_claim}
use Rattle.machine.proofs.opening.Opening.{opening_claim}
use Rattle.handlebytes.specs.Stands.{HandleFits}
use Rattle.handlebytes.proofs.Offsets.{head_at}
use Rattle.handlebytes.proofs.Whole.{encoded_stands}
use Rattle.btt.specs.Calls.{given_bytes, btt_open_of}
use Rattle.btt.specs.Host.{HoldsHandle, LentFor, SameOpening, PastKept, RefusedHost}

module _ (d : ℕ) (a : List ℕ) (room : Room) where
  pub opening_same : SameOpening (btt_open_of d a room) (open_of (alone d) a room)
  unfolding btt_open_of
  opening_same = record { number = refl; mended = refl; arena = refl; table = refl; work = refl }

  pub opening_past : PastKept (figures_in a).lanes room.table (btt_open_of d a room).table
  unfolding btt_open_of
  opening_past = record { size = table_claim.opening_size d a room; past = table_claim.opening d a room }

  pub refused_zeroes : (open_of (alone d) a room).number ≢ 0 → RefusedHost a room (btt_open_of d a room)
  unfolding btt_open_of given_bytes
  refused_zeroes n =
      let r = (opening_claim (alone d)).refused a room n in
      record {
        handle = rw (ne_eqb (open_of (alone d) a room).number 0 n);
        table = r.table;
        arena = r.arena;
        mended = r.mended;
      }

module _ (d : ℕ) (a : List ℕ) (room : Room) (small : Small a) (z : (open_of (alone d) a room).number ≡ 0) where
  abbrev h : Handle
  h = (open_of (alone d) a room).handle

  found : HandleAsFound d a room.table h
  found = (opening_claim (alone d)).handle a room small z

  valid : Valid (alone d) a
  valid = (((opening_claim (alone d)).answers a room small).accepts z).0

  opened_fits : HandleFits (bare_of h)
  opened_fits = record {
    total = rw found.size (omega (arith, valid.size.most));
    distance = rw found.distance (⊎_elim (λ e. omega arith) (λ e. omega arith) valid.layout);
    figures = rw found.figures (allowed_fits (figures_in a) (length a) valid.figures.figures valid.size.most);
  }

  pub opened_holds : LentFor (btt_open_of d a room).handle (btt_open_of d a room).table h
  unfolding btt_open_of given_bytes
  opened_holds = record { handle = rw z (encoded_stands (bare_of h) opened_fits); table = refl }

-- the layout of the handle that bytes hold
pub layout_held : (b : List ℕ) (h : bare.Handle) → HoldsHandle b h → byte_word b 60 ≡ h.distance
layout_held b h s = sym (head_at b).layout ∙ ap (λ (x : bare.Handle). x.distance) s.is

pub opened_layout : (d : ℕ) (a : List ℕ) (room : Room) → Small a → (open_of (alone d) a room).number ≡ 0
    → byte_word (btt_open_of d a room).handle 60 ≡ d
opened_layout d a room small z =
    layout_held _ _ (opened_holds d a room small z).handle ∙ ((opening_claim (alone d)).handle a room small z).distance
