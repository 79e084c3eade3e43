-- Lists of stores: an arena after a list of stores depends only on which stores are in the list, where no two disagree on a place.
-- Two arenas are compared word by word.
use mathlib.Core.Path.{◌≡◌, refl, sym, ap, ◌∙◌}
use mathlib.Core.Logic.{◌≢◌, ◌⊎◌, inl, inr}
use mathlib.Core.List.Memᴰ
use mathlib.Core.List.{List, [], ◌∷◌, ◌++◌, Memᴰ}
use Prim.Native.Nat.{ℕ, ◌+◌, ◌*◌, ◌≤◌, ◌<◌}
use native.Mathlib.Omega.{arith}
use native.Mathlib.Decide.{ℕ_discrete}
use lib.ListN.{length}
use Rattle.words.specs.Word.{word, put_word, Bytes}
use Rattle.words.proofs.Laws.{length-put_word, word-put_word_same, word-put_word_other, put_word-bytes, ext_word}
use Rattle.layout.specs.Place.{Layout, LayoutOk, Place, at, InRange}
use Rattle.layout.proofs.Place.{at_inside, at_inj}
use Rattle.machine.specs.state.Stores.{Store, stored, put_all}
use Rattle.machine.proofs.stores.Members.{Each, each_none, each_more}

-- a store that can be made: a place of the arena and a 32-bit value
pub record Fits (g : Layout) (st : Store) : Type 0 where
  pub range : InRange g st.place
  pub small : st.value < 4294967296

-- no two stores of a list disagree on a place
unfoldable pub Agree : List Store → Type 0
Agree sts = (st su : Store) → Memᴰ st sts → Memᴰ su sts → st.place ≡ su.place → st.value ≡ su.value

-- bytes that are long enough for the layout
pub record Arena (g : Layout) (a : List ℕ) : Type 0 where
  pub bytes : Bytes a
  pub long : 4 * g.copy₀ ≤ length a

pub put_all-append : (g : Layout) (ss ts : List Store) (a : List ℕ) → put_all g (ss ++ ts) a ≡ put_all g ts (put_all g ss a)
unfolding put_all
put_all-append g [] ts a = refl
put_all-append g (st ∷ ss) ts a = put_all-append g ss ts (stored g st a)

pub put_all_one : (g : Layout) (ss : List Store) (st : Store) (a : List ℕ) → put_all g (ss ++ (st ∷ [])) a ≡ stored g st (put_all g ss a)
unfolding put_all
put_all_one g ss st a = put_all-append g ss (st ∷ []) a

pub put_all-none : (g : Layout) (a : List ℕ) → put_all g [] a ≡ a
unfolding put_all
put_all-none g a = refl

pub put_all-length : (g : Layout) (ss : List Store) (a : List ℕ) → length (put_all g ss a) ≡ length a
unfolding put_all
put_all-length g [] a = refl
put_all-length g (st ∷ ss) a = put_all-length g ss (stored g st a) ∙ length-put_word a (at g st.place) st.value

-- a store changes no other place
pub elsewhere : (g : Layout) → LayoutOk g → (a : List ℕ) (p q : Place) (v : ℕ) → InRange g p → InRange g q → q ≢ p
    → word (put_word a (at g p) v) (at g q) ≡ word a (at g q)
elsewhere g ok a p q v r s n = word-put_word_other a (at g p) (at g q) v (λ e. n (at_inj g ok q p s r e))

module _ (g : Layout) (ok : LayoutOk g) where
  pub in_arena : (a : List ℕ) → Arena g a → (p : Place) → InRange g p → 4 * at g p + 4 ≤ length a
  in_arena a r p i = let h = at_inside g ok p i in omega (arith, r.long, h.1)

  -- the place of a store holds its value
  pub stored-word : (a : List ℕ) (st : Store) → Arena g a → Fits g st → word (stored g st a) (at g st.place) ≡ st.value
  stored-word a st r f = word-put_word_same a (at g st.place) st.value (in_arena a r st.place f.range) f.small

  pub stored_arena : (a : List ℕ) (st : Store) → Arena g a → Arena g (stored g st a)
  stored_arena a st r = record { bytes = put_word-bytes a (at g st.place) st.value r.bytes; long = rw length-put_word r.long }

  pub put_all_arena : (ss : List Store) (a : List ℕ) → Arena g a → Arena g (put_all g ss a)
  unfolding put_all
  put_all_arena [] a r = r
  put_all_arena (st ∷ ss) a r = put_all_arena ss (stored g st a) (stored_arena a st r)

  -- a word at which no store of the list is
  pub word_miss : (ss : List Store) (a : List ℕ) (i : ℕ) → Each (λ (st : Store). at g st.place ≢ i) ss → word (put_all g ss a) i ≡ word a i
  unfolding put_all
  word_miss [] a i n = refl
  word_miss (st ∷ ss) a i n =
      word_miss ss (stored g st a) i (λ su m. n su (Memᴰ.tail m))
      ∙ word-put_word_other a (at g st.place) i st.value (λ e. n st (Memᴰ.head refl) (sym e))

  -- is there a store at word i?
  find : (ss : List Store) (i : ℕ)
      → ((st : Store) × Memᴰ st ss × (at g st.place ≡ i)) ⊎ Each (λ (st : Store). at g st.place ≢ i) ss
  find [] i = inr (each_none (λ (st : Store). at g st.place ≢ i))
  find (su ∷ ss) i = go (ℕ_discrete (at g su.place) i) (find ss i)
    where
      go : Dec (at g su.place ≡ i) → ((st : Store) × Memᴰ st ss × (at g st.place ≡ i)) ⊎ Each (λ (st : Store). at g st.place ≢ i) ss
          → ((st : Store) × Memᴰ st (su ∷ ss) × (at g st.place ≡ i)) ⊎ Each (λ (st : Store). at g st.place ≢ i) (su ∷ ss)
      go d (inl t) = inl (t.0, Memᴰ.tail t.1, t.2)
      go (yes e) (inr r) = inl (su, Memᴰ.head refl, e)
      go (no n) (inr r) = inr (each_more (λ (st : Store). at g st.place ≢ i) su ss n r)

  -- a word at which a store of the list is
  pub word-hit : (ss : List Store) (a : List ℕ) → Arena g a → Each (Fits g) ss → Agree ss → (st : Store) → Memᴰ st ss
      → word (put_all g ss a) (at g st.place) ≡ st.value
  unfolding put_all Agree
  word-hit [] a r f c st m = absurd (Memᴰ.not-nil m)
  word-hit (su ∷ ss) a r f c st m =
      go
      (λ x y. word-hit ss a' (stored_arena a su r) (λ z k. f z (Memᴰ.tail k)) (λ z w k k'. c z w (Memᴰ.tail k) (Memᴰ.tail k')) x y)
      (find ss (at g st.place))
    where
      a' : List ℕ
      a' = stored g su a

      same : (x y : Store) → Memᴰ x (su ∷ ss) → Memᴰ y (su ∷ ss) → at g x.place ≡ at g y.place → x.value ≡ y.value
      same x y k k' e = c x y k k' (at_inj g ok x.place y.place (f x k).range (f y k').range e)

      last : (st ≡ su) ⊎ Memᴰ st ss → Each (λ (x : Store). at g x.place ≢ at g st.place) ss
          → word (put_all g ss a') (at g st.place) ≡ st.value
      last (inl e) n =
          word_miss ss a' (at g st.place) n
          ∙ ap (λ (x : Store). word a' (at g x.place)) e
          ∙ stored-word a su r (f su (Memᴰ.head refl))
          ∙ ap (λ (x : Store). x.value) (sym e)
      last (inr k) n = absurd (n st k refl)

      go : ((x : Store) → Memᴰ x ss → word (put_all g ss a') (at g x.place) ≡ x.value)
          → ((x : Store) × Memᴰ x ss × (at g x.place ≡ at g st.place)) ⊎ Each (λ (x : Store). at g x.place ≢ at g st.place) ss
          → word (put_all g ss a') (at g st.place) ≡ st.value
      go ih (inl t) =
          ap (word (put_all g ss a')) (sym t.2) ∙ ih t.0 t.1 ∙ same t.0 st (Memᴰ.tail t.1) m t.2
      go ih (inr n) = last (Memᴰ.cases_cons m) n

  -- the same stores in any order, and any number of times over, leave the same arena
  pub any_order : (ss ts : List Store) (a : List ℕ) → Arena g a → Each (Fits g) ss → Agree ss
      → ((st : Store) → Memᴰ st ss → Memᴰ st ts) → ((st : Store) → Memᴰ st ts → Memᴰ st ss)
      → put_all g ss a ≡ put_all g ts a
  any_order ss ts a r f c to from =
      ext_word (put_all g ss a) (put_all g ts a) (put_all_arena ss a r).bytes (put_all_arena ts a r).bytes
      (put_all-length g ss a ∙ sym (put_all-length g ts a)) (λ i _. eq i (find ss i))
    where
      f' : Each (Fits g) ts
      f' st m = f st (from st m)

      c' : Agree ts
      c' = unfold Agree in (λ st su m k e. c st su (from st m) (from su k) e)

      eq : (i : ℕ) → ((st : Store) × Memᴰ st ss × (at g st.place ≡ i)) ⊎ Each (λ (st : Store). at g st.place ≢ i) ss
          → word (put_all g ss a) i ≡ word (put_all g ts a) i
      eq i (inl t) =
          ap (word (put_all g ss a)) (sym t.2) ∙ word-hit ss a r f c t.0 t.1
          ∙ sym (word-hit ts a r f' c' t.0 (to t.0 t.1)) ∙ ap (word (put_all g ts a)) t.2
      eq i (inr n) = word_miss ss a i n ∙ sym (word_miss ts a i (λ st m. n st (from st m)))
