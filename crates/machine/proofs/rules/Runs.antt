-- Lists of steps, whatever the steps are: two machines in a relation that every step keeps, and that answer alike wherever they are in
-- it, give the same answers and end in the relation. Steps can be of one kind only.
use mathlib.Core.Path.{◌≡◌, refl, ap₂}
use mathlib.Core.List.{List, [], ◌∷◌, Memᴰ}
use Rattle.machine.proofs.stores.Members.{Each, each_none, each_more}
use Rattle.machine.specs.calls.History.{runs, says}

module _ {S T E : Type 0} (next : S → E → S) (other : T → E → T) (Fine : E → Type 0) (Related : S → T → Type 0)
    (kept : (x : S) (y : T) (e : E) → Fine e → Related x y → Related (next x e) (other y e)) where
  pub runs_related : (es : List E) → ((e : E) → Memᴰ e es → Fine e) → (x : S) (y : T) → Related x y
      → Related (runs next x es) (runs other y es)
  unfolding runs
  runs_related [] f x y r = r
  runs_related (e ∷ es) f x y r =
      runs_related es (λ d m. f d (Memᴰ.tail m)) (next x e) (other y e) (kept x y e (f e (Memᴰ.head refl)) r)

  module _ {R : Type 0} (say : S → E → R) (tell : T → E → R)
      (alike : (x : S) (y : T) (e : E) → Fine e → Related x y → say x e ≡ tell y e) where
    pub says_alike : (es : List E) → ((e : E) → Memᴰ e es → Fine e) → (x : S) (y : T) → Related x y
        → says next say x es ≡ says other tell y es
    unfolding says
    says_alike [] f x y r = refl
    says_alike (e ∷ es) f x y r =
        let g = f e (Memᴰ.head refl) in
        ap₂ {C = List R} (λ a rest. a ∷ rest) (alike x y e g r)
        (says_alike es (λ d m. f d (Memᴰ.tail m)) (next x e) (other y e) (kept x y e g r))

-- what every answer is, wherever it is given
pub says_each : {S E R : Type 0} (next : S → E → S) (say : S → E → R) (P : R → Type 0) → ((x : S) (e : E) → P (say x e)) → (es : List E) (x : S)
    → Each P (says next say x es)
unfolding says
says_each next say P p [] x = each_none P
says_each next say P p (e ∷ es) x = each_more P (say x e) _ (p x e) (says_each next say P p es (next x e))
