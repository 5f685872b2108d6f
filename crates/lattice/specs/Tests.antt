-- Boolean tests as types. Assumes nothing.
use Rattle.std.specs.Prelude.{◌≡◌, Bool, true, false, not, ◌&&◌, ◌||◌, T, ◌⊎◌, refl}
use Rattle.std.proofs.Common.{inl, inr, sym, subst}

pub T_and : (a b : Bool) → T (a && b) → T a × T b
T_and true b h = (tt, h)
T_and false b h = absurd h

pub and_T : (a b : Bool) → T a → T b → T (a && b)
and_T true b h k = k
and_T false b h k = h

pub T_or : (a b : Bool) → T (a || b) → T a ⊎ T b
T_or true b h = inl tt
T_or false b h = inr h

pub or_T_left : (a b : Bool) → T a → T (a || b)
or_T_left true b h = tt
or_T_left false b h = absurd h

pub or_T_right : (a b : Bool) → T b → T (a || b)
or_T_right true b h = tt
or_T_right false b h = h

pub T_imp : (a b : Bool) → T (not a || b) → T a → T b
T_imp true b h k = h
T_imp false b h k = absurd k

pub imp_T : (a b : Bool) → (T a → T b) → T (not a || b)
imp_T true b f = f tt
imp_T false b f = tt

pub is_true : (b : Bool) → T b → b ≡ true
is_true true h = refl
is_true false h = absurd h

pub from_true : (b : Bool) → b ≡ true → T b
from_true b e = subst T (sym e) tt

pub is_false : (b : Bool) → (T b → ⊥) → b ≡ false
is_false true f = absurd (f tt)
is_false false f = refl

pub from_false : (b : Bool) → b ≡ false → T b → ⊥
from_false b e h = subst T e h

-- two tests that pass together are one
pub same_tests : (a b : Bool) → (T a → T b) → (T b → T a) → a ≡ b
same_tests true b f g = sym (is_true b (f tt))
same_tests false b f g = sym (is_false b g)

-- a test passes or fails
pub decided : (b : Bool) → T b ⊎ (T b → ⊥)
decided true = inl tt
decided false = inr (λ h. h)
