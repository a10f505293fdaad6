-- Two refusals compared, field by field.
use Rattle.std.proofs.Common.{◌≡◌, Bool, true, false, ◌&&◌, refl}

-- the three comparisons, in the order that they are made in
pub all_three : (r q p x y z : Bool) → r ≡ (q && y) → q ≡ (p && x) → p ≡ z → r ≡ (x && (y && z))
all_three r q p x y z h g f = rw (h, g, f) (turned x y z)
  where
    turned : (x y z : Bool) → ◌≡◌ {A = Bool} ((z && x) && y) (x && (y && z))
    turned true true true = refl
    turned true true false = refl
    turned true false true = refl
    turned true false false = refl
    turned false y true = refl
    turned false y false = refl
