-- What stands in a list: in one with a head, and in an appended one.
use Rattle.std.proofs.Common.{◌≡◌, ◌⊎◌, List, [], ◌∷◌, ◌++◌, refl, inl, inr, ⊎_elim}
use Rattle.rebuilds.specs.Pending.{In, here, there}

module _ {A : Type 0} where
  pub in_nil : {a : A} {P : Type 0} → In a [] → P
  in_nil i = elim i [ ]

  pub in_cons : {a x : A} {xs : List A} → In a (x ∷ xs) → (a ≡ x) ⊎ In a xs
  in_cons here = inl refl
  in_cons (there i) = inr i

  pub in_parts : {a : A} (xs ys : List A) → In a (xs ++ ys) → In a xs ⊎ In a ys
  in_parts [] ys i = inr i
  in_parts (x ∷ xs) ys here = inl here
  in_parts (x ∷ xs) ys (there i) = ⊎_elim (λ (a : In _ xs). inl (there a)) (λ (b : In _ ys). inr b) (in_parts xs ys i)

  -- so it stands in the middle
  pub in_middle : (a : A) (xs ys : List A) → In a (xs ++ (a ∷ ys))
  in_middle a [] ys = here
  in_middle a (x ∷ xs) ys = there (in_middle a xs ys)
