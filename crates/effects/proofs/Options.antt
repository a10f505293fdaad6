-- Options: none and some are apart, what a step that was not stuck came from, and what stands at a place of a list.
use Rattle.std.proofs.Common.{◌≡◌, ℕ, zero, suc, ◌+◌, Bool, true, false, ◌⊎◌, List, [], ◌∷◌, ◌++◌, length, is_some, Some, None, Option, refl, ap, ◌∙◌, inl, inr, arith}
use Rattle.std.proofs.lemmas.Bool.{both_ways}
use Rattle.evaluator.specs.Options.{and_then, when, nth}

pub none_some : {A : Type 0} {a : A} → ◌≡◌ {A = Option A} None (Some a) → ⊥
none_some e = let z : ◌≡◌ {A = ℕ} 0 1 = cc in omega arith

pub some_is : {A : Type 0} {a b : A} → ◌≡◌ {A = Option A} (Some a) (Some b) → a ≡ b
some_is e = cc

-- an option is none, or some
pub cases_option : {A : Type 0} (o : Option A) → (o ≡ None) ⊎ ((a : A) × (o ≡ Some a))
cases_option None = inl refl
cases_option (Some a) = inr (a, refl)

-- what is not some is none
pub is_none : {A : Type 0} (o : Option A) → is_some o ≡ false → o ≡ None
is_none None e = refl
is_none (Some a) e = absurd (both_ways true e refl)

-- what is none for no value is none
pub none_if : {A : Type 0} (o : Option A) → ((a : A) → o ≡ Some a → ⊥) → o ≡ None
none_if None n = refl
none_if (Some a) n = absurd (n a refl)

-- both steps were taken
pub taken : {A B : Type 0} (o : Option A) (f : A → Option B) (b : B) → and_then o f ≡ Some b → (a : A) × (o ≡ Some a) × (f a ≡ Some b)
taken None f b e = absurd (none_some e)
taken (Some a) f b e = (a, refl, e)

pub when_taken : {A : Type 0} (t : Bool) (o : Option A) (a : A) → when t o ≡ Some a → (t ≡ true) × (o ≡ Some a)
when_taken true o a e = (refl, e)
when_taken false o a e = absurd (none_some e)

-- what stands at a place stays there when more comes behind
pub nth_left : {A : Type 0} (xs ys : List A) (n : ℕ) (a : A) → nth xs n ≡ Some a → nth (xs ++ ys) n ≡ Some a
nth_left [] ys n a e = absurd (none_some e)
nth_left (x ∷ xs) ys zero a e = e
nth_left (x ∷ xs) ys (suc n) a e = nth_left xs ys n a e

-- what comes behind stands as many places further
pub nth_right : {A : Type 0} (xs ys : List A) (n : ℕ) → nth (xs ++ ys) (length xs + n) ≡ nth ys n
nth_right [] ys n = let e : 0 + n ≡ n = omega arith in ap (nth ys) e
nth_right (x ∷ xs) ys n = let e : suc (length xs) + n ≡ suc (length xs + n) = omega arith in ap (nth (x ∷ (xs ++ ys))) e ∙ nth_right xs ys n
