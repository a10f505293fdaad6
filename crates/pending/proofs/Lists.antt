-- Lists: what stands at a place, members, and two lists alike place by place.
use Rattle.std.proofs.Common.{◌≡◌, ℕ, zero, suc, ◌⊎◌, List, [], ◌∷◌, ◌++◌, length, Some, sym, refl, ap, ◌∙◌, subst, inl, inr, ⊎_elim}
use Rattle.std.specs.List.{AllByRecursion as All}
use Rattle.formed.specs.Formed.{Pairwise}
use Rattle.evaluator.specs.Options.{nth}
use Rattle.effects.proofs.Options.{none_some}
use Rattle.rebuilds.specs.Pending.{In, here, there, All2, a_nil, a_cons}

module _ {A : Type 0} where
  pub in_cases : {a x : A} {xs : List A} → In a (x ∷ xs) → (a ≡ x) ⊎ In a xs
  in_cases here = inl refl
  in_cases (there i) = inr i

  pub in-++ : {a : A} (xs : List A) {ys : List A} → In a (xs ++ ys) → In a xs ⊎ In a ys
  in-++ [] i = inr i
  in-++ (x ∷ xs) i = ⊎_elim (λ (e : _ ≡ x). inl (rw e here)) (λ (j : In _ (xs ++ _)). ⊎_elim (λ u. inl (there u)) (λ u. inr u) (in-++ xs j)) (in_cases i)

  pub in_left : {a : A} {xs : List A} (ys : List A) → In a xs → In a (xs ++ ys)
  in_left ys here = here
  in_left ys (there i) = there (in_left ys i)

  pub in_right : {a : A} (xs : List A) {ys : List A} → In a ys → In a (xs ++ ys)
  in_right [] i = i
  in_right (x ∷ xs) i = there (in_right xs i)

  -- a member that is not the one that leaves stays
  pub in_without : (xs ys : List A) (a l : A) → (a ≡ l → ⊥) → In a (xs ++ (l ∷ ys)) → In a (xs ++ ys)
  in_without xs ys a l n i =
      ⊎_elim (λ (u : In a xs). in_left ys u)
      (λ (u : In a (l ∷ ys)). ⊎_elim (λ (e : a ≡ l). absurd (n e)) (λ (v : In a ys). in_right xs v) (in_cases u))
      (in-++ xs i)

-- what holds of each, and of each with every later one
module _ {A : Type 0} where
  pub all_behind : (P : A → Type 0) (xs ys : List A) → All P (xs ++ ys) → All P ys
  all_behind P [] ys a = a
  all_behind P (x ∷ xs) ys a = all_behind P xs ys a.1

  pub all_before : (P : A → Type 0) (xs ys : List A) → All P (xs ++ ys) → All P xs
  all_before P [] ys a = tt
  all_before P (x ∷ xs) ys a = (a.0, all_before P xs ys a.1)

  pub all_in : (P : A → Type 0) {x : A} {xs : List A} → All P xs → In x xs → P x
  all_in P a here = a.0
  all_in P a (there i) = all_in P a.1 i

  pub pairwise_before : (R : A → A → Type 0) (xs : List A) (x : A) (ys : List A) → Pairwise R (xs ++ (x ∷ ys)) → All (λ y. R y x) xs
  pairwise_before R [] x ys p = tt
  pairwise_before R (y ∷ xs) x ys p = ((all_behind (R y) xs (x ∷ ys) p.0).0, pairwise_before R xs x ys p.1)

  -- two members are one, or one comes before the other
  pub pairwise_in : (R : A → A → Type 0) (xs : List A) (x y : A) → Pairwise R xs → In x xs → In y xs → (x ≡ y) ⊎ (R x y ⊎ R y x)
  pairwise_in R [] x y p i j = elim i [ ]
  pairwise_in R (z ∷ xs) x y p i j =
      ⊎_elim
      (λ (d : x ≡ z). ⊎_elim (λ (e : y ≡ z). inl (d ∙ sym e)) (λ (v : In y xs). inr (inl (subst (λ a. R a y) (sym d) (all_in (R z) p.0 v)))) (in_cases j))
      (λ (u : In x xs). ⊎_elim (λ (e : y ≡ z). inr (inr (subst (λ a. R a x) (sym e) (all_in (R z) p.0 u)))) (λ (v : In y xs). pairwise_in R xs x y p.1 u v) (in_cases j))
      (in_cases i)

module _ {A B : Type 0} where
  pub all2_length : {R : A → B → Type 0} {xs : List A} {ys : List B} → All2 R xs ys → length xs ≡ length ys
  all2_length a_nil = refl
  all2_length (a_cons r t) = ap suc (all2_length t)

  pub all2-++ : {R : A → B → Type 0} {xs zs : List A} {ys ws : List B} → All2 R xs ys → All2 R zs ws → All2 R (xs ++ zs) (ys ++ ws)
  all2-++ a_nil u = u
  all2-++ (a_cons r t) u = a_cons r (all2-++ t u)

  pub all2_map : {R S : A → B → Type 0} {xs : List A} {ys : List B} → ((a : A) (b : B) → R a b → S a b) → All2 R xs ys → All2 S xs ys
  all2_map f a_nil = a_nil
  all2_map f (a_cons r t) = a_cons (f _ _ r) (all2_map f t)

  -- the two that stand at a place
  pub all2_at : {R : A → B → Type 0} {xs : List A} {ys : List B} → All2 R xs ys → (p : ℕ) (a : A) → nth xs p ≡ Some a → (b : B) × (nth ys p ≡ Some b) × R a b
  all2_at a_nil p a e = absurd (none_some e)
  all2_at {R} (a_cons {b = b} r t) zero a e = (b, refl, subst (λ z. R z b) (cc) r)
  all2_at (a_cons r t) (suc p) a e = all2_at t p a e
