-- All that lines make are objects of the order.
use Rattle.std.proofs.Common.{◌≡◌, ℕ, zero, suc, ◌+◌, ◌<◌, ◌≤◌, Bool, true, false, cond, ◌||◌, eqb, ◌⊎◌, List, [], ◌∷◌, ◌++◌, length, get_or, Some, None, Option, sym, refl, subst, inl, inr, ⊎_elim, arith, eqb-true}
use Rattle.std.specs.List.{AllByRecursion as All}
use Rattle.std.proofs.lemmas.Bool.{cases_Bool, both_ways, or_cases, or_right}
use Rattle.dump.specs.Heaps.{Heap}
use Rattle.planner.specs.Visits.{edges, mem}
use Rattle.planner.specs.Names.{count, pos, has_name, backing}
use Rattle.planner.specs.Lates.{Late}
use Rattle.rebuilds.specs.Adequate.{Adequate}
use Rattle.rebuilds.specs.Makes.{inner, makes_all, makes, within, one, written, expr_makes, line_makes, line_makes_by, task_makes, due_makes}
use Rattle.visits.proofs.Lists.{mem_head, mem_left, count_none}
use Rattle.visits.proofs.Orders.{place_le}
use Rattle.places.proofs.Names.{backing_covers, child_before}
use Rattle.counts.proofs.Within.{makes_at}
use Rattle.effects.specs.Bounded.{Bounded}

pub counted : (y : ℕ) (xs : List ℕ) → 1 ≤ count y xs → mem y xs ≡ true
counted y xs le = ⊎_elim (λ m. m) (λ (n : mem y xs ≡ false). absurd (let c = count_none y xs n in omega arith)) (cases_Bool (mem y xs))

pub mem_cases : (y : ℕ) (xs ys : List ℕ) → mem y (xs ++ ys) ≡ true → (mem y xs ≡ true) ⊎ (mem y ys ≡ true)
mem_cases y [] ys m = inr m
mem_cases y (x ∷ xs) ys m = ⊎_elim (λ (a : eqb y x ≡ true). inl (go (eqb y x) a)) (λ (b : mem y (xs ++ ys) ≡ true). ⊎_elim (λ (c : mem y xs ≡ true). inl (or_right (eqb y x) (mem y xs) c)) (λ c. inr c) (mem_cases y xs ys b)) (or_cases (eqb y x) (mem y (xs ++ ys)) m)
  where
    go : (b : Bool) → b ≡ true → (b || mem y xs) ≡ true
    go true e = refl
    go false e = absurd (both_ways false refl e)

module _ (h : Heap) (order : List ℕ) where
  abbrev pub Inside : List ℕ → Type 0
  Inside xs = (y : ℕ) → mem y xs ≡ true → mem y order ≡ true

  inside_nil : Inside []
  inside_nil y m = absurd (both_ways false refl m)

  inside_both : (xs ys : List ℕ) → Inside xs → Inside ys → Inside (xs ++ ys)
  inside_both xs ys a b y m = ⊎_elim (λ (c : mem y xs ≡ true). a y c) (λ (c : mem y ys ≡ true). b y c) (mem_cases y xs ys m)

  inside_get : (done : List (List ℕ)) (i : ℕ) → All Inside done → Inside (get_or done i [])
  inside_get [] i a = inside_nil
  inside_get (xs ∷ done) zero a = a.0
  inside_get (xs ∷ done) (suc i) a = inside_get done i a.1

  inside_inner : (done : List (List ℕ)) → All Inside done → (js : List ℕ) → Inside (inner h order done js)
  inside_inner done a [] = inside_nil
  inside_inner done a (j ∷ js) = go (has_name h order j) (inside_inner done a js)
    where
      go : (b : Bool) → Inside (inner h order done js) → Inside (cond b (inner h order done js) (get_or done (pos h order j) [] ++ inner h order done js))
      go true ih = ih
      go false ih = inside_both (get_or done (pos h order j) []) (inner h order done js) (inside_get done (pos h order j) a) ih

  all_snoc : (done : List (List ℕ)) (xs : List ℕ) → All Inside done → Inside xs → All Inside (done ++ (xs ∷ []))
  all_snoc [] xs a b = (b, tt)
  all_snoc (d ∷ done) xs a b = (a.0, all_snoc done xs a.1 b)

  inside_all : (done : List (List ℕ)) (os : List ℕ) → All Inside done → Inside os → All Inside (makes_all h order done os)
  inside_all done [] a b = a
  inside_all done (o ∷ os) a b =
      inside_all (done ++ ((inner h order done (edges h o) ++ (o ∷ [])) ∷ [])) os
      (all_snoc done (inner h order done (edges h o) ++ (o ∷ [])) a (inside_both (inner h order done (edges h o)) (o ∷ []) (inside_inner done a (edges h o)) (λ y m. b y (only y m))))
      (λ y m. b y (or_right (eqb y o) (mem y os) m))
    where
      only : (y : ℕ) → mem y (o ∷ []) ≡ true → mem y (o ∷ os) ≡ true
      only y m = mem_left y (o ∷ []) os m

  pub inside_within : (js : List ℕ) → Inside (within h order js)
  inside_within js = inside_inner (makes h order) (inside_all [] order tt (λ y m. m)) js

  one_is : (y x : ℕ) → 1 ≤ one y x → y ≡ x
  one_is y x le = ⊎_elim (λ (e : eqb y x ≡ true). eqb-true y x e) (λ (e : eqb y x ≡ false). absurd (grind arith)) (cases_Bool (eqb y x))

  pub expr_inside : (x y : ℕ) → mem x order ≡ true → 1 ≤ expr_makes h order x y → mem y order ≡ true
  expr_inside x y m le = ⊎_elim
      (λ (e : mem y (within h order (written h order x)) ≡ true). inside_within (written h order x) y e)
      (λ (e : mem y (within h order (written h order x)) ≡ false). let c = count_none y (within h order (written h order x)) e in let q = one_is y x (omega arith) in subst (λ z. mem z order ≡ true) (sym q) m)
      (cases_Bool (mem y (within h order (written h order x))))

  pub line_inside : (o y : ℕ) → mem o order ≡ true → 1 ≤ line_makes h order o y → mem y order ≡ true
  line_inside o y m le = go (backing h order o) refl le
    where
      go : (b : Option ℕ) → backing h order o ≡ b → 1 ≤ line_makes_by h order b o y → mem y order ≡ true
      go None e l = expr_inside o y m l
      go (Some w) e l = ⊎_elim
          (λ (a : eqb y o ≡ true). subst (λ z. mem z order ≡ true) (sym (eqb-true y o a)) m)
          (λ (a : eqb y o ≡ false). let q = one_is y w (grind arith) in subst (λ z. mem z order ≡ true) (sym q) (backing_covers h order o w e).1)
          (cases_Bool (eqb y o))

  pub due_inside : (t : ℕ) (ds : List (ℕ × Late)) (y : ℕ) → 1 ≤ due_makes h order t ds y → mem y order ≡ true
  due_inside t [] y le = absurd (omega arith)
  due_inside t (d ∷ ds) y le = go (eqb t d.0) le (due_inside t ds y)
    where
      go : (b : Bool) → 1 ≤ cond b (task_makes h order d.1.task y) 0 + due_makes h order t ds y → (1 ≤ due_makes h order t ds y → mem y order ≡ true) → mem y order ≡ true
      go true l ih = ⊎_elim
          (λ (e : mem y (within h order (Rattle.rebuilds.specs.Makes.task_refs d.1.task)) ≡ true). inside_within (Rattle.rebuilds.specs.Makes.task_refs d.1.task) y e)
          (λ (e : mem y (within h order (Rattle.rebuilds.specs.Makes.task_refs d.1.task)) ≡ false). let c = count_none y (within h order (Rattle.rebuilds.specs.Makes.task_refs d.1.task)) e in ih (omega arith))
          (cases_Bool (mem y (within h order (Rattle.rebuilds.specs.Makes.task_refs d.1.task))))
      go false l ih = ih (omega arith)

-- what hangs in a reference without a name has none either
module _ (h : Heap) (f : Bounded h) (order : List ℕ) (ad : Adequate h order) where
  abbrev Unnamed : List ℕ → Type 0
  Unnamed xs = (y : ℕ) → mem y xs ≡ true → has_name h order y ≡ false

  unnamed_both : (xs ys : List ℕ) → Unnamed xs → Unnamed ys → Unnamed (xs ++ ys)
  unnamed_both xs ys a b y m = ⊎_elim (λ (c : mem y xs ≡ true). a y c) (λ (c : mem y ys ≡ true). b y c) (mem_cases y xs ys m)

  abbrev Trees : ℕ → Type 0
  Trees n = (j : ℕ) → mem j order ≡ true → has_name h order j ≡ false → pos h order j < n → Unnamed (get_or (makes h order) (pos h order j) [])

  rows_unnamed : (n : ℕ) → Trees n → (js : List ℕ) → ((j : ℕ) → mem j js ≡ true → (mem j order ≡ true) × (has_name h order j ≡ false → pos h order j < n)) → Unnamed (within h order js)
  rows_unnamed n ih [] g = λ y m. absurd (both_ways false refl m)
  rows_unnamed n ih (j ∷ js) g = go (has_name h order j) refl (rows_unnamed n ih js (λ i m. g i (or_right (eqb i j) (mem i js) m)))
    where
      go : (b : Bool) → has_name h order j ≡ b → Unnamed (within h order js) → Unnamed (cond b (within h order js) (get_or (makes h order) (pos h order j) [] ++ within h order js))
      go true e r = r
      go false e r = let w = g j (mem_head j js) in unnamed_both (get_or (makes h order) (pos h order j) []) (within h order js) (ih j w.0 e (w.1 e)) r

  trees_unnamed : (n : ℕ) → Trees n
  trees_unnamed zero j m e lt = absurd (omega arith)
  trees_unnamed (suc n) j m e lt =
      subst (λ z. Unnamed z) (sym (makes_at h order j f ad m))
      (unnamed_both (within h order (edges h j)) (j ∷ []) (rows_unnamed n (trees_unnamed n) (edges h j) (λ c mc. (ad.closed j c m mc, λ ec. let q = child_before h f order ad j c m mc ec in omega arith)))
      (λ y my. ⊎_elim (λ (q : eqb y j ≡ true). subst (λ z. has_name h order z ≡ false) (sym (eqb-true y j q)) e) (λ (q : false ≡ true). absurd (both_ways false refl q)) (or_cases (eqb y j) false my)))

  pub within_unnamed : (js : List ℕ) → ((j : ℕ) → mem j js ≡ true → mem j order ≡ true) → (y : ℕ) → mem y (within h order js) ≡ true → has_name h order y ≡ false
  within_unnamed js g = rows_unnamed (suc (length order)) (trees_unnamed (suc (length order))) js (λ j m. (g j m, λ e. let q = place_le j order in omega arith))
