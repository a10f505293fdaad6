-- Lists by places of what expressions without a name make: of appended references, of appended objects, and what stays at a place.
use Rattle.std.proofs.Common.{◌≡◌, ℕ, ◌+◌, ◌<◌, Bool, true, false, cond, eqb, List, [], ◌∷◌, ◌++◌, length, get_or, sym, refl, ap, ◌∙◌, append_assoc, arith, length-append}
use Rattle.std.proofs.lemmas.List.{get_or_append_left}
use Rattle.std.proofs.lemmas.Bool.{or_right}
use Rattle.dump.specs.Heaps.{Heap}
use Rattle.planner.specs.Visits.{edges, mem}
use Rattle.planner.specs.Names.{count, pos, has_name}
use Rattle.visits.proofs.Lists.{count-++, mem_head}
use Rattle.rebuilds.specs.Makes.{inner, makes_all, makes, within}

module _ (h : Heap) (order : List ℕ) where
  -- appended references, one by one
  pub inner_append : (done : List (List ℕ)) (xs ys : List ℕ) → inner h order done (xs ++ ys) ≡ inner h order done xs ++ inner h order done ys
  inner_append done [] ys = refl
  inner_append done (x ∷ xs) ys = by_name (has_name h order x) (inner_append done xs ys)
    where
      by_name : (b : Bool) → inner h order done (xs ++ ys) ≡ inner h order done xs ++ inner h order done ys →
          cond b (inner h order done (xs ++ ys)) (get_or done (pos h order x) [] ++ inner h order done (xs ++ ys))
          ≡ cond b (inner h order done xs) (get_or done (pos h order x) [] ++ inner h order done xs) ++ inner h order done ys
      by_name true ih = ih
      by_name false ih = ap (λ z. get_or done (pos h order x) [] ++ z) ih ∙ sym (append_assoc (get_or done (pos h order x) []) (inner h order done xs) (inner h order done ys))

  -- how often an object is made in them
  pub count_within : (y : ℕ) (xs ys : List ℕ) → count y (within h order (xs ++ ys)) ≡ count y (within h order xs) + count y (within h order ys)
  count_within y xs ys = ap (count y) (inner_append (makes h order) xs ys) ∙ count-++ y (within h order xs) (within h order ys)

  -- the places that are done stay
  pub makes_kept : (done : List (List ℕ)) (os : List ℕ) (i : ℕ) → i < length done → get_or (makes_all h order done os) i [] ≡ get_or done i []
  makes_kept done [] i lt = refl
  makes_kept done (o ∷ os) i lt =
      let more = done ++ ((inner h order done (edges h o) ++ (o ∷ [])) ∷ []) in
      let l = length-append done ((inner h order done (edges h o) ++ (o ∷ [])) ∷ []) in
      makes_kept more os i (omega arith) ∙ get_or_append_left done ((inner h order done (edges h o) ++ (o ∷ [])) ∷ []) [] i lt

  -- one place for each object
  pub makes_length : (done : List (List ℕ)) (os : List ℕ) → length (makes_all h order done os) ≡ length done + length os
  makes_length done [] = omega arith
  makes_length done (o ∷ os) =
      let ih = makes_length (done ++ ((inner h order done (edges h o) ++ (o ∷ [])) ∷ [])) os in
      let l = length-append done ((inner h order done (edges h o) ++ (o ∷ [])) ∷ []) in
      omega arith

  -- the objects of appended lists, one by one
  pub makes_append : (done : List (List ℕ)) (os ps : List ℕ) → makes_all h order done (os ++ ps) ≡ makes_all h order (makes_all h order done os) ps
  makes_append done [] ps = refl
  makes_append done (o ∷ os) ps = makes_append (done ++ ((inner h order done (edges h o) ++ (o ∷ [])) ∷ [])) os ps

  -- the same from two lists that agree at the places of those without a name
  pub inner_same : (done more : List (List ℕ)) (js : List ℕ) →
      ((j : ℕ) → mem j js ≡ true → has_name h order j ≡ false → get_or done (pos h order j) [] ≡ get_or more (pos h order j) []) → inner h order done js ≡ inner h order more js
  inner_same done more [] same = refl
  inner_same done more (j ∷ js) same = by_name (has_name h order j) refl (inner_same done more js (λ i m e. same i (or_right (eqb i j) (mem i js) m) e))
    where
      by_name : (b : Bool) → has_name h order j ≡ b → inner h order done js ≡ inner h order more js →
          cond b (inner h order done js) (get_or done (pos h order j) [] ++ inner h order done js) ≡ cond b (inner h order more js) (get_or more (pos h order j) [] ++ inner h order more js)
      by_name true e ih = ih
      by_name false e ih = ap (λ z. get_or done (pos h order j) [] ++ z) ih ∙ ap (λ z. z ++ inner h order more js) (same j (mem_head j js) e)
