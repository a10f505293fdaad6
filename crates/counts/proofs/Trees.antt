-- The objects with a name, each with all that hangs in it without a name, and the root's are together all objects, each once.
use Rattle.std.proofs.Common.{◌≡◌, ℕ, ◌+◌, ◌*◌, Bool, true, false, cond, eqb, List, [], ◌∷◌, ◌++◌, get_or, sym, refl, ap, ◌∙◌, subst, ⊎_elim, add-mul, one-mul, mul-zero, zero-mul, arith}
use Rattle.std.proofs.lemmas.Bool.{cases_Bool, or_right, cond-true}
use Rattle.dump.specs.Heaps.{Heap}
use Rattle.planner.specs.Visits.{refs, edges, mem}
use Rattle.planner.specs.Names.{count, pos, uses_by, uses, has_name}
use Rattle.visits.proofs.Lists.{count-++, mem_head}
use Rattle.rebuilds.specs.Adequate.{Adequate}
use Rattle.rebuilds.specs.Makes.{one, makes, within, root_makes}
use Rattle.counts.proofs.Sums.{total, total_same, total_zero, total_add, total_over}
use Rattle.places.proofs.Dues.{root_in}
use Rattle.places.proofs.Names as names
use Rattle.counts.proofs.Within.{count_at}
use Rattle.effects.specs.Bounded.{Bounded}

module _ (h : Heap) (order : List ℕ) (y : ℕ) where
  -- how often an object with all that hangs in it without a name makes y
  abbrev pub tree : ℕ → ℕ
  tree x = count y (get_or (makes h order) (pos h order x) [])

  -- of those with a name, and of those without
  abbrev pub named : ℕ → ℕ
  named x = cond (has_name h order x) (tree x) 0

  abbrev pub unnamed : ℕ → ℕ
  unnamed x = cond (has_name h order x) 0 (tree x)

  -- each has a name or has none
  both : (x : ℕ) → tree x ≡ named x + unnamed x
  both x = by_name (has_name h order x)
    where
      by_name : (b : Bool) → tree x ≡ cond b (tree x) 0 + cond b 0 (tree x)
      by_name true = omega arith
      by_name false = omega arith

  -- references, one by one
  within_total : (js : List ℕ) → count y (within h order js) ≡ total unnamed js
  within_total [] = refl
  within_total (j ∷ js) = by_name (has_name h order j) (within_total js)
    where
      by_name : (b : Bool) → count y (within h order js) ≡ total unnamed js →
          count y (cond b (within h order js) (get_or (makes h order) (pos h order j) [] ++ within h order js)) ≡ cond b 0 (tree j) + total unnamed js
      by_name true ih = omega arith
      by_name false ih = let e = count-++ y (get_or (makes h order) (pos h order j) []) (within h order js) in omega arith

  -- every object itself
  pub self_total : (xs : List ℕ) → total (λ x. one y x) xs ≡ count y xs
  self_total [] = refl
  self_total (x ∷ xs) = let ih = self_total xs in omega arith

  module _ (f : Bounded h) (a : Adequate h order) where
    -- the sum over all edges of some objects, by how often each object is used
    edges_total : (os : List ℕ) → ((o : ℕ) → mem o os ≡ true → mem o order ≡ true) → total (λ o. total unnamed (edges h o)) os ≡ total (λ x. uses_by h order os x * unnamed x) order
    edges_total [] inside = sym (total_zero (λ x. 0 * unnamed x) order (λ x m. zero-mul (unnamed x)))
    edges_total (o ∷ os) inside =
        let ih = edges_total os (λ z m. inside z (or_right (eqb z o) (mem z os) m)) in
        let this = total_over unnamed order (edges h o) a.once (λ j u. a.closed o j (inside o (mem_head o os)) u) in
        let parts = total_same (λ x. (count x (edges h o) + uses_by h order os x) * unnamed x) (λ x. count x (edges h o) * unnamed x + uses_by h order os x * unnamed x) order (λ x m. add-mul (count x (edges h o)) (uses_by h order os x) (unnamed x)) in
        let add = total_add (λ x. count x (edges h o) * unnamed x) (λ x. uses_by h order os x * unnamed x) order in
        omega arith

    -- what has no name is used once in all
    used_once : (x : ℕ) → mem x order ≡ true → count x (refs h.root) * unnamed x + uses_by h order order x * unnamed x ≡ unnamed x
    used_once x m =
        sym (add-mul (count x (refs h.root)) (uses_by h order order x) (unnamed x))
        ∙ ⊎_elim
        (λ (t : has_name h order x ≡ true).
        let z : unnamed x ≡ 0 = cond-true (has_name h order x) 0 (tree x) t in
        subst (λ w. uses h order x * w ≡ w) (sym z) (mul-zero (uses h order x)))
        (λ (t : has_name h order x ≡ false).
        ap (λ w. w * unnamed x) (a.single x (names.unnamed h order x t).0 m) ∙ one-mul (unnamed x))
        (cases_Bool (has_name h order x))

    -- each object hangs in one with a name, or in the root
    pub named_total : total named order + root_makes h order y ≡ count y order
    named_total =
        let split = total_same tree (λ x. named x + unnamed x) order (λ x m. both x) ∙ total_add named unnamed order in
        let hang = total_same tree (λ x. total unnamed (edges h x) + one y x) order (λ x m. count_at h order x f a m y ∙ ap (λ z. z + one y x) (within_total (edges h x))) ∙ total_add (λ x. total unnamed (edges h x)) (λ x. one y x) order in
        let self = self_total order in
        let by-edges = edges_total order (λ o m. m) in
        let by_root = within_total (refs h.root) ∙ total_over unnamed order (refs h.root) a.once (root_in h f order a) in
        let all = total_same (λ x. count x (refs h.root) * unnamed x + uses_by h order order x * unnamed x) unnamed order used_once in
        let add = total_add (λ x. count x (refs h.root) * unnamed x) (λ x. uses_by h order order x * unnamed x) order in
        omega arith
