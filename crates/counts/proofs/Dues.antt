-- All lines together do each follow-up at most once: it is due at one place, and places of different objects differ.
use Rattle.std.proofs.Common.{◌≡◌, ℕ, ◌+◌, ◌*◌, ◌≤◌, max, Bool, true, false, cond, eqb, List, [], ◌∷◌, ◌++◌, get_or, sym, refl, ap, ◌∙◌, ⊎_elim, mul-le-mul_right, add-mul, one-mul, arith, eq-eqb, eqb-true}
use Rattle.std.proofs.lemmas.Bool.{cases_Bool, or_right}
use Rattle.dump.specs.Heaps.{Heap}
use Rattle.planner.specs.Visits.{mem}
use Rattle.planner.specs.Names.{place_in, count, pos}
use Rattle.planner.specs.Lates.{Late, lates, own_due, due}
use Rattle.planner.specs.Lines.{target, has_line, all_due}
use Rattle.visits.proofs.Lists.{mem_head}
use Rattle.visits.proofs.Orders.{get_place}
use Rattle.rebuilds.specs.Adequate.{Adequate}
use Rattle.rebuilds.specs.Makes.{task_makes, due_makes}
use Rattle.counts.proofs.Sums.{total, total_zero, total_add}
use Rattle.counts.proofs.Follows.{lates_make}

-- at most one member of a list has a place
place_total : (order : List ℕ) (t v : ℕ) (xs : List ℕ) → ((x : ℕ) → mem x xs ≡ true → mem x order ≡ true) → total (λ x. cond (eqb (place_in order x) t) v 0) xs ≤ count (get_or order t 0) xs * v
place_total order t v [] inside = omega arith
place_total order t v (x ∷ xs) inside =
    let ih = place_total order t v xs (λ z m. inside z (or_right (eqb z x) (mem z xs) m)) in
    let d = add-mul (cond (eqb (get_or order t 0) x) 1 0) (count (get_or order t 0) xs) v in
    let here_is : cond (eqb (place_in order x) t) v 0 ≤ cond (eqb (get_or order t 0) x) 1 0 * v =
    ⊎_elim
    (λ (e : eqb (place_in order x) t ≡ true).
    let g = ap (λ z. get_or order z 0) (sym (eqb-true (place_in order x) t e)) ∙ get_place x order 0 (inside x (mem_head x xs)) in
    let s = ap (λ z. cond z 1 0 * v) (eq-eqb (get_or order t 0) x g) ∙ one-mul v in
    let l = ap (λ z. cond z v 0) e in
    omega arith)
    (λ (e : eqb (place_in order x) t ≡ false). let l = ap (λ z. cond z v 0) e in omega arith)
    (cases_Bool (eqb (place_in order x) t)) in
    omega arith

module _ (h : Heap) (order : List ℕ) (y : ℕ) where
  -- how often follow-ups with their dues make y
  abbrev pub dues_make : List (ℕ × Late) → ℕ
  dues_make [] = 0
  dues_make (d ∷ ds) = task_makes h order d.1.task y + dues_make ds

  dues_append : (ds es : List (ℕ × Late)) → dues_make (ds ++ es) ≡ dues_make ds + dues_make es
  dues_append [] es = omega arith
  dues_append (d ∷ ds) es = let ih = dues_append ds es in omega arith

  -- each follow-up of one object has one due
  due_total : (after : ℕ) (ls : List Late) → dues_make (due h order after ls) ≡ lates_make h order y ls
  due_total after [] = refl
  due_total after (l ∷ ls) = by_order l.ordered (due_total (max after (own_due h order l)) ls) (due_total after ls)
    where
      by_order : (b : Bool) → dues_make (due h order (max after (own_due h order l)) ls) ≡ lates_make h order y ls → dues_make (due h order after ls) ≡ lates_make h order y ls →
          dues_make (cond b ((max after (own_due h order l), l) ∷ due h order (max after (own_due h order l)) ls) ((own_due h order l, l) ∷ due h order after ls)) ≡ task_makes h order l.task y + lates_make h order y ls
      by_order true p q = omega arith
      by_order false p q = omega arith

  -- all follow-ups, by the lines that leave them
  pub all_due_total : (os : List ℕ) → dues_make (all_due h order os) ≡ total (λ o. cond (has_line h order o) (lates_make h order y (lates h order (target h order o))) 0) os
  all_due_total [] = refl
  all_due_total (o ∷ os) = by_line (has_line h order o) (all_due_total os)
    where
      by_line : (b : Bool) → dues_make (all_due h order os) ≡ total (λ z. cond (has_line h order z) (lates_make h order y (lates h order (target h order z))) 0) os →
          dues_make (cond b (due h order 0 (lates h order (target h order o)) ++ all_due h order os) (all_due h order os))
          ≡ cond b (lates_make h order y (lates h order (target h order o))) 0 + total (λ z. cond (has_line h order z) (lates_make h order y (lates h order (target h order z))) 0) os
      by_line true ih =
          let a = dues_append (due h order 0 (lates h order (target h order o))) (all_due h order os) in
          let b = due_total 0 (lates h order (target h order o)) in
          omega arith
      by_line false ih = omega arith

  -- each is done at one place at most
  pub places_total : Adequate h order → (ds : List (ℕ × Late)) → total (λ o. due_makes h order (pos h order o) ds y) order ≤ dues_make ds
  places_total a [] = let z = total_zero (λ o. 0) order (λ x m. refl) in omega arith
  places_total a (d ∷ ds) =
      let v = task_makes h order d.1.task y in
      let ih = places_total a ds in
      let p = place_total order d.0 v order (λ x m. m) in
      let le = mul-le-mul_right v (a.once (get_or order d.0 0)) in
      let o = one-mul v in
      let add = total_add (λ o. cond (eqb (place_in order o) d.0) v 0) (λ o. due_makes h order (pos h order o) ds y) order in
      omega arith
