-- Every object is made at most once by all lines together.
use Rattle.std.proofs.Common.{◌≡◌, ℕ, ◌+◌, ◌≤◌, Bool, true, false, cond, ◌&&◌, eqb, List, [], ◌∷◌, is_some, Some, None, Option, sym, refl, ap, ◌∙◌, ⊎_elim, arith, eq-eqb, eqb-true}
use Rattle.std.proofs.lemmas.Bool.{cases_Bool, both_ways, and_parts, cond-true}
use Rattle.dump.specs.Heaps.{Heap}
use Rattle.planner.specs.Visits.{mem}
use Rattle.planner.specs.Names.{pos, backing, is_same, backed, slot, has_name}
use Rattle.planner.specs.Lates.{lates}
use Rattle.planner.specs.Lines.{target_by, target, has_line, all_due}
use Rattle.visits.proofs.Lists.{count_mem}
use Rattle.rebuilds.specs.Adequate.{Adequate}
use Rattle.rebuilds.specs.Makes.{one, expr_makes, line_makes_by, line_makes, due_makes, lines_make, root_makes}
use Rattle.effects.proofs.Options.{none_some, cases_option}
use Rattle.places.proofs.Names.{backing_covers, backed_edge, backed_named, backs, backs_of}
use Rattle.places.proofs.Lates.{view_lates}
use Rattle.counts.proofs.Sums.{total, total_le, total_same, total_zero, total_add}
use Rattle.counts.proofs.Within.{count_at}
use Rattle.counts.proofs.Follows.{lates_make, lates_made}
use Rattle.counts.proofs.Dues.{all_due_total, places_total}
use Rattle.counts.proofs.Trees.{tree, named, self_total, named_total}
use Rattle.effects.specs.Bounded.{Bounded}

-- sums of a test
cond_le : (b : Bool) (n : ℕ) → cond b n 0 ≤ n
cond_le true n = omega arith
cond_le false n = omega arith

cond_add : (b : Bool) (m n : ℕ) → cond b m 0 + cond b n 0 ≡ cond b (m + n) 0
cond_add true m n = refl
cond_add false m n = refl

cond_step : (p q : Bool) → (p ≡ true → q ≡ true) → cond p 1 0 ≤ cond q 1 0
cond_step true q go_on = let e : cond {A = ℕ} q 1 0 ≡ 1 = cond-true q 1 0 (go_on refl) in omega arith
cond_step false q go_on = omega arith

-- options that are the same
some_same : (x z : ℕ) → Some x ≡ Some z → x ≡ z
some_same x z e = cc

same_some : (h : Heap) (order : List ℕ) (o : Option ℕ) (x : ℕ) → is_same h order o x ≡ true → o ≡ Some x
same_some h order None x e = absurd (both_ways false refl e)
same_some h order (Some z) x e = ap (λ u. Some u) (sym (eqb-true x z e))

module _ (h : Heap) (order : List ℕ) (y : ℕ) (f : Bounded h) (a : Adequate h order) where
  -- what the line at the place of an object makes, with all that follows from it
  abbrev line : ℕ → ℕ
  line o = cond (has_line h order o) (line_makes h order o y + lates_make h order y (lates h order (target h order o))) 0

  -- all lines, and all that is due at them
  lines_total : (os : List ℕ) →
      lines_make h order os y ≡ total (λ o. cond (has_line h order o) (line_makes h order o y) 0) os + total (λ o. cond (has_line h order o) (due_makes h order (pos h order o) (all_due h order order) y) 0) os
  lines_total [] = refl
  lines_total (o ∷ os) = by_line (has_line h order o) (lines_total os)
    where
      A : ℕ
      A = total (λ o. cond (has_line h order o) (line_makes h order o y) 0) os

      B : ℕ
      B = total (λ o. cond (has_line h order o) (due_makes h order (pos h order o) (all_due h order order) y) 0) os

      by_line : (b : Bool) → lines_make h order os y ≡ A + B →
          cond b (line_makes h order o y + due_makes h order (pos h order o) (all_due h order order) y) 0 + lines_make h order os y
          ≡ (cond b (line_makes h order o y) 0 + A) + (cond b (due_makes h order (pos h order o) (all_due h order order) y) 0 + B)
      by_line true ih = omega arith
      by_line false ih = omega arith

  -- each follow-up counted at the line that leaves it
  lines_le : lines_make h order order y ≤ total line order
  lines_le =
      let lines = lines_total order in
      let some = total_le (λ o. cond (has_line h order o) (due_makes h order (pos h order o) (all_due h order order) y) 0) (λ o. due_makes h order (pos h order o) (all_due h order order) y) order
      (λ o m. cond_le (has_line h order o) (due_makes h order (pos h order o) (all_due h order order) y)) in
      let places = places_total h order y a (all_due h order order) in
      let dues = all_due_total h order y order in
      let add = total_add (λ o. cond (has_line h order o) (line_makes h order o y) 0) (λ o. cond (has_line h order o) (lates_make h order y (lates h order (target h order o))) 0) order in
      let same = total_same (λ o. cond (has_line h order o) (line_makes h order o y) 0 + cond (has_line h order o) (lates_make h order y (lates h order (target h order o))) 0) line order
      (λ o m. cond_add (has_line h order o) (line_makes h order o y) (lates_make h order y (lates h order (target h order o)))) in
      omega arith

  -- the view that backs a buffer is y; this one backs a buffer and is y
  abbrev backing_is : ℕ → ℕ
  backing_is o = cond (is_same h order (backing h order o) y) 1 0

  abbrev backs_is : ℕ → ℕ
  backs_is o = cond (is_some (backed h order o)) (one y o) 0

  -- an object with itself among what it makes
  self_le : (o : ℕ) → mem o order ≡ true → one y o ≤ tree h order y o
  self_le o m = let e = count_at h order o f a m y in omega arith

  -- what has a name counts with all that hangs in it
  has_name_lem : (o : ℕ) → has_name h order o ≡ true → named h order y o ≡ tree h order y o
  has_name_lem o e = cond-true (has_name h order o) (tree h order y o) 0 e

  -- an object whose line builds itself
  own_line : (o : ℕ) → mem o order ≡ true → backed h order o ≡ None → (line-there : Bool) → (has_name h order o && eqb (slot h order o) (pos h order o)) ≡ line-there →
      cond line-there (expr_makes h order o y + lates_make h order y (lates h order o)) 0 + backs_is o ≤ named h order y o
  own_line o m e true l =
      let t = has_name_lem o (and_parts (has_name h order o) (eqb (slot h order o) (pos h order o)) l).0 in
      let all = lates_made h order y f o in
      let whole = count_at h order o f a m y in
      let own = ap (λ b. cond (is_some b) (one y o) 0) e in
      omega arith
  own_line o m e false l = let own = ap (λ b. cond (is_some b) (one y o) 0) e in omega arith

  -- a backing view: its line is at its buffer's place
  no_line : (o b : ℕ) → mem o order ≡ true → backed h order o ≡ Some b → (line-there : Bool) → (has_name h order o && eqb (slot h order o) (pos h order o)) ≡ line-there →
      cond line-there (expr_makes h order o y + lates_make h order y (lates h order o)) 0 + backs_is o ≤ named h order y o
  no_line o b m e true l =
      let s = backs_of h f order a b o m e in
      let same = eqb-true (slot h order o) (pos h order o) (and_parts (has_name h order o) (eqb (slot h order o) (pos h order o)) l).1 in
      let lt = s.before in
      let at-buffer = s.slot_view in
      absurd (omega arith)
  no_line o b m e false l =
      let t = has_name_lem o (backed_named h order o b e) in
      let le = self_le o m in
      let own = cond_le (is_some (backed h order o)) (one y o) in
      omega arith

  -- a buffer whose line builds the view that backs it
  view_line : (o w : ℕ) → mem o order ≡ true → backing h order o ≡ Some w → (line-there : Bool) →
      cond line-there (one y o + one y w + lates_make h order y (lates h order w)) 0 + backs_is o ≤ named h order y o + one y w
  view_line o w m e line-there =
      let s = backs h f order a o w m e in
      let t = has_name_lem o s.named_buffer in
      let le = self_le o m in
      let none = ap (lates_make h order y) (view_lates h order w s.kind 0 s.n false s.view_is) in
      let there = cond_le line-there (one y o + one y w + lates_make h order y (lates h order w)) in
      let own = ap (λ b. cond (is_some b) (one y o) 0) s.unbacked in
      omega arith

  -- each line makes no more than hangs in its object, but for a backing view, which counts at its buffer's place
  line_le : (o : ℕ) → mem o order ≡ true → line o + backs_is o ≤ named h order y o + backing_is o
  line_le o m = by_backing (backing h order o) refl
    where
      by_backing : (w : Option ℕ) → backing h order o ≡ w →
          cond (has_name h order (target_by h order w o) && eqb (slot h order (target_by h order w o)) (pos h order o)) (line_makes_by h order w o y + lates_make h order y (lates h order (target_by h order w o))) 0 + backs_is o
          ≤ named h order y o + cond (is_same h order w y) 1 0
      by_backing None e =
          let le = ⊎_elim (λ (n : backed h order o ≡ None). own_line o m n (has_name h order o && eqb (slot h order o) (pos h order o)) refl)
          (λ (s : (b : ℕ) × (backed h order o ≡ Some b)). no_line o s.0 m s.1 (has_name h order o && eqb (slot h order o) (pos h order o)) refl) (cases_option (backed h order o)) in
          omega arith
      by_backing (Some w) e = view_line o w m e (has_name h order w && eqb (slot h order w) (pos h order o))

  -- each backing view has one buffer
  backs_total : total backing_is order ≤ total backs_is order
  backs_total = ⊎_elim none some (cases_option (backed h order y))
    where
      -- whoever y is the backing view of
      is : (o : ℕ) → mem o order ≡ true → is_same h order (backing h order o) y ≡ true → backed h order y ≡ Some o
      is o m t = (backs h f order a o y m (same_some h order (backing h order o) y t)).backed

      none : backed h order y ≡ None → total backing_is order ≤ total backs_is order
      none n = let z = total_le backing_is (λ o. 0) order (λ o m. cond_step (is_same h order (backing h order o) y) false (λ t. absurd (none_some (sym n ∙ is o m t)))) in let zero_is = total_zero (λ o. 0) order (λ o m. refl) in omega arith

      some : ((b : ℕ) × (backed h order y ≡ Some b)) → total backing_is order ≤ total backs_is order
      some s =
          let b = s.0 in
          let view = (backing_covers h order b y (backed_edge h order y b s.1).1).1 in
          let up = total_le backing_is (λ o. one b o) order (λ o m. cond_step (is_same h order (backing h order o) y) (eqb b o) (λ t. eq-eqb b o (some_same b o (sym s.1 ∙ is o m t)))) in
          let down = total_le (λ o. one y o) backs_is order (λ o m. ⊎_elim
          (λ (t : eqb y o ≡ true).
          let here_is : backs_is o ≡ one y o = ap (λ z. cond (is_some z) (one y o) 0) (ap (backed h order) (sym (eqb-true y o t)) ∙ s.1) in
          omega arith)
          (λ (t : eqb y o ≡ false). let zero_is : one y o ≡ 0 = ap (λ c. cond c 1 0) t in omega arith)
          (cases_Bool (eqb y o))) in
          let buffers = self_total h order b order in
          let views = self_total h order y order in
          let le = a.once b in
          let ge = count_mem y order view in
          omega arith

pub once_made : (h : Heap) (order : List ℕ) → Bounded h → Adequate h order → (y : ℕ) → lines_make h order order y + root_makes h order y ≤ 1
once_made h order f a y =
    let lines = lines_le h order y f a in
    let le = total_le (λ o. line h order y f a o + backs_is h order y f a o) (λ o. named h order y o + backing_is h order y f a o) order (line_le h order y f a) in
    let left = total_add (line h order y f a) (backs_is h order y f a) order in
    let right = total_add (named h order y) (backing_is h order y f a) order in
    let views = backs_total h order y f a in
    let all = named_total h order y f a in
    let once = a.once y in
    omega arith
