-- What the expressions without a name make: of appended references, past a name, at the place of an object.
use Rattle.std.proofs.Common.{◌≡◌, ℕ, ◌+◌, ◌<◌, true, false, List, [], ◌∷◌, ◌++◌, length, get_or, sym, ap, ◌∙◌, append-nil, arith, length-append}
use Rattle.std.proofs.lemmas.List.{get_or_append_left, get_or_at}
use Rattle.std.proofs.lemmas.Bool.{cond-true, cond-false}
use Rattle.dump.specs.Heaps.{Heap}
use Rattle.planner.specs.Visits.{edges, mem}
use Rattle.planner.specs.Names.{count, pos, has_name}
use Rattle.visits.proofs.Lists.{count-++, split_at, once_before}
use Rattle.visits.proofs.Orders.{place_split}
use Rattle.rebuilds.specs.Adequate.{Adequate}
use Rattle.rebuilds.specs.Makes.{one, inner, makes_all, makes, within, expr_makes}
use Rattle.places.proofs.Names.{unnamed}
use Rattle.places.proofs.Lates.{no_lates}
use Rattle.counts.proofs.Inner.{inner_append, makes_kept, makes_length, makes_append, inner_same}
use Rattle.counts.proofs.Follows.{lates_make, lates_made}
use Rattle.effects.specs.Bounded.{Bounded}

module _ (h : Heap) (order : List ℕ) where
  -- appended references, one by one
  pub within_append : (xs ys : List ℕ) → within h order (xs ++ ys) ≡ within h order xs ++ within h order ys
  within_append xs ys = inner_append h order (makes h order) xs ys

  -- what has a name is passed over
  pub within_named : (j : ℕ) → has_name h order j ≡ true → within h order (j ∷ []) ≡ []
  within_named j e = cond-true (has_name h order j) [] (get_or (makes h order) (pos h order j) [] ++ []) e

  -- what has none makes what its place has
  pub within_one : (j : ℕ) → has_name h order j ≡ false → within h order (j ∷ []) ≡ get_or (makes h order) (pos h order j) []
  within_one j e = cond-false (has_name h order j) [] (get_or (makes h order) (pos h order j) [] ++ []) e ∙ append-nil (get_or (makes h order) (pos h order j) [])

  -- at the place of an object: what hangs in it without a name, and itself
  pub makes_at : (x : ℕ) → Bounded h → Adequate h order → mem x order ≡ true → get_or (makes h order) (pos h order x) [] ≡ within h order (edges h x) ++ (x ∷ [])
  makes_at x f a m =
      let s = split_at x order m in
      let n = once_before x order s.before s.after (a.once x) s.whole in
      let place = place_split x order s.before s.after s.whole n in
      let done = makes_all h order [] s.before in
      let l : length done ≡ length s.before = makes_length h order [] s.before ∙ (omega arith) in
      let one = inner h order done (edges h x) ++ (x ∷ []) in
      let more = done ++ (one ∷ []) in
      let lm = length-append done (one ∷ []) in
      let whole : makes h order ≡ makes_all h order more s.after = ap (makes_all h order []) s.whole ∙ makes_append h order [] s.before (x ∷ s.after) in
      let at_place : (i : ℕ) → i < length more → get_or (makes h order) i [] ≡ get_or more i [] = λ i lt. ap (λ z. get_or z i []) whole ∙ makes_kept h order more s.after i lt in
      let here_is : get_or (makes h order) (pos h order x) [] ≡ one = at_place (pos h order x) (omega arith) ∙ get_or_at done one [] [] (pos h order x) (omega arith) in
      let same : inner h order done (edges h x) ≡ within h order (edges h x) =
      inner_same h order done (makes h order) (edges h x) (λ j u e.
      let lt = a.ahead x j (unnamed h order j e).0 m u in
      sym (at_place (pos h order j) (omega arith) ∙ get_or_append_left done (one ∷ []) [] (pos h order j) (omega arith))) in
      here_is ∙ ap (λ z. z ++ (x ∷ [])) same

  -- how often a place makes an object
  pub count_at : (x : ℕ) → Bounded h → Adequate h order → mem x order ≡ true → (y : ℕ) → count y (get_or (makes h order) (pos h order x) []) ≡ count y (within h order (edges h x)) + one y x
  count_at x f a m y = let e = ap (count y) (makes_at x f a m) ∙ count-++ y (within h order (edges h x)) (x ∷ []) in omega arith

  -- without a name, the expression writes all that hangs in it, as it leaves nothing to do
  pub within_unnamed : (x : ℕ) → Bounded h → Adequate h order → mem x order ≡ true → has_name h order x ≡ false → (y : ℕ) → count y (within h order (x ∷ [])) ≡ expr_makes h order x y
  within_unnamed x f a m n y =
      let place = ap (count y) (within_one x n) ∙ count_at x f a m y in
      let all = lates_made h order y f x in
      let none = ap (lates_make h order y) (no_lates h f order a x m n) in
      omega arith
