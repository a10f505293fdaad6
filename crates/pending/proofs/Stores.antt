-- A store by places: what stands at one, one object replaced, the follow-ups to come told otherwise, no object at two places.
use Rattle.std.proofs.Common.{◌≡◌, ℕ, zero, suc, ◌+◌, ◌≤◌, true, false, List, [], ◌∷◌, ◌++◌, Some, None, Option, sym, refl, ap, ◌∙◌, subst, arith, eq-eqb}
use Rattle.std.proofs.lemmas.Bool.{and_from, not_from_false}
use Rattle.dump.specs.Heaps.{Heap}
use Rattle.planner.specs.Lates.{Late}
use Rattle.evaluator.specs.Options.{nth}
use Rattle.evaluator.specs.Stores.{Obj, replaced}
use Rattle.evaluator.specs.Isomorphic.{Pairing, stands_in, none_twice}
use Rattle.rebuilds.specs.Pending.{a_nil, a_cons, Pending, Stored, Store, occ}
use Rattle.pending.proofs.Lists.{all2_at}
use Rattle.effects.proofs.Options.{none_some}

-- how often an object stands in a pairing

pub occ-++ : (y : ℕ) (ps qs : Pairing) → occ y (ps ++ qs) ≡ occ y ps + occ y qs
occ-++ y [] qs = omega arith
occ-++ y (None ∷ ps) qs = occ-++ y ps qs
occ-++ y (Some x ∷ ps) qs = let ih = occ-++ y ps qs in omega arith

pub occ_at : (y : ℕ) (ps : Pairing) (p : ℕ) → nth ps p ≡ Some (Some y) → 1 ≤ occ y ps
occ_at y [] p e = absurd (none_some e)
occ_at y (None ∷ ps) zero e = absurd (let d : None ≡ Some y = cc in none_some d)
occ_at y (None ∷ ps) (suc p) e = occ_at y ps p e
occ_at y (Some x ∷ ps) zero e = let d : y ≡ x = cc in let q = eq-eqb y x d in grind arith
occ_at y (Some x ∷ ps) (suc p) e = let ih = occ_at y ps p e in omega arith

-- a pairing has no less than its tail
occ_tail : (y : ℕ) (i : Option ℕ) (ps : Pairing) → occ y ps ≤ occ y (i ∷ ps)
occ_tail y None ps = omega arith
occ_tail y (Some x) ps = omega arith

twice : (y : ℕ) (i : Option ℕ) (ps : Pairing) → occ y (i ∷ ps) ≤ 1 → i ≡ Some y → 1 ≤ occ y ps → ⊥
twice y None ps n d m = none_some d
twice y (Some x) ps n d m = let c : y ≡ x = cc in let s = eq-eqb y x c in grind arith

-- what stands just once stands at one place only
pub one_place : (y : ℕ) (ps : Pairing) → occ y ps ≤ 1 → (p q : ℕ) → nth ps p ≡ Some (Some y) → nth ps q ≡ Some (Some y) → q ≡ p
one_place y [] n p q d e = absurd (none_some d)
one_place y (i ∷ ps) n zero zero d e = refl
one_place y (i ∷ ps) n zero (suc q) d e = absurd (twice y i ps n (cc) (occ_at y ps q e))
one_place y (i ∷ ps) n (suc p) zero d e = absurd (twice y i ps n (cc) (occ_at y ps p d))
one_place y (i ∷ ps) n (suc p) (suc q) d e = ap suc (one_place y ps (let m = occ_tail y i ps in omega arith) p q d e)

-- what is nowhere does not stand in it
stands_not : (y : ℕ) (ps : Pairing) → occ y ps ≡ 0 → stands_in y ps ≡ false
stands_not y [] e = refl
stands_not y (None ∷ ps) e = stands_not y ps e
stands_not y (Some x ∷ ps) e = let ih = stands_not y ps (omega arith) in grind arith

pub none_twice_lem : (own : Pairing) → ((y : ℕ) → occ y own ≤ 1) → none_twice own ≡ true
none_twice_lem [] n = refl
none_twice_lem (None ∷ ps) n = none_twice_lem ps n
none_twice_lem (Some o ∷ ps) n =
    let s = eq-eqb o o refl in
    let m = n o in
    and_from _ _ (not_from_false _ (stands_not o ps (grind arith))) (none_twice_lem ps (λ y. let k = n y in omega arith))

-- the follow-ups to come of each object that stands there, told otherwise
pub store_left_at : (h : Heap) (own : Pairing) (left left' : ℕ → List Late) {ps : Pairing} {xs : List Obj} →
    ((p o : ℕ) → nth ps p ≡ Some (Some o) → left o ≡ left' o) → Store h own left ps xs → Store h own left' ps xs
store_left_at h own left left' f a_nil = a_nil
store_left_at h own left left' f (a_cons {a = i} {b = x} r t) =
    a_cons (go i (λ o e. f 0 o (ap Some e)) r) (store_left_at h own left left' (λ p o e. f (suc p) o e) t)
  where
    go : (i : Option ℕ) → ((o : ℕ) → i ≡ Some o → left o ≡ left' o) → Stored h own left i x → Stored h own left' i x
    go None g r = r
    go (Some o) g r = subst (λ ls. Pending h own o ls x) (g o refl) r

pub store_left : (h : Heap) (own : Pairing) (left left' : ℕ → List Late) {ps : Pairing} {xs : List Obj} → ((o : ℕ) → left o ≡ left' o) → Store h own left ps xs → Store h own left' ps xs
store_left h own left left' f t = store_left_at h own left left' (λ p o e. f o) t

-- what stands for an object lacks just its follow-ups
pub store_at : (h : Heap) (own : Pairing) (left : ℕ → List Late) {ps : Pairing} {xs : List Obj} → Store h own left ps xs →
    (p o : ℕ) → nth ps p ≡ Some (Some o) → (x : Obj) × (nth xs p ≡ Some x) × Pending h own o (left o) x
store_at h own left t p o e = all2_at t p (Some o) e

-- one object replaced, by one that stands for the same and lacks other follow-ups
pub store_set : (h : Heap) (own : Pairing) (left left' : ℕ → List Late) {ps : Pairing} {xs : List Obj} → Store h own left ps xs →
    (p o : ℕ) (u : Obj) → nth ps p ≡ Some (Some o) → ((q : ℕ) → nth ps q ≡ Some (Some o) → q ≡ p) → Pending h own o (left' o) u →
    ((j : ℕ) → (j ≡ o → ⊥) → left' j ≡ left j) → Store h own left' ps (replaced xs p u)
store_set h own left left' a_nil p o u e only new others = a_nil
store_set h own left left' (a_cons {a = i} r t) zero o u e only new others =
    a_cons (subst (λ z. Stored h own left' z u) (let d : Some o ≡ i = cc in d) new)
    (store_left_at h own left left' (λ q j d. sym (others j (λ same. let z = only (suc q) (d ∙ ap (λ k. Some (Some k)) same) in omega arith))) t)
store_set h own left left' (a_cons {a = i} {b = x} r t) (suc p) o u e only new others =
    a_cons (go i (λ j d same. let z = only 0 (ap Some d ∙ ap (λ k. Some (Some k)) same) in omega arith) r)
    (store_set h own left left' t p o u e (λ q d. let z = only (suc q) d in omega arith) new others)
  where
    go : (i : Option ℕ) → ((j : ℕ) → i ≡ Some j → j ≡ o → ⊥) → Stored h own left i x → Stored h own left' i x
    go None g r = r
    go (Some j) g r = subst (λ ls. Pending h own j ls x) (sym (others j (g j refl))) r
