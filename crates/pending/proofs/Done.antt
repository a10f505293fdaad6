-- An object without follow-ups to come is alike to the heap's.
use Rattle.std.proofs.Common.{◌≡◌, ℕ, suc, ◌<◌, ◌≤◌, true, List, [], ◌∷◌, ◌++◌, length, take, drop, Some, None, decimal, Option, sym, refl, ap, ◌∙◌, subst, ⊎_elim, arith, take-append-drop, eq-eqb}
use Rattle.std.specs.List.{AllByRecursion as All}
use Rattle.std.proofs.ByRecursion.{All-weaker}
use Rattle.dump.specs.declared.kinds.ErrorName.{ErrorName}
use Rattle.dump.specs.Heaps as heaps
use Rattle.dump.specs.Heaps.{Text, Value, Kind, boolean_object, number_object, bigint_object, string_object, plain, sparse, dense, map, set, Part, element, Heap, nobody}
use Rattle.formed.specs.Formed.{PropertyFormed, EntryFormed, MemberFormed, PartsFormed}
use Rattle.planner.specs.Visits.{object_at}
use Rattle.evaluator.specs.Stores.{Val, Shape, buffer, error, Slot, keyed, Obj}
use Rattle.evaluator.specs.Isomorphic.{Pairing, Alike, AlikeKind, AlikeParts, AlikeObject, AllAlike}
use Rattle.rebuilds.specs.Pending.{a_nil, a_cons, Properties, p_end, p_same, p_waits, Elements, e_end, e_hole, e_same, e_waits, Dense, Bytes, Failure, Pends, Pending, Store, occ}
use Rattle.pending.proofs.Fronts.{Added, property_added, entry_added, member_added, parts-++, parts_any, front_done}
use Rattle.effects.specs.Bounded.{Bounded}
use Rattle.effects.proofs.Objects.{formed_at}

-- an element with its slot; nothing is alike to a hole
pub element_slot : (own : Pairing) (i : ℕ) (v : Value) (w : Val) (ps : List Part) (ss : List Slot) → Alike own v w → AlikeParts own (suc i) ps ss → AlikeParts own i (element v ∷ ps) (keyed (decimal i) w ∷ ss)
element_slot own i heaps.undefined w ps ss a t = (w, ss, refl, a, t)
element_slot own i heaps.null w ps ss a t = (w, ss, refl, a, t)
element_slot own i heaps.hole w ps ss a t = absurd a
element_slot own i (heaps.boolean b) w ps ss a t = (w, ss, refl, a, t)
element_slot own i (heaps.whole z) w ps ss a t = (w, ss, refl, a, t)
element_slot own i (heaps.double bits) w ps ss a t = (w, ss, refl, a, t)
element_slot own i (heaps.bigint x) w ps ss a t = (w, ss, refl, a, t)
element_slot own i (heaps.text x) w ps ss a t = (w, ss, refl, a, t)
element_slot own i (heaps.object o) w ps ss a t = (w, ss, refl, a, t)

module _ (own : Pairing) (o : ℕ) where
  properties_done : {ps : List Part} {ss : List Slot} → Properties own o [] ps ss → AlikeParts own 0 ps ss
  properties_done p_end = refl
  properties_done (p_same {w = w} {ss = ss} a t) = (w, ss, refl, a, properties_done t)
  properties_done (p_waits u t) = elim u [ ]

  elements_done : {i : ℕ} {ps : List Part} {ss : List Slot} → Elements own o [] i ps ss → AlikeParts own i ps ss
  elements_done e_end = refl
  elements_done (e_hole t) = elements_done t
  elements_done {i} (e_same {v = v} {w = w} {ps = ps} {ss = ss} a t) = element_slot own i v w ps ss a (elements_done t)
  elements_done (e_waits u t) = elim u [ ]

  dense_done : (n : ℕ) (ps : List Part) (ss : List Slot) → All Added (drop n ps) → Dense own o [] n ps ss → AlikeParts own 0 ps ss
  dense_done n ps ss f d =
      subst (λ z. AlikeParts own 0 ps z) (sym d.slots)
      (subst (λ z. AlikeParts own 0 z (d.first ++ d.rest)) (take-append-drop n ps)
      (parts-++ own 0 (take n ps) (drop n ps) d.first d.rest (elements_done d.elements)
      (λ j. parts_any own 0 j (drop n ps) d.rest f (front_done own (drop n ps) d.rest f d.properties))))

  bytes_done : (bytes : List ℕ) (maximum : Option ℕ) (sh : Shape) → Bytes o [] bytes maximum sh → sh ≡ buffer bytes maximum
  bytes_done bytes maximum sh b = b.shape ∙ ap (λ z. buffer z maximum) (⊎_elim (λ e. e) (λ u. elim u.1.1 [ ]) b.holds)

  failure_done : (e : ErrorName) (message stack : Option Text) (ps : List Part) (sh : Shape) (ss : List Slot) → Failure own o [] e message stack ps sh ss → (sh ≡ error e message stack) × AlikeParts own 0 ps ss
  failure_done e message stack ps sh ss f =
      (f.shape ∙ ap (error e message) (⊎_elim (λ d. d) (λ u. elim u.1 [ ]) f.stacked), ⊎_elim (λ a. a) (λ u. elim u.1.2 [ ]) f.caused)

  pends_done : (h : Heap) (n : ℕ) (k : Kind) (ps : List Part) (sh : Shape) (ss : List Slot) → PartsFormed h n k ps → Pends own o [] k ps sh ss → AlikeKind k sh × AlikeParts own 0 ps ss
  pends_done h n (boolean_object v) ps sh ss f a = a
  pends_done h n (number_object bits) ps sh ss f a = a
  pends_done h n (bigint_object t) ps sh ss f a = a
  pends_done h n (string_object t) ps sh ss f a = a
  pends_done h n (heaps.regexp t flags) ps sh ss f a = a
  pends_done h n (heaps.date time) ps sh ss f a = a
  pends_done h n plain ps sh ss f a = (a.0, properties_done a.1)
  pends_done h n (sparse m) ps sh ss f a = (a.0, front_done own ps ss (All-weaker (PropertyFormed n m true) Added (property_added n m true) ps f.0) a.1)
  pends_done h n (dense m) ps sh ss f a = (a.0, dense_done m ps ss (All-weaker (PropertyFormed n 0 true) Added (property_added n 0 true) (drop m ps) f.2.0) a.1)
  pends_done h n map ps sh ss f a = (a.0, front_done own ps ss (All-weaker (EntryFormed n) Added (entry_added n) ps f.0) a.1)
  pends_done h n set ps sh ss f a = (a.0, front_done own ps ss (All-weaker (MemberFormed n) Added (member_added n) ps f.0) a.1)
  pends_done h n (heaps.buffer bytes maximum) ps sh ss f a = (bytes_done bytes maximum sh a.0, a.1)
  pends_done h n (heaps.view k offset m tracking) ps sh ss f a = a
  pends_done h n (heaps.error e message stack) ps sh ss f a = failure_done e message stack ps sh ss a

pub done : (h : Heap) (own : Pairing) (o : ℕ) (x : Obj) → Bounded h → o < length h.objects → Pending h own o [] x → AlikeObject own (object_at h o) x
done h own o x f i a = pends_done own o h (length h.objects) (object_at h o).kind (object_at h o).parts x.shape x.slots (formed_at h f o).1 a

all_alike_from : (h : Heap) (own : Pairing) {ps : Pairing} {xs : List Obj} → Bounded h → ((y : ℕ) → 1 ≤ occ y ps → y < length h.objects) → Store h own (λ o. []) ps xs → AllAlike h own ps xs
all_alike_from h own f n a_nil = tt
all_alike_from h own f n (a_cons {a = None} r t) = all_alike_from h own f n t
all_alike_from h own f n (a_cons {a = Some o} {b = x} r t) =
    (done h own o x f (n o (let s = eq-eqb o o refl in grind arith)) r, all_alike_from h own f (λ y m. n y (omega arith)) t)

pub all_alike : (h : Heap) (own : Pairing) (xs : List Obj) → Bounded h → ((y : ℕ) → 1 ≤ occ y own → y < length h.objects) → Store h own (λ o. []) own xs → AllAlike h own own xs
all_alike h own xs f n t = all_alike_from h own f n t
