-- More objects in a store: a pairing that grows keeps what is alike and what an object lacks.
use Rattle.std.proofs.Common.{◌≡◌, ℕ, suc, Bool, true, false, List, [], ◌∷◌, ◌++◌, drop, Some, None, MatchBool, Option, inl, inr, ⊎_elim}
use Rattle.dump.specs.declared.kinds.ErrorName.{ErrorName}
use Rattle.dump.specs.Heaps as heaps
use Rattle.dump.specs.Heaps.{Text, Value, Kind, boolean_object, number_object, bigint_object, string_object, plain, sparse, dense, map, set, Part, property, element, entry, member, below, cause, Heap}
use Rattle.planner.specs.Visits.{object_at}
use Rattle.planner.specs.Lates.{Late}
use Rattle.evaluator.specs.Options.{nth}
use Rattle.evaluator.specs.Stores.{Val, Shape, Slot, Obj}
use Rattle.evaluator.specs.Isomorphic.{Pairing, Alike, AlikeParts, is_hole}
use Rattle.rebuilds.specs.Pending.{Front, Properties, p_end, p_same, p_waits, Elements, e_end, e_hole, e_same, e_waits, Dense, Failure, Pends, Pending, Stored, Store}
use Rattle.pending.proofs.Lists.{all2_map}
use Rattle.effects.proofs.Options.{nth_left}

-- each place of the first stands for the same in the second
abbrev pub Ext : Pairing → Pairing → Type 0
Ext own own' = (p : ℕ) (i : Option ℕ) → nth own p ≡ Some i → nth own' p ≡ Some i

pub ext_append : (own more : Pairing) → Ext own (own ++ more)
ext_append own more p i e = nth_left own more p i e

module _ (own own' : Pairing) (more : Ext own own') where
  pub alike_ext : (v : Value) (w : Val) → Alike own v w → Alike own' v w
  alike_ext heaps.undefined w a = a
  alike_ext heaps.null w a = a
  alike_ext heaps.hole w a = a
  alike_ext (heaps.boolean b) w a = a
  alike_ext (heaps.whole z) w a = a
  alike_ext (heaps.double bits) w a = a
  alike_ext (heaps.bigint t) w a = a
  alike_ext (heaps.text t) w a = a
  alike_ext (heaps.object o) w a = (a.0, a.1, more a.0 (Some o) a.2)

  pub parts_ext : (i : ℕ) (ps : List Part) (ss : List Slot) → AlikeParts own i ps ss → AlikeParts own' i ps ss
  parts_ext i [] ss a = a
  parts_ext i (property k v ∷ ps) ss a = (a.0, a.1, a.2, alike_ext v a.0 a.3, parts_ext i ps a.1 a.4)
  parts_ext i (element v ∷ ps) ss a =
      go (is_hole v) (λ b. parts_ext (suc i) ps ss b) (λ b. (b.0, b.1, b.2, alike_ext v b.0 b.3, parts_ext (suc i) ps b.1 b.4)) a
    where
      go : {X Y X' Y' : Type 0} (t : Bool) → (X → X') → (Y → Y') → MatchBool t X Y → MatchBool t X' Y'
      go true f g c = f c
      go false f g c = g c
  parts_ext i (entry k v ∷ ps) ss a = (a.0, a.1, a.2, a.3, alike_ext k a.0 a.4, alike_ext v a.1 a.5, parts_ext i ps a.2 a.6)
  parts_ext i (member v ∷ ps) ss a = (a.0, a.1, a.2, alike_ext v a.0 a.3, parts_ext i ps a.1 a.4)
  parts_ext i (below o ∷ ps) ss a = (a.0, a.1, a.2, alike_ext (heaps.object o) a.0 a.3, parts_ext i ps a.1 a.4)
  parts_ext i (cause v ∷ ps) ss a = (a.0, a.1, a.2, alike_ext v a.0 a.3, parts_ext i ps a.1 a.4)

  module _ (o : ℕ) (ls : List Late) where
    front_ext : (ps : List Part) (ss : List Slot) → Front own ls ps ss → Front own' ls ps ss
    front_ext ps ss f = record { front = f.front; back = f.back; parts = f.parts; alike = parts_ext 0 f.front ss f.alike; tasks = f.tasks }

    pub properties_ext : {ps : List Part} {ss : List Slot} → Properties own o ls ps ss → Properties own' o ls ps ss
    properties_ext p_end = p_end
    properties_ext (p_same {v = v} {w = w} a t) = p_same (alike_ext v w a) (properties_ext t)
    properties_ext (p_waits u t) = p_waits u (properties_ext t)

    pub elements_ext : {i : ℕ} {ps : List Part} {ss : List Slot} → Elements own o ls i ps ss → Elements own' o ls i ps ss
    elements_ext e_end = e_end
    elements_ext (e_hole t) = e_hole (elements_ext t)
    elements_ext (e_same {v = v} {w = w} a t) = e_same (alike_ext v w a) (elements_ext t)
    elements_ext (e_waits u t) = e_waits u (elements_ext t)

    dense_ext : (n : ℕ) (ps : List Part) (ss : List Slot) → Dense own o ls n ps ss → Dense own' o ls n ps ss
    dense_ext n ps ss d = record { first = d.first; rest = d.rest; slots = d.slots; elements = elements_ext d.elements; properties = front_ext (drop n ps) d.rest d.properties }

    failure_ext : (e : ErrorName) (message stack : Option Text) (ps : List Part) (sh : Shape) (ss : List Slot) → Failure own o ls e message stack ps sh ss → Failure own' o ls e message stack ps sh ss
    failure_ext e message stack ps sh ss f =
        record { trace = f.trace; shape = f.shape; stacked = f.stacked; caused = ⊎_elim (λ a. inl (parts_ext 0 ps ss a)) (λ b. inr b) f.caused }

    pends_ext : (k : Kind) (ps : List Part) (sh : Shape) (ss : List Slot) → Pends own o ls k ps sh ss → Pends own' o ls k ps sh ss
    pends_ext (boolean_object v) ps sh ss a = (a.0, parts_ext 0 ps ss a.1)
    pends_ext (number_object bits) ps sh ss a = (a.0, parts_ext 0 ps ss a.1)
    pends_ext (bigint_object t) ps sh ss a = (a.0, parts_ext 0 ps ss a.1)
    pends_ext (string_object t) ps sh ss a = (a.0, parts_ext 0 ps ss a.1)
    pends_ext (heaps.regexp t flags) ps sh ss a = (a.0, parts_ext 0 ps ss a.1)
    pends_ext (heaps.date time) ps sh ss a = (a.0, parts_ext 0 ps ss a.1)
    pends_ext plain ps sh ss a = (a.0, properties_ext a.1)
    pends_ext (sparse n) ps sh ss a = (a.0, front_ext ps ss a.1)
    pends_ext (dense n) ps sh ss a = (a.0, dense_ext n ps ss a.1)
    pends_ext map ps sh ss a = (a.0, front_ext ps ss a.1)
    pends_ext set ps sh ss a = (a.0, front_ext ps ss a.1)
    pends_ext (heaps.buffer bytes maximum) ps sh ss a = (a.0, parts_ext 0 ps ss a.1)
    pends_ext (heaps.view k offset n tracking) ps sh ss a = (a.0, parts_ext 0 ps ss a.1)
    pends_ext (heaps.error e message stack) ps sh ss a = failure_ext e message stack ps sh ss a

  module _ (h : Heap) where
    pub pending_ext : (o : ℕ) (ls : List Late) (x : Obj) → Pending h own o ls x → Pending h own' o ls x
    pending_ext o ls x a = pends_ext o ls (object_at h o).kind (object_at h o).parts x.shape x.slots a

    stored_ext : (left : ℕ → List Late) (i : Option ℕ) (x : Obj) → Stored h own left i x → Stored h own' left i x
    stored_ext left None x a = a
    stored_ext left (Some o) x a = pending_ext o (left o) x a

    pub store_ext : (left : ℕ → List Late) {ps : Pairing} {xs : List Obj} → Store h own left ps xs → Store h own' left ps xs
    store_ext left t = all2_map (stored_ext left) t
