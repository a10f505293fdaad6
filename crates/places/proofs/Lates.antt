-- The follow-ups of an object: each is its own and refers only to what it refers to; an object without a name has none, nor a view, nor a fixed buffer.
use Rattle.std.proofs.Common.{◌≡◌, ℕ, zero, suc, Bool, true, false, cond, not, ◌&&◌, List, [], ◌∷◌, ◌++◌, length, take, drop, Some, None, codes, Option, sym, refl, ap, ◌∙◌, subst, ⊎_elim, append_assoc, append-nil, drop_of_length-le}
use Rattle.std.proofs.lemmas.Bool.{and_from, or_parts, both_ways, cond-true, ltb-false}
use Rattle.dump.specs.declared.kinds.ViewKind.{ViewKind}
use Rattle.dump.specs.Heaps.{Text, Value, undefined, null, hole, boolean, whole, double, bigint, text, object, index, name, Kind, boolean_object, number_object, bigint_object, string_object, regexp, date, plain, sparse, dense, map, set, buffer, view, error, Part, property, element, entry, member, below, cause, Heap}
use Rattle.script.specs.Texts.{listing, all_zero}
use Rattle.planner.specs.Visits.{refs, refs_of, values_in, edges_of, edges, object_at, mem}
use Rattle.planner.specs.Names.{kind_needs_name, turns, slot, has_name, ready_before, data_kind}
use Rattle.planner.specs.Lates.{sets, puts, adds, fills, Late, bytes_kind, late_properties, late_elements, late_members, late_causes, late_bytes, lates_by, lates}
use Rattle.visits.proofs.Edges.{inlines_unnamed}
use Rattle.visits.proofs.Lists.{mem_left, mem_right, mem_head}
use Rattle.rebuilds.specs.Adequate.{Adequate}
use Rattle.rebuilds.specs.Makes.{task_refs}
use Rattle.rebuilds.specs.Pending.{In}
use Rattle.places.proofs.Ins.{in_nil, in_cons, in_parts}
use Rattle.places.proofs.Names.{unnamed, child_ready}
use Rattle.effects.specs.Plans.{stack_text}
use Rattle.effects.specs.Bounded.{Bounded}

-- a follow-up of o that refers only to these objects
abbrev pub From : ℕ → List ℕ → Late → Type 0
From o es l = (l.target ≡ o) × ((j : ℕ) → mem j (task_refs l.task) ≡ true → mem j es ≡ true)

from_right : (o : ℕ) (xs es : List ℕ) (l : Late) → From o es l → From o (xs ++ es) l
from_right o xs es l f = (f.0, λ j m. mem_right j xs es (f.1 j m))

from_left : (o : ℕ) (xs es : List ℕ) (l : Late) → From o xs l → From o (xs ++ es) l
from_left o xs es l f = (f.0, λ j m. mem_left j xs es (f.1 j m))

-- the references of one value, and of two
pub refs_one : (v : Value) → refs v ≡ refs_of (v ∷ [])
refs_one v = sym (append-nil (refs v))

pub refs_two : (k v : Value) → refs k ++ refs v ≡ refs_of (k ∷ v ∷ [])
refs_two k v = ap (λ z. refs k ++ z) (refs_one v)

-- the edges of the first parts and of the others
pub edges_split : (n : ℕ) (ps : List Part) → edges_of ps ≡ edges_of (take n ps) ++ edges_of (drop n ps)
edges_split zero ps = refl
edges_split (suc n) [] = refl
edges_split (suc n) (p ∷ ps) = ap (λ z. refs_of (values_in p) ++ z) (edges_split n ps) ∙ sym (append_assoc (refs_of (values_in p)) (edges_of (take n ps)) (edges_of (drop n ps)))

pub edges_take : (n : ℕ) (ps : List Part) (j : ℕ) → mem j (edges_of (take n ps)) ≡ true → mem j (edges_of ps) ≡ true
edges_take n ps j m = ap (mem j) (edges_split n ps) ∙ mem_left j (edges_of (take n ps)) (edges_of (drop n ps)) m

pub edges_drop : (n : ℕ) (ps : List Part) (j : ℕ) → mem j (edges_of (drop n ps)) ≡ true → mem j (edges_of ps) ≡ true
edges_drop n ps j m = ap (mem j) (edges_split n ps) ∙ mem_right j (edges_of (take n ps)) (edges_of (drop n ps)) m

-- a follow-up that is first or among the others, where the first may be left out
among : (P : Late → Type 0) (t : Bool) (a l : Late) (ls ms : List Late) → P a → (In l ls → P l) → (In l ms → P l) → In l (cond t ls (a ∷ ms)) → P l
among P true a l ls ms p f g i = f i
among P false a l ls ms p f g i = ⊎_elim (λ (e : l ≡ a). subst P (sym e) p) (λ (r : In l ms). g r) (in_cons i)

module _ (h : Heap) (order : List ℕ) where
  properties_from : (every_one : Bool) (o t : ℕ) (ps : List Part) (l : Late) → In l (late_properties h order every_one o t ps) → From o (edges_of ps) l
  properties_from every_one o t [] l i = in_nil i
  properties_from every_one o t (property k v ∷ ps) l i =
      let rest = λ (r : In l (late_properties h order every_one o t ps)). from_right o (refs_of (v ∷ [])) (edges_of ps) l (properties_from every_one o t ps l r) in
      among (From o (edges_of (property k v ∷ ps))) (not every_one && ready_before h order t v) (record { target = o; task = sets k v; ordered = every_one }) l
      (late_properties h order every_one o t ps) (late_properties h order every_one o t ps)
      (refl, λ j m. mem_left j (refs_of (v ∷ [])) (edges_of ps) (ap (mem j) (sym (refs_one v)) ∙ m)) rest rest i
  properties_from every_one o t (element v ∷ ps) l i = from_right o (refs_of (v ∷ [])) (edges_of ps) l (properties_from every_one o t ps l i)
  properties_from every_one o t (entry k v ∷ ps) l i = from_right o (refs_of (k ∷ v ∷ [])) (edges_of ps) l (properties_from every_one o t ps l i)
  properties_from every_one o t (member v ∷ ps) l i = from_right o (refs_of (v ∷ [])) (edges_of ps) l (properties_from every_one o t ps l i)
  properties_from every_one o t (below b ∷ ps) l i = from_right o (b ∷ []) (edges_of ps) l (properties_from every_one o t ps l i)
  properties_from every_one o t (cause v ∷ ps) l i = from_right o (refs_of (v ∷ [])) (edges_of ps) l (properties_from every_one o t ps l i)

  elements_from : (o t n : ℕ) (ps : List Part) (l : Late) → In l (late_elements h order o t n ps) → From o (edges_of ps) l
  elements_from o t n [] l i = in_nil i
  elements_from o t n (property k v ∷ ps) l i = from_right o (refs_of (v ∷ [])) (edges_of ps) l (elements_from o t (suc n) ps l i)
  elements_from o t n (element v ∷ ps) l i =
      let rest = λ (r : In l (late_elements h order o t (suc n) ps)). from_right o (refs_of (v ∷ [])) (edges_of ps) l (elements_from o t (suc n) ps l r) in
      among (From o (edges_of (element v ∷ ps))) (ready_before h order t v) (record { target = o; task = sets (index n) v; ordered = false }) l
      (late_elements h order o t (suc n) ps) (late_elements h order o t (suc n) ps)
      (refl, λ j m. mem_left j (refs_of (v ∷ [])) (edges_of ps) (ap (mem j) (sym (refs_one v)) ∙ m)) rest rest i
  elements_from o t n (entry k v ∷ ps) l i = from_right o (refs_of (k ∷ v ∷ [])) (edges_of ps) l (elements_from o t (suc n) ps l i)
  elements_from o t n (member v ∷ ps) l i = from_right o (refs_of (v ∷ [])) (edges_of ps) l (elements_from o t (suc n) ps l i)
  elements_from o t n (below b ∷ ps) l i = from_right o (b ∷ []) (edges_of ps) l (elements_from o t (suc n) ps l i)
  elements_from o t n (cause v ∷ ps) l i = from_right o (refs_of (v ∷ [])) (edges_of ps) l (elements_from o t (suc n) ps l i)

  members_from : (late : Bool) (o t : ℕ) (ps : List Part) (l : Late) → In l (late_members h order late o t ps) → From o (edges_of ps) l
  members_from late o t [] l i = in_nil i
  members_from late o t (property k v ∷ ps) l i = from_right o (refs_of (v ∷ [])) (edges_of ps) l (members_from late o t ps l i)
  members_from late o t (element v ∷ ps) l i = from_right o (refs_of (v ∷ [])) (edges_of ps) l (members_from late o t ps l i)
  members_from late o t (entry k v ∷ ps) l i =
      among (From o (edges_of (entry k v ∷ ps))) (not late && (ready_before h order t k && ready_before h order t v)) (record { target = o; task = puts k v; ordered = true }) l
      (late_members h order false o t ps) (late_members h order true o t ps)
      (refl, λ j m. mem_left j (refs_of (k ∷ v ∷ [])) (edges_of ps) (ap (mem j) (sym (refs_two k v)) ∙ m))
      (λ (r : In l (late_members h order false o t ps)). from_right o (refs_of (k ∷ v ∷ [])) (edges_of ps) l (members_from false o t ps l r))
      (λ (r : In l (late_members h order true o t ps)). from_right o (refs_of (k ∷ v ∷ [])) (edges_of ps) l (members_from true o t ps l r)) i
  members_from late o t (member v ∷ ps) l i =
      among (From o (edges_of (member v ∷ ps))) (not late && ready_before h order t v) (record { target = o; task = adds v; ordered = true }) l
      (late_members h order false o t ps) (late_members h order true o t ps)
      (refl, λ j m. mem_left j (refs_of (v ∷ [])) (edges_of ps) (ap (mem j) (sym (refs_one v)) ∙ m))
      (λ (r : In l (late_members h order false o t ps)). from_right o (refs_of (v ∷ [])) (edges_of ps) l (members_from false o t ps l r))
      (λ (r : In l (late_members h order true o t ps)). from_right o (refs_of (v ∷ [])) (edges_of ps) l (members_from true o t ps l r)) i
  members_from late o t (below b ∷ ps) l i = from_right o (b ∷ []) (edges_of ps) l (members_from late o t ps l i)
  members_from late o t (cause v ∷ ps) l i = from_right o (refs_of (v ∷ [])) (edges_of ps) l (members_from late o t ps l i)

  causes_from : (o t : ℕ) (ps : List Part) (l : Late) → In l (late_causes h order o t ps) → From o (edges_of ps) l
  causes_from o t [] l i = in_nil i
  causes_from o t (property k v ∷ ps) l i = from_right o (refs_of (v ∷ [])) (edges_of ps) l (causes_from o t ps l i)
  causes_from o t (element v ∷ ps) l i = from_right o (refs_of (v ∷ [])) (edges_of ps) l (causes_from o t ps l i)
  causes_from o t (entry k v ∷ ps) l i = from_right o (refs_of (k ∷ v ∷ [])) (edges_of ps) l (causes_from o t ps l i)
  causes_from o t (member v ∷ ps) l i = from_right o (refs_of (v ∷ [])) (edges_of ps) l (causes_from o t ps l i)
  causes_from o t (below b ∷ ps) l i = from_right o (b ∷ []) (edges_of ps) l (causes_from o t ps l i)
  causes_from o t (cause v ∷ ps) l i =
      let rest = λ (r : In l (late_causes h order o t ps)). from_right o (refs_of (v ∷ [])) (edges_of ps) l (causes_from o t ps l r) in
      among (From o (edges_of (cause v ∷ ps))) (ready_before h order t v) (record { target = o; task = sets (name (codes "cause")) v; ordered = false }) l
      (late_causes h order o t ps) (late_causes h order o t ps)
      (refl, λ j m. mem_left j (refs_of (v ∷ [])) (edges_of ps) (ap (mem j) (sym (refs_one v)) ∙ m)) rest rest i

  bytes_from : (o : ℕ) (bytes : List ℕ) (maximum : Option ℕ) (es : List ℕ) (l : Late) → In l (late_bytes h order o bytes maximum) → From o es l
  bytes_from o bytes None es l i = in_nil i
  bytes_from o bytes (Some m) es l i =
      among (From o es) (all_zero bytes) (record { target = o; task = fills (bytes_kind (data_kind h order o) (listing (data_kind h order o))); ordered = false }) l [] []
      (refl, λ j m. absurd (both_ways false refl m)) in_nil in_nil i

  stack_none : (stack : Option Text) → refs (stack_text stack) ≡ []
  stack_none None = refl
  stack_none (Some s) = refl

  by_kind : (o t : ℕ) (k : Kind) (ps : List Part) (l : Late) → In l (lates_by h order o t k ps) → From o (edges_of ps) l
  by_kind o t (boolean_object v) ps l i = in_nil i
  by_kind o t (number_object bits) ps l i = in_nil i
  by_kind o t (bigint_object s) ps l i = in_nil i
  by_kind o t (string_object s) ps l i = in_nil i
  by_kind o t (regexp s flags) ps l i = in_nil i
  by_kind o t (date time) ps l i = in_nil i
  by_kind o t plain ps l i = properties_from false o t ps l i
  by_kind o t (sparse n) ps l i = properties_from true o t ps l i
  by_kind o t (dense n) ps l i =
      ⊎_elim
      (λ (a : In l (late_elements h order o t 0 (take n ps))). let r = elements_from o t 0 (take n ps) l a in (r.0, λ j m. edges_take n ps j (r.1 j m)))
      (λ (a : In l (late_properties h order true o t (drop n ps))). let r = properties_from true o t (drop n ps) l a in (r.0, λ j m. edges_drop n ps j (r.1 j m)))
      (in_parts (late_elements h order o t 0 (take n ps)) (late_properties h order true o t (drop n ps)) i)
  by_kind o t map ps l i = members_from false o t ps l i
  by_kind o t set ps l i = members_from false o t ps l i
  by_kind o t (buffer bytes maximum) ps l i = bytes_from o bytes maximum (edges_of ps) l i
  by_kind o t (view k offset n tracking) ps l i = in_nil i
  by_kind o t (error n message stack) ps l i =
      ⊎_elim (λ (a : In l (late_causes h order o t ps)). causes_from o t ps l a)
      (λ (a : In l (record { target = o; task = sets (name (codes "stack")) (stack_text stack); ordered = false } ∷ [])).
      among (From o (edges_of ps)) false (record { target = o; task = sets (name (codes "stack")) (stack_text stack); ordered = false }) l [] []
      (refl, λ j m. absurd (both_ways false refl (ap (mem j) (sym (stack_none stack)) ∙ m))) in_nil in_nil a)
      (in_parts (late_causes h order o t ps) (record { target = o; task = sets (name (codes "stack")) (stack_text stack); ordered = false } ∷ []) i)

  pub late_from : (o : ℕ) (l : Late) → In l (lates h order o) → From o (edges h o) l
  late_from o l i = by_kind o (slot h order o) (object_at h o).kind (object_at h o).parts l i

  pub late_target : (o : ℕ) (l : Late) → In l (lates h order o) → l.target ≡ o
  late_target o l i = (late_from o l i).0

  pub late_refs : (o : ℕ) (l : Late) (j : ℕ) → In l (lates h order o) → mem j (task_refs l.task) ≡ true → mem j (edges h o) ≡ true
  late_refs o l j i m = (late_from o l i).1 j m

  -- a view has no follow-up
  pub view_lates : (o : ℕ) (k : ViewKind) (offset n : ℕ) (tracking : Bool) → (object_at h o).kind ≡ view k offset n tracking → lates h order o ≡ []
  view_lates o k offset n tracking e = ap (λ z. lates_by h order o (slot h order o) z (object_at h o).parts) e

  -- nor has a fixed buffer
  pub fixed_lates : (o : ℕ) (bytes : List ℕ) → (object_at h o).kind ≡ buffer bytes None → lates h order o ≡ []
  fixed_lates o bytes e = ap (λ z. lates_by h order o (slot h order o) z (object_at h o).parts) e

  -- all these objects may be written before the name t is bound
  abbrev pub AllReady : ℕ → List ℕ → Type 0
  AllReady t es = (j : ℕ) → mem j es ≡ true → ready_before h order t (object j) ≡ true

  pub value_ready : (t : ℕ) (v : Value) → AllReady t (refs v) → ready_before h order t v ≡ true
  value_ready t undefined r = refl
  value_ready t null r = refl
  value_ready t hole r = refl
  value_ready t (boolean v) r = refl
  value_ready t (whole z) r = refl
  value_ready t (double bits) r = refl
  value_ready t (bigint s) r = refl
  value_ready t (text s) r = refl
  value_ready t (object o) r = r o (mem_head o [])

  -- the one value of a part, and both of an entry
  pub first_ready : (t : ℕ) (v : Value) (ps : List Part) → AllReady t (refs_of (v ∷ []) ++ edges_of ps) → ready_before h order t v ≡ true
  first_ready t v ps r = value_ready t v (λ j m. r j (mem_left j (refs_of (v ∷ [])) (edges_of ps) (ap (mem j) (sym (refs_one v)) ∙ m)))

  pub entry_ready : (t : ℕ) (k v : Value) (ps : List Part) → AllReady t (refs_of (k ∷ v ∷ []) ++ edges_of ps) → (ready_before h order t k && ready_before h order t v) ≡ true
  entry_ready t k v ps r =
      let both : AllReady t (refs k ++ refs v) = λ j m. r j (mem_left j (refs_of (k ∷ v ∷ [])) (edges_of ps) (ap (mem j) (sym (refs_two k v)) ∙ m)) in
      and_from (ready_before h order t k) (ready_before h order t v)
      (value_ready t k (λ j m. both j (mem_left j (refs k) (refs v) m))) (value_ready t v (λ j m. both j (mem_right j (refs k) (refs v) m)))

  rest_ready : (t : ℕ) (xs es : List ℕ) → AllReady t (xs ++ es) → AllReady t es
  rest_ready t xs es r j m = r j (mem_right j xs es m)

  properties_none : (o t : ℕ) (ps : List Part) → AllReady t (edges_of ps) → late_properties h order false o t ps ≡ []
  properties_none o t [] r = refl
  properties_none o t (property k v ∷ ps) r =
      cond-true (ready_before h order t v) (late_properties h order false o t ps) (record { target = o; task = sets k v; ordered = false } ∷ late_properties h order false o t ps) (first_ready t v ps r)
      ∙ properties_none o t ps (rest_ready t (refs_of (v ∷ [])) (edges_of ps) r)
  properties_none o t (element v ∷ ps) r = properties_none o t ps (rest_ready t (refs_of (v ∷ [])) (edges_of ps) r)
  properties_none o t (entry k v ∷ ps) r = properties_none o t ps (rest_ready t (refs_of (k ∷ v ∷ [])) (edges_of ps) r)
  properties_none o t (member v ∷ ps) r = properties_none o t ps (rest_ready t (refs_of (v ∷ [])) (edges_of ps) r)
  properties_none o t (below b ∷ ps) r = properties_none o t ps (rest_ready t (b ∷ []) (edges_of ps) r)
  properties_none o t (cause v ∷ ps) r = properties_none o t ps (rest_ready t (refs_of (v ∷ [])) (edges_of ps) r)

  elements_none : (o t n : ℕ) (ps : List Part) → AllReady t (edges_of ps) → late_elements h order o t n ps ≡ []
  elements_none o t n [] r = refl
  elements_none o t n (property k v ∷ ps) r = elements_none o t (suc n) ps (rest_ready t (refs_of (v ∷ [])) (edges_of ps) r)
  elements_none o t n (element v ∷ ps) r =
      cond-true (ready_before h order t v) (late_elements h order o t (suc n) ps) (record { target = o; task = sets (index n) v; ordered = false } ∷ late_elements h order o t (suc n) ps) (first_ready t v ps r)
      ∙ elements_none o t (suc n) ps (rest_ready t (refs_of (v ∷ [])) (edges_of ps) r)
  elements_none o t n (entry k v ∷ ps) r = elements_none o t (suc n) ps (rest_ready t (refs_of (k ∷ v ∷ [])) (edges_of ps) r)
  elements_none o t n (member v ∷ ps) r = elements_none o t (suc n) ps (rest_ready t (refs_of (v ∷ [])) (edges_of ps) r)
  elements_none o t n (below b ∷ ps) r = elements_none o t (suc n) ps (rest_ready t (b ∷ []) (edges_of ps) r)
  elements_none o t n (cause v ∷ ps) r = elements_none o t (suc n) ps (rest_ready t (refs_of (v ∷ [])) (edges_of ps) r)

  members_none : (o t : ℕ) (ps : List Part) → AllReady t (edges_of ps) → late_members h order false o t ps ≡ []
  members_none o t [] r = refl
  members_none o t (property k v ∷ ps) r = members_none o t ps (rest_ready t (refs_of (v ∷ [])) (edges_of ps) r)
  members_none o t (element v ∷ ps) r = members_none o t ps (rest_ready t (refs_of (v ∷ [])) (edges_of ps) r)
  members_none o t (entry k v ∷ ps) r =
      cond-true (ready_before h order t k && ready_before h order t v) (late_members h order false o t ps) (record { target = o; task = puts k v; ordered = true } ∷ late_members h order true o t ps) (entry_ready t k v ps r)
      ∙ members_none o t ps (rest_ready t (refs_of (k ∷ v ∷ [])) (edges_of ps) r)
  members_none o t (member v ∷ ps) r =
      cond-true (ready_before h order t v) (late_members h order false o t ps) (record { target = o; task = adds v; ordered = true } ∷ late_members h order true o t ps) (first_ready t v ps r)
      ∙ members_none o t ps (rest_ready t (refs_of (v ∷ [])) (edges_of ps) r)
  members_none o t (below b ∷ ps) r = members_none o t ps (rest_ready t (b ∷ []) (edges_of ps) r)
  members_none o t (cause v ∷ ps) r = members_none o t ps (rest_ready t (refs_of (v ∷ [])) (edges_of ps) r)

  -- a kind that needs no name, with all parts ready, leaves nothing to do
  kind_none : (o t : ℕ) (k : Kind) (ps : List Part) → kind_needs_name k (length ps) ≡ false → AllReady t (edges_of ps) → lates_by h order o t k ps ≡ []
  kind_none o t (boolean_object v) ps n r = refl
  kind_none o t (number_object bits) ps n r = refl
  kind_none o t (bigint_object s) ps n r = refl
  kind_none o t (string_object s) ps n r = refl
  kind_none o t (regexp s flags) ps n r = refl
  kind_none o t (date time) ps n r = refl
  kind_none o t plain ps n r = properties_none o t ps r
  kind_none o t (sparse limit) ps n r = ap (late_properties h order true o t) (drop_of_length-le ps {i = 0} (ltb-false 0 (length ps) n))
  kind_none o t (dense count) ps n r =
      ap (λ z. z ++ late_properties h order true o t (drop count ps)) (elements_none o t 0 (take count ps) (λ j m. r j (edges_take count ps j m)))
      ∙ ap (late_properties h order true o t) (drop_of_length-le ps {i = count} (ltb-false count (length ps) n))
  kind_none o t map ps n r = members_none o t ps r
  kind_none o t set ps n r = members_none o t ps r
  kind_none o t (buffer bytes None) ps n r = refl
  kind_none o t (buffer bytes (Some m)) ps n r = absurd (both_ways true n refl)
  kind_none o t (view k offset count tracking) ps n r = refl
  kind_none o t (error e message stack) ps n r = absurd (both_ways true n refl)

module _ (h : Heap) (f : Bounded h) (order : List ℕ) (ad : Adequate h order) where
  -- an object without a name leaves nothing to do
  pub no_lates : (o : ℕ) → mem o order ≡ true → has_name h order o ≡ false → lates h order o ≡ []
  no_lates o m n =
      let kind = or_parts (kind_needs_name (object_at h o).kind (length (object_at h o).parts)) (turns h order o) (inlines_unnamed h order o (unnamed h order o n).0) in
      kind_none h order o (slot h order o) (object_at h o).kind (object_at h o).parts kind.0 (λ j u. child_ready h f order ad o j m n u)
