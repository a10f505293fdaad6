-- In a formed heap each edge goes to an object of it.
use Rattle.std.proofs.Common.{◌≡◌, ℕ, zero, suc, ◌<◌, ◌≤◌, true, false, eqb, List, [], ◌∷◌, length, get_or, take, drop, sym, refl, subst, ⊎_elim, eqb-true}
use Rattle.std.specs.List.{AllByRecursion as All}
use Rattle.std.proofs.ByRecursion.{All-weaker, All-get_or, All-append}
use Rattle.std.proofs.lemmas.List.{get_or_past}
use Rattle.std.proofs.lemmas.Bool.{cases_lt, or_cases, both_ways}
use Rattle.dump.specs.Heaps as heaps
use Rattle.dump.specs.Heaps.{Value, Kind, Part, property, element, entry, member, below, cause, Object, nobody, Heap}
use Rattle.formed.specs.Formed.{ValueFormed, PropertyFormed, ElementFormed, EntryFormed, MemberFormed, CauseFormed, PartsFormed, ObjectFormed, Formed}
use Rattle.planner.specs.Visits.{refs, refs_of, values_in, edges_of, edges, mem}
use Rattle.visits.proofs.Visits.{InRange}

mem_all : (P : ℕ → Type 0) (x : ℕ) (xs : List ℕ) → All P xs → mem x xs ≡ true → P x
mem_all P x [] a e = absurd (both_ways false refl e)
mem_all P x (y ∷ xs) a e = ⊎_elim (λ (q : eqb x y ≡ true). subst P (sym (eqb-true x y q)) a.0) (λ (q : mem x xs ≡ true). mem_all P x xs a.1 q) (or_cases (eqb x y) (mem x xs) e)

all_whole : (P : Part → Type 0) (n : ℕ) (ps : List Part) → All P (take n ps) → All P (drop n ps) → All P ps
all_whole P zero ps a b = b
all_whole P (suc n) [] a b = tt
all_whole P (suc n) (p ∷ ps) a b = (a.0, all_whole P n ps a.1 b)

module _ (n : ℕ) where
  abbrev In : List ℕ → Type 0
  In xs = All (λ o. o < n) xs

  abbrev PartIn : Part → Type 0
  PartIn p = In (refs_of (values_in p))

  value_in_lem : (v : Value) → ValueFormed n v → In (refs v)
  value_in_lem heaps.undefined f = tt
  value_in_lem heaps.null f = tt
  value_in_lem heaps.hole f = tt
  value_in_lem (heaps.boolean b) f = tt
  value_in_lem (heaps.whole z) f = tt
  value_in_lem (heaps.double bits) f = tt
  value_in_lem (heaps.bigint t) f = tt
  value_in_lem (heaps.text t) f = tt
  value_in_lem (heaps.object o) f = (f, tt)

  one_in : (v : Value) → ValueFormed n v → In (refs_of (v ∷ []))
  one_in v f = All-append (λ o. o < n) (refs v) [] (value_in_lem v f) tt

  two_in : (v w : Value) → ValueFormed n v → ValueFormed n w → In (refs_of (v ∷ w ∷ []))
  two_in v w f g = All-append (λ o. o < n) (refs v) (refs_of (w ∷ [])) (value_in_lem v f) (one_in w g)

  parts_in : (ps : List Part) → All PartIn ps → In (edges_of ps)
  parts_in [] a = tt
  parts_in (p ∷ ps) a = All-append (λ o. o < n) (refs_of (values_in p)) (edges_of ps) a.0 (parts_in ps a.1)

  property_in : (limit : ℕ) (array : _) (p : Part) → PropertyFormed n limit array p → PartIn p
  property_in limit array p f = subst PartIn (sym f.2) (one_in f.1 f.4)

  element_in : (p : Part) → ElementFormed n p → PartIn p
  element_in p f =
      subst PartIn (sym f.1)
      (⊎_elim (λ (e : f.0 ≡ heaps.hole). subst (λ v. In (refs_of (v ∷ []))) (sym e) tt) (λ (g : ValueFormed n f.0). one_in f.0 g) f.2)

  entry_in : (p : Part) → EntryFormed n p → PartIn p
  entry_in p f = subst PartIn (sym f.2) (two_in f.0 f.1 f.3.0 f.4)

  member_in : (p : Part) → MemberFormed n p → PartIn p
  member_in p f = subst PartIn (sym f.1) (one_in f.0 f.2.0)

  cause_in : (p : Part) → CauseFormed n p → PartIn p
  cause_in p f = subst PartIn (sym f.1) (one_in f.0 f.2)

  none_in : (ps : List Part) → ps ≡ [] → All PartIn ps
  none_in ps e = subst (All PartIn) (sym e) tt

module _ (h : Heap) where
  abbrev size : ℕ
  size = length h.objects

  kind_in_lem : (k : Kind) (ps : List Part) → PartsFormed h size k ps → All (PartIn size) ps
  kind_in_lem (heaps.boolean_object v) ps f = none_in size ps f
  kind_in_lem (heaps.number_object bits) ps f = none_in size ps f
  kind_in_lem (heaps.bigint_object t) ps f = none_in size ps f
  kind_in_lem (heaps.string_object t) ps f = none_in size ps f
  kind_in_lem (heaps.regexp t flags) ps f = none_in size ps f
  kind_in_lem (heaps.date time) ps f = none_in size ps f
  kind_in_lem heaps.plain ps f = All-weaker _ (PartIn size) (property_in size _ _) ps f.0
  kind_in_lem (heaps.sparse limit) ps f = All-weaker _ (PartIn size) (property_in size _ _) ps f.0
  kind_in_lem (heaps.dense count) ps f =
      all_whole (PartIn size) count ps (All-weaker _ (PartIn size) (element_in size) (take count ps) f.1) (All-weaker _ (PartIn size) (property_in size _ _) (drop count ps) f.2.0)
  kind_in_lem heaps.map ps f = All-weaker _ (PartIn size) (entry_in size) ps f.0
  kind_in_lem heaps.set ps f = All-weaker _ (PartIn size) (member_in size) ps f.0
  kind_in_lem (heaps.buffer bytes maximum) ps f = none_in size ps f
  kind_in_lem (heaps.view k offset count tracking) ps f = subst (All (PartIn size)) (sym f.part) ((f.there, tt), tt)
  kind_in_lem (heaps.error e message stack) ps f = All-weaker _ (PartIn size) (cause_in size) ps f.1

  pub formed_range : Formed h → InRange h
  formed_range f i j u =
      ⊎_elim
      (λ (a : i < size).
      let o = All-get_or (ObjectFormed h) h.objects i nobody a f.objects in
      mem_all (λ x. x < size) j (edges h i) (parts_in size (get_or h.objects i nobody).parts (kind_in_lem (get_or h.objects i nobody).kind (get_or h.objects i nobody).parts o.1)) u)
      (λ (b : size ≤ i). absurd (both_ways false refl (subst (λ (o : Object). mem j (edges_of o.parts) ≡ true) (get_or_past h.objects i nobody b) u)))
      (cases_lt i size)

  pub root_range : Formed h → (r : ℕ) → h.root ≡ heaps.object r → r < size
  root_range f r e = subst (ValueFormed size) e f.root
