-- The values of follow-ups are formed, as those of the parts are from which they come.
use Rattle.std.proofs.Common.{◌≡◌, ℕ, suc, Bool, true, false, cond, not, ◌&&◌, ◌⊎◌, List, [], ◌∷◌, ◌++◌, length, take, drop, Some, None, Option, sym, refl, ap, subst, ⊎_elim}
use Rattle.std.specs.List.{AllByRecursion as All}
use Rattle.std.proofs.lemmas.Bool.{both_ways}
use Rattle.dump.specs.Heaps as heaps
use Rattle.dump.specs.Heaps.{Text, Value, hole, Heap, Kind, boolean_object, number_object, bigint_object, string_object, regexp, date, plain, sparse, dense, map, set, buffer, view, error, Part, property, element, entry, member, below, cause}
use Rattle.formed.specs.Formed.{ValueFormed, KindFormed, MaybeUnits, PartsFormed, PropertyFormed, ElementFormed, EntryFormed, MemberFormed, CauseFormed}
use Rattle.planner.specs.Visits.{object_at}
use Rattle.planner.specs.Names.{ready_before, slot}
use Rattle.planner.specs.Lates.{Task, sets, puts, adds, fills, Late, late_properties, late_elements, late_members, late_causes, late_bytes, lates_by, lates}
use Rattle.rebuilds.specs.Pending.{In, here, there}
use Rattle.effects.proofs.Objects.{formed_at}
use Rattle.effects.specs.Plans.{stack_text}
use Rattle.effects.specs.Bounded.{Bounded}

abbrev pub TaskFormed : ℕ → Task → Type 0
TaskFormed n (sets k v) = ValueFormed n v
TaskFormed n (puts k v) = ValueFormed n k × ValueFormed n v
TaskFormed n (adds v) = ValueFormed n v
TaskFormed n (fills k) = Unit {0}

abbrev AllFormed : ℕ → List Late → Type 0
AllFormed n ls = All (λ l. TaskFormed n l.task) ls

-- the values of a part, where an element may be a hole
abbrev PartFormed : ℕ → Part → Type 0
PartFormed n (property k v) = ValueFormed n v
PartFormed n (element v) = (v ≡ hole) ⊎ ValueFormed n v
PartFormed n (entry k v) = ValueFormed n k × ValueFormed n v
PartFormed n (member v) = ValueFormed n v
PartFormed n (below b) = Unit {0}
PartFormed n (cause v) = ValueFormed n v

each : {P Q : Part → Type 0} → ((p : Part) → P p → Q p) → (ps : List Part) → All P ps → All Q ps
each g [] a = tt
each g (p ∷ ps) a = (g p a.0, each g ps a.1)

of_property : (n limit : ℕ) (array : Bool) (p : Part) → PropertyFormed n limit array p → PartFormed n p
of_property n limit array p w = subst (λ z. PartFormed n z) (sym w.2) w.4

of_element : (n : ℕ) (p : Part) → ElementFormed n p → PartFormed n p
of_element n p w = subst (λ z. PartFormed n z) (sym w.1) w.2

of_entry : (n : ℕ) (p : Part) → EntryFormed n p → PartFormed n p
of_entry n p w = subst (λ z. PartFormed n z) (sym w.2) (w.3.0, w.4)

of_member : (n : ℕ) (p : Part) → MemberFormed n p → PartFormed n p
of_member n p w = subst (λ z. PartFormed n z) (sym w.1) w.2.0

of_cause : (n : ℕ) (p : Part) → CauseFormed n p → PartFormed n p
of_cause n p w = subst (λ z. PartFormed n z) (sym w.1) w.2

all_both : (n : ℕ) (ls ms : List Late) → AllFormed n ls → AllFormed n ms → AllFormed n (ls ++ ms)
all_both n [] ms a b = b
all_both n (l ∷ ls) ms a b = (a.0, all_both n ls ms a.1 b)

-- one more, or not
choice : (n : ℕ) (b : Bool) (ls ms : List Late) → (b ≡ true → AllFormed n ls) → (b ≡ false → AllFormed n ms) → AllFormed n (cond b ls ms)
choice n true ls ms f g = f refl
choice n false ls ms f g = g refl

module _ (h : Heap) (order : List ℕ) (n : ℕ) (o t : ℕ) where
  properties_formed : (every_one : Bool) (ps : List Part) → All (PartFormed n) ps → AllFormed n (late_properties h order every_one o t ps)
  properties_formed w [] a = tt
  properties_formed w (property k v ∷ ps) a = choice n (not w && ready_before h order t v) (late_properties h order w o t ps) (record { target = o; task = sets k v; ordered = w } ∷ late_properties h order w o t ps) (λ e. properties_formed w ps a.1) (λ e. (a.0, properties_formed w ps a.1))
  properties_formed w (element v ∷ ps) a = properties_formed w ps a.1
  properties_formed w (entry k v ∷ ps) a = properties_formed w ps a.1
  properties_formed w (member v ∷ ps) a = properties_formed w ps a.1
  properties_formed w (below b ∷ ps) a = properties_formed w ps a.1
  properties_formed w (cause v ∷ ps) a = properties_formed w ps a.1

  elements_formed : (i : ℕ) (ps : List Part) → All (PartFormed n) ps → AllFormed n (late_elements h order o t i ps)
  elements_formed i [] a = tt
  elements_formed i (property k v ∷ ps) a = elements_formed (suc i) ps a.1
  elements_formed i (element v ∷ ps) a =
      choice n (ready_before h order t v) (late_elements h order o t (suc i) ps) (record { target = o; task = sets (heaps.index i) v; ordered = false } ∷ late_elements h order o t (suc i) ps)
      (λ e. elements_formed (suc i) ps a.1)
      (λ e. (⊎_elim (λ (q : v ≡ hole). absurd (both_ways (ready_before h order t v) e (ap (ready_before h order t) q))) (λ w. w) a.0, elements_formed (suc i) ps a.1))
  elements_formed i (entry k v ∷ ps) a = elements_formed (suc i) ps a.1
  elements_formed i (member v ∷ ps) a = elements_formed (suc i) ps a.1
  elements_formed i (below b ∷ ps) a = elements_formed (suc i) ps a.1
  elements_formed i (cause v ∷ ps) a = elements_formed (suc i) ps a.1

  members_formed : (late : Bool) (ps : List Part) → All (PartFormed n) ps → AllFormed n (late_members h order late o t ps)
  members_formed late [] a = tt
  members_formed late (property k v ∷ ps) a = members_formed late ps a.1
  members_formed late (element v ∷ ps) a = members_formed late ps a.1
  members_formed late (entry k v ∷ ps) a =
      choice n (not late && (ready_before h order t k && ready_before h order t v)) (late_members h order false o t ps) (record { target = o; task = puts k v; ordered = true } ∷ late_members h order true o t ps)
      (λ e. members_formed false ps a.1) (λ e. (a.0, members_formed true ps a.1))
  members_formed late (member v ∷ ps) a =
      choice n (not late && ready_before h order t v) (late_members h order false o t ps) (record { target = o; task = adds v; ordered = true } ∷ late_members h order true o t ps)
      (λ e. members_formed false ps a.1) (λ e. (a.0, members_formed true ps a.1))
  members_formed late (below b ∷ ps) a = members_formed late ps a.1
  members_formed late (cause v ∷ ps) a = members_formed late ps a.1

  causes_formed : (ps : List Part) → All (PartFormed n) ps → AllFormed n (late_causes h order o t ps)
  causes_formed [] a = tt
  causes_formed (property k v ∷ ps) a = causes_formed ps a.1
  causes_formed (element v ∷ ps) a = causes_formed ps a.1
  causes_formed (entry k v ∷ ps) a = causes_formed ps a.1
  causes_formed (member v ∷ ps) a = causes_formed ps a.1
  causes_formed (below b ∷ ps) a = causes_formed ps a.1
  causes_formed (cause v ∷ ps) a = choice n (ready_before h order t v) (late_causes h order o t ps) _ (λ e. causes_formed ps a.1) (λ e. (a.0, causes_formed ps a.1))

  bytes_formed : (bytes : List ℕ) (maximum : Option ℕ) → AllFormed n (late_bytes h order o bytes maximum)
  bytes_formed bytes None = tt
  bytes_formed bytes (Some m) = choice n (Rattle.script.specs.Texts.all_zero bytes) [] _ (λ e. tt) (λ e. (tt, tt))

  stack_formed : (stack : Option Text) → MaybeUnits stack → ValueFormed n (stack_text stack)
  stack_formed None u = tt
  stack_formed (Some s) u = u

  by_kind : (k : Kind) (ps : List Part) → KindFormed k → PartsFormed h n k ps → AllFormed n (lates_by h order o t k ps)
  by_kind (boolean_object v) ps kf pf = tt
  by_kind (number_object bits) ps kf pf = tt
  by_kind (bigint_object s) ps kf pf = tt
  by_kind (string_object s) ps kf pf = tt
  by_kind (regexp s flags) ps kf pf = tt
  by_kind (date time) ps kf pf = tt
  by_kind plain ps kf pf = properties_formed false ps (each (of_property n 4294967295 false) ps pf.0)
  by_kind (sparse limit) ps kf pf = properties_formed true ps (each (of_property n limit true) ps pf.0)
  by_kind (dense c) ps kf pf =
      all_both n (late_elements h order o t 0 (take c ps)) (late_properties h order true o t (drop c ps))
      (elements_formed 0 (take c ps) (each (of_element n) (take c ps) pf.1)) (properties_formed true (drop c ps) (each (of_property n 0 true) (drop c ps) pf.2.0))
  by_kind map ps kf pf = members_formed false ps (each (of_entry n) ps pf.0)
  by_kind set ps kf pf = members_formed false ps (each (of_member n) ps pf.0)
  by_kind (buffer bytes maximum) ps kf pf = bytes_formed bytes maximum
  by_kind (view k offset c tracking) ps kf pf = tt
  by_kind (error e message stack) ps kf pf = all_both n (late_causes h order o t ps) (record { target = o; task = _; ordered = false } ∷ []) (causes_formed ps (each (of_cause n) ps pf.1)) (stack_formed stack kf.1, tt)

in_all : (n : ℕ) (l : Late) (ls : List Late) → AllFormed n ls → In l ls → TaskFormed n l.task
in_all n l [] a i = elim i [ ]
in_all n l (_ ∷ ls) a here = a.0
in_all n l (_ ∷ ls) a (there i) = in_all n l ls a.1 i

pub task_formed : (h : Heap) (order : List ℕ) → Bounded h → (o : ℕ) (l : Late) → In l (lates h order o) → TaskFormed (length h.objects) l.task
task_formed h order f o l i =
    let w = formed_at h f o in
    in_all (length h.objects) l (lates h order o) (by_kind h order (length h.objects) o (slot h order o) (object_at h o).kind (object_at h o).parts w.0 w.1) i
