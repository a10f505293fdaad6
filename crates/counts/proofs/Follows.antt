-- What the expression of an object writes and what its follow-ups add are together all its references.
use Rattle.std.proofs.Common.{◌≡◌, ℕ, suc, ◌+◌, Bool, true, false, cond, not, ◌&&◌, List, [], ◌∷◌, ◌++◌, length, take, drop, Some, None, codes, Option, sym, refl, ap, ◌∙◌, subst, arith}
use Rattle.std.specs.List.{AllByRecursion as All}
use Rattle.std.proofs.lemmas.Bool.{cond_both}
use Rattle.dump.specs.Heaps as heaps
use Rattle.dump.specs.Heaps.{Text, Value, Key, name, Kind, Part, below, Heap}
use Rattle.script.specs.Texts.{all_zero}
use Rattle.formed.specs.Formed.{PropertyFormed, ElementFormed, EntryFormed, MemberFormed, CauseFormed, PartsFormed}
use Rattle.planner.specs.Visits.{refs, refs_of, edges_of, object_at, edges}
use Rattle.planner.specs.Names.{count, slot, ready_before}
use Rattle.planner.specs.Lates.{sets, puts, adds, Late, late_properties, late_elements, late_members, late_causes, late_bytes, lates_by, lates}
use Rattle.rebuilds.specs.Makes.{within, written_parts, written_by, written, task_makes}
use Rattle.effects.proofs.Objects.{formed_at}
use Rattle.places.proofs.Lates.{edges_split}
use Rattle.counts.proofs.Inner.{count_within}
use Rattle.effects.specs.Plans.{stack_text}
use Rattle.effects.specs.Bounded.{Bounded}

module _ (h : Heap) (order : List ℕ) (y : ℕ) where
  -- how often follow-ups make y
  abbrev pub lates_make : List Late → ℕ
  lates_make [] = 0
  lates_make (l ∷ ls) = task_makes h order l.task y + lates_make ls

  pub lates_append : (ls ms : List Late) → lates_make (ls ++ ms) ≡ lates_make ls + lates_make ms
  lates_append [] ms = omega arith
  lates_append (l ∷ ls) ms = let ih = lates_append ls ms in omega arith

  -- how often references make y
  abbrev W : List ℕ → ℕ
  W js = count y (within h order js)

  -- of one value before others
  value_within : (v : Value) (es : List ℕ) → W (refs_of (v ∷ []) ++ es) ≡ W (refs v) + W es
  value_within v es = let a = count_within h order y (refs v ++ []) es in let b = count_within h order y (refs v) [] in omega arith

  module _ (o t : ℕ) where
    -- properties of a plain object
    properties_made : (n limit : ℕ) (array : Bool) (ps : List Part) → All (PropertyFormed n limit array) ps → W (written_parts h order t ps) + lates_make (late_properties h order false o t ps) ≡ W (edges_of ps)
    properties_made n limit array [] a = refl
    properties_made n limit array (p ∷ ps) a =
        let k = a.0.0 in
        let v = a.0.1 in
        subst (λ q. W (written_parts h order t (q ∷ ps)) + lates_make (late_properties h order false o t (q ∷ ps)) ≡ W (edges_of (q ∷ ps))) (sym a.0.2)
        (by_ready k v (ready_before h order t v) (properties_made n limit array ps a.1))
      where
        by_ready : (k : Key) (v : Value) (b : Bool) → W (written_parts h order t ps) + lates_make (late_properties h order false o t ps) ≡ W (edges_of ps) →
            W (cond b (refs v) [] ++ written_parts h order t ps)
            + lates_make (cond (not false && b) (late_properties h order false o t ps) (record { target = o; task = sets k v; ordered = false } ∷ late_properties h order false o t ps))
            ≡ W (refs_of (v ∷ []) ++ edges_of ps)
        by_ready k v true ih = let e = value_within v (edges_of ps) in let d = count_within h order y (refs v) (written_parts h order t ps) in omega arith
        by_ready k v false ih = let e = value_within v (edges_of ps) in omega arith

    -- all properties of an array
    all_properties_made : (n limit : ℕ) (array : Bool) (ps : List Part) → All (PropertyFormed n limit array) ps → lates_make (late_properties h order true o t ps) ≡ W (edges_of ps)
    all_properties_made n limit array [] a = refl
    all_properties_made n limit array (p ∷ ps) a =
        let v = a.0.1 in
        let ih = all_properties_made n limit array ps a.1 in
        let e = value_within v (edges_of ps) in
        subst (λ q. lates_make (late_properties h order true o t (q ∷ ps)) ≡ W (edges_of (q ∷ ps))) (sym a.0.2) (omega arith)

    -- elements of an array
    elements_made : (n i : ℕ) (ps : List Part) → All (ElementFormed n) ps → W (written_parts h order t ps) + lates_make (late_elements h order o t i ps) ≡ W (edges_of ps)
    elements_made n i [] a = refl
    elements_made n i (p ∷ ps) a =
        let v = a.0.0 in
        subst (λ q. W (written_parts h order t (q ∷ ps)) + lates_make (late_elements h order o t i (q ∷ ps)) ≡ W (edges_of (q ∷ ps))) (sym a.0.1)
        (by_ready v (ready_before h order t v) (elements_made n (suc i) ps a.1))
      where
        by_ready : (v : Value) (b : Bool) → W (written_parts h order t ps) + lates_make (late_elements h order o t (suc i) ps) ≡ W (edges_of ps) →
            W (cond b (refs v) [] ++ written_parts h order t ps)
            + lates_make (cond b (late_elements h order o t (suc i) ps) (record { target = o; task = sets (heaps.index i) v; ordered = false } ∷ late_elements h order o t (suc i) ps))
            ≡ W (refs_of (v ∷ []) ++ edges_of ps)
        by_ready v true ih = let e = value_within v (edges_of ps) in let d = count_within h order y (refs v) (written_parts h order t ps) in omega arith
        by_ready v false ih = let e = value_within v (edges_of ps) in omega arith

    -- of two values before others
    values_within : (k v : Value) (es : List ℕ) → W (refs_of (k ∷ v ∷ []) ++ es) ≡ W (refs k) + (W (refs v) + W es)
    values_within k v es =
        let a = count_within h order y (refs k ++ (refs v ++ [])) es in
        let b = count_within h order y (refs k) (refs v ++ []) in
        let c = count_within h order y (refs v) [] in
        omega arith

    -- all entries from one that is late on
    all_entries_made : (n : ℕ) (ps : List Part) → All (EntryFormed n) ps → lates_make (late_members h order true o t ps) ≡ W (edges_of ps)
    all_entries_made n [] a = refl
    all_entries_made n (p ∷ ps) a =
        let k = a.0.0 in
        let v = a.0.1 in
        let ih = all_entries_made n ps a.1 in
        let e = values_within k v (edges_of ps) in
        let d = count_within h order y (refs k) (refs v) in
        subst (λ q. lates_make (late_members h order true o t (q ∷ ps)) ≡ W (edges_of (q ∷ ps))) (sym a.0.2) (omega arith)

    -- entries of a Map
    entries_made : (n : ℕ) (ps : List Part) → All (EntryFormed n) ps → W (written_parts h order t ps) + lates_make (late_members h order false o t ps) ≡ W (edges_of ps)
    entries_made n [] a = refl
    entries_made n (p ∷ ps) a =
        let k = a.0.0 in
        let v = a.0.1 in
        subst (λ q. W (written_parts h order t (q ∷ ps)) + lates_make (late_members h order false o t (q ∷ ps)) ≡ W (edges_of (q ∷ ps))) (sym a.0.2)
        (by_ready k v (ready_before h order t k && ready_before h order t v) (entries_made n ps a.1) (all_entries_made n ps a.1))
      where
        by_ready : (k v : Value) (b : Bool) → W (written_parts h order t ps) + lates_make (late_members h order false o t ps) ≡ W (edges_of ps) →
            lates_make (late_members h order true o t ps) ≡ W (edges_of ps) →
            W (cond b (refs k ++ (refs v ++ written_parts h order t ps)) [])
            + lates_make (cond (not false && b) (late_members h order false o t ps) (record { target = o; task = puts k v; ordered = true } ∷ late_members h order true o t ps))
            ≡ W (refs_of (k ∷ v ∷ []) ++ edges_of ps)
        by_ready k v true ih all =
            let e = values_within k v (edges_of ps) in
            let d = count_within h order y (refs k) (refs v ++ written_parts h order t ps) in
            let c = count_within h order y (refs v) (written_parts h order t ps) in
            omega arith
        by_ready k v false ih all = let e = values_within k v (edges_of ps) in let d = count_within h order y (refs k) (refs v) in omega arith

    -- all members from one that is late on
    all_members_made : (n : ℕ) (ps : List Part) → All (MemberFormed n) ps → lates_make (late_members h order true o t ps) ≡ W (edges_of ps)
    all_members_made n [] a = refl
    all_members_made n (p ∷ ps) a =
        let v = a.0.0 in
        let ih = all_members_made n ps a.1 in
        let e = value_within v (edges_of ps) in
        subst (λ q. lates_make (late_members h order true o t (q ∷ ps)) ≡ W (edges_of (q ∷ ps))) (sym a.0.1) (omega arith)

    -- members of a Set
    members_made : (n : ℕ) (ps : List Part) → All (MemberFormed n) ps → W (written_parts h order t ps) + lates_make (late_members h order false o t ps) ≡ W (edges_of ps)
    members_made n [] a = refl
    members_made n (p ∷ ps) a =
        let v = a.0.0 in
        subst (λ q. W (written_parts h order t (q ∷ ps)) + lates_make (late_members h order false o t (q ∷ ps)) ≡ W (edges_of (q ∷ ps))) (sym a.0.1)
        (by_ready v (ready_before h order t v) (members_made n ps a.1) (all_members_made n ps a.1))
      where
        by_ready : (v : Value) (b : Bool) → W (written_parts h order t ps) + lates_make (late_members h order false o t ps) ≡ W (edges_of ps) →
            lates_make (late_members h order true o t ps) ≡ W (edges_of ps) →
            W (cond b (refs v ++ written_parts h order t ps) [])
            + lates_make (cond (not false && b) (late_members h order false o t ps) (record { target = o; task = adds v; ordered = true } ∷ late_members h order true o t ps))
            ≡ W (refs_of (v ∷ []) ++ edges_of ps)
        by_ready v true ih all = let e = value_within v (edges_of ps) in let d = count_within h order y (refs v) (written_parts h order t ps) in omega arith
        by_ready v false ih all = let e = value_within v (edges_of ps) in omega arith

    -- the cause of an error
    causes_made : (n : ℕ) (ps : List Part) → All (CauseFormed n) ps → W (written_parts h order t ps) + lates_make (late_causes h order o t ps) ≡ W (edges_of ps)
    causes_made n [] a = refl
    causes_made n (p ∷ ps) a =
        let v = a.0.0 in
        subst (λ q. W (written_parts h order t (q ∷ ps)) + lates_make (late_causes h order o t (q ∷ ps)) ≡ W (edges_of (q ∷ ps))) (sym a.0.1)
        (by_ready v (ready_before h order t v) (causes_made n ps a.1))
      where
        by_ready : (v : Value) (b : Bool) → W (written_parts h order t ps) + lates_make (late_causes h order o t ps) ≡ W (edges_of ps) →
            W (cond b (refs v) [] ++ written_parts h order t ps)
            + lates_make (cond b (late_causes h order o t ps) (record { target = o; task = sets (name (codes "cause")) v; ordered = false } ∷ late_causes h order o t ps))
            ≡ W (refs_of (v ∷ []) ++ edges_of ps)
        by_ready v true ih = let e = value_within v (edges_of ps) in let d = count_within h order y (refs v) (written_parts h order t ps) in omega arith
        by_ready v false ih = let e = value_within v (edges_of ps) in omega arith

    -- a stack refers to nothing, and so do bytes
    stack_made : (stack : Option Text) → W (refs (stack_text stack)) ≡ 0
    stack_made None = refl
    stack_made (Some s) = refl

    bytes_made : (bytes : List ℕ) (maximum : Option ℕ) → lates_make (late_bytes h order o bytes maximum) ≡ 0
    bytes_made bytes None = refl
    bytes_made bytes (Some m) = cond_both (all_zero bytes) [] _ (λ z. lates_make z ≡ 0) (λ e. refl) (λ e. refl)

    -- what is below a view is written
    below_made : (b : ℕ) (ps : List Part) → ps ≡ below b ∷ [] → W (written_parts h order t ps) + 0 ≡ W (edges_of ps)
    below_made b ps e = subst (λ z. W (written_parts h order t z) + 0 ≡ W (edges_of z)) (sym e) (omega arith)

    -- no parts, no references
    no_parts_made : (ps : List Part) → ps ≡ [] → 0 ≡ W (edges_of ps)
    no_parts_made ps e = ap (λ z. W (edges_of z)) (sym e)

    -- by kind
    kind_made : (k : Kind) (ps : List Part) → PartsFormed h (length h.objects) k ps → W (written_by h order t k ps) + lates_make (lates_by h order o t k ps) ≡ W (edges_of ps)
    kind_made (heaps.boolean_object v) ps p = no_parts_made ps p
    kind_made (heaps.number_object bits) ps p = no_parts_made ps p
    kind_made (heaps.bigint_object s) ps p = no_parts_made ps p
    kind_made (heaps.string_object s) ps p = no_parts_made ps p
    kind_made (heaps.regexp s flags) ps p = no_parts_made ps p
    kind_made (heaps.date time) ps p = no_parts_made ps p
    kind_made heaps.plain ps p = properties_made _ _ _ ps p.0
    kind_made (heaps.sparse l) ps p = let e = all_properties_made _ _ _ ps p.0 in omega arith
    kind_made (heaps.dense l) ps p =
        let a = elements_made _ 0 (take l ps) p.1 in
        let b = all_properties_made _ _ _ (drop l ps) p.2.0 in
        let c = lates_append (late_elements h order o t 0 (take l ps)) (late_properties h order true o t (drop l ps)) in
        let d = ap W (edges_split l ps) ∙ count_within h order y (edges_of (take l ps)) (edges_of (drop l ps)) in
        omega arith
    kind_made heaps.map ps p = entries_made _ ps p.0
    kind_made heaps.set ps p = members_made _ ps p.0
    kind_made (heaps.buffer bytes maximum) ps p = let e = bytes_made bytes maximum in let d = no_parts_made ps p in omega arith
    kind_made (heaps.view k offset l tracking) ps p = below_made p.on ps p.part
    kind_made (heaps.error e message stack) ps p =
        let a = causes_made _ ps p.1 in
        let b = stack_made stack in
        let c = lates_append (late_causes h order o t ps) (record { target = o; task = sets (name (codes "stack")) (stack_text stack); ordered = false } ∷ []) in
        omega arith

  -- what is written and what follows are together all that hangs in an object
  pub lates_made : Bounded h → (x : ℕ) → count y (within h order (written h order x)) + lates_make (lates h order x) ≡ count y (within h order (edges h x))
  lates_made f x = kind_made x (slot h order x) (object_at h x).kind (object_at h x).parts (formed_at h f x).1
