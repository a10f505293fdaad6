-- If no double is refused, every finite double of an object's kind, of a part and of the root has a numeral.
use Rattle.std.proofs.Common.{◌≡◌, ℕ, suc, Bool, true, false, cond, not, ◌||◌, List, [], ◌∷◌, is_some, Some, None, Ok, Err, Option, Result, refl, ⊎_elim, arith}
use Rattle.std.specs.List.{AllByRecursion as All}
use Rattle.std.proofs.lemmas.Bool.{and_cases, not-false, or_parts, both_ways}
use Rattle.dump.specs.declared.refusal.Refusal.{Refusal}
use Rattle.dump.specs.Rules.{refuse, and_then}
use Rattle.dump.specs.Heaps.{Part, property, element, entry, member, below, cause, Object, Heap}
use Rattle.numeral.specs.Numerals.{finite}
use Rattle.planner.specs.Lines.{unspelled, value_unspelled, kind_unspelled, objects_spelled, parts_spelled, all_parts_spelled, spelled_all}
use Rattle.effects.specs.Readable.{Spelled}
use Rattle.readables.specs.Writable.{PartSpelled}

-- a test that refuses did not hold
passes : (b : Bool) (k s i : ℕ) (r : Result (Unit {0}) Refusal) → cond b (refuse k s i) r ≡ Ok tt → (b ≡ false) × (r ≡ Ok tt)
passes true k s i r e = let z : ◌≡◌ {A = ℕ} 0 1 = cc in absurd (omega arith)
passes false k s i r e = (refl, e)

-- both of two verdicts are kept
both : (r : Result (Unit {0}) Refusal) (f : Unit {0} → Result (Unit {0}) Refusal) → and_then r f ≡ Ok tt → (r ≡ Ok tt) × (f tt ≡ Ok tt)
both (Ok u) f e = (refl, e)
both (Err x) f e = let z : ◌≡◌ {A = ℕ} 0 1 = cc in absurd (omega arith)

-- what is there
some_of : (o : Option (List ℕ)) → is_some o ≡ true → (t : List ℕ) × (o ≡ Some t)
some_of None e = absurd (both_ways false refl e)
some_of (Some t) e = (t, refl)

module _ (numeral : ℕ → Option (List ℕ)) where
  -- a double that is not refused is spelled
  pub spelled : (bits : ℕ) → unspelled numeral bits ≡ false → Spelled numeral bits
  spelled bits u fin =
      ⊎_elim (λ (a : finite bits ≡ false). absurd (both_ways (finite bits) a fin))
      (λ (a : not (is_some (numeral bits)) ≡ false). some_of (numeral bits) (not-false (is_some (numeral bits)) a))
      (and_cases (finite bits) (not (is_some (numeral bits))) u)

  objects_spelled_lem : (i : ℕ) (os : List Object) → objects_spelled numeral i os ≡ Ok tt → All (λ (o : Object). kind_unspelled numeral o.kind ≡ false) os
  objects_spelled_lem i [] e = tt
  objects_spelled_lem i (o ∷ os) e = let p = passes (kind_unspelled numeral o.kind) 11 5 i (objects_spelled numeral (suc i) os) e in (p.0, objects_spelled_lem (suc i) os p.1)

  -- the parts of one object, and what comes after them
  abbrev PartsThen : List Part → (ℕ → Result (Unit {0}) Refusal) → Type 0
  PartsThen ps rest = All (PartSpelled numeral) ps × ((q : ℕ) × (rest q ≡ Ok tt))

  parts_spelled_lem : (p : ℕ) (ps : List Part) (rest : ℕ → Result (Unit {0}) Refusal) → parts_spelled numeral p ps rest ≡ Ok tt → PartsThen ps rest
  parts_spelled_lem p [] rest e = (tt, (p, e))
  parts_spelled_lem p (property k v ∷ ps) rest e =
      let a = passes (value_unspelled numeral v) 11 6 p (parts_spelled numeral (suc p) ps rest) e in let b = parts_spelled_lem (suc p) ps rest a.1 in ((a.0, b.0), b.1)
  parts_spelled_lem p (element v ∷ ps) rest e =
      let a = passes (value_unspelled numeral v) 11 6 p (parts_spelled numeral (suc p) ps rest) e in let b = parts_spelled_lem (suc p) ps rest a.1 in ((a.0, b.0), b.1)
  parts_spelled_lem p (entry k v ∷ ps) rest e =
      let a = passes (value_unspelled numeral k || value_unspelled numeral v) 11 6 p (parts_spelled numeral (suc p) ps rest) e in
      let b = parts_spelled_lem (suc p) ps rest a.1 in
      ((or_parts (value_unspelled numeral k) (value_unspelled numeral v) a.0, b.0), b.1)
  parts_spelled_lem p (member v ∷ ps) rest e =
      let a = passes (value_unspelled numeral v) 11 6 p (parts_spelled numeral (suc p) ps rest) e in let b = parts_spelled_lem (suc p) ps rest a.1 in ((a.0, b.0), b.1)
  parts_spelled_lem p (below o ∷ ps) rest e = let b = parts_spelled_lem p ps rest e in ((tt, b.0), b.1)
  parts_spelled_lem p (cause v ∷ ps) rest e =
      let a = passes (value_unspelled numeral v) 11 6 p (parts_spelled numeral (suc p) ps rest) e in let b = parts_spelled_lem (suc p) ps rest a.1 in ((a.0, b.0), b.1)

  all_parts_spelled_lem : (os : List Object) (p : ℕ) → all_parts_spelled numeral os p ≡ Ok tt → All (λ (o : Object). All (PartSpelled numeral) o.parts) os
  all_parts_spelled_lem [] p e = tt
  all_parts_spelled_lem (o ∷ os) p e = let a = parts_spelled_lem p o.parts (all_parts_spelled numeral os) e in (a.0, all_parts_spelled_lem os a.1.0 a.1.1)

  -- what is known of a heap none of whose doubles is refused
  pub record HeapSpelled (h : Heap) : Type 0 where
    pub kinds : All (λ (o : Object). kind_unspelled numeral o.kind ≡ false) h.objects
    pub parts : All (λ (o : Object). All (PartSpelled numeral) o.parts) h.objects
    pub root : value_unspelled numeral h.root ≡ false

  -- so each test of the verdict was passed
  pub heap_spelled : (h : Heap) → spelled_all numeral h ≡ Ok tt → HeapSpelled h
  heap_spelled h e =
      let a = both (objects_spelled numeral 0 h.objects) (λ _. and_then (all_parts_spelled numeral h.objects 0) (λ _. cond (value_unspelled numeral h.root) (refuse 11 7 0) (Ok tt))) e in
      let b = both (all_parts_spelled numeral h.objects 0) (λ _. cond (value_unspelled numeral h.root) (refuse 11 7 0) (Ok tt)) a.1 in
      record {
        kinds = objects_spelled_lem 0 h.objects a.0;
        parts = all_parts_spelled_lem h.objects 0 b.0;
        root = (passes (value_unspelled numeral h.root) 11 7 0 (Ok tt) b.1).0;
      }
