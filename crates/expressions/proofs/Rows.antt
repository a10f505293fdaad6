-- Rows in braces and brackets: each property and each element is there, or a placeholder where it is not ready.
use Rattle.std.proofs.Common.{◌≡◌, ℕ, ◌+◌, ◌≤◌, Bool, true, false, cond, eqb, ◌⊎◌, List, [], ◌∷◌, ◌++◌, length, is_some, Some, None, Option, sym, refl, ap, ◌∙◌, subst, inl, inr, ⊎_elim, append_assoc, append-nil, arith, eqb-true}
use Rattle.std.specs.List.{AllByRecursion as All}
use Rattle.std.proofs.lemmas.Bool.{cases_Bool, cond-true, cond-false, both_ways, or_cases}
use Rattle.dump.specs.Heaps as heaps
use Rattle.dump.specs.Heaps.{Text, Key, index, name, Value, object, Heap, Part, property, element, entry, member, below, cause}
use Rattle.numeral.specs.Digits.{index_of}
use Rattle.formed.specs.Formed.{ValueFormed, KeyFormed, KeyBefore, Pairwise, PropertyFormed, PropertyBefore, ElementFormed}
use Rattle.script.specs.Syntax.{form, circular}
use Rattle.planner.specs.Visits.{refs, edges_of, mem}
use Rattle.planner.specs.Names.{count, ready_before}
use Rattle.planner.specs.Builds.{value_expr, child_expr, items_of, built}
use Rattle.planner.specs.Lates.{Late, sets, late_properties}
use Rattle.evaluator.specs.Options.{and_then}
use Rattle.evaluator.specs.Stores as stores
use Rattle.evaluator.specs.Stores.{Val, undefined, Slot, State, made}
use Rattle.evaluator.specs.Isomorphic.{Pairing, Alike, key_text}
use Rattle.effects.specs.Effects.{grown, expr_made, keys_made}
use Rattle.rebuilds.specs.Adequate.{Adequate}
use Rattle.rebuilds.specs.Makes.{within, written_parts}
use Rattle.rebuilds.specs.Pending.{In, here, there, Properties, p_end, p_same, p_waits, occ}
use Rattle.visits.proofs.Lists.{mem_left, mem_right, count-++}
use Rattle.pending.proofs.Grows.{ext_append, alike_ext}
use Rattle.counts.proofs.Within.{within_append}
use Rattle.expressions.proofs.Keys.{Kept, Behind, b_end, b_key, with_key_end}
use Rattle.expressions.proofs.Steps.{Ready, Step, step_nil, step_then, step_good, step_ready, occ-++}
use Rattle.expressions.proofs.Values.{Fresh, Held, NamesGood, PlacesGood, value_good}
use Rattle.effects.specs.Bounded.{Bounded}

pub behind_snoc : (j k : Key) (w : Val) (ss : List Slot) → KeyBefore k j → Kept k → Behind j ss → Behind j (ss ++ (stores.keyed (key_text k) w ∷ []))
behind_snoc j k w [] b x b_end = b_key k b x b_end
behind_snoc j k w (_ ∷ ss) b x (b_key l c y r) = b_key l c y (behind_snoc j k w ss b x r)

none_of : (o : Option ℕ) → is_some o ≡ false → o ≡ None
none_of None e = refl
none_of (Some i) e = absurd (both_ways true e refl)

pub kept : (limit : ℕ) (array : Bool) (k : Key) → limit ≤ 4294967295 → KeyFormed limit array k → Kept k
kept limit array (index i) le f = omega arith
kept limit array (name t) le f = none_of (index_of t) f.1

property_key : {k k' : Key} {v v' : Value} → property k v ≡ property k' v' → k ≡ k'
property_key e = cc

property_value : {k k' : Key} {v v' : Value} → property k v ≡ property k' v' → v ≡ v'
property_value e = cc

element_value : {v v' : Value} → element v ≡ element v' → v ≡ v'
element_value e = cc

pub property_formed : (n limit : ℕ) (array : Bool) (k : Key) (v : Value) → PropertyFormed n limit array (property k v) → KeyFormed limit array k × ValueFormed n v
property_formed n limit array k v p = (subst (λ z. KeyFormed limit array z) (sym (property_key p.2)) p.3, subst (λ z. ValueFormed n z) (sym (property_value p.2)) p.4)

pub element_formed : (n : ℕ) (v : Value) → ElementFormed n (element v) → (v ≡ heaps.hole) ⊎ ValueFormed n v
element_formed n v p = ⊎_elim (λ (e : p.0 ≡ heaps.hole). inl (element_value p.1 ∙ e)) (λ (g : ValueFormed n p.0). inr (subst (λ z. ValueFormed n z) (sym (element_value p.1)) g)) p.2

-- the keys of parts come behind these slots
abbrev pub AllBehind : List Slot → List Part → Type 0
AllBehind ss ps = All (λ p. (k : Key) (v : Value) → p ≡ property k v → Behind k ss) ps

pub all_behind_snoc : (k : Key) (v : Value) (w : Val) (ss : List Slot) (ps : List Part) → Kept k → All (PropertyBefore (property k v)) ps → AllBehind ss ps → AllBehind (ss ++ (stores.keyed (key_text k) w ∷ [])) ps
all_behind_snoc k v w ss [] x b a = tt
all_behind_snoc k v w ss (p ∷ ps) x b a = (λ j u e. behind_snoc j k w ss (b.0 k j v u refl e) x (a.0 j u e), all_behind_snoc k v w ss ps x b.1 a.1)

module _ (h : Heap) (f : Bounded h) (order : List ℕ) (ad : Adequate h order) (by_name : NamesGood h order) (n : ℕ) (by_place : PlacesGood h order n) (x T t : ℕ) (ls : List Late) where
  -- references that are ready are held
  abbrev pub AllHeld : List ℕ → Type 0
  AllHeld js = (j : ℕ) → mem j js ≡ true → ready_before h order T (object j) ≡ true → Held h order n t j

  ready_held : (v : Value) → ready_before h order T v ≡ true → AllHeld (refs v) → (j : ℕ) → mem j (refs v) ≡ true → Held h order n t j
  ready_held heaps.undefined e a j m = absurd (both_ways false refl m)
  ready_held heaps.null e a j m = absurd (both_ways false refl m)
  ready_held heaps.hole e a j m = absurd (both_ways false refl m)
  ready_held (heaps.boolean b) e a j m = absurd (both_ways false refl m)
  ready_held (heaps.whole z) e a j m = absurd (both_ways false refl m)
  ready_held (heaps.double b) e a j m = absurd (both_ways false refl m)
  ready_held (heaps.bigint b) e a j m = absurd (both_ways false refl m)
  ready_held (heaps.text b) e a j m = absurd (both_ways false refl m)
  ready_held (heaps.object o) e a j m = a j m (subst (λ z. ready_before h order T (object z) ≡ true) (only j o m) e)
    where
      only : (j o : ℕ) → mem j (o ∷ []) ≡ true → o ≡ j
      only j o m = sym (eqb-true j o (⊎_elim (λ a. a) (λ (b : false ≡ true). absurd (both_ways false refl b)) (or_cases (eqb j o) false m)))

  -- the references of a value that is ready
  abbrev pub ready_refs : Value → List ℕ
  ready_refs v = cond (ready_before h order T v) (refs v) []

  -- a value or its placeholder
  pub record ChildGood (own : Pairing) (s : State) (v : Value) : Type 0 where
    pub adds : Pairing
    pub state : State
    pub val : Val
    pub runs : expr_made (child_expr h order (built h order) T v) s ≡ made val state
    pub step : Step h order own s adds state
    pub says : Alike (own ++ adds) v val ⊎ ((ready_before h order T v ≡ false) × (val ≡ undefined))
    pub counts : (y : ℕ) → occ y adds ≡ count y (within h order (ready_refs v))

  pub child_good : (own : Pairing) (s : State) → Ready h order own t s → (v : Value) → ValueFormed (length h.objects) v → AllHeld (refs v) → Fresh own (λ y. count y (within h order (ready_refs v))) → ChildGood own s v
  child_good own s r v w held fresh = ⊎_elim
      (λ (e : ready_before h order T v ≡ true).
      let c = cond-true (ready_before h order T v) (refs v) [] e in
      let g = value_good h order f ad by_name n by_place own t s r v w (ready_held v e held) (λ y. subst (λ z. occ y own + count y (within h order z) ≤ 1) c (fresh y)) in
      record {
        adds = g.adds;
        state = grown s g.new;
        val = g.val;
        runs = ap (λ z. expr_made z s) (cond-true (ready_before h order T v) (value_expr h order (built h order) v) (form circular) e) ∙ g.runs;
        step = step_good h order g;
        says = inl g.says;
        counts = λ y. g.counts y ∙ sym (ap (λ z. count y (within h order z)) c);
      })
      (λ (e : ready_before h order T v ≡ false).
      record {
        adds = [];
        state = s;
        val = undefined;
        runs = ap (λ z. expr_made z s) (cond-false (ready_before h order T v) (value_expr h order (built h order) v) (form circular) e);
        step = step_nil h order own s;
        says = inr (e, refl);
        counts = λ y. sym (ap (λ z. count y (within h order z)) (cond-false (ready_before h order T v) (refs v) [] e));
      })
      (cases_Bool (ready_before h order T v))

  pub count_within : (y : ℕ) (xs ys : List ℕ) → count y (within h order (xs ++ ys)) ≡ count y (within h order xs) + count y (within h order ys)
  count_within y xs ys = ap (count y) (within_append h order xs ys) ∙ count-++ y (within h order xs) (within h order ys)

  -- properties in braces
  pub record KeysGood (own : Pairing) (s : State) (ss : List Slot) (ps : List Part) : Type 0 where
    pub adds : Pairing
    pub state : State
    pub slots : List Slot
    pub runs : keys_made (items_of h order (built h order) T ps) ss s ≡ Some (record { slots = ss ++ slots; state = state })
    pub step : Step h order own s adds state
    pub says : Properties (own ++ adds) x ls ps slots
    pub counts : (y : ℕ) → occ y adds ≡ count y (within h order (written_parts h order T ps))

  keys_cons : (own : Pairing) (s : State) (ss : List Slot) (k : Key) (v : Value) (ps : List Part) → Kept k → Behind k ss → (ready_before h order T v ≡ false → In (record { target = x; task = sets k v; ordered = false }) ls)
      → (c : ChildGood own s v) → KeysGood (own ++ c.adds) c.state (ss ++ (stores.keyed (key_text k) c.val ∷ [])) ps → KeysGood own s ss (property k v ∷ ps)
  keys_cons own s ss k v ps kp b waits c g =
      let e = append_assoc own c.adds g.adds in
      let q : Properties (own ++ (c.adds ++ g.adds)) x ls ps g.slots = subst (λ z. Properties z x ls ps g.slots) e g.says in
      record {
        adds = c.adds ++ g.adds;
        state = g.state;
        slots = stores.keyed (key_text k) c.val ∷ g.slots;
        runs =
            ap (λ z. and_then z (λ m. keys_made (items_of h order (built h order) T ps) (stores.with_key (key_text k) m.val ss) m.state)) c.runs
            ∙ (ap (λ z. keys_made (items_of h order (built h order) T ps) z c.state) (with_key_end k c.val ss kp b)
            ∙ (g.runs ∙ ap (λ z. Some (record { slots = z; state = g.state })) (append_assoc ss (stores.keyed (key_text k) c.val ∷ []) g.slots)));
        step = step_then h order own s c.adds c.state g.adds g.state c.step g.step;
        says = ⊎_elim
            (λ (a : Alike (own ++ c.adds) v c.val). p_same (subst (λ z. Alike z v c.val) e (alike_ext (own ++ c.adds) ((own ++ c.adds) ++ g.adds) (ext_append (own ++ c.adds) g.adds) v c.val a)) q)
            (λ (b : (ready_before h order T v ≡ false) × (c.val ≡ undefined)). rw b.1 (p_waits (waits b.0) q))
            c.says;
        counts = λ y. occ-++ y c.adds g.adds ∙ (ap (λ a. a + occ y g.adds) (c.counts y) ∙ (ap (λ a. count y (within h order (ready_refs v)) + a) (g.counts y) ∙ sym (count_within y (ready_refs v) (written_parts h order T ps))));
      }

  pub keys_good : (own : Pairing) (s : State) → Ready h order own t s → (ss : List Slot) (ps : List Part) (limit : ℕ) → limit ≤ 4294967295 → All (PropertyFormed (length h.objects) limit false) ps → Pairwise PropertyBefore ps → AllBehind ss ps
      → ((l : Late) → In l (late_properties h order false x T ps) → In l ls) → AllHeld (edges_of ps) → Fresh own (λ y. count y (within h order (written_parts h order T ps))) → KeysGood own s ss ps
  keys_good own s r ss [] limit le w b a sub held fresh =
      record { adds = []; state = s; slots = []; runs = ap (λ z. Some (record { slots = z; state = s })) (sym (append-nil ss)); step = step_nil h order own s; says = p_end; counts = λ y. refl }
  keys_good own s r ss (property k v ∷ ps) limit le w b a sub held fresh =
      let pf = property_formed (length h.objects) limit false k v w.0 in
      let kp = kept limit false k le pf.0 in
      let both : (y : ℕ) → count y (within h order (ready_refs v ++ written_parts h order T ps)) ≡ count y (within h order (ready_refs v)) + count y (within h order (written_parts h order T ps)) = λ y. count_within y (ready_refs v) (written_parts h order T ps) in
      let c = child_good own s r v pf.1 (λ j m. held j (mem_left j (refs v ++ []) (edges_of ps) (mem_left j (refs v) [] m))) (λ y. let q = fresh y in let u = both y in omega arith) in
      keys_cons own s ss k v ps kp (a.0 k v refl) (λ e. sub _ (subst (λ z. In (record { target = x; task = sets k v; ordered = false }) (cond z (late_properties h order false x T ps) (record { target = x; task = sets k v; ordered = false } ∷ late_properties h order false x T ps))) (sym e) here)) c
      (keys_good (own ++ c.adds) c.state (step_ready h order own t s c.adds c.state r c.step (λ y. let q = fresh y in let u = both y in let d = c.counts y in omega arith))
      (ss ++ (stores.keyed (key_text k) c.val ∷ [])) ps limit le w.1 b.1 (all_behind_snoc k v c.val ss ps kp b.0 a.1)
      (λ l i. sub l (later l (ready_before h order T v) i)) (λ j m. held j (mem_right j (refs v ++ []) (edges_of ps) m))
      (λ y. let q = fresh y in let u = both y in let d = c.counts y in let o = occ-++ y own c.adds in omega arith))
    where
      later : (l : Late) (z : Bool) → In l (late_properties h order false x T ps) → In l (cond z (late_properties h order false x T ps) (record { target = x; task = sets k v; ordered = false } ∷ late_properties h order false x T ps))
      later l true i = i
      later l false i = there i
  keys_good own s r ss (element v ∷ ps) limit le w b a sub held fresh = absurd (apart w.0.2)
    where
      apart : {k : Key} {u : Value} → element v ≡ property k u → ⊥
      apart e = let z : ◌≡◌ {A = ℕ} 0 1 = cc in omega arith
  keys_good own s r ss (entry j v ∷ ps) limit le w b a sub held fresh = absurd (apart w.0.2)
    where
      apart : {k : Key} {u : Value} → entry j v ≡ property k u → ⊥
      apart e = let z : ◌≡◌ {A = ℕ} 0 1 = cc in omega arith
  keys_good own s r ss (member v ∷ ps) limit le w b a sub held fresh = absurd (apart w.0.2)
    where
      apart : {k : Key} {u : Value} → member v ≡ property k u → ⊥
      apart e = let z : ◌≡◌ {A = ℕ} 0 1 = cc in omega arith
  keys_good own s r ss (below v ∷ ps) limit le w b a sub held fresh = absurd (apart w.0.2)
    where
      apart : {k : Key} {u : Value} → below v ≡ property k u → ⊥
      apart e = let z : ◌≡◌ {A = ℕ} 0 1 = cc in omega arith
  keys_good own s r ss (cause v ∷ ps) limit le w b a sub held fresh = absurd (apart w.0.2)
    where
      apart : {k : Key} {u : Value} → cause v ≡ property k u → ⊥
      apart e = let z : ◌≡◌ {A = ℕ} 0 1 = cc in omega arith
