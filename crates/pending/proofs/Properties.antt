-- A property set by a follow-up: a plain object has its key already, an array gets it behind all others.
use Rattle.std.proofs.Common.{◌≡◌, ℕ, ◌≤◌, Bool, true, false, cond, ◌⊎◌, List, [], ◌∷◌, ◌++◌, sym, refl, ap, ◌∙◌, subst, ⊎_elim, arith}
use Rattle.std.specs.List.{AllByRecursion as All}
use Rattle.std.proofs.ByRecursion.{All-weaker}
use Rattle.std.proofs.lemmas.Bool.{or_left, or_right, both_ways, cond-true}
use Rattle.dump.specs.Heaps.{Text, Value, Key, index, Part, property}
use Rattle.numeral.specs.Words.{same_units}
use Rattle.numeral.proofs.Laws.{same_units_lem}
use Rattle.formed.specs.Formed as formed
use Rattle.formed.specs.Formed.{KeyFormed, KeyBefore, PropertyFormed, PropertyBefore}
use Rattle.planner.specs.Lates.{sets, Late}
use Rattle.evaluator.specs.Stores.{Val, undefined, Slot, keyed, has_key, set_key, with_key}
use Rattle.evaluator.specs.Isomorphic.{Pairing, Alike, AlikeParts, key_text}
use Rattle.rebuilds.specs.Pending.{In, here, there, Waits, ordered_tasks, part_tasks, Front, Properties, p_end, p_same, p_waits}
use Rattle.pending.proofs.Lists.{all_in, all_behind, all_before, pairwise_in, pairwise_before}
use Rattle.pending.proofs.KeyTexts.{units_same, texts_apart}
use Rattle.pending.proofs.Fronts.{Adds, Added, property_added, front_next, next_added}
use Rattle.pending.proofs.Slots.{key_formed, added_last}
use Rattle.pending.proofs.Waits.{waits_other}

-- two properties of one object with one text as their key are one
pub one_property : (n limit : ℕ) (is_array : Bool) (ps : List Part) (k k' : Key) (v v' : Value) → limit ≤ 4294967295 → formed.Properties n limit is_array ps →
    In (property k v) ps → In (property k' v') ps → key_text k ≡ key_text k' → v ≡ v'
one_property n limit is_array ps k k' v v' l f i j e =
    let g = key_formed n limit is_array k v (all_in (PropertyFormed n limit is_array) f.0 i) in
    let g' = key_formed n limit is_array k' v' (all_in (PropertyFormed n limit is_array) f.0 j) in
    ⊎_elim (λ (d : property k v ≡ property k' v'). cc)
    (λ (u : PropertyBefore (property k v) (property k' v') ⊎ PropertyBefore (property k' v') (property k v)).
    ⊎_elim (λ (b : PropertyBefore (property k v) (property k' v')). absurd (texts_apart limit is_array k k' l g g' (b k k' v v' refl refl) e))
    (λ (b : PropertyBefore (property k' v') (property k v)). absurd (texts_apart limit is_array k' k l g' g (b k' k v' v refl refl) (sym e))) u)
    (pairwise_in PropertyBefore ps (property k v) (property k' v') f.1 i j)

module _ (own : Pairing) (o : ℕ) where
  -- a key that is among the parts is there
  has_property : {ls : List Late} {k : Key} {v : Value} {ps : List Part} {ss : List Slot} → In (property k v) ps → Properties own o ls ps ss → has_key (key_text k) ss ≡ true
  has_property {k = k} here (p_same {ss = ss} a r) = or_left (same_units (key_text k) (key_text k)) (has_key (key_text k) ss) (units_same (key_text k) (key_text k) refl)
  has_property {k = k} here (p_waits {ss = ss} u r) = or_left (same_units (key_text k) (key_text k)) (has_key (key_text k) ss) (units_same (key_text k) (key_text k) refl)
  has_property {k = k} (there i) (p_same {k = k'} {ss = ss} a r) = or_right (same_units (key_text k) (key_text k')) (has_key (key_text k) ss) (has_property i r)
  has_property {k = k} (there i) (p_waits {k = k'} {ss = ss} u r) = or_right (same_units (key_text k) (key_text k')) (has_key (key_text k) ss) (has_property i r)

  module _ (ls ls' : List Late) (t : Text) (w : Val) where
    set_head : (k : Key) (v : Value) (old : Val) (ps : List Part) (ss : List Slot) → (t ≡ key_text k → Alike own v w) →
        ((t ≡ key_text k → ⊥) → Properties own o ls' (property k v ∷ ps) (keyed (key_text k) old ∷ ss)) → Properties own o ls' ps ss →
        Properties own o ls' (property k v ∷ ps) (cond (same_units t (key_text k)) (keyed t w) (keyed (key_text k) old) ∷ ss)
    set_head k v old ps ss new kept r = go (same_units t (key_text k)) refl
      where
        go : (b : Bool) → same_units t (key_text k) ≡ b → Properties own o ls' (property k v ∷ ps) (cond b (keyed t w) (keyed (key_text k) old) ∷ ss)
        go true e = let d = (same_units_lem t (key_text k)).0 e in subst (λ z. Properties own o ls' (property k v ∷ ps) (keyed z w ∷ ss)) (sym d) (p_same (new d) r)
        go false e = kept (λ d. both_ways (same_units t (key_text k)) e (units_same t (key_text k) d))

    -- a key set in all places where it stands
    set_properties : {ps : List Part} {ss : List Slot} → ((k : Key) (v : Value) → In (property k v) ps → t ≡ key_text k → Alike own v w) →
        ((k : Key) (v : Value) → (t ≡ key_text k → ⊥) → Waits o ls (sets k v) → Waits o ls' (sets k v)) → Properties own o ls ps ss → Properties own o ls' ps (set_key t w ss)
    set_properties new kept p_end = p_end
    set_properties new kept (p_same {k = k} {v = v} {w = old} {ps = ps} {ss = ss} a r) =
        let ih = set_properties (λ k v i. new k v (there i)) kept r in
        set_head k v old ps (set_key t w ss) (new k v here) (λ d. p_same a ih) ih
    set_properties new kept (p_waits {k = k} {v = v} {ps = ps} {ss = ss} u r) =
        let ih = set_properties (λ k v i. new k v (there i)) kept r in
        set_head k v undefined ps (set_key t w ss) (new k v here) (λ d. p_waits (kept k v d u) ih) ih

  module _ (K L : List Late) (l : Late) (k : Key) (v : Value) (w : Val) (task : l.task ≡ sets k v) (a : Alike own v w) where
    -- a plain object
    pub plain_set : (n : ℕ) {ps : List Part} {ss : List Slot} → formed.Properties n 4294967295 false ps → In (property k v) ps → Properties own o (K ++ (l ∷ L)) ps ss →
        (has_key (key_text k) ss ≡ true) × Properties own o (K ++ L) ps (with_key (key_text k) w ss)
    plain_set n {ps = ps} {ss = ss} f i r =
        let has = has_property i r in (
          has,
          subst (λ z. Properties own o (K ++ L) ps z) (sym (cond-true (has_key (key_text k) ss) (set_key (key_text k) w ss) _ has))
              (set_properties (K ++ (l ∷ L)) (K ++ L) (key_text k) w
              (λ k' v' j e. subst (λ z. Alike own z w) (one_property n 4294967295 false ps k k' v v' (omega arith) f i j e) a)
              (λ k' v' e u. waits_other o K L l (sets k' v') (λ d. e (let c : sets k v ≡ sets k' v' = sym task ∙ d in let s : k ≡ k' = cc in ap key_text s)) u)
              r),
        )

    -- the property that a task adds
    next_property : (n limit : ℕ) (p : Part) → PropertyFormed n limit true p → Adds l.task p → p ≡ property k v
    next_property n limit p f g =
        let d : sets f.0 f.1 ∷ [] ≡ sets k v ∷ [] = sym (ap (λ z. part_tasks (z ∷ [])) f.2) ∙ g [] ∙ ap (λ z. z ∷ []) task in
        let c : f.0 ≡ k = cc in
        let e : f.1 ≡ v = cc in
        f.2 ∙ (λ i. property (c i) (e i))

    -- an array: the slots of its elements come first
    pub array_set : (n limit : ℕ) (first rest : List Slot) (ps : List Part) → limit ≤ 4294967295 → formed.Properties n limit true ps → l.ordered ≡ true → ordered_tasks K ≡ [] →
        (KeyFormed limit true k → has_key (key_text k) first ≡ false) → ((j : ℕ) → KeyFormed limit true (index j) → first ≡ []) → Front own (K ++ (l ∷ L)) ps rest →
        KeyFormed limit true k × (with_key (key_text k) w (first ++ rest) ≡ (first ++ rest) ++ (keyed (key_text k) w ∷ [])) × Front own (K ++ L) ps (rest ++ (keyed (key_text k) w ∷ []))
    array_set n limit first rest ps lim f ordered none free empty r =
        let next = front_next own K L l ps rest (All-weaker (PropertyFormed n limit true) Added (property_added n limit true) ps f.0) ordered none r in
        let all = subst (All (PropertyFormed n limit true)) next.parts f.0 in
        let e : next.part ≡ property k v = next_property n limit next.part (all_behind (PropertyFormed n limit true) next.front (next.part ∷ next.back) all).0 next.adds in
        let parts : ps ≡ next.front ++ (property k v ∷ next.back) = next.parts ∙ ap (λ z. next.front ++ (z ∷ next.back)) e in
        let formed' = subst (All (PropertyFormed n limit true)) parts f.0 in
        let key = key_formed n limit true k v (all_behind (PropertyFormed n limit true) next.front (property k v ∷ next.back) formed').0 in
        let before = pairwise_before PropertyBefore next.front (property k v) next.back (subst (formed.Pairwise PropertyBefore) parts f.1) in (
          key,
          added_last own n limit true k v w first rest next.front lim (all_before (PropertyFormed n limit true) next.front (property k v ∷ next.back) formed') before key next.alike (free key)
              (λ j d. empty j (subst (KeyFormed limit true) d key)),
          next_added own K L l.task ps rest (keyed (key_text k) w ∷ []) next (λ j. subst (λ z. AlikeParts own j (z ∷ []) (keyed (key_text k) w ∷ [])) (sym e) (w, [], refl, a, refl)),
        )
