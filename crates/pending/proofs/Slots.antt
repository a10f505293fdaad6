-- Slots by their keys: a key replaced, and a property of an array added behind all others.
use Rattle.std.proofs.Common.{◌≡◌, ℕ, ◌≤◌, Bool, true, false, cond, not, ◌&&◌, ◌||◌, ltb, List, [], ◌∷◌, ◌++◌, is_some, Some, None, codes, decimal, Option, sym, refl, ap, ◌∙◌, subst, arith}
use Rattle.std.specs.List.{AllByRecursion as All}
use Rattle.std.proofs.lemmas.Bool.{or_parts, and_from, not_from_false, or_from, lt-ltb, cond-true, cond-false, true≢false, false≢true}
use Rattle.dump.specs.Heaps.{Text, Value, Key, index, name, Part, property, element, entry, member, below, cause}
use Rattle.numeral.specs.Digits.{index_of}
use Rattle.numeral.specs.Words.{same_units}
use Rattle.formed.specs.Formed.{KeyFormed, KeyBefore, PropertyFormed, PropertyBefore}
use Rattle.evaluator.specs.Options.{when}
use Rattle.evaluator.specs.Stores.{Val, array, Slot, keyed, key_is, has_key, set_key, index_below, insert_index, add_key, with_key}
use Rattle.evaluator.specs.Commands.{is_proto, assigned}
use Rattle.evaluator.specs.Isomorphic.{Pairing, AlikeParts, key_text}
use Rattle.rebuilds.specs.Pending.{In, here, there}
use Rattle.pending.proofs.Lists.{all_in}
use Rattle.pending.proofs.KeyTexts.{units_apart, index_decimal, texts_apart}

pub has-++ : (t : Text) (ss us : List Slot) → has_key t (ss ++ us) ≡ (has_key t ss || has_key t us)
has-++ t [] us = refl
has-++ t (s ∷ ss) us = go (key_is t s) (has_key t (ss ++ us)) (has_key t ss) (has_key t us) (has-++ t ss us)
  where
    go : (b x y z : Bool) → x ≡ (y || z) → (b || x) ≡ ((b || y) || z)
    go true x y z e = refl
    go false x y z e = e

pub set-++ : (t : Text) (w : Val) (ss us : List Slot) → set_key t w (ss ++ us) ≡ set_key t w ss ++ set_key t w us
set-++ t w [] us = refl
set-++ t w (s ∷ ss) us = ap (λ z. cond (key_is t s) (keyed t w) s ∷ z) (set-++ t w ss us)

-- a key that is not there is not replaced
pub set_absent : (t : Text) (w : Val) (ss : List Slot) → has_key t ss ≡ false → set_key t w ss ≡ ss
set_absent t w [] e = refl
set_absent t w (s ∷ ss) e =
    let p = or_parts (key_is t s) (has_key t ss) e in
    (λ i. cond-false (key_is t s) (keyed t w) s p.0 i ∷ set_absent t w ss p.1 i)

abbrev is_property : Part → Bool
is_property (property k v) = true
is_property (element v) = false
is_property (entry k v) = false
is_property (member v) = false
is_property (below b) = false
is_property (cause v) = false

-- among properties there is no other part
no_other : {P : Type 0} (n limit : ℕ) (is_array : Bool) (p : Part) → PropertyFormed n limit is_array p → is_property p ≡ false → P
no_other n limit is_array p f e = absurd (false≢true (sym e ∙ ap is_property f.2))

-- the key of a property
pub key_formed : (n limit : ℕ) (is_array : Bool) (k : Key) (v : Value) → PropertyFormed n limit is_array (property k v) → KeyFormed limit is_array k
key_formed n limit is_array k v f = let d = f.2 in let e : f.0 ≡ k = cc in subst (KeyFormed limit is_array) e f.3

no_index : (o : Option ℕ) → is_some o ≡ false → o ≡ None
no_index None e = refl
no_index (Some i) e = absurd (true≢false e)

-- the keys of a list of properties
module _ (own : Pairing) (n limit : ℕ) (is_array : Bool) where
  -- a text that is none of them
  pub lacks : (t : Text) (i : ℕ) (ps : List Part) (ss : List Slot) → All (PropertyFormed n limit is_array) ps → ((k : Key) (v : Value) → In (property k v) ps → t ≡ key_text k → ⊥) →
      AlikeParts own i ps ss → has_key t ss ≡ false
  lacks t i [] ss f other a = ap (has_key t) a
  lacks t i (property k v ∷ ps) ss f other a =
      ap (has_key t) a.2 ∙ or_from (same_units t (key_text k)) (has_key t a.1) (units_apart t (key_text k) (other k v here)) (lacks t i ps a.1 f.1 (λ k v u. other k v (there u)) a.4)
  lacks t i (element v ∷ ps) ss f other a = no_other n limit is_array (element v) f.0 refl
  lacks t i (entry k v ∷ ps) ss f other a = no_other n limit is_array (entry k v) f.0 refl
  lacks t i (member v ∷ ps) ss f other a = no_other n limit is_array (member v) f.0 refl
  lacks t i (below b ∷ ps) ss f other a = no_other n limit is_array (below b) f.0 refl
  lacks t i (cause v ∷ ps) ss f other a = no_other n limit is_array (cause v) f.0 refl

  -- an index above all of them comes last
  insert_last : (j : ℕ) (v : Value) (new : Slot) (i : ℕ) (ps : List Part) (ss : List Slot) → limit ≤ 4294967295 → All (PropertyFormed n limit is_array) ps →
      All (λ p. PropertyBefore p (property (index j) v)) ps → AlikeParts own i ps ss → insert_index j new ss ≡ ss ++ (new ∷ [])
  insert_last j v new i [] ss l f b a = ap (insert_index j new) a ∙ ap (λ z. z ++ (new ∷ [])) (sym a)
  insert_last j v new i (property k u ∷ ps) ss l f b a =
      ap (insert_index j new) a.2
      ∙ cond-true (index_below j (index_of (key_text k))) (keyed (key_text k) a.0 ∷ insert_index j new a.1) (new ∷ keyed (key_text k) a.0 ∷ a.1) (before k (key_formed n limit is_array k u f.0) (b.0 k (index j) u v refl refl))
      ∙ ap (λ z. keyed (key_text k) a.0 ∷ z) (insert_last j v new i ps a.1 l f.1 b.1 a.4)
      ∙ ap (λ z. z ++ (new ∷ [])) (sym a.2)
    where
      before : (k : Key) → KeyFormed limit is_array k → KeyBefore k (index j) → index_below j (index_of (key_text k)) ≡ true
      before (index m) f b = ap (index_below j) (index_decimal m (omega arith)) ∙ lt-ltb m j b
      before (name t) f b = absurd b
  insert_last j v new i (element u ∷ ps) ss l f b a = no_other n limit is_array (element u) f.0 refl
  insert_last j v new i (entry k u ∷ ps) ss l f b a = no_other n limit is_array (entry k u) f.0 refl
  insert_last j v new i (member u ∷ ps) ss l f b a = no_other n limit is_array (member u) f.0 refl
  insert_last j v new i (below c ∷ ps) ss l f b a = no_other n limit is_array (below c) f.0 refl
  insert_last j v new i (cause u ∷ ps) ss l f b a = no_other n limit is_array (cause u) f.0 refl

  -- a key behind those of all parts, and of the slots before them
  pub added_last : (k : Key) (v : Value) (w : Val) (first rest : List Slot) (ps : List Part) → limit ≤ 4294967295 → All (PropertyFormed n limit is_array) ps →
      All (λ p. PropertyBefore p (property k v)) ps → KeyFormed limit is_array k → AlikeParts own 0 ps rest → has_key (key_text k) first ≡ false →
      ((j : ℕ) → k ≡ index j → first ≡ []) → with_key (key_text k) w (first ++ rest) ≡ (first ++ rest) ++ (keyed (key_text k) w ∷ [])
  added_last k v w first rest ps l f b g a e one =
      cond-false (has_key (key_text k) (first ++ rest)) (set_key (key_text k) w (first ++ rest)) (add_key (index_of (key_text k)) (keyed (key_text k) w) (first ++ rest))
      (has-++ (key_text k) first rest ∙ or_from (has_key (key_text k) first) (has_key (key_text k) rest) e
      (lacks (key_text k) 0 ps rest f (λ k' v' i d. texts_apart limit is_array k' k l (key_formed n limit is_array k' v' (all_in (PropertyFormed n limit is_array) f i)) g (all_in (λ p. PropertyBefore p (property k v)) b i k' k v' v refl refl) (sym d)) a))
      ∙ last k b g one
    where
      last : (k : Key) → All (λ p. PropertyBefore p (property k v)) ps → KeyFormed limit is_array k → ((j : ℕ) → k ≡ index j → first ≡ []) →
          add_key (index_of (key_text k)) (keyed (key_text k) w) (first ++ rest) ≡ (first ++ rest) ++ (keyed (key_text k) w ∷ [])
      last (index j) b g one =
          ap (λ o. add_key o (keyed (decimal j) w) (first ++ rest)) (index_decimal j (omega arith))
          ∙ ap (λ z. insert_index j (keyed (decimal j) w) (z ++ rest)) (one j refl)
          ∙ insert_last j v (keyed (decimal j) w) 0 ps rest l f b a
          ∙ ap (λ z. (z ++ rest) ++ (keyed (decimal j) w ∷ [])) (sym (one j refl))
      last (name t) b g one = ap (λ o. add_key o (keyed t w) (first ++ rest)) (no_index (index_of t) g.1)

-- what an array may be given
abbrev may_assign : Text → ℕ → Option ℕ → Bool
may_assign k n None = not (is_proto k) && not (same_units k (codes "length"))
may_assign k n (Some i) = ltb i n

pub array_assigned : (n : ℕ) (k : Key) (w : Val) (ss : List Slot) → n ≤ 4294967295 → KeyFormed n true k → assigned (key_text k) w (array n) ss ≡ Some (record { shape = array n; slots = with_key (key_text k) w ss })
array_assigned n k w ss l f = ap (λ b. when b (Some (record { shape = array n; slots = with_key (key_text k) w ss }))) (may k f)
  where
    may : (k : Key) → KeyFormed n true k → may_assign (key_text k) n (index_of (key_text k)) ≡ true
    may (index i) f = ap (may_assign (decimal i) n) (index_decimal i (omega arith)) ∙ lt-ltb i n f
    may (name t) f =
        let p = f.2 refl in
        ap (may_assign t n) (no_index (index_of t) f.1)
        ∙ and_from (not (is_proto t)) (not (same_units t (codes "length"))) (not_from_false (is_proto t) (units_apart t (codes "__proto__") p.1)) (not_from_false (same_units t (codes "length")) (units_apart t (codes "length") p.0))
