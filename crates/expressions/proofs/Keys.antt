-- Keys in their order: a key behind all those that are there is added at the end.
use Rattle.std.proofs.Common.{◌≡◌, ℕ, ◌<◌, true, false, cond, eqb, List, [], ◌∷◌, ◌++◌, Some, None, decimal, Option, sym, refl, ap, ◌∙◌, ⊎_elim, arith, lt-ltb, eqb-true}
use Rattle.std.proofs.lemmas.Bool.{cases_Bool, and_parts, or_from, both_ways}
use Rattle.std.proofs.lemmas.Fmt.{decimal_injective}
use Rattle.dump.specs.Heaps.{Text, Key, index, name}
use Rattle.numeral.specs.Digits.{index_of}
use Rattle.numeral.specs.Words.{same_units}
use Rattle.formed.specs.Formed.{KeyBefore}
use Rattle.evaluator.specs.Stores as stores
use Rattle.evaluator.specs.Stores.{Val, Slot, keyed, pair, single, has_key, key_is, with_key, add_key, insert_index, index_below, slot_index}
use Rattle.evaluator.specs.Isomorphic.{key_text}
use Rattle.leaves.proofs.Numbers.{decimal_within}

-- a key that may stand in a dump: an index within 32 bits, or a text that is no index
abbrev pub Kept : Key → Type 0
Kept (index i) = i < 4294967295
Kept (name t) = index_of t ≡ None

-- keys that all come before k
pub data Behind (k : Key) : List Slot → Type 0 where
  b_end : Behind k []
  b_key : (j : Key) {w : Val} {ss : List Slot} → KeyBefore j k → Kept j → Behind k ss → Behind k (keyed (key_text j) w ∷ ss)

pub same_units_lem : (a b : Text) → same_units a b ≡ true → a ≡ b
same_units_lem [] [] e = refl
same_units_lem [] (y ∷ b) e = absurd (both_ways false refl e)
same_units_lem (x ∷ a) [] e = absurd (both_ways false refl e)
same_units_lem (x ∷ a) (y ∷ b) e = let p = and_parts (eqb x y) (same_units a b) e in let q = eqb-true x y p.0 in let r = same_units_lem a b p.1 in cc

none_not_some : {A : Type 0} (a : A) → ◌≡◌ {A = Option A} None (Some a) → ⊥
none_not_some a e = let z : ◌≡◌ {A = ℕ} 0 1 = cc in omega arith

pub index_kept : (i : ℕ) → i < 4294967295 → index_of (decimal i) ≡ Some i
index_kept i lt = decimal_within i (omega arith) 4294967294 (omega arith)

-- different keys have different texts
pub keys_apart : (j k : Key) → KeyBefore j k → Kept j → Kept k → key_text k ≡ key_text j → ⊥
keys_apart (index i) (index l) b j k e = let q = decimal_injective l i (omega arith) (omega arith) e in omega arith
keys_apart (index i) (name t) b j k e = none_not_some i (sym k ∙ (ap index_of e ∙ index_kept i j))
keys_apart (name t) (index l) b j k e = elim b [ ]
keys_apart (name t) (name u) b j k e = b (sym e)

not_key : (j k : Key) → KeyBefore j k → Kept j → Kept k → same_units (key_text k) (key_text j) ≡ false
not_key j k b x y = ⊎_elim (λ (t : same_units (key_text k) (key_text j) ≡ true). absurd (keys_apart j k b x y (same_units_lem (key_text k) (key_text j) t))) (λ n. n) (cases_Bool (same_units (key_text k) (key_text j)))

pub no_key : (k : Key) (ss : List Slot) → Kept k → Behind k ss → has_key (key_text k) ss ≡ false
no_key k [] y b_end = refl
no_key k (_ ∷ ss) y (b_key j b x r) = or_from (same_units (key_text k) (key_text j)) (has_key (key_text k) ss) (not_key j k b x y) (no_key k ss y r)

-- an index behind all indexes is inserted at the end
at_end : (i : ℕ) (new : Slot) (ss : List Slot) → i < 4294967295 → Behind (index i) ss → insert_index i new ss ≡ ss ++ (new ∷ [])
at_end i new [] y b_end = refl
at_end i new (_ ∷ ss) y (b_key (index l) {w = w} b x r) =
    let e : index_below i (slot_index (keyed (decimal l) w)) ≡ true = ap (index_below i) (index_kept l x) ∙ lt-ltb l i b in
    ap (λ z. cond z (keyed (decimal l) w ∷ insert_index i new ss) (new ∷ keyed (decimal l) w ∷ ss)) e ∙ ap (λ z. keyed (decimal l) w ∷ z) (at_end i new ss y r)
at_end i new (_ ∷ ss) y (b_key (name t) b x r) = elim b [ ]

added : (k : Key) (new : Slot) (ss : List Slot) → Kept k → Behind k ss → add_key (index_of (key_text k)) new ss ≡ ss ++ (new ∷ [])
added (index i) new ss y b = ap (λ o. add_key o new ss) (index_kept i y) ∙ at_end i new ss y b
added (name t) new ss y b = ap (λ o. add_key o new ss) y

pub with_key_end : (k : Key) (w : Val) (ss : List Slot) → Kept k → Behind k ss → with_key (key_text k) w ss ≡ ss ++ (keyed (key_text k) w ∷ [])
with_key_end k w ss y b =
    ap (λ z. cond z (stores.set_key (key_text k) w ss) (add_key (index_of (key_text k)) (keyed (key_text k) w) ss)) (no_key k ss y b) ∙ added k (keyed (key_text k) w) ss y b
