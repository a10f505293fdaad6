-- The elements that bytes are listed as give the bytes back, for every width.
use Rattle.std.proofs.Common.{◌≡◌, ℕ, suc, ◌+◌, ◌-◌, ◌*◌, ◌/◌, ◌%◌, ◌^◌, ◌<◌, ◌≤◌, min, Bool, true, false, ◌&&◌, eqb, leb, List, [], ◌∷◌, ◌++◌, length, pos, negsuc, Some, None, Option, sym, refl, ap, ◌∙◌, subst, append_assoc, mod-eq_of_lt, suc-mul, arith, length-append, pow-add, eq-eqb, eqb-true}
use native.Mathlib.Nat.{mod-one, add-mod_left}
use borrow.Author.Tests.{eqb-false}
use Rattle.std.specs.List.{AllByRecursion as All}
use Rattle.std.proofs.ByRecursion.{All-push}
use Rattle.std.proofs.lemmas.Bool.{cond_both, both_ways}
use Rattle.dump.specs.declared.kinds.ViewKind.{ViewKind}
use Rattle.dump.specs.declared.kinds.ViewKind.TheVariants.{Int8Array, Uint8Array, Uint8ClampedArray, Int16Array, Uint16Array, Int32Array, Uint32Array, Float32Array, Float64Array, BigInt64Array, BigUint64Array, DataView}
use Rattle.dump.specs.Kinds.{width}
use Rattle.numeral.specs.Numerals.{whole_bits}
use Rattle.script.specs.Texts.{Listing, numbers, floats, listing, low_first}
use Rattle.evaluator.specs.Options.{and_then, when, nth}
use Rattle.evaluator.specs.Stores.{Val, ref, array, State}
use Rattle.evaluator.specs.Makes as makes
use Rattle.evaluator.specs.Makes.{integer, whole_in, Sort, clamped, bigs, sort_of, is_typed, slot_values, list_in, list_of, low_bytes, modulo, clamp, element, elements}
use Rattle.evaluator.specs.Runs.{all_vals, element_slots}
use Rattle.effects.specs.Effects.{element_val, list_vals, listed, somes}
use Rattle.effects.specs.Readable.{Data}
use Rattle.leaves.proofs.Wholes.{integer_minus, whole_in_lem}

-- Numbers below 2^(8 w), by their bytes.

shifted : (w : ℕ) → 2 ^ (8 * suc w) ≡ 256 * 2 ^ (8 * w)
shifted w = ap (λ k. 2 ^ k) {x = 8 * suc w} {y = 8 + 8 * w} (omega arith) ∙ pow-add 2 8 (8 * w)

pub low_first_below : (bs : List ℕ) → All (λ x. x < 256) bs → low_first bs < 2 ^ (8 * length bs)
low_first_below [] h = omega arith
low_first_below (x ∷ xs) h = let ih = low_first_below xs h.1 in let e = shifted (length xs) in omega (arith, h.0)

low_bytes_back : (bs : List ℕ) → All (λ x. x < 256) bs → low_bytes (length bs) (low_first bs) ≡ bs
low_bytes_back [] h = refl
low_bytes_back (x ∷ xs) h =
    let a : (x + low_first xs * 256) % 256 ≡ x = omega (arith, h.0) in
    let b : (x + low_first xs * 256) / 256 ≡ low_first xs = omega (arith, h.0) in
    (λ i. a i ∷ low_bytes (length xs) (b i)) ∙ ap (λ r. x ∷ r) (low_bytes_back xs h.1)

-- an element's value modulo 2^(8 w) is the number that its bytes are
module _ (w n : ℕ) (below : n < 2 ^ (8 * w)) where
  modulo_plus : modulo w (pos n) ≡ n
  modulo_plus = mod-eq_of_lt below

  modulo_minus : modulo w (negsuc ((2 ^ (8 * w) - n) - 1)) ≡ n
  modulo_minus =
      let e : ((2 ^ (8 * w) - n) - 1) % 2 ^ (8 * w) ≡ (2 ^ (8 * w) - n) - 1 = mod-eq_of_lt (omega arith) in
      omega arith

-- one element
each_number : (minus : Bool) (w n : ℕ) → n < 2 ^ (8 * w) → 2 ^ (8 * w) ≤ 9007199254740991 → element makes.numbers w (element_val minus false w n) ≡ Some (low_bytes w n)
each_number minus w n below small =
    cond_both (minus && leb (2 ^ (8 * w - 1)) n) (whole_bits true (2 ^ (8 * w) - n)) (whole_bits false n) (λ bits. and_then (whole_in bits) (λ z. Some (low_bytes w (modulo w z))) ≡ Some (low_bytes w n))
    (λ _. (λ i. and_then (whole_in_lem true (2 ^ (8 * w) - n) (omega arith) i) (λ z. Some (low_bytes w (modulo w z)))) ∙ (λ i. Some (low_bytes w (modulo w (integer_minus (2 ^ (8 * w) - n) (omega arith) i)))) ∙ (λ i. Some (low_bytes w (modulo_minus w n below i))))
    (λ _. (λ i. and_then (whole_in_lem false n (omega arith) i) (λ z. Some (low_bytes w (modulo w z)))) ∙ (λ i. Some (low_bytes w (modulo_plus w n below i))))

-- a byte is not clamped
each_clamped : (n : ℕ) → n < 256 → element clamped 1 (element_val false false 1 n) ≡ Some (low_bytes 1 n)
each_clamped n below =
    (λ i. and_then (whole_in_lem false n (omega arith) i) (λ z. Some (low_bytes 1 (modulo 1 (clamp z)))))
    ∙ ap (λ m. Some (low_bytes 1 (m % 256))) {x = min n 255} {y = n} (omega arith)
    ∙ ap (λ m. Some (low_bytes 1 m)) (modulo_plus 1 n below)

each_big : (minus : Bool) (w n : ℕ) → n < 2 ^ (8 * w) → element bigs w (element_val minus true w n) ≡ Some (low_bytes w n)
each_big minus w n below =
    cond_both (minus && leb (2 ^ (8 * w - 1)) n) (negsuc ((2 ^ (8 * w) - n) - 1)) (pos n) (λ z. Some (low_bytes w (modulo w z)) ≡ Some (low_bytes w n))
    (λ _. ap (λ m. Some (low_bytes w m)) (modulo_minus w n below))
    (λ _. ap (λ m. Some (low_bytes w m)) (modulo_plus w n below))

-- every value of a list is there
module _ (minus big? : Bool) (w : ℕ) where
  pub all_vals_lem : (seen bytes : List ℕ) → all_vals (list_vals minus big? w seen bytes) ≡ Some (somes (list_vals minus big? w seen bytes))
  all_vals_lem seen [] = refl
  all_vals_lem seen (x ∷ xs) =
      cond_both (eqb (length seen + 1) w) (Some (element_val minus big? w (low_first (seen ++ (x ∷ [])))) ∷ list_vals minus big? w [] xs) (list_vals minus big? w (seen ++ (x ∷ [])) xs) (λ vs. all_vals vs ≡ Some (somes vs))
      (λ _. ap (λ o. and_then o (λ us. Some (element_val minus big? w (low_first (seen ++ (x ∷ []))) ∷ us))) (all_vals_lem [] xs))
      (λ _. all_vals_lem (seen ++ (x ∷ [])) xs)

  pub somes_length : (seen bytes : List ℕ) → length (somes (list_vals minus big? w seen bytes)) ≡ length (list_vals minus big? w seen bytes)
  somes_length seen [] = refl
  somes_length seen (x ∷ xs) =
      cond_both (eqb (length seen + 1) w) (Some (element_val minus big? w (low_first (seen ++ (x ∷ [])))) ∷ list_vals minus big? w [] xs) (list_vals minus big? w (seen ++ (x ∷ [])) xs) (λ vs. length (somes vs) ≡ length vs)
      (λ _. ap suc (somes_length [] xs))
      (λ _. somes_length (seen ++ (x ∷ [])) xs)

  -- bytes in whole elements: those that were seen wait for the rest of their element
  ended : (seen : List ℕ) → length seen < w → (length seen + 0) % w ≡ 0 → seen ≡ []
  ended [] h e = refl
  ended (x ∷ xs) h e = let m : (length (x ∷ xs) + 0) % w ≡ length (x ∷ xs) + 0 = mod-eq_of_lt (omega arith) in absurd (omega arith)

  next_whole : (a b : ℕ) → a + 1 ≡ w → (a + suc b) % w ≡ 0 → (0 + b) % w ≡ 0
  next_whole a b p e = ap (λ z. z % w) {x = 0 + b} {y = b} (omega arith) ∙ sym (add-mod_left w b) ∙ ap (λ z. z % w) {x = w + b} {y = a + suc b} (omega arith) ∙ e

  next_part : (seen : List ℕ) (x : ℕ) (xs : List ℕ) → (length seen + suc (length xs)) % w ≡ 0 → (length (seen ++ (x ∷ [])) + length xs) % w ≡ 0
  next_part seen x xs e = ap (λ z. z % w) {x = length (seen ++ (x ∷ [])) + length xs} {y = length seen + suc (length xs)} (omega (arith, length-append seen (x ∷ []))) ∙ e

  pub list_length : (seen bytes : List ℕ) → length seen < w → (length seen + length bytes) % w ≡ 0 → length (list_vals minus big? w seen bytes) * w ≡ length seen + length bytes
  list_length seen [] h e = let z = ap length (ended seen h e) in omega arith
  list_length seen (x ∷ xs) h e =
      cond_both (eqb (length seen + 1) w) (Some (element_val minus big? w (low_first (seen ++ (x ∷ [])))) ∷ list_vals minus big? w [] xs) (list_vals minus big? w (seen ++ (x ∷ [])) xs) (λ vs. length vs * w ≡ length seen + suc (length xs))
      (λ t. let p = eqb-true (length seen + 1) w t in let ih = list_length [] xs (omega arith) (next_whole (length seen) (length xs) p e) in suc-mul (length (list_vals minus big? w [] xs)) w ∙ omega arith)
      (λ t. let p = eqb-false (length seen + 1) w t in let l = length-append seen (x ∷ []) in let ih = list_length (seen ++ (x ∷ [])) xs (omega arith) (next_part seen x xs e) in omega arith)

  module _ (sort : Sort) (each : (bs : List ℕ) → All (λ x. x < 256) bs → length bs ≡ w → element sort w (element_val minus big? w (low_first bs)) ≡ Some bs) where
    elements_back : (seen bytes : List ℕ) → length seen < w → (length seen + length bytes) % w ≡ 0 → All (λ x. x < 256) seen → All (λ x. x < 256) bytes → elements sort w (somes (list_vals minus big? w seen bytes)) ≡ Some (seen ++ bytes)
    elements_back seen [] h e os ob = ap (λ l. Some (l ++ [])) (sym (ended seen h e))
    elements_back seen (x ∷ xs) h e os ob =
        let bs : List ℕ = seen ++ (x ∷ []) in
        cond_both (eqb (length seen + 1) w) (Some (element_val minus big? w (low_first bs)) ∷ list_vals minus big? w [] xs) (list_vals minus big? w bs xs) (λ vs. elements sort w (somes vs) ≡ Some (seen ++ (x ∷ xs)))
        (λ t.
        let p = eqb-true (length seen + 1) w t in
        let l = length-append seen (x ∷ []) in
        (λ i. and_then (each bs (All-push (λ y. y < 256) seen x os ob.0) (omega arith) i) (λ cs. and_then (elements_back [] xs (omega arith) (next_whole (length seen) (length xs) p e) tt ob.1 i) (λ ds. Some (cs ++ ds))))
        ∙ ap Some (append_assoc seen (x ∷ []) xs))
        (λ t.
        let p = eqb-false (length seen + 1) w t in
        let l = length-append seen (x ∷ []) in
        elements_back bs xs (omega arith) (next_part seen x xs e) (All-push (λ y. y < 256) seen x os ob.0) ob.1 ∙ ap Some (append_assoc seen (x ∷ []) xs))

-- the bytes of one element, by its kind
abbrev EachBack : ViewKind → Listing → Type 0
EachBack k (numbers minus big?) = (bs : List ℕ) → All (λ x. x < 256) bs → length bs ≡ width k → element (sort_of k) (width k) (element_val minus big? (width k) (low_first bs)) ≡ Some bs
EachBack k floats = Unit {0}

module _ (w : ℕ) (bs : List ℕ) (octets : All (λ x. x < 256) bs) (fits : length bs ≡ w) where
  below : low_first bs < 2 ^ (8 * w)
  below = subst (λ m. low_first bs < 2 ^ (8 * m)) fits (low_first_below bs octets)

  back : Some (low_bytes w (low_first bs)) ≡ Some bs
  back = ap Some (subst (λ m. low_bytes m (low_first bs) ≡ bs) fits (low_bytes_back bs octets))

  number_back : (minus : Bool) → 2 ^ (8 * w) ≤ 9007199254740991 → element makes.numbers w (element_val minus false w (low_first bs)) ≡ Some bs
  number_back minus small = each_number minus w (low_first bs) below small ∙ back

  big_back : (minus : Bool) → element bigs w (element_val minus true w (low_first bs)) ≡ Some bs
  big_back minus = each_big minus w (low_first bs) below ∙ back

each_of : (k : ViewKind) → is_typed k ≡ true → EachBack k (listing k)
each_of Int8Array t = λ bs o l. number_back 1 bs o l true (omega arith)
each_of Uint8Array t = λ bs o l. number_back 1 bs o l false (omega arith)
each_of Uint8ClampedArray t = λ bs o l. each_clamped (low_first bs) (below 1 bs o l) ∙ back 1 bs o l
each_of Int16Array t = λ bs o l. number_back 2 bs o l true (omega arith)
each_of Uint16Array t = λ bs o l. number_back 2 bs o l false (omega arith)
each_of Int32Array t = λ bs o l. number_back 4 bs o l true (omega arith)
each_of Uint32Array t = λ bs o l. number_back 4 bs o l false (omega arith)
each_of Float32Array t = tt
each_of Float64Array t = tt
each_of BigInt64Array t = λ bs o l. big_back 8 bs o l true
each_of BigUint64Array t = λ bs o l. big_back 8 bs o l false
each_of DataView t = absurd (both_ways false refl t)

pub width_some : (k : ViewKind) → 0 < width k
width_some Int8Array = omega arith
width_some Uint8Array = omega arith
width_some Uint8ClampedArray = omega arith
width_some Int16Array = omega arith
width_some Uint16Array = omega arith
width_some Int32Array = omega arith
width_some Uint32Array = omega arith
width_some Float32Array = omega arith
width_some Float64Array = omega arith
width_some BigInt64Array = omega arith
width_some BigUint64Array = omega arith
width_some DataView = omega arith

-- a list of bytes: all its values are there, they give the bytes back, and it has one for each w bytes
pub record ListsBack (sort : Sort) (minus big? : Bool) (w : ℕ) (bytes : List ℕ) : Type 0 where
  pub all : all_vals (list_vals minus big? w [] bytes) ≡ Some (somes (list_vals minus big? w [] bytes))
  pub back : elements sort w (somes (list_vals minus big? w [] bytes)) ≡ Some bytes
  pub whole : length (list_vals minus big? w [] bytes) * w ≡ length bytes

whole_from : (n w : ℕ) → n % w ≡ 0 → (0 + n) % w ≡ 0
whole_from n w e = ap (λ z. z % w) {x = 0 + n} {y = n} (omega arith) ∙ e

pub lists_back : (k : ViewKind) (bytes : List ℕ) (minus big? : Bool) → Data k bytes → listing k ≡ numbers minus big? → ListsBack (sort_of k) minus big? (width k) bytes
lists_back k bytes minus big? d e =
    let m = whole_from (length bytes) (width k) d.even in
    record {
      all = all_vals_lem minus big? (width k) [] bytes;
      back = elements_back minus big? (width k) (sort_of k) (subst (EachBack k) e (each_of k d.typed)) [] bytes (width_some k) m tt d.octets;
      whole = list_length minus big? (width k) [] bytes (width_some k) m ∙ omega arith;
    }

-- the bytes of a float kind, each as an element of its own
pub floats_back : (bytes : List ℕ) → All (λ x. x < 256) bytes → ListsBack makes.numbers false false 1 bytes
floats_back bytes o =
    let m = mod-one (0 + length bytes) in
    record {
      all = all_vals_lem false false 1 [] bytes;
      back = elements_back false false 1 makes.numbers (each_of Uint8Array refl) [] bytes (omega arith) m tt o;
      whole = list_length false false 1 [] bytes (omega arith) m ∙ omega arith;
    }

-- the values of an array without holes
array_slots : (i : ℕ) (vs : List (Option Val)) (us : List Val) → all_vals vs ≡ Some us → (length (element_slots i vs) ≡ length vs) × (slot_values (element_slots i vs) ≡ us)
array_slots i [] us e = (refl, cc)
array_slots i (None ∷ vs) us e = absurd (let z : ◌≡◌ {A = ℕ} 0 1 = cc in omega arith)
array_slots i (Some v ∷ vs) us e = go (all_vals vs) (λ ws. array_slots (suc i) vs ws) refl e
  where
    go : (o : Option (List Val)) → ((ws : List Val) → all_vals vs ≡ Some ws → (length (element_slots (suc i) vs) ≡ length vs) × (slot_values (element_slots (suc i) vs) ≡ ws)) → all_vals vs ≡ o → and_then o (λ ws. Some (v ∷ ws)) ≡ Some us → (suc (length (element_slots (suc i) vs)) ≡ suc (length vs)) × (v ∷ slot_values (element_slots (suc i) vs) ≡ us)
    go None f p q = absurd (let z : ◌≡◌ {A = ℕ} 0 1 = cc in omega arith)
    go (Some ws) f p q = let r = f ws p in (ap suc r.0, let a = r.1 in cc)

pub array_list : (s : State) (n : ℕ) (vs : List (Option Val)) (us : List Val) → nth s.objects n ≡ Some (record { shape = array (length vs); slots = element_slots 0 vs }) → all_vals vs ≡ Some us → list_of s (ref n) ≡ Some us
array_list s n vs us h e =
    let r = array_slots 0 vs us e in
    ap (λ o. and_then o (λ x. list_in x.shape x.slots)) h
    ∙ (λ i. when (eqb (length vs) (r.0 i)) (Some (r.1 i)))
    ∙ ap (λ b. when b (Some us)) (eq-eqb (length vs) (length vs) refl)

pub list_of_lem : (s : State) (n : ℕ) (minus big? : Bool) (w : ℕ) (bytes : List ℕ) → nth s.objects n ≡ Some (listed minus big? w bytes) → list_of s (ref n) ≡ Some (somes (list_vals minus big? w [] bytes))
list_of_lem s n minus big? w bytes h = array_list s n (list_vals minus big? w [] bytes) (somes (list_vals minus big? w [] bytes)) h (all_vals_lem minus big? w [] bytes)
