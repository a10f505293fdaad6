-- The trees of typed arrays with data of their own give what they make.
use Rattle.std.proofs.Common.{◌≡◌, ℕ, suc, ◌+◌, ◌-◌, ◌*◌, ◌/◌, ◌^◌, ◌<◌, ◌≤◌, Bool, true, false, cond, ◌&&◌, eqb, leb, List, [], ◌∷◌, ◌++◌, length, pos, negsuc, Some, codes, Option, sym, refl, ap, ◌∙◌, subst, append_assoc, append-nil, div-le_self, arith, length-append, pow_pos}
use Rattle.std.specs.List.{AllByRecursion as All}
use Rattle.std.proofs.ByRecursion.{All-push}
use Rattle.std.proofs.lemmas.Bool.{eqb-true, leb-true, and_parts}
use Rattle.dump.specs.declared.kinds.ViewKind.{ViewKind}
use Rattle.dump.specs.declared.kinds.ViewKind.TheVariants.{Int8Array, Uint8Array, Uint8ClampedArray, Int16Array, Uint16Array, Int32Array, Uint32Array, Float32Array, Float64Array, BigInt64Array, BigUint64Array, DataView}
use Rattle.dump.specs.Kinds.{width}
use Rattle.numeral.specs.Numerals.{whole_bits}
use Rattle.speller.specs.Spelling.{Lawful}
use Rattle.script.specs.Texts.{view_name, Listing, numbers, floats, listing, low_first, all_zero}
use Rattle.evaluator.specs.Tokens.{number}
use Rattle.evaluator.specs.Trees.{leaf, node, Trees, nil, cons}
use Rattle.evaluator.specs.Stores as stores
use Rattle.evaluator.specs.Stores.{Val, big, ref, State, made}
use Rattle.evaluator.specs.Makes.{construct}
use Rattle.evaluator.specs.Runs.{nothing, got, Listed, all_vals, number_value, eval_list}
use Rattle.effects.specs.Tokens.{hex_text}
use Rattle.effects.specs.Effects.{count, grown, element_val, list_vals, listed, typed_ref, typed_state}
use Rattle.effects.specs.Readable.{Data}
use Rattle.leaves.proofs.Wholes.{integer_minus}
use Rattle.leaves.proofs.Numbers.{number_hex, number_hex_big}
use Rattle.leaves.proofs.Lists.{low_first_below}
use Rattle.leaves.proofs.Constructs.{typed_none, typed_zeros, typed_list, typed_bytes, typed_bytes_buffer, typed_floats, bytes_state}
use Rattle.traces.specs.Theorem.{Inverse}
use Rattle.reading.specs.Trees.{one, comma, number_tree, new_trees, member, element_text, list_trees, list_of_trees, content_trees}
use Rattle.reading.specs.Steps.{eval_trees}
use Rattle.reading.proofs.Steps.{Gives, give_comma, give_last, give_number, give_array, step_new, step_buffer}
use Rattle.reading.proofs.Values.{number_gives}

-- elements of w bytes are numbers that are read as they stand
abbrev pub Fits : Bool → ℕ → Type 0
Fits false w = 2 ^ (8 * w) ≤ 9007199254740991
Fits true w = 2 ^ (8 * w) ≤ 2 ^ 64

module _ (reading : List ℕ → Option ℕ) where
  element_reads : (minus big? : Bool) (w n : ℕ) → Fits big? w → n < 2 ^ (8 * w) → number_value reading (element_text minus big? w n) ≡ Some (element_val minus big? w n)
  element_reads minus false w n fits below = go (minus && leb (2 ^ (8 * w - 1)) n)
    where
      go : (b : Bool) → number_value reading (cond b (hex_text true (2 ^ (8 * w) - n) false) (hex_text false n false)) ≡ Some (stores.number (cond b (whole_bits true (2 ^ (8 * w) - n)) (whole_bits false n)))
      go true = number_hex reading (2 ^ (8 * w) - n) true (omega arith)
      go false = number_hex reading n false (omega arith)
  element_reads minus true w n fits below = go (minus && leb (2 ^ (8 * w - 1)) n) refl
    where
      go : (b : Bool) → (minus && leb (2 ^ (8 * w - 1)) n) ≡ b → number_value reading (cond b (hex_text true (2 ^ (8 * w) - n) true) (hex_text false n true)) ≡ Some (big (cond b (negsuc ((2 ^ (8 * w) - n) - 1)) (pos n)))
      go true e =
          let half : 2 ^ (8 * w - 1) ≤ n = leb-true (2 ^ (8 * w - 1)) n (and_parts minus (leb (2 ^ (8 * w - 1)) n) e).1 in
          let some : 0 < 2 ^ (8 * w - 1) = pow_pos (8 * w - 1) in
          number_hex_big reading (2 ^ (8 * w) - n) true (omega arith) ∙ ap (λ z. Some (big z)) (integer_minus (2 ^ (8 * w) - n) (omega arith))
      go false e = number_hex_big reading n false (omega arith)

  -- a list of bytes, each element with a comma
  list_evals : (minus big? : Bool) (w : ℕ) → Fits big? w → (bytes seen : List ℕ) → All (λ x. x < 256) seen → All (λ x. x < 256) bytes → (vs : List (Option Val)) (s : State)
      → eval_list reading (list_trees minus big? w seen bytes) nothing vs s ≡ Some (record { vals = vs ++ list_vals minus big? w seen bytes; state = s })
  list_evals minus big? w fits [] seen os ob vs s = ap (λ z. Some (record { vals = z; state = s })) (sym (append-nil vs))
  list_evals minus big? w fits (x ∷ xs) seen os ob vs s = go (eqb (length seen + 1) w) refl (list_evals minus big? w fits xs [] tt ob.1) (list_evals minus big? w fits xs (seen ++ (x ∷ [])) (All-push (λ y. y < 256) seen x os ob.0) ob.1 vs s)
    where
      bs : List ℕ
      bs = seen ++ (x ∷ [])

      v : Val
      v = element_val minus big? w (low_first bs)

      go : (b : Bool) → eqb (length seen + 1) w ≡ b
          → ((us : List (Option Val)) (t : State) → eval_list reading (list_trees minus big? w [] xs) nothing us t ≡ Some (record { vals = us ++ list_vals minus big? w [] xs; state = t }))
          → (eval_list reading (list_trees minus big? w bs xs) nothing vs s ≡ Some (record { vals = vs ++ list_vals minus big? w bs xs; state = s }))
          → eval_list reading (cond b (cons (leaf (number (element_text minus big? w (low_first bs)))) (cons comma (list_trees minus big? w [] xs))) (list_trees minus big? w bs xs)) nothing vs s
          ≡ Some (record { vals = vs ++ cond b (Some v ∷ list_vals minus big? w [] xs) (list_vals minus big? w bs xs); state = s })
      go true e f g =
          let below : low_first bs < 2 ^ (8 * w) =
          subst (λ m. low_first bs < 2 ^ (8 * m)) (length-append seen (x ∷ []) ∙ eqb-true (length seen + 1) w e) (low_first_below bs (All-push (λ y. y < 256) seen x os ob.0)) in
          give_comma reading (one (leaf (number (element_text minus big? w (low_first bs))))) (list_trees minus big? w [] xs) vs s (record { val = v; state = s }) (give_number reading (element_text minus big? w (low_first bs)) v s (element_reads minus big? w (low_first bs) fits below))
          ∙ (f (vs ++ (Some v ∷ [])) s
          ∙ ap (λ z. Some (record { vals = z; state = s })) (append_assoc vs (Some v ∷ []) (list_vals minus big? w [] xs)))
      go false e f g = g

pub fits_of : (k : ViewKind) (minus big? : Bool) → listing k ≡ numbers minus big? → Fits big? (width k)
fits_of k minus big? e = subst (λ l. FitsListing l (width k)) e (all k)
  where
    FitsListing : Listing → ℕ → Type 0
    FitsListing (numbers m b) w = Fits b w
    FitsListing floats w = Unit {0}

    all : (k : ViewKind) → FitsListing (listing k) (width k)
    all Int8Array = omega arith
    all Uint8Array = omega arith
    all Uint8ClampedArray = omega arith
    all Int16Array = omega arith
    all Uint16Array = omega arith
    all Int32Array = omega arith
    all Uint32Array = omega arith
    all Float32Array = tt
    all Float64Array = tt
    all BigInt64Array = omega arith
    all BigUint64Array = omega arith
    all DataView = omega arith

module _ (numeral : ℕ → Option (List ℕ)) (reading : List ℕ → Option ℕ) (lawful : Lawful numeral) (inverse : Inverse numeral reading) where
  -- an array of elements, before anything is made of it
  pub list_gives : (minus big? : Bool) (w : ℕ) → Fits big? w → (bytes : List ℕ) → All (λ x. x < 256) bytes → (s : State)
      → Gives reading (one (node 91 (list_trees minus big? w [] bytes))) s (record { val = ref (length s.objects); state = grown s (listed minus big? w bytes ∷ []) })
  list_gives minus big? w fits bytes ob s =
      give_array reading (list_trees minus big? w [] bytes) s (record { vals = list_vals minus big? w [] bytes; state = s }) _ (list_evals reading minus big? w fits bytes [] tt ob [] s) refl

  -- what stands in the brackets of a typed array, and what is made of it
  pub record Content (k : ViewKind) (bytes : List ℕ) (s : State) (args : Trees) : Type 0 where
    pub list : Listed
    pub vals : List Val
    pub evals : eval_list reading args nothing [] s ≡ Some list
    pub all : all_vals list.vals ≡ Some vals
    pub makes : construct (view_name k) vals list.state ≡ made (typed_ref k bytes s) (typed_state k bytes s)

  content_of : (k : ViewKind) (bytes : List ℕ) → Data k bytes → (s : State) (b : Bool) (l : Listing) → all_zero bytes ≡ b → listing k ≡ l
      → Content k bytes s (cond b (one (number_tree (length bytes / width k))) (list_of_trees l (width k) bytes))
  content_of k bytes d s true l z e =
      let n : ℕ = length bytes / width k in
      let le : n ≤ length bytes = div-le_self (length bytes) (width k) in
      record {
        list = record { vals = Some (count n) ∷ []; state = s };
        vals = count n ∷ [];
        evals = give_last reading (one (number_tree n)) [] s (record { val = count n; state = s }) (number_gives numeral reading lawful inverse n (omega (arith, d.small)) s);
        all = refl;
        makes = typed_zeros k bytes s d z;
      }
  content_of k bytes d s false (numbers minus big?) z e =
      let t : State = grown s (listed minus big? (width k) bytes ∷ []) in
      let v : Val = ref (length s.objects) in
      record {
        list = record { vals = Some v ∷ []; state = t };
        vals = v ∷ [];
        evals = give_last reading (one (node 91 (list_trees minus big? (width k) [] bytes))) [] s (record { val = v; state = t }) (list_gives minus big? (width k) (fits_of k minus big? e) bytes d.octets s);
        all = refl;
        makes = typed_list k bytes d s minus big? z e;
      }
  content_of k bytes d s false floats z e =
      let inner : Trees = one (node 91 (list_trees false false 1 [] bytes)) in
      let t : State = grown s (listed false false 1 bytes ∷ []) in
      let v : Val = ref (suc (length s.objects)) in
      record {
        list = record { vals = Some v ∷ []; state = bytes_state bytes s };
        vals = v ∷ [];
        evals =
            give_last reading (new_trees (codes "Uint8Array") inner (member (codes "buffer") nil)) [] s (record { val = v; state = bytes_state bytes s })
            (record {
              free = refl;
              evals =
                  step_new reading (codes "Uint8Array") inner (member (codes "buffer") nil) s (record { vals = Some (ref (length s.objects)) ∷ []; state = t }) (ref (length s.objects) ∷ [])
                  (record { val = ref (suc (suc (length s.objects))); state = bytes_state bytes s })
                  (give_last reading inner [] s (record { val = ref (length s.objects); state = t }) (list_gives false false 1 (omega arith) bytes d.octets s)) refl (typed_bytes k bytes d s)
                  ∙ step_buffer reading (ref (suc (suc (length s.objects)))) (bytes_state bytes s) (record { val = v; state = bytes_state bytes s }) (typed_bytes_buffer bytes s);
            });
        all = refl;
        makes = typed_floats k bytes d s z e;
      }

  pub content_gives : (k : ViewKind) (bytes : List ℕ) → Data k bytes → (s : State) → Content k bytes s (content_trees k bytes)
  content_gives k [] d s = record { list = record { vals = []; state = s }; vals = []; evals = refl; all = refl; makes = typed_none k s d.typed }
  content_gives k (x ∷ xs) d s = content_of k (x ∷ xs) d s (all_zero (x ∷ xs)) (listing k) refl refl

  -- new K(..) with data, before more
  pub step_typed : (k : ViewKind) (bytes : List ℕ) → Data k bytes → (rest : Trees) (s : State) → eval_trees reading (new_trees (view_name k) (content_trees k bytes) rest) nothing s ≡ eval_trees reading rest (got (typed_ref k bytes s)) (typed_state k bytes s)
  step_typed k bytes d rest s =
      let c = content_gives k bytes d s in
      step_new reading (view_name k) (content_trees k bytes) rest s c.list c.vals (record { val = typed_ref k bytes s; state = typed_state k bytes s }) c.evals c.all c.makes
