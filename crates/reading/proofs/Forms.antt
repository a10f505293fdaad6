-- The trees of a form give what it makes.
use Rattle.std.proofs.Common.{◌≡◌, ℕ, ◌≤◌, Bool, true, false, cond, eqb, List, [], ◌∷◌, ◌++◌, map, length, ℤ, Some, None, codes, Option, sym, refl, ap, ◌∙◌, subst, arith}
use Rattle.std.proofs.lemmas.Bool.{eqb-true}
use Rattle.dump.specs.Heaps.{Text}
use Rattle.shapes.specs.Rows.{flags_ok}
use Rattle.script.specs.Items.{signed_decimal}
use Rattle.speller.specs.Spelling.{Lawful}
use Rattle.formed.specs.Formed.{TimeFits}
use Rattle.script.specs.Syntax as syntax
use Rattle.script.specs.Syntax.{Form, named, buffer_of_named, circular, new_boolean, new_number, new_bigint, new_string, new_regexp, new_date, new_array, empty_map_form, empty_set_form, buffer_form, new_resizable, data_buffer, new_typed, typed_part}
use Rattle.script.specs.Texts.{boolean_word, flag_letters}
use Rattle.evaluator.specs.Tokens.{number, string}
use Rattle.evaluator.specs.Trees.{leaf, node, Trees, nil, cons}
use Rattle.evaluator.specs.Stores as stores
use Rattle.evaluator.specs.Stores.{Val, undefined, boolean, big, ref, ordinary, State, Made, make, lookup}
use Rattle.evaluator.specs.Makes.{construct, zeros}
use Rattle.evaluator.specs.Runs.{nothing, of_made, all_vals, eval_list}
use Rattle.evaluator.specs.Isomorphic.{whole_double, big_value}
use Rattle.effects.specs.Effects.{canonical, count, maximum_key, some_args, form_made, typed_ref, typed_state}
use Rattle.effects.specs.Readable.{Small, FormReadable}
use Rattle.leaves.proofs.Numbers.{small_time}
use Rattle.leaves.proofs.Flags.{no_flags}
use Rattle.leaves.proofs.Constructs.{new_regexp_flags, new_date_made, new_date_nan, new_array_made, new_buffer_made, new_resizable_made, nth_at}
use Rattle.traces.specs.Theorem.{Inverse}
use Rattle.reading.specs.Trees.{one, comma, colon, word_tree, name_tree, number_tree, new_trees, member, flag_trees, first_trees, double_trees, form_trees}
use Rattle.effects.proofs.Options.{some_is, taken}
use Rattle.reading.proofs.Grows.{with}
use Rattle.reading.proofs.Steps.{Gives, give_comma, give_last, give_then, give_string, give_word, give_braces, brace_last, give_new, step_buffer, step_call}
use Rattle.reading.proofs.Values.{name_gives, integer_gives, bigint_gives, number_gives, boolean_gives, double_gives, plain_made, new_of_one, two_plain}
use Rattle.reading.proofs.Typed.{step_typed}
use Rattle.leaves.proofs.Constructs.{typed_buffer}

module _ (numeral : ℕ → Option (List ℕ)) (reading : List ℕ → Option ℕ) (lawful : Lawful numeral) (inverse : Inverse numeral reading) where
  regexp_gives : (t : Text) (flags : ℕ) → flags_ok flags ≡ true → (s : State) (m : Made) → make (stores.regexp t flags) [] s ≡ Some m → Gives reading (form_trees numeral (new_regexp t flags)) s m
  regexp_gives t flags ok s m e = go (flag_letters flags) refl
    where
      go : (fs : Text) → flag_letters flags ≡ fs → Gives reading (new_trees (codes "RegExp") (cons (leaf (string t)) (flag_trees fs)) nil) s m
      go [] d = new_of_one numeral reading lawful inverse (codes "RegExp") (one (leaf (string t))) (stores.text t) s m (give_string reading t) (ap (λ n. make (stores.regexp t n) [] s) (sym (no_flags flags ok d)) ∙ e)
      go (c ∷ cs) d =
          give_new reading (codes "RegExp") (cons (leaf (string t)) (flag_trees (c ∷ cs))) s (record { vals = Some (stores.text t) ∷ Some (stores.text (c ∷ cs)) ∷ []; state = s }) (stores.text t ∷ stores.text (c ∷ cs) ∷ []) m
          (two_plain numeral reading lawful inverse (one (leaf (string t))) (one (leaf (string (c ∷ cs)))) (stores.text t) (stores.text (c ∷ cs)) s (give_string reading t) (give_string reading (c ∷ cs))) refl
          (ap (λ fs. construct (codes "RegExp") (stores.text t ∷ stores.text fs ∷ []) s) (sym d) ∙ new_regexp_flags s t flags ok ∙ e)

  date_gives : (t : Option ℤ) → TimeFits t → (s : State) (m : Made) → make (stores.date t) [] s ≡ Some m → Gives reading (form_trees numeral (new_date t)) s m
  date_gives None fits s m e = new_of_one numeral reading lawful inverse (codes "Date") (one (word_tree (codes "NaN"))) (stores.number 9221120237041090560) s m (λ x. give_word reading (codes "NaN") _ x refl refl) (new_date_nan s ∙ e)
  date_gives (Some z) fits s m e = new_of_one numeral reading lawful inverse (codes "Date") (one (leaf (number (signed_decimal z)))) (stores.number (whole_double z)) s m (integer_gives numeral reading lawful inverse z (small_time z fits)) (new_date_made s z fits ∙ e)

  buffer_gives : (n : ℕ) → Small n → (s : State) (m : Made) → make (stores.buffer (zeros n) None) [] s ≡ Some m → Gives reading (form_trees numeral (buffer_form n)) s m
  buffer_gives n small s m e = go (eqb n 0) refl
    where
      go : (b : Bool) → eqb n 0 ≡ b → Gives reading (new_trees (codes "ArrayBuffer") (cond b nil (one (number_tree n))) nil) s m
      go true d = give_new reading (codes "ArrayBuffer") nil s (record { vals = []; state = s }) [] m refl refl (ap (λ k. make (stores.buffer (zeros k) None) [] s) (sym (eqb-true n 0 d)) ∙ e)
      go false d = new_of_one numeral reading lawful inverse (codes "ArrayBuffer") (one (number_tree n)) (count n) s m (number_gives numeral reading lawful inverse n small) (new_buffer_made s n (omega arith) ∙ e)

  -- the maximum comes in an object of its own
  resizable_gives : (n k : ℕ) → n ≤ k → Small k → (s : State) (m : Made) → form_made (new_resizable n k) s ≡ Some m → Gives reading (form_trees numeral (new_resizable n k)) s m
  resizable_gives n k le small s m e =
      let t : State = with ordinary (stores.keyed maximum_key (count k) ∷ []) s in
      let o : Val = ref (length s.objects) in
      let option : Trees = cons (word_tree maximum_key) (cons colon (one (number_tree k))) in
      give_new reading (codes "ArrayBuffer") (cons (number_tree n) (cons comma (one (node 123 option)))) s (record { vals = Some (count n) ∷ Some o ∷ []; state = t }) (count n ∷ o ∷ []) m
      (give_comma reading (one (number_tree n)) (one (node 123 option)) [] s (record { val = count n; state = s }) (number_gives numeral reading lawful inverse n (omega arith) s)
      ∙ give_last reading (one (node 123 option)) (Some (count n) ∷ []) s (record { val = o; state = t })
      (give_braces reading option s (record { made_slots = stores.keyed maximum_key (count k) ∷ []; then_state = s }) (record { val = o; state = t })
      (brace_last reading (one (number_tree k)) maximum_key [] s (record { val = count k; state = s }) (number_gives numeral reading lawful inverse k small s)) refl)) refl
      (new_resizable_made t n k (length s.objects) le (omega arith) (nth_at s.objects _ (length s.objects) 0 (omega arith)) ∙ e)

  -- arguments that may be left out
  first_evals : (n : ℕ) (a b : Option ℕ) → FormReadable numeral (syntax.subarray n a b) → (s : State)
      → eval_list reading (first_trees a b) nothing [] s ≡ Some (record { vals = map Some (some_args a ++ some_args b); state = s })
  first_evals n None None r s = refl
  first_evals n None (Some b) r s = absurd r
  first_evals n (Some a) None r s = give_last reading (one (number_tree a)) [] s (record { val = count a; state = s }) (number_gives numeral reading lawful inverse a r.1 s)
  first_evals n (Some a) (Some b) r s =
      two_plain numeral reading lawful inverse (one (number_tree a)) (one (number_tree b)) (count a) (count b) s (number_gives numeral reading lawful inverse a r.1) (number_gives numeral reading lawful inverse b r.2)

  first_all : (a b : Option ℕ) → all_vals (map Some (some_args a ++ some_args b)) ≡ Some (some_args a ++ some_args b)
  first_all None None = refl
  first_all None (Some b) = refl
  first_all (Some a) None = refl
  first_all (Some a) (Some b) = refl

  name_small : (n : ℕ) (a b : Option ℕ) → FormReadable numeral (syntax.subarray n a b) → Small n
  name_small n None None r = r
  name_small n None (Some b) r = absurd r
  name_small n (Some a) b r = r.0

  pub form_gives : (f : Form) → FormReadable numeral f → (s : State) (m : Made) → form_made f s ≡ Some m → Gives reading (form_trees numeral f) s m
  form_gives (named n) r s m e =
      let t = taken (lookup s.names n) _ m e in
      subst (λ z. Gives reading (one (name_tree n)) s z) (some_is t.2) (name_gives numeral reading lawful inverse n t.0 s r t.1)
  form_gives (buffer_of_named n) r s m e =
      let t = taken (lookup s.names n) _ m e in
      record { free = refl; evals = give_then reading (one (name_tree n)) (member (codes "buffer") nil) s (record { val = t.0; state = s }) (name_gives numeral reading lawful inverse n t.0 s r t.1) ∙ step_buffer reading t.0 s m t.2 }
  form_gives circular r s m e = plain_made numeral reading lawful inverse (one (word_tree (codes "undefined"))) undefined s m (λ t. give_word reading (codes "undefined") undefined t refl refl) e
  form_gives (new_boolean b) r s m e = new_of_one numeral reading lawful inverse (codes "Boolean") (one (word_tree (boolean_word b))) (boolean b) s m (boolean_gives numeral reading lawful inverse b) e
  form_gives (new_number bits) r s m e = new_of_one numeral reading lawful inverse (codes "Number") (double_trees numeral bits) (stores.number (canonical bits)) s m (double_gives numeral reading lawful inverse bits r) e
  form_gives (new_bigint t) r s m e = new_of_one numeral reading lawful inverse (codes "Object") (one (leaf (number (t ++ (110 ∷ []))))) (big (big_value t)) s m (bigint_gives numeral reading lawful inverse t r) e
  form_gives (new_string t) r s m e = new_of_one numeral reading lawful inverse (codes "String") (one (leaf (string t))) (stores.text t) s m (give_string reading t) e
  form_gives (new_regexp t flags) r s m e = regexp_gives t flags r.1 s m e
  form_gives (new_date time) r s m e = date_gives time r s m e
  form_gives (new_array n) r s m e = new_of_one numeral reading lawful inverse (codes "Array") (one (number_tree n)) (count n) s m (number_gives numeral reading lawful inverse n r) (new_array_made s n r ∙ e)
  form_gives empty_map_form r s m e = give_new reading (codes "Map") nil s (record { vals = []; state = s }) [] m refl refl e
  form_gives empty_set_form r s m e = give_new reading (codes "Set") nil s (record { vals = []; state = s }) [] m refl refl e
  form_gives (buffer_form n) r s m e = buffer_gives n r s m e
  form_gives (new_resizable n k) r s m e = resizable_gives n k r.0 r.1 s m e
  form_gives (data_buffer k bytes) r s m e =
      record { free = refl; evals = step_typed numeral reading lawful inverse k bytes r (member (codes "buffer") nil) s ∙ step_buffer reading (typed_ref k bytes s) (typed_state k bytes s) m (typed_buffer k bytes s ∙ e) }
  form_gives (new_typed k bytes) r s m e = record { free = refl; evals = step_typed numeral reading lawful inverse k bytes r nil s ∙ ap of_made e }
  form_gives (typed_part k bytes a b) r s m e =
      record {
        free = refl;
        evals =
            step_typed numeral reading lawful inverse k bytes r.0 (member (codes "subarray") (one (node 40 (cons (number_tree a) (cons comma (one (number_tree b))))))) s
            ∙ step_call reading (codes "subarray") (cons (number_tree a) (cons comma (one (number_tree b)))) (typed_ref k bytes s) (typed_state k bytes s) (record { vals = Some (count a) ∷ Some (count b) ∷ []; state = typed_state k bytes s }) (count a ∷ count b ∷ []) m refl
            (two_plain numeral reading lawful inverse (one (number_tree a)) (one (number_tree b)) (count a) (count b) (typed_state k bytes s) (number_gives numeral reading lawful inverse a r.1) (number_gives numeral reading lawful inverse b r.2)) refl e;
      }
  form_gives (syntax.subarray n a b) r s m e =
      let t = taken (lookup s.names n) _ m e in
      record {
        free = refl;
        evals =
            give_then reading (one (name_tree n)) (member (codes "subarray") (one (node 40 (first_trees a b)))) s (record { val = t.0; state = s }) (name_gives numeral reading lawful inverse n t.0 s (name_small n a b r) t.1)
            ∙ step_call reading (codes "subarray") (first_trees a b) t.0 s (record { vals = map Some (some_args a ++ some_args b); state = s }) (some_args a ++ some_args b) m refl (first_evals n a b r s) (first_all a b) t.2;
      }
