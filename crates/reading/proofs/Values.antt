-- The trees of a value give it, and of a form with such values what it makes.
use Rattle.std.proofs.Common.{◌≡◌, ℕ, ◌≤◌, Bool, true, false, cond, eqb, List, [], ◌∷◌, ◌++◌, ℤ, pos, nat_abs, Some, codes, decimal, Option, sym, refl, ◌∙◌, subst}
use Rattle.std.proofs.lemmas.Bool.{eqb-true}
use Rattle.dump.specs.Heaps as heaps
use Rattle.dump.specs.Heaps.{Text, Value}
use Rattle.numeral.specs.Numerals.{finite, is_big_int}
use Rattle.script.specs.Items.{signed_decimal}
use Rattle.speller.specs.Spelling.{Lawful}
use Rattle.script.specs.Texts.{boolean_word}
use Rattle.evaluator.specs.Options.{and_then}
use Rattle.evaluator.specs.Tokens.{number, mark}
use Rattle.evaluator.specs.Trees.{leaf, Trees, nil, cons}
use Rattle.evaluator.specs.Stores as stores
use Rattle.evaluator.specs.Stores.{Val, undefined, null, boolean, big, State, Made, made, lookup}
use Rattle.evaluator.specs.Makes.{construct}
use Rattle.evaluator.specs.Runs.{nothing, eval_list}
use Rattle.evaluator.specs.Isomorphic.{whole_double, big_value}
use Rattle.effects.specs.Effects.{canonical, count, plain_val}
use Rattle.effects.specs.Readable.{Small, Spelled, ValueReadable}
use Rattle.leaves.proofs.Numbers.{number_double, number_whole, small_whole, number_bigint, word_name, not_new}
use Rattle.traces.specs.Theorem.{Inverse}
use Rattle.reading.specs.Trees.{append_t, one, comma, word_tree, name_tree, number_tree, new_trees, not_finite_trees, numeral_trees, double_trees, value_trees}
use Rattle.effects.proofs.Options.{some_is}
use Rattle.reading.proofs.Steps.{Gives, give_comma, give_last, give_number, give_string, give_word, give_new}

module _ (numeral : ℕ → Option (List ℕ)) (reading : List ℕ → Option ℕ) (lawful : Lawful numeral) (inverse : Inverse numeral reading) where
  -- a value that leaves the state as it was
  abbrev pub Plain : Trees → Val → Type 0
  Plain ts v = (s : State) → Gives reading ts s (record { val = v; state = s })

  pub plain_made : (ts : Trees) (v : Val) (s : State) (m : Made) → Plain ts v → made v s ≡ Some m → Gives reading ts s m
  plain_made ts v s m p e = subst (λ z. Gives reading ts s z) (some_is e) (p s)

  pub name_gives : (n : ℕ) (v : Val) (s : State) → Small n → lookup s.names n ≡ Some v → Gives reading (one (name_tree n)) s (record { val = v; state = s })
  name_gives n v s small e = give_word reading (118 ∷ decimal n) v s (not_new n) (word_name n small s ∙ e)

  pub integer_gives : (z : ℤ) → nat_abs z ≤ 9007199254740991 → Plain (one (leaf (number (signed_decimal z)))) (stores.number (whole_double z))
  integer_gives z small s = give_number reading (signed_decimal z) (stores.number (whole_double z)) s (number_whole numeral reading lawful inverse z small)

  pub bigint_gives : (t : Text) → is_big_int t ≡ true → Plain (one (leaf (number (t ++ (110 ∷ []))))) (big (big_value t))
  bigint_gives t ok s = give_number reading (t ++ (110 ∷ [])) (big (big_value t)) s (number_bigint reading t ok)

  pub number_gives : (n : ℕ) → Small n → Plain (one (number_tree n)) (count n)
  number_gives n small = integer_gives (pos n) (small_whole (pos n) small)

  pub boolean_gives : (b : Bool) → Plain (one (word_tree (boolean_word b))) (boolean b)
  boolean_gives true s = give_word reading (codes "true") (boolean true) s refl refl
  boolean_gives false s = give_word reading (codes "false") (boolean false) s refl refl

  not_finite_lem : (bits : ℕ) (a b : Bool) → eqb bits 9218868437227405312 ≡ a → eqb bits 18442240474082181120 ≡ b
      → Plain (cond a (one (word_tree (codes "Infinity"))) (cond b (cons (leaf (mark 45)) (one (word_tree (codes "Infinity")))) (one (word_tree (codes "NaN")))))
      (stores.number (cond a bits (cond b bits 9221120237041090560)))
  not_finite_lem bits true b d e s =
      subst (λ z. Gives reading (one (word_tree (codes "Infinity"))) s (record { val = stores.number z; state = s })) (sym (eqb-true bits 9218868437227405312 d)) (give_word reading (codes "Infinity") _ s refl refl)
  not_finite_lem bits false true d e s =
      subst (λ z. Gives reading (cons (leaf (mark 45)) (one (word_tree (codes "Infinity")))) s (record { val = stores.number z; state = s })) (sym (eqb-true bits 18442240474082181120 e)) (record { free = refl; evals = refl })
  not_finite_lem bits false false d e s = give_word reading (codes "NaN") _ s refl refl

  pub double_gives : (bits : ℕ) → Spelled numeral bits → Plain (double_trees numeral bits) (stores.number (canonical bits))
  double_gives bits spelled s = go (finite bits) refl
    where
      go : (b : Bool) → finite bits ≡ b
          → Gives reading (cond b (numeral_trees (numeral bits)) (not_finite_trees bits)) s
          (record { val = stores.number (cond b bits (cond (eqb bits 9218868437227405312) bits (cond (eqb bits 18442240474082181120) bits 9221120237041090560))); state = s })
      go true f =
          let t = spelled f in
          subst (λ o. Gives reading (numeral_trees o) s (record { val = stores.number bits; state = s })) (sym t.1) (give_number reading t.0 (stores.number bits) s (number_double numeral reading lawful inverse bits t.0 t.1))
      go false f = not_finite_lem bits (eqb bits 9218868437227405312) (eqb bits 18442240474082181120) refl refl s

  pub value_gives : (v : Value) → ValueReadable numeral v → (s : State) (m : Made) → and_then (plain_val v) (λ w. made w s) ≡ Some m → Gives reading (value_trees numeral v) s m
  value_gives heaps.undefined r s m e = plain_made (value_trees numeral heaps.undefined) undefined s m (λ t. give_word reading (codes "undefined") undefined t refl refl) e
  value_gives heaps.null r s m e = plain_made (value_trees numeral heaps.null) null s m (λ t. give_word reading (codes "null") null t refl refl) e
  value_gives heaps.hole r s m e = absurd r
  value_gives (heaps.boolean b) r s m e = plain_made (value_trees numeral (heaps.boolean b)) (boolean b) s m (boolean_gives b) e
  value_gives (heaps.whole z) r s m e = plain_made (value_trees numeral (heaps.whole z)) (stores.number (whole_double z)) s m (integer_gives z (small_whole z r)) e
  value_gives (heaps.double bits) r s m e = plain_made (value_trees numeral (heaps.double bits)) (stores.number (canonical bits)) s m (double_gives bits r) e
  value_gives (heaps.bigint t) r s m e = plain_made (value_trees numeral (heaps.bigint t)) (big (big_value t)) s m (bigint_gives t r) e
  value_gives (heaps.text t) r s m e = plain_made (value_trees numeral (heaps.text t)) (stores.text t) s m (give_string reading t) e
  value_gives (heaps.object o) r s m e = absurd r

  -- new W(..) of one plain value, and of two
  pub new_of_one : (w : List ℕ) (ts : Trees) (v : Val) (s : State) (m : Made) → Plain ts v → construct w (v ∷ []) s ≡ Some m → Gives reading (new_trees w ts nil) s m
  new_of_one w ts v s m p c = give_new reading w ts s (record { vals = Some v ∷ []; state = s }) (v ∷ []) m (give_last reading ts [] s (record { val = v; state = s }) (p s)) refl c

  pub two_plain : (ts us : Trees) (v w : Val) (s : State) → Plain ts v → Plain us w → eval_list reading (append_t ts (cons comma us)) nothing [] s ≡ Some (record { vals = Some v ∷ Some w ∷ []; state = s })
  two_plain ts us v w s p q = give_comma reading ts us [] s (record { val = v; state = s }) (p s) ∙ give_last reading us (Some v ∷ []) s (record { val = w; state = s }) (q s)
