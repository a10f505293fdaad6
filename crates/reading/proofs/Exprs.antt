-- The trees of an expression give what it makes.
use Rattle.std.proofs.Common.{◌≡◌, ℕ, Bool, true, false, cond, not, List, [], ◌∷◌, ◌++◌, length, Some, None, codes, Option, sym, refl, ap, ◌∙◌, subst, append_assoc, append-nil, arith}
use Rattle.dump.specs.declared.kinds.ViewKind.{ViewKind}
use Rattle.dump.specs.declared.kinds.ErrorName.{ErrorName}
use Rattle.dump.specs.Heaps.{Text, Key, index, name}
use Rattle.numeral.specs.Words.{same_units}
use Rattle.speller.specs.Spelling.{Lawful}
use Rattle.script.specs.Syntax as syntax
use Rattle.script.specs.Syntax.{braces, brackets, map_group, set_group, error_group, view_group, Expr, value, form, group, Items, none, item, keyed, pair}
use Rattle.script.specs.Texts.{view_name, error_word}
use Rattle.evaluator.specs.Options.{and_then, when, nth}
use Rattle.evaluator.specs.Tokens.{string}
use Rattle.evaluator.specs.Trees.{leaf, node, Trees, nil, cons}
use Rattle.evaluator.specs.Stores as stores
use Rattle.evaluator.specs.Stores.{Val, undefined, ref, ordinary, array, mapping, setting, error, Slot, single, Obj, State, Made, make, with_key, map_set}
use Rattle.evaluator.specs.Makes.{key_in, entries, entry, list_of, members, view_on}
use Rattle.evaluator.specs.Runs.{nothing, Listed, all_vals, element_slots, only_val, want_key, want_colon, eval_list, eval_key, eval_braces}
use Rattle.evaluator.specs.Isomorphic.{key_text}
use Rattle.effects.specs.Effects.{count, grown, KeysMade, PairsMade, map_from, somes, cause_key, offset_of, expr_made, row_made, keys_made, pairs_made, error_made, first_made}
use Rattle.effects.specs.Readable.{KeyReadable, NoHole, GroupReadable, ExprReadable, ItemsReadable}
use Rattle.leaves.proofs.Wholes.{key_in_lem}
use Rattle.leaves.proofs.Lists.{array_list}
use Rattle.leaves.proofs.Constructs.{new_map_made, new_set_made, message_val, error_plain, error_message, error_cause, view_at_lem, view_part, view_whole, nth_at}
use Rattle.traces.specs.Theorem.{Inverse}
use Rattle.reading.specs.Trees.{append_t, one, comma, colon, word_tree, number_tree, new_trees, argument_trees, key_tree, message_tree, expr_trees, row_trees, error_trees, inside_trees}
use Rattle.effects.proofs.Options.{none_some, some_is, taken}
use Rattle.reading.proofs.Grown as trees
use Rattle.reading.proofs.Grows.{Grew, grew_more, with, pairs_grew}
use Rattle.reading.proofs.Steps.{Gives, give_comma, give_last, give_string, give_word, give_array, give_braces, brace_comma, give_new}
use Rattle.reading.proofs.Values.{number_gives, value_gives, new_of_one}
use Rattle.reading.proofs.Forms.{form_gives}

-- a row without holes is all there
row_all : (is : Items) → NoHole is → (s : State) (l : Listed) → row_made is s ≡ Some l → all_vals l.vals ≡ Some (somes l.vals)
row_all none n s l e = subst (λ z. all_vals z.vals ≡ Some (somes z.vals)) (some_is e) refl
row_all (syntax.hole is) n s l e = absurd n
row_all (item e is) n s l d =
    let t = taken (expr_made e s) _ l d in
    let u = taken (row_made is t.0.state) _ l t.2 in
    subst (λ z. all_vals z.vals ≡ Some (somes z.vals)) (some_is u.2) (ap (λ z. and_then z (λ us. Some (t.0.val ∷ us))) (row_all is n t.0.state u.0 u.1))
row_all (keyed k e is) n s l d = absurd (none_some d)
row_all (pair e f is) n s l d = absurd (none_some d)

-- an object that a later state still has
kept : (s : State) (o : Obj) (t : State) → Grew (grown s (o ∷ [])) t → nth t.objects (length s.objects) ≡ Some o
kept s o t g = ap (λ z. nth z.objects (length s.objects)) g.1 ∙ (ap (λ z. nth z (length s.objects)) (append_assoc s.objects (o ∷ []) g.0) ∙ nth_at s.objects (o ∷ g.0) (length s.objects) 0 (omega arith))

-- the entries of a Map, read off the arrays that were made for them
pub record Entries (p : PairsMade) (t : State) (ss : List Slot) : Type 0 where
  pub vals : List Val
  pub all : all_vals p.arrays ≡ Some vals
  pub sets : entries t vals ss ≡ Some (map_from p.pairs ss)

-- the parts of an entry and those behind it
record Entry (e f : Expr) (is : Items) (s : State) (p : PairsMade) : Type 0 where
  key : Made
  key_is_lem : expr_made e s ≡ Some key
  val : Made
  val_is : expr_made f key.state ≡ Some val
  rest : PairsMade
  rest_is : pairs_made is (with (array 2) (element_slots 0 (Some key.val ∷ Some val.val ∷ [])) val.state) ≡ Some rest
  all_is : record { pairs = stores.pair key.val val.val ∷ rest.pairs; arrays = Some (ref (length val.state.objects)) ∷ rest.arrays; state = rest.state } ≡ p

entry_of : (e f : Expr) (is : Items) (s : State) (p : PairsMade) → pairs_made (pair e f is) s ≡ Some p → Entry e f is s p
entry_of e f is s p d =
    let x = taken (expr_made e s) _ p d in
    let y = taken (expr_made f x.0.state) _ p x.2 in
    let w = taken (pairs_made is (with (array 2) (element_slots 0 (Some x.0.val ∷ Some y.0.val ∷ [])) y.0.state)) _ p y.2 in
    record { key = x.0; key_is_lem = x.1; val = y.0; val_is = y.1; rest = w.0; rest_is = w.1; all_is = some_is w.2 }

pairs_entries : (is : Items) (s : State) (p : PairsMade) → pairs_made is s ≡ Some p → (t : State) → Grew p.state t → (ss : List Slot) → Entries p t ss
pairs_entries none s p e t g ss = subst (λ z. Entries z t ss) (some_is e) (record { vals = []; all = refl; sets = refl })
pairs_entries (syntax.hole is) s p e t g ss = absurd (none_some e)
pairs_entries (item e is) s p d t g ss = absurd (none_some d)
pairs_entries (keyed k e is) s p d t g ss = absurd (none_some d)
pairs_entries (pair e f is) s p d t g ss = go (entry_of e f is s p d) (λ q r. pairs_entries is q r)
  where
    go : Entry e f is s p → ((q : State) (r : PairsMade) → pairs_made is q ≡ Some r → (u : State) → Grew r.state u → (us : List Slot) → Entries r u us) → Entries p t ss
    go x ih =
        let n : ℕ = length x.val.state.objects in
        let kv : List (Option Val) = Some x.key.val ∷ Some x.val.val ∷ [] in
        let two : State = with (array 2) (element_slots 0 kv) x.val.state in
        let g' : Grew x.rest.state t = subst (λ z. Grew z.state t) (sym x.all_is) g in
        let r = ih two x.rest x.rest_is t g' (map_set x.key.val x.val.val ss) in
        let l : list_of t (ref n) ≡ Some (x.key.val ∷ x.val.val ∷ []) =
        array_list t n kv (x.key.val ∷ x.val.val ∷ []) (kept x.val.state _ t (grew_more two x.rest.state t (pairs_grew is two x.rest x.rest_is) g')) refl in
        subst (λ z. Entries z t ss) x.all_is
        (record {
          vals = ref n ∷ r.vals;
          all = ap (λ z. and_then z (λ us. Some (ref n ∷ us))) r.all;
          sets = ap (λ z. and_then (and_then z (λ w. entry w ss)) (entries t r.vals)) l ∙ r.sets;
        })

module _ (numeral : ℕ → Option (List ℕ)) (reading : List ℕ → Option ℕ) (lawful : Lawful numeral) (inverse : Inverse numeral reading) where
  -- keys in braces
  key_evals : (k : Key) → KeyReadable k → (s : State) → eval_key reading (key_tree k) s ≡ Some (record { key = key_text k; key_state = s })
  key_evals (index n) r s =
      ap (λ z. and_then z (λ l. and_then (and_then (only_val l.vals) key_in) (λ k. Some (record { key = k; key_state = l.state }))))
      (give_last reading (one (number_tree n)) [] s (record { val = count n; state = s }) (number_gives numeral reading lawful inverse n r s))
      ∙ ap (λ z. and_then z (λ k. Some (record { key = k; key_state = s }))) (key_in_lem n (omega arith))
  key_evals (name t) r s = go (same_units t (codes "__proto__")) refl
    where
      go : (b : Bool) → same_units t (codes "__proto__") ≡ b → eval_key reading (cond b (node 91 (one (leaf (string t)))) (leaf (string t))) s ≡ Some (record { key = t; key_state = s })
      go true e = refl
      go false e = ap (λ b. when (not b) (Some (record { key = t; key_state = s }))) e

  message_gives : (m : Option Text) (s : State) → Gives reading (one (message_tree m)) s (record { val = message_val m; state = s })
  message_gives None s = give_word reading (codes "undefined") undefined s refl refl
  message_gives (Some t) s = give_string reading t s

  -- a view on a buffer that was made
  view_gives : (k : ViewKind) (o n : Option ℕ) → GroupReadable numeral (view_group k o n) → (ts : Trees) (s : State) (b m : Made) → Gives reading ts s b → view_on k b.val (offset_of o) n b.state ≡ Some m
      → Gives reading (new_trees (view_name k) (append_t ts (append_t (argument_trees o) (argument_trees n))) nil) s m
  view_gives k None None r ts s b m g e =
      give_new reading (view_name k) (append_t ts nil) s (record { vals = Some b.val ∷ []; state = b.state }) (b.val ∷ []) m
      (ap (λ z. eval_list reading z nothing [] s) (trees.append-nil ts) ∙ give_last reading ts [] s b g) refl (view_whole k b.state b.val m e)
  view_gives k None (Some n) r ts s b m g e = absurd r
  view_gives k (Some o) None r ts s b m g e =
      give_new reading (view_name k) (append_t ts (cons comma (one (number_tree o)))) s (record { vals = Some b.val ∷ Some (count o) ∷ []; state = b.state }) (b.val ∷ count o ∷ []) m
      (give_comma reading ts (one (number_tree o)) [] s b g ∙ give_last reading (one (number_tree o)) (Some b.val ∷ []) b.state (record { val = count o; state = b.state }) (number_gives numeral reading lawful inverse o r.0 b.state)) refl
      (view_at_lem k b.state b.val o (omega (arith, r.0)) ∙ e)
  view_gives k (Some o) (Some n) r ts s b m g e =
      give_new reading (view_name k) (append_t ts (cons comma (cons (number_tree o) (cons comma (one (number_tree n)))))) s (record { vals = Some b.val ∷ Some (count o) ∷ Some (count n) ∷ []; state = b.state }) (b.val ∷ count o ∷ count n ∷ []) m
      (give_comma reading ts (cons (number_tree o) (cons comma (one (number_tree n)))) [] s b g
      ∙ (give_comma reading (one (number_tree o)) (one (number_tree n)) (Some b.val ∷ []) b.state (record { val = count o; state = b.state }) (number_gives numeral reading lawful inverse o r.0 b.state)
      ∙ give_last reading (one (number_tree n)) (Some b.val ∷ Some (count o) ∷ []) b.state (record { val = count n; state = b.state }) (number_gives numeral reading lawful inverse n r.1 b.state))) refl
      (view_part k b.state b.val o n (omega (arith, r.0)) (omega (arith, r.1)) ∙ e)

  -- a cause in an object of its own
  caused : (ts : Trees) (n : ErrorName) (x : Option Text) (s : State) (c m : Made) → Gives reading ts s c → make (error n x None) (single c.val ∷ []) (with ordinary (stores.keyed cause_key c.val ∷ []) c.state) ≡ Some m
      → Gives reading (new_trees (error_word n) (cons (message_tree x) (cons comma (one (node 123 (cons (word_tree cause_key) (cons colon (append_t ts (one comma)))))))) nil) s m
  caused ts n x s c m g e =
      let t : State = with ordinary (stores.keyed cause_key c.val ∷ []) c.state in
      let o : Val = ref (length c.state.objects) in
      let inner : Trees = cons (word_tree cause_key) (cons colon (append_t ts (one comma))) in
      give_new reading (error_word n) (cons (message_tree x) (cons comma (one (node 123 inner)))) s (record { vals = Some (message_val x) ∷ Some o ∷ []; state = t }) (message_val x ∷ o ∷ []) m
      (give_comma reading (one (message_tree x)) (one (node 123 inner)) [] s (record { val = message_val x; state = s }) (message_gives x s)
      ∙ give_last reading (one (node 123 inner)) (Some (message_val x) ∷ []) s (record { val = o; state = t })
      (give_braces reading inner s (record { made_slots = stores.keyed cause_key c.val ∷ []; then_state = c.state }) (record { val = o; state = t }) (brace_comma reading ts nil cause_key [] s c g) refl)) refl
      (error_cause t n x (length c.state.objects) c.val (nth_at c.state.objects _ (length c.state.objects) 0 (omega arith)) ∙ e)

  -- a Map and a Set, from the array that was made
  map_gives : (is : Items) (s : State) (p : PairsMade) (m : Made) → pairs_made is s ≡ Some p → eval_list reading (row_trees numeral is) nothing [] s ≡ Some (record { vals = p.arrays; state = p.state })
      → make mapping (map_from p.pairs []) (with (array (length p.arrays)) (element_slots 0 p.arrays) p.state) ≡ Some m → Gives reading (new_trees (codes "Map") (one (node 91 (row_trees numeral is))) nil) s m
  map_gives is s p m d g e =
      let t : State = with (array (length p.arrays)) (element_slots 0 p.arrays) p.state in
      let n : ℕ = length p.state.objects in
      let x = pairs_entries is s p d t (_ ∷ [], refl) [] in
      give_new reading (codes "Map") (one (node 91 (row_trees numeral is))) s (record { vals = Some (ref n) ∷ []; state = t }) (ref n ∷ []) m
      (give_last reading (one (node 91 (row_trees numeral is))) [] s (record { val = ref n; state = t }) (give_array reading (row_trees numeral is) s (record { vals = p.arrays; state = p.state }) (record { val = ref n; state = t }) g refl)) refl
      (new_map_made t (ref n) x.vals (map_from p.pairs []) (array_list t n p.arrays x.vals (nth_at p.state.objects _ n 0 (omega arith)) x.all) x.sets ∙ e)

  set_gives : (is : Items) → NoHole is → (s : State) (l : Listed) (m : Made) → row_made is s ≡ Some l → eval_list reading (row_trees numeral is) nothing [] s ≡ Some l
      → make setting (members (somes l.vals) []) (with (array (length l.vals)) (element_slots 0 l.vals) l.state) ≡ Some m → Gives reading (new_trees (codes "Set") (one (node 91 (row_trees numeral is))) nil) s m
  set_gives is full s l m d g e =
      let t : State = with (array (length l.vals)) (element_slots 0 l.vals) l.state in
      let n : ℕ = length l.state.objects in
      give_new reading (codes "Set") (one (node 91 (row_trees numeral is))) s (record { vals = Some (ref n) ∷ []; state = t }) (ref n ∷ []) m
      (give_last reading (one (node 91 (row_trees numeral is))) [] s (record { val = ref n; state = t }) (give_array reading (row_trees numeral is) s l (record { val = ref n; state = t }) g refl)) refl
      (new_set_made t (ref n) (somes l.vals) (array_list t n l.vals (somes l.vals) (nth_at l.state.objects _ n 0 (omega arith)) (row_all is full s l d)) ∙ e)

  -- a row with one value more
  more : (vs : List (Option Val)) (v : Option Val) (us : List (Option Val)) (t : State) (l : Listed) → record { vals = v ∷ us; state = t } ≡ l
      → ◌≡◌ {A = Option Listed} (Some (record { vals = (vs ++ (v ∷ [])) ++ us; state = t })) (Some (record { vals = vs ++ l.vals; state = l.state }))
  more vs v us t l e = ap (λ z. Some (record { vals = z; state = t })) (append_assoc vs (v ∷ []) us) ∙ ap (λ z. Some (record { vals = vs ++ z.vals; state = z.state })) e

  mutual
    pub expr_gives : (e : Expr) → ExprReadable numeral e → (s : State) (m : Made) → expr_made e s ≡ Some m → Gives reading (expr_trees numeral e) s m
    expr_gives (value v) r s m e = value_gives numeral reading lawful inverse v r s m e
    expr_gives (form x) r s m e = form_gives numeral reading lawful inverse x r s m e
    expr_gives (group braces is) r s m e =
        let t = taken (keys_made is [] s) _ m e in
        give_braces reading (row_trees numeral is) s (record { made_slots = t.0.slots; then_state = t.0.state }) m (keys_eval is r.1 [] s t.0 t.1) t.2
    expr_gives (group brackets is) r s m e =
        let t = taken (row_made is s) _ m e in give_array reading (row_trees numeral is) s t.0 m (rows_eval is r.1 [] s t.0 t.1) t.2
    expr_gives (group map_group is) r s m e = let t = taken (pairs_made is s) _ m e in map_gives is s t.0 m t.1 (pairs_eval is r.1 [] s t.0 t.1) t.2
    expr_gives (group set_group is) r s m e = let t = taken (row_made is s) _ m e in set_gives is r.2 s t.0 m t.1 (rows_eval is r.1 [] s t.0 t.1) t.2
    expr_gives (group (error_group n x) is) r s m e = error_gives is r.1 n x s m e
    expr_gives (group (view_group k o n) is) r s m e =
        let t = taken (first_made is s) _ m e in view_gives k o n r.0 (inside_trees numeral is) s t.0 m (first_gives is r.1 s t.0 t.1) t.2

    rows_eval : (is : Items) → ItemsReadable numeral is → (vs : List (Option Val)) (s : State) (l : Listed) → row_made is s ≡ Some l
        → eval_list reading (row_trees numeral is) nothing vs s ≡ Some (record { vals = vs ++ l.vals; state = l.state })
    rows_eval none r vs s l e = ap (λ z. Some (record { vals = z; state = s })) (sym (append-nil vs)) ∙ ap (λ z. Some (record { vals = vs ++ z.vals; state = z.state })) (some_is e)
    rows_eval (syntax.hole is) r vs s l e =
        let t = taken (row_made is s) _ l e in rows_eval is r (vs ++ (None ∷ [])) s t.0 t.1 ∙ more vs None t.0.vals t.0.state l (some_is t.2)
    rows_eval (item x is) r vs s l e =
        let t = taken (expr_made x s) _ l e in
        let u = taken (row_made is t.0.state) _ l t.2 in
        give_comma reading (expr_trees numeral x) (row_trees numeral is) vs s t.0 (expr_gives x r.0 s t.0 t.1)
        ∙ (rows_eval is r.1 (vs ++ (Some t.0.val ∷ [])) t.0.state u.0 u.1 ∙ more vs (Some t.0.val) u.0.vals u.0.state l (some_is u.2))
    rows_eval (keyed k x is) r vs s l e = absurd (none_some e)
    rows_eval (pair x y is) r vs s l e = absurd (none_some e)

    keys_eval : (is : Items) → ItemsReadable numeral is → (ss : List Slot) (s : State) (b : KeysMade) → keys_made is ss s ≡ Some b
        → eval_braces reading (row_trees numeral is) want_key ss s ≡ Some (record { made_slots = b.slots; then_state = b.state })
    keys_eval none r ss s b e = ap (λ z. Some (record { made_slots = z.slots; then_state = z.state })) (some_is e)
    keys_eval (syntax.hole is) r ss s b e = absurd (none_some e)
    keys_eval (item x is) r ss s b e = absurd (none_some e)
    keys_eval (keyed k x is) r ss s b e =
        let t = taken (expr_made x s) _ b e in
        ap (λ z. and_then z (λ y. eval_braces reading (cons colon (append_t (expr_trees numeral x) (cons comma (row_trees numeral is)))) (want_colon y.key) ss y.key_state)) (key_evals k r.0 s)
        ∙ (brace_comma reading (expr_trees numeral x) (row_trees numeral is) (key_text k) ss s t.0 (expr_gives x r.1 s t.0 t.1)
        ∙ keys_eval is r.2 (with_key (key_text k) t.0.val ss) t.0.state b t.2)
    keys_eval (pair x y is) r ss s b e = absurd (none_some e)

    pairs_eval : (is : Items) → ItemsReadable numeral is → (vs : List (Option Val)) (s : State) (p : PairsMade) → pairs_made is s ≡ Some p
        → eval_list reading (row_trees numeral is) nothing vs s ≡ Some (record { vals = vs ++ p.arrays; state = p.state })
    pairs_eval none r vs s p e = ap (λ z. Some (record { vals = z; state = s })) (sym (append-nil vs)) ∙ ap (λ z. Some (record { vals = vs ++ z.arrays; state = z.state })) (some_is e)
    pairs_eval (syntax.hole is) r vs s p e = absurd (none_some e)
    pairs_eval (item x is) r vs s p e = absurd (none_some e)
    pairs_eval (keyed k x is) r vs s p e = absurd (none_some e)
    pairs_eval (pair x y is) r vs s p e =
        let z = entry_of x y is s p e in
        let v : Val = ref (length z.val.state.objects) in
        let two : State = with (array 2) (element_slots 0 (Some z.key.val ∷ Some z.val.val ∷ [])) z.val.state in
        let inner : Trees = append_t (expr_trees numeral x) (cons comma (expr_trees numeral y)) in
        give_comma reading (one (node 91 inner)) (row_trees numeral is) vs s (record { val = v; state = two })
        (give_array reading inner s (record { vals = Some z.key.val ∷ Some z.val.val ∷ []; state = z.val.state }) (record { val = v; state = two })
        (give_comma reading (expr_trees numeral x) (expr_trees numeral y) [] s z.key (expr_gives x r.0 s z.key z.key_is_lem)
        ∙ give_last reading (expr_trees numeral y) (Some z.key.val ∷ []) z.key.state z.val (expr_gives y r.1 z.key.state z.val z.val_is)) refl)
        ∙ (pairs_eval is r.2 (vs ++ (Some v ∷ [])) two z.rest z.rest_is
        ∙ (ap (λ us. Some (record { vals = us; state = z.rest.state })) (append_assoc vs (Some v ∷ []) z.rest.arrays)
        ∙ ap (λ q. Some (record { vals = vs ++ q.arrays; state = q.state })) z.all_is))

    error_gives : (is : Items) → ItemsReadable numeral is → (n : ErrorName) (x : Option Text) (s : State) (m : Made) → error_made is n x s ≡ Some m → Gives reading (new_trees (error_word n) (error_trees numeral is x) nil) s m
    error_gives none r n None s m e = give_new reading (error_word n) nil s (record { vals = []; state = s }) [] m refl refl (error_plain s n ∙ e)
    error_gives none r n (Some t) s m e = new_of_one numeral reading lawful inverse (error_word n) (one (leaf (string t))) (stores.text t) s m (give_string reading t) (error_message s n t ∙ e)
    error_gives (syntax.hole is) r n x s m e = absurd (none_some e)
    error_gives (item c is) r n x s m e = let t = taken (expr_made c s) _ m e in caused (expr_trees numeral c) n x s t.0 m (expr_gives c r.0 s t.0 t.1) t.2
    error_gives (keyed k c is) r n x s m e = absurd (none_some e)
    error_gives (pair c d is) r n x s m e = absurd (none_some e)

    first_gives : (is : Items) → ItemsReadable numeral is → (s : State) (m : Made) → first_made is s ≡ Some m → Gives reading (inside_trees numeral is) s m
    first_gives none r s m e = absurd (none_some e)
    first_gives (syntax.hole is) r s m e = absurd (none_some e)
    first_gives (item x is) r s m e = expr_gives x r.0 s m e
    first_gives (keyed k x is) r s m e = absurd (none_some e)
    first_gives (pair x y is) r s m e = absurd (none_some e)
