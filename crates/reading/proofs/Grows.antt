-- An expression only appends to the store: what was there stays, and names stay.
use Rattle.std.proofs.Common.{◌≡◌, ℕ, ◌+◌, ◌-◌, ◌*◌, ◌/◌, ◌%◌, Bool, true, false, cond, eqb, List, [], ◌∷◌, ◌++◌, length, is_some, Some, None, Option, sym, refl, ap, ◌∙◌, subst, append_assoc, append-nil}
use Rattle.dump.specs.declared.kinds.ViewKind.{ViewKind}
use Rattle.dump.specs.declared.kinds.ErrorName.{ErrorName}
use Rattle.dump.specs.Heaps.{Text}
use Rattle.script.specs.Syntax as syntax
use Rattle.script.specs.Syntax.{Form, named, buffer_of_named, circular, new_boolean, new_number, new_bigint, new_string, new_regexp, new_date, new_array, empty_map_form, empty_set_form, buffer_form, new_resizable, data_buffer, new_typed, typed_part, braces, brackets, map_group, set_group, error_group, view_group, Expr, value, form, group, Items, none, item}
use Rattle.evaluator.specs.Options.{when}
use Rattle.evaluator.specs.Stores as stores
use Rattle.evaluator.specs.Stores.{Val, Shape, view, error, ordinary, array, mapping, setting, Slot, single, Obj, State, Made, made, make, lookup}
use Rattle.evaluator.specs.Makes.{zeros, members, BufferHeld, ViewHeld, view_on, place_view, buffer_at, view_at, subarray, subarray_of, part, count_in, index_in, is_typed, width_of}
use Rattle.evaluator.specs.Runs.{Listed, element_slots}
use Rattle.effects.specs.Effects.{grown, plain_val, form_made, KeysMade, PairsMade, offset_of, expr_made, row_made, keys_made, pairs_made, error_made, first_made, typed_state, typed_made, typed_ref, some_args, count, maximum_key, cause_key, map_from, somes}
use Rattle.effects.proofs.Options.{none_some, some_is, taken, when_taken}

-- the later state is the earlier with more objects
abbrev pub Grew : State → State → Type 0
Grew s t = (new : List Obj) × (t ≡ grown s new)

pub grew_none : (s : State) → Grew s s
grew_none s = ([], ap (λ z. record { objects = z; names = s.names }) (sym (append-nil s.objects)))

pub grew_more : (s t u : State) → Grew s t → Grew t u → Grew s u
grew_more s t u g h =
    (g.0 ++ h.0, h.1 ∙ (ap (λ z. grown z h.0) g.1 ∙ ap (λ z. record { objects = z; names = s.names }) (append_assoc s.objects g.0 h.0)))

grew_made : (v : Val) (s t : State) (m : Made) → Grew s t → made v t ≡ Some m → Grew s m.state
grew_made v s t m g e = subst (λ z. Grew s z.state) (some_is e) g

-- the state with one object more
abbrev pub with : Shape → List Slot → State → State
with sh ss s = grown s (record { shape = sh; slots = ss } ∷ [])

-- a step, and one object more before the last
grew_two : (sh : Shape) (ss : List Slot) (sh' : Shape) (ss' : List Slot) (s t : State) (m : Made) → Grew s t → make sh' ss' (with sh ss t) ≡ Some m → Grew s m.state
grew_two sh ss sh' ss' s t m g e = grew_made _ s _ m (grew_more s t _ g (grew_more t (with sh ss t) _ (record { shape = sh; slots = ss } ∷ [], refl) (record { shape = sh'; slots = ss' } ∷ [], refl))) e

pub grew_make : (sh : Shape) (ss : List Slot) (s : State) (m : Made) → make sh ss s ≡ Some m → Grew s m.state
grew_make sh ss s m e = grew_made _ s _ m (record { shape = sh; slots = ss } ∷ [], refl) e

-- views
place_view_lem : (k : ViewKind) (on : Val) (o : ℕ) (n : Option ℕ) (b : BufferHeld) (s : State) (m : Made) → place_view k on o n b s ≡ Some m → Grew s m.state
place_view_lem k on o (Some n) b s m e = grew_make _ _ s m (when_taken _ _ m e).1
place_view_lem k on o None b s m e = go (is_some b.maximum) (when_taken _ _ m e).1
  where
    go : (t : Bool) → cond t (make (view k o None) (single on ∷ []) s) (when (eqb (length b.bytes % width_of k) 0) (make (view k o (Some ((length b.bytes - o) / width_of k))) (single on ∷ []) s)) ≡ Some m → Grew s m.state
    go true d = grew_make _ _ s m d
    go false d = grew_make _ _ s m (when_taken _ _ m d).1

pub grew_view : (k : ViewKind) (on : Val) (o : ℕ) (n : Option ℕ) (s : State) (m : Made) → view_on k on o n s ≡ Some m → Grew s m.state
grew_view k on o n s m e = let t = taken (buffer_at s on) _ m e in place_view_lem k on o n t.0 s m t.2

grew_part : (v : ViewHeld) (a b : ℕ) (s : State) (m : Made) → part v a b s ≡ Some m → Grew s m.state
grew_part v a b s m e = grew_view v.kind v.on (v.offset + a * width_of v.kind) (Some (b - a)) s m (when_taken (is_typed v.kind) _ m e).1

subarray_of_lem : (v : ViewHeld) (n : ℕ) (vs : List Val) (s : State) (m : Made) → subarray_of v n vs s ≡ Some m → Grew s m.state
subarray_of_lem v n [] s m e = grew_part v 0 n s m e
subarray_of_lem v n (a ∷ []) s m e = let t = taken (index_in a) _ m e in grew_part v _ n s m t.2
subarray_of_lem v n (a ∷ b ∷ []) s m e = let t = taken (index_in a) _ m e in let u = taken (index_in b) _ m t.2 in grew_part v _ _ s m u.2
subarray_of_lem v n (a ∷ b ∷ x ∷ xs) s m e = absurd (none_some e)

pub grew_subarray : (v : Val) (vs : List Val) (s : State) (m : Made) → subarray v vs s ≡ Some m → Grew s m.state
grew_subarray v vs s m e =
    let t = taken (view_at s v) _ m e in
    let u = taken (buffer_at s t.0.on) _ m t.2 in
    subarray_of_lem t.0 (count_in t.0 u.0) vs s m (when_taken (is_some t.0.count) _ m u.2).1

grew_typed : (k : ViewKind) (bytes : List ℕ) (s : State) → Grew s (typed_state k bytes s)
grew_typed k bytes s = (typed_made k bytes (length s.objects), refl)

pub form_grew : (f : Form) (s : State) (m : Made) → form_made f s ≡ Some m → Grew s m.state
form_grew (named n) s m e = let t = taken (lookup s.names n) _ m e in grew_made _ s s m (grew_none s) t.2
form_grew (buffer_of_named n) s m e = let t = taken (lookup s.names n) _ m e in let u = taken (view_at s t.0) _ m t.2 in grew_made _ s s m (grew_none s) u.2
form_grew circular s m e = grew_made _ s s m (grew_none s) e
form_grew (new_boolean b) s m e = grew_make _ _ s m e
form_grew (new_number bits) s m e = grew_make _ _ s m e
form_grew (new_bigint t) s m e = grew_make _ _ s m e
form_grew (new_string t) s m e = grew_make _ _ s m e
form_grew (new_regexp t flags) s m e = grew_make _ _ s m e
form_grew (new_date time) s m e = grew_make _ _ s m e
form_grew (new_array n) s m e = grew_make _ _ s m e
form_grew empty_map_form s m e = grew_make _ _ s m e
form_grew empty_set_form s m e = grew_make _ _ s m e
form_grew (buffer_form n) s m e = grew_make _ _ s m e
form_grew (new_resizable n k) s m e = grew_two ordinary (stores.keyed maximum_key (count k) ∷ []) (stores.buffer (zeros n) (Some k)) [] s s m (grew_none s) e
form_grew (data_buffer k bytes) s m e = grew_made _ s _ m (grew_typed k bytes s) e
form_grew (new_typed k bytes) s m e = grew_made _ s _ m (grew_typed k bytes s) e
form_grew (typed_part k bytes a b) s m e = grew_more s (typed_state k bytes s) m.state (grew_typed k bytes s) (grew_subarray (typed_ref k bytes s) (count a ∷ count b ∷ []) (typed_state k bytes s) m e)
form_grew (syntax.subarray n a b) s m e = let t = taken (lookup s.names n) _ m e in grew_subarray t.0 (some_args a ++ some_args b) s m t.2

-- what came out was this
came : {A : Type 0} (f : A → State) (s : State) (a b : A) → ◌≡◌ {A = Option A} (Some a) (Some b) → Grew s (f a) → Grew s (f b)
came f s a b e g = subst (λ z. Grew s (f z)) (some_is e) g

mutual
  pub expr_grew : (e : Expr) (s : State) (m : Made) → expr_made e s ≡ Some m → Grew s m.state
  expr_grew (value v) s m e = let t = taken (plain_val v) _ m e in grew_made _ s s m (grew_none s) t.2
  expr_grew (form f) s m e = form_grew f s m e
  expr_grew (group braces is) s m e = let t = taken (keys_made is [] s) _ m e in grew_more s t.0.state m.state (keys_grew is [] s t.0 t.1) (grew_make _ _ t.0.state m t.2)
  expr_grew (group brackets is) s m e = let t = taken (row_made is s) _ m e in grew_more s t.0.state m.state (row_grew is s t.0 t.1) (grew_make _ _ t.0.state m t.2)
  expr_grew (group map_group is) s m e =
      let t = taken (pairs_made is s) _ m e in
      grew_two (array (length t.0.arrays)) (element_slots 0 t.0.arrays) mapping (map_from t.0.pairs []) s t.0.state m (pairs_grew is s t.0 t.1) t.2
  expr_grew (group set_group is) s m e =
      let t = taken (row_made is s) _ m e in
      grew_two (array (length t.0.vals)) (element_slots 0 t.0.vals) setting (members (somes t.0.vals) []) s t.0.state m (row_grew is s t.0 t.1) t.2
  expr_grew (group (error_group n x) is) s m e = error_grew is n x s m e
  expr_grew (group (view_group k o n) is) s m e =
      let t = taken (first_made is s) _ m e in
      grew_more s t.0.state m.state (first_grew is s t.0 t.1) (grew_view k t.0.val (offset_of o) n t.0.state m t.2)

  pub row_grew : (is : Items) (s : State) (l : Listed) → row_made is s ≡ Some l → Grew s l.state
  row_grew none s l e = subst (λ z. Grew s z.state) (some_is e) (grew_none s)
  row_grew (syntax.hole is) s l e = let t = taken (row_made is s) _ l e in subst (λ z. Grew s z.state) (some_is t.2) (row_grew is s t.0 t.1)
  row_grew (item e is) s l d =
      let t = taken (expr_made e s) _ l d in
      let u = taken (row_made is t.0.state) _ l t.2 in
      subst (λ z. Grew s z.state) (some_is u.2) (grew_more s t.0.state u.0.state (expr_grew e s t.0 t.1) (row_grew is t.0.state u.0 u.1))
  row_grew (syntax.keyed k e is) s l d = absurd (none_some d)
  row_grew (syntax.pair e f is) s l d = absurd (none_some d)

  pub keys_grew : (is : Items) (ss : List Slot) (s : State) (b : KeysMade) → keys_made is ss s ≡ Some b → Grew s b.state
  keys_grew none ss s b e = subst (λ z. Grew s z.state) (some_is e) (grew_none s)
  keys_grew (syntax.hole is) ss s b e = absurd (none_some e)
  keys_grew (item e is) ss s b d = absurd (none_some d)
  keys_grew (syntax.keyed k e is) ss s b d =
      let t = taken (expr_made e s) _ b d in grew_more s t.0.state b.state (expr_grew e s t.0 t.1) (keys_grew is _ t.0.state b t.2)
  keys_grew (syntax.pair e f is) ss s b d = absurd (none_some d)

  pub pairs_grew : (is : Items) (s : State) (p : PairsMade) → pairs_made is s ≡ Some p → Grew s p.state
  pairs_grew none s p e = subst (λ z. Grew s z.state) (some_is e) (grew_none s)
  pairs_grew (syntax.hole is) s p e = absurd (none_some e)
  pairs_grew (item e is) s p d = absurd (none_some d)
  pairs_grew (syntax.keyed k e is) s p d = absurd (none_some d)
  pairs_grew (syntax.pair e f is) s p d =
      let t = taken (expr_made e s) _ p d in
      let u = taken (expr_made f t.0.state) _ p t.2 in
      let two = with (array 2) (element_slots 0 (Some t.0.val ∷ Some u.0.val ∷ [])) u.0.state in
      let w = taken (pairs_made is two) _ p u.2 in
      came (λ z. z.state) s (record { pairs = stores.pair t.0.val u.0.val ∷ w.0.pairs; arrays = Some (stores.ref (length u.0.state.objects)) ∷ w.0.arrays; state = w.0.state }) p w.2
      (grew_more s t.0.state w.0.state (expr_grew e s t.0 t.1)
      (grew_more t.0.state u.0.state w.0.state (expr_grew f t.0.state u.0 u.1)
      (grew_more u.0.state two w.0.state (_ ∷ [], refl) (pairs_grew is two w.0 w.1))))

  error_grew : (is : Items) (n : ErrorName) (x : Option Text) (s : State) (m : Made) → error_made is n x s ≡ Some m → Grew s m.state
  error_grew none n x s m e = grew_make _ _ s m e
  error_grew (syntax.hole is) n x s m e = absurd (none_some e)
  error_grew (item e is) n x s m d =
      let t = taken (expr_made e s) _ m d in
      grew_two ordinary (stores.keyed cause_key t.0.val ∷ []) (error n x None) (single t.0.val ∷ []) s t.0.state m (expr_grew e s t.0 t.1) t.2
  error_grew (syntax.keyed k e is) n x s m d = absurd (none_some d)
  error_grew (syntax.pair e f is) n x s m d = absurd (none_some d)

  first_grew : (is : Items) (s : State) (m : Made) → first_made is s ≡ Some m → Grew s m.state
  first_grew none s m e = absurd (none_some e)
  first_grew (syntax.hole is) s m e = absurd (none_some e)
  first_grew (item e is) s m d = expr_grew e s m d
  first_grew (syntax.keyed k e is) s m d = absurd (none_some d)
  first_grew (syntax.pair e f is) s m d = absurd (none_some d)
