-- The expressions of all objects by their places: each is the object's own, with those of the objects before it.
use Rattle.std.proofs.Common.{◌≡◌, ℕ, ◌+◌, ◌*◌, ◌/◌, ◌<◌, Bool, true, false, cond, ◌&&◌, eqb, List, [], ◌∷◌, ◌++◌, length, get_or, take, is_some, Some, None, Option, sym, refl, ap, ◌∙◌, arith, length-append}
use Rattle.std.proofs.lemmas.List.{get_or_append_left, get_or_push}
use Rattle.dump.specs.Heaps.{Value, undefined, null, hole, boolean, whole, double, bigint, text, object, Kind, boolean_object, number_object, bigint_object, string_object, regexp, date, plain, sparse, dense, map, set, buffer, view, error, Part, property, element, entry, member, below, cause, Heap}
use Rattle.dump.specs.Kinds.{width}
use Rattle.script.specs.Syntax as syntax
use Rattle.script.specs.Syntax.{circular, new_typed, typed_part, braces, brackets, map_group, set_group, error_group, empty_map_form, empty_set_form, Expr, form, group, Items, none, item, keyed, pair}
use Rattle.planner.specs.Visits.{refs, refs_of, edges_of, edges, object_at, mem}
use Rattle.planner.specs.Names.{ViewContent, BufferContent, view_in, buffer_in, is_view, pos, inlines, covers, backing, slot, has_name, ready_before}
use Rattle.planner.specs.Builds.{view_on, name_expr, value_expr, child_expr, element_items, items_of, on_named, on_inlined, view_by, view_expr, empty_or, kind_expr, object_expr, build_all, built}
use Rattle.visits.proofs.Lists.{mem_left, mem_right, mem_head, split_at, once_before}
use Rattle.visits.proofs.Orders.{place_split}
use Rattle.rebuilds.specs.Adequate.{Adequate}
use Rattle.places.proofs.Lates.{refs_one, refs_two, edges_take}
use Rattle.places.proofs.Names.{child_before, view_edge}
use Rattle.effects.specs.Bounded.{Bounded}

-- the expression at a place
abbrev pub at_place : List Expr → ℕ → Expr
at_place done i = get_or done i (form circular)

-- Two lists of expressions with the same before the place p.
module _ (h : Heap) (order : List ℕ) (done done' : List Expr) (p : ℕ) (same : (i : ℕ) → i < p → at_place done i ≡ at_place done' i) where
  -- what has no name among these comes before p
  abbrev Earlier : List ℕ → Type 0
  Earlier es = (j : ℕ) → mem j es ≡ true → has_name h order j ≡ false → pos h order j < p

  earlier_rest : (xs es : List ℕ) → Earlier (xs ++ es) → Earlier es
  earlier_rest xs es g j m n = g j (mem_right j xs es m) n

  earlier_one : (v : Value) (es : List ℕ) → Earlier (refs_of (v ∷ []) ++ es) → Earlier (refs v)
  earlier_one v es g j m n = g j (mem_left j (refs_of (v ∷ [])) es (ap (mem j) (sym (refs_one v)) ∙ m)) n

  earlier_two : (k v : Value) (es : List ℕ) → Earlier (refs_of (k ∷ v ∷ []) ++ es) → Earlier (refs k ++ refs v)
  earlier_two k v es g j m n = g j (mem_left j (refs_of (k ∷ v ∷ [])) es (ap (mem j) (sym (refs_two k v)) ∙ m)) n

  value_same : (v : Value) → Earlier (refs v) → value_expr h order done v ≡ value_expr h order done' v
  value_same undefined g = refl
  value_same null g = refl
  value_same hole g = refl
  value_same (boolean v) g = refl
  value_same (whole z) g = refl
  value_same (double bits) g = refl
  value_same (bigint t) g = refl
  value_same (text t) g = refl
  value_same (object o) g = go (has_name h order o) refl
    where
      go : (t : Bool) → has_name h order o ≡ t → cond t (name_expr h order o) (at_place done (pos h order o)) ≡ cond t (name_expr h order o) (at_place done' (pos h order o))
      go true e = refl
      go false e = same (pos h order o) (g o (mem_head o []) e)

  child_same : (t : ℕ) (v : Value) → Earlier (refs v) → child_expr h order done t v ≡ child_expr h order done' t v
  child_same t v g = ap (λ e. cond (ready_before h order t v) e (form circular)) (value_same v g)

  element_same : (t : ℕ) (v : Value) (is is' : Items) → Earlier (refs v) → is ≡ is' → element_items h order done t v is ≡ element_items h order done' t v is'
  element_same t undefined is is' g e = ap (item (syntax.value undefined)) e
  element_same t null is is' g e = ap (item (syntax.value null)) e
  element_same t hole is is' g e = ap syntax.hole e
  element_same t (boolean v) is is' g e = ap (item (syntax.value (boolean v))) e
  element_same t (whole z) is is' g e = ap (item (syntax.value (whole z))) e
  element_same t (double bits) is is' g e = ap (item (syntax.value (double bits))) e
  element_same t (bigint s) is is' g e = ap (item (syntax.value (bigint s))) e
  element_same t (text s) is is' g e = ap (item (syntax.value (text s))) e
  element_same t (object o) is is' g e = let c = child_same t (object o) g in ap (λ z. item z is) c ∙ ap (item (child_expr h order done' t (object o))) e

  -- a value that is left out with all after it if it is not ready
  one_same : (t : ℕ) (v : Value) (ps : List Part) → Earlier (refs_of (v ∷ []) ++ edges_of ps) → items_of h order done t ps ≡ items_of h order done' t ps →
      cond (ready_before h order t v) (item (value_expr h order done v) (items_of h order done t ps)) none ≡ cond (ready_before h order t v) (item (value_expr h order done' v) (items_of h order done' t ps)) none
  one_same t v ps g c =
      ap (λ z. cond (ready_before h order t v) z none)
      (ap (λ z. item z (items_of h order done t ps)) (value_same v (earlier_one v (edges_of ps) g)) ∙ ap (item (value_expr h order done' v)) c)

  items_same : (t : ℕ) (ps : List Part) → Earlier (edges_of ps) → items_of h order done t ps ≡ items_of h order done' t ps
  items_same t [] g = refl
  items_same t (property k v ∷ ps) g =
      ap (λ z. keyed k z (items_of h order done t ps)) (child_same t v (earlier_one v (edges_of ps) g))
      ∙ ap (keyed k (child_expr h order done' t v)) (items_same t ps (earlier_rest (refs_of (v ∷ [])) (edges_of ps) g))
  items_same t (element v ∷ ps) g =
      element_same t v (items_of h order done t ps) (items_of h order done' t ps) (earlier_one v (edges_of ps) g) (items_same t ps (earlier_rest (refs_of (v ∷ [])) (edges_of ps) g))
  items_same t (entry k v ∷ ps) g =
      let two = earlier_two k v (edges_of ps) g in
      let a = value_same k (λ j m n. two j (mem_left j (refs k) (refs v) m) n) in
      let b = value_same v (λ j m n. two j (mem_right j (refs k) (refs v) m) n) in
      let c = items_same t ps (earlier_rest (refs_of (k ∷ v ∷ [])) (edges_of ps) g) in
      ap (λ z. cond (ready_before h order t k && ready_before h order t v) z none)
      (ap (λ z. pair z (value_expr h order done v) (items_of h order done t ps)) a ∙ (ap (λ z. pair (value_expr h order done' k) z (items_of h order done t ps)) b ∙ ap (pair (value_expr h order done' k) (value_expr h order done' v)) c))
  items_same t (member v ∷ ps) g = one_same t v ps g (items_same t ps (earlier_rest (refs_of (v ∷ [])) (edges_of ps) g))
  items_same t (below o ∷ ps) g = refl
  items_same t (cause v ∷ ps) g = one_same t v ps g (items_same t ps (earlier_rest (refs_of (v ∷ [])) (edges_of ps) g))

  inlined_same : (o : ℕ) (v : ViewContent) (b : ℕ) (bytes : List ℕ) → pos h order b < p → on_inlined h order done o v b bytes ≡ on_inlined h order done' o v b bytes
  inlined_same o v b bytes lt =
      ap (λ e. cond (covers h order b o) (form (new_typed v.kind bytes))
      (cond (is_view v.kind) (form (typed_part v.kind bytes (v.offset / width v.kind) (v.offset / width v.kind + v.count)))
      (view_on v.kind v.offset (cond (eqb (v.offset + v.count * width v.kind) (length bytes)) None (Some v.count)) (item e none))))
      (same (pos h order b) lt)

  view_by_same : (o : ℕ) (v : ViewContent) (b : ℕ) → pos h order b < p → (c : Option BufferContent) → view_by h order done o v b c ≡ view_by h order done' o v b c
  view_by_same o v b lt None = refl
  view_by_same o v b lt (Some c) = by_maximum c.maximum
    where
      by_maximum : (m : Option ℕ) → view_by h order done o v b (Some (record { bytes = c.bytes; maximum = m })) ≡ view_by h order done' o v b (Some (record { bytes = c.bytes; maximum = m }))
      by_maximum (Some m) = refl
      by_maximum None = ap (λ e. cond (inlines h order b) e (on_named h order o v b c.bytes (backing h order b))) (inlined_same o v b c.bytes lt)

  view_same : (o : ℕ) (v : ViewContent) (bs : List ℕ) → ((b : ℕ) → mem b bs ≡ true → pos h order b < p) → view_expr h order done o v bs ≡ view_expr h order done' o v bs
  view_same o v [] g = refl
  view_same o v (b ∷ bs) g = view_by_same o v b (g b (mem_head b bs)) (buffer_in (object_at h b).kind)

  kind_same : (o t : ℕ) (k : Kind) (ps : List Part) → Earlier (edges_of ps) → (is_some (view_in k) ≡ true → (b : ℕ) → mem b (edges h o) ≡ true → pos h order b < p) → kind_expr h order done o t k ps ≡ kind_expr h order done' o t k ps
  kind_same o t (boolean_object v) ps g on = refl
  kind_same o t (number_object bits) ps g on = refl
  kind_same o t (bigint_object s) ps g on = refl
  kind_same o t (string_object s) ps g on = refl
  kind_same o t (regexp s flags) ps g on = refl
  kind_same o t (date time) ps g on = refl
  kind_same o t plain ps g on = ap (group braces) (items_same t ps g)
  kind_same o t (sparse n) ps g on = refl
  kind_same o t (dense n) ps g on = ap (group brackets) (items_same t (take n ps) (λ j m u. g j (edges_take n ps j m) u))
  kind_same o t map ps g on = ap (λ z. empty_or h order empty_map_form ps (group map_group z)) (items_same t ps g)
  kind_same o t set ps g on = ap (λ z. empty_or h order empty_set_form ps (group set_group z)) (items_same t ps g)
  kind_same o t (buffer bytes maximum) ps g on = refl
  kind_same o t (view k offset n tracking) ps g on = view_same o (record { kind = k; offset = offset; count = n; tracking = tracking }) (edges h o) (on refl)
  kind_same o t (error n message stack) ps g on = ap (group (error_group n message)) (items_same t ps g)

module _ (h : Heap) (order : List ℕ) where
  pub build_length : (done : List Expr) (os : List ℕ) → length (build_all h order done os) ≡ length done + length os
  build_length done [] = omega arith
  build_length done (o ∷ os) =
      let e = object_expr h order done o in
      let ih = build_length (done ++ (e ∷ [])) os in
      let a = length-append done (e ∷ []) in
      omega arith

  -- one expression to each place
  pub built_length : length (built h order) ≡ length order
  built_length = let b = build_length [] order in omega arith

  pub build_keeps : (done : List Expr) (os : List ℕ) (i : ℕ) → i < length done → at_place (build_all h order done os) i ≡ at_place done i
  build_keeps done [] i lt = refl
  build_keeps done (o ∷ os) i lt =
      let e = object_expr h order done o in
      let a = length-append done (e ∷ []) in
      build_keeps (done ++ (e ∷ [])) os i (omega arith) ∙ get_or_append_left done (e ∷ []) (form circular) i lt

  pub build_append : (done : List Expr) (xs ys : List ℕ) → build_all h order done (xs ++ ys) ≡ build_all h order (build_all h order done xs) ys
  build_append done [] ys = refl
  build_append done (x ∷ xs) ys = build_append (done ++ (object_expr h order done x ∷ [])) xs ys

module _ (h : Heap) (f : Bounded h) (order : List ℕ) (ad : Adequate h order) where
  -- an object's expression looks up only places before its own
  pub object_same : (o : ℕ) (done done' : List Expr) → mem o order ≡ true → ((i : ℕ) → i < pos h order o → at_place done i ≡ at_place done' i) → object_expr h order done o ≡ object_expr h order done' o
  object_same o done done' m same =
      kind_same h order done done' (pos h order o) same o (slot h order o) (object_at h o).kind (object_at h o).parts
      (λ j u n. child_before h f order ad o j m u n) (λ v b u. (view_edge h f order ad o b m v u).before)

  pub built_at : (o : ℕ) → mem o order ≡ true → get_or (built h order) (pos h order o) (form circular) ≡ object_expr h order (built h order) o
  built_at o m =
      let s = split_at o order m in
      at_split s.before s.after s.whole (place_split o order s.before s.after s.whole (once_before o order s.before s.after (ad.once o) s.whole))
    where
      at_split : (before after : List ℕ) → order ≡ before ++ (o ∷ after) → pos h order o ≡ length before → at_place (built h order) (pos h order o) ≡ object_expr h order (built h order) o
      at_split before after parted place =
          let done = build_all h order [] before in
          let e = object_expr h order done o in
          let b = build_length h order [] before in
          let n : length done ≡ pos h order o = omega arith in
          let n' = length-append done (e ∷ []) in
          let all : built h order ≡ build_all h order (done ++ (e ∷ [])) after = ap (build_all h order []) parted ∙ build_append h order [] before (o ∷ after) in
          ap (λ z. at_place z (pos h order o)) all
          ∙ (build_keeps h order (done ++ (e ∷ [])) after (pos h order o) (omega arith)
          ∙ (get_or_push done e (form circular) (pos h order o) n
          ∙ object_same o done (built h order) m
          (λ i lt. sym (ap (λ z. at_place z i) all ∙ (build_keeps h order (done ++ (e ∷ [])) after i (omega arith) ∙ get_or_append_left done (e ∷ []) (form circular) i (omega arith))))))
