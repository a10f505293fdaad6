-- The expression of each object: an inlined one is built at its place in post-order, and stands where its one edge is.
use Rattle.std.specs.Prelude.{ℕ, ◌+◌, ◌*◌, ◌/◌, Bool, false, cond, not, ◌&&◌, List, [], ◌∷◌, ◌++◌, length, take, is_some, Some, None, Option, ◌==◌, slice_index_or}
use Rattle.dump.specs.declared.kinds.ViewKind.{ViewKind}
use Rattle.dump.specs.Heaps.{Value, undefined, null, hole, boolean, whole, double, bigint, text, object, Kind, boolean_object, number_object, bigint_object, string_object, regexp, date, plain, sparse, dense, map, set, buffer, view, error, Part, property, element, entry, member, below, cause, Heap}
use Rattle.dump.specs.Kinds.{width, view_number}
use Rattle.script.specs.Syntax as syntax
use Rattle.script.specs.Syntax.{Form, named, buffer_of_named, circular, new_boolean, new_number, new_bigint, new_string, new_regexp, new_date, new_array, empty_map_form, empty_set_form, buffer_form, new_resizable, data_buffer, new_typed, typed_part, subarray, braces, brackets, map_group, set_group, error_group, view_group, Expr, value, form, group, Items, none, item, keyed, pair}
use Rattle.script.specs.Texts.{all_zero}
use Rattle.planner.specs.Visits.{edges, object_at}
use Rattle.planner.specs.Names.{ViewContent, BufferContent, view_in, buffer_in, is_view, pos, inlines, covers, backing, slot, has_name, ready_before, data_kind}

-- kind, offset and length as they are written: an offset of 0 only before a length
abbrev pub view_on : ViewKind → ℕ → Option ℕ → Items → Expr
view_on k offset n on = group (view_group k (cond (offset == 0 && not (is_some n)) None (Some offset)) n) on

-- a part of a backing view of the same kind
abbrev pub subarray_of : ℕ → ℕ → ℕ → Bool → Expr
subarray_of n start end to_end =
    cond to_end (form (subarray n (cond (start == 0) None (Some start)) None)) (form (subarray n (Some start) (Some end)))

module _ (h : Heap) (order : List ℕ) where
  abbrev pub name_expr : ℕ → Expr
  name_expr o = cond (is_some (backing h order o)) (form (buffer_of_named (slot h order o))) (form (named (slot h order o)))

  -- the expression of a value, where `done` has those of the objects before it in post-order
  abbrev pub value_expr : List Expr → Value → Expr
  value_expr done undefined = value undefined
  value_expr done null = value null
  value_expr done hole = value hole
  value_expr done (boolean v) = value (boolean v)
  value_expr done (whole z) = value (whole z)
  value_expr done (double bits) = value (double bits)
  value_expr done (bigint t) = value (bigint t)
  value_expr done (text t) = value (text t)
  value_expr done (object o) = cond (has_name h order o) (name_expr o) (slice_index_or done (pos h order o) (form circular))

  -- a placeholder for a value that is not ready when the name t is bound
  abbrev pub child_expr : List Expr → ℕ → Value → Expr
  child_expr done t v = cond (ready_before h order t v) (value_expr done v) (form circular)

  abbrev pub element_items : List Expr → ℕ → Value → Items → Items
  element_items done t undefined is = item (value undefined) is
  element_items done t null is = item (value null) is
  element_items done t hole is = syntax.hole is
  element_items done t (boolean v) is = item (value (boolean v)) is
  element_items done t (whole z) is = item (value (whole z)) is
  element_items done t (double bits) is = item (value (double bits)) is
  element_items done t (bigint s) is = item (value (bigint s)) is
  element_items done t (text s) is = item (value (text s)) is
  element_items done t (object o) is = item (child_expr done t (object o)) is

  -- The parts inside braces or brackets: properties and elements with a placeholder where they are not ready;
  -- entries, members and a cause up to the first that is not ready.
  abbrev pub items_of : List Expr → ℕ → List Part → Items
  items_of done t [] = none
  items_of done t (property k v ∷ ps) = keyed k (child_expr done t v) (items_of done t ps)
  items_of done t (element v ∷ ps) = element_items done t v (items_of done t ps)
  items_of done t (entry k v ∷ ps) = cond (ready_before h order t k && ready_before h order t v) (pair (value_expr done k) (value_expr done v) (items_of done t ps)) none
  items_of done t (member v ∷ ps) = cond (ready_before h order t v) (item (value_expr done v) (items_of done t ps)) none
  items_of done t (below o ∷ ps) = none
  items_of done t (cause v ∷ ps) = cond (ready_before h order t v) (item (value_expr done v) (items_of done t ps)) none

  abbrev pub buffer_expr : ℕ → List ℕ → Option ℕ → Expr
  buffer_expr b bytes (Some m) = form (new_resizable (length bytes) m)
  buffer_expr b bytes None = cond (all_zero bytes) (form (buffer_form (length bytes))) (form (data_buffer (data_kind h order b) bytes))

  abbrev pub same_kind : ViewKind → Option ViewContent → Bool
  same_kind k None = false
  same_kind k (Some v) = view_number k == view_number v.kind

  -- the view o on the fixed buffer b that does not inline, with its backing view, if any
  abbrev pub on_named : ℕ → ViewContent → ℕ → List ℕ → Option ℕ → Expr
  on_named o v b bytes None = view_on v.kind v.offset (cond (v.offset + v.count * width v.kind == length bytes) None (Some v.count)) (item (name_expr b) none)
  on_named o v b bytes (Some w) =
      cond (o == w) (form (new_typed v.kind bytes))
      (cond (same_kind v.kind (view_in (object_at h w).kind))
      (subarray_of (slot h order w) (v.offset / width v.kind) (v.offset / width v.kind + v.count) (v.offset + v.count * width v.kind == length bytes))
      (view_on v.kind v.offset (cond (v.offset + v.count * width v.kind == length bytes) None (Some v.count)) (item (name_expr b) none)))

  -- the view o on an inlined buffer, which stands inside it
  abbrev pub on_inlined : List Expr → ℕ → ViewContent → ℕ → List ℕ → Expr
  on_inlined done o v b bytes =
      cond (covers h order b o) (form (new_typed v.kind bytes))
      (cond (is_view v.kind) (form (typed_part v.kind bytes (v.offset / width v.kind) (v.offset / width v.kind + v.count)))
      (view_on v.kind v.offset (cond (v.offset + v.count * width v.kind == length bytes) None (Some v.count)) (item (slice_index_or done (pos h order b) (form circular)) none)))

  abbrev pub view_by : List Expr → ℕ → ViewContent → ℕ → Option BufferContent → Expr
  view_by done o v b None = form circular
  view_by done o v b (Some c) = view_by_maximum c.maximum
    where
      view_by_maximum : Option ℕ → Expr
      view_by_maximum (Some m) = view_on v.kind v.offset (cond v.tracking None (Some v.count)) (item (name_expr b) none)
      view_by_maximum None = cond (inlines h order b) (on_inlined done o v b c.bytes) (on_named o v b c.bytes (backing h order b))

  abbrev pub view_expr : List Expr → ℕ → ViewContent → List ℕ → Expr
  view_expr done o v [] = form circular
  view_expr done o v (b ∷ bs) = view_by done o v b (buffer_in (object_at h b).kind)

  abbrev pub empty_or : Form → List Part → Expr → Expr
  empty_or f [] e = form f
  empty_or f (p ∷ ps) e = e

  -- the expression that builds the object o, whose name is bound at t
  abbrev pub kind_expr : List Expr → ℕ → ℕ → Kind → List Part → Expr
  kind_expr done o t (boolean_object v) ps = form (new_boolean v)
  kind_expr done o t (number_object bits) ps = form (new_number bits)
  kind_expr done o t (bigint_object s) ps = form (new_bigint s)
  kind_expr done o t (string_object s) ps = form (new_string s)
  kind_expr done o t (regexp s flags) ps = form (new_regexp s flags)
  kind_expr done o t (date time) ps = form (new_date time)
  kind_expr done o t plain ps = group braces (items_of done t ps)
  kind_expr done o t (sparse n) ps = form (new_array n)
  kind_expr done o t (dense n) ps = group brackets (items_of done t (take n ps))
  kind_expr done o t map ps = empty_or empty_map_form ps (group map_group (items_of done t ps))
  kind_expr done o t set ps = empty_or empty_set_form ps (group set_group (items_of done t ps))
  kind_expr done o t (buffer bytes maximum) ps = buffer_expr o bytes maximum
  kind_expr done o t (view k offset n tracking) ps = view_expr done o (record { kind = k; offset = offset; count = n; tracking = tracking }) (edges h o)
  kind_expr done o t (error n message stack) ps = group (error_group n message) (items_of done t ps)

  abbrev pub object_expr : List Expr → ℕ → Expr
  object_expr done o = kind_expr done o (slot h order o) (object_at h o).kind (object_at h o).parts

  -- the expressions of all objects, by their places
  abbrev pub build_all : List Expr → List ℕ → List Expr
  build_all done [] = done
  build_all done (o ∷ os) = build_all (done ++ (object_expr done o ∷ [])) os

  abbrev pub built : List Expr
  built = build_all [] order
